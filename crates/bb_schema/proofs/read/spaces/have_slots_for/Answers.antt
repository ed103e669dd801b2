use Rattle.std.proofs.Common.{ap, ◌∙◌, Option, ℕ}
use Rattle.std.specs.List.{list_all}
use Rattle.bb_schema.specs.proving.Readings.{has_slot_at}
use Rattle.bb_schema.proofs.ReadingLemmas.{have_slots_first}
use Rattle.bb_schema.proofs.read.spaces.have_slots_for.Goals as goal

pub returns : goal.returns
returns c =
    c.have_slots_at.ensures ∙ (ap (λ (first : Option ℕ). list_all (has_slot_at c.args.schema.now first c.args.set) c.args.listed.now) c.first.ensures
    ∙ have_slots_first c.args.schema.now c.args.name.now c.args.set c.args.listed.now)
