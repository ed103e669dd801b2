use Rattle.std.proofs.Common.{◌∙◌, ap}
use Rattle.std.specs.Map.{values_of}
use Rattle.bb_units.specs.Values.{in_slots}
use Rattle.bb_units.proofs.SlotLemmas.{Entries, in_own_slots}
use Rattle.bb_units.proofs.values.Values.of.Goals as goal

pub returns : goal.returns
returns c =
    let es = c.args.block in
    ap (in_slots es) (c.in_ok-values.ensures ∙ ap (λ (fs : Entries). values_of fs) c.entries.ensures) ∙ in_own_slots es
