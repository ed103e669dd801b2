use Rattle.std.proofs.Common.{◌≡◌, drop}
use Rattle.bb_basis.specs.Results.{try_map}
use Rattle.bb_basis.proofs.IntoMapLemmas.{joined}
use Rattle.bb_schema.specs.Resolution.{resolved_slot}
use Rattle.bb_schema.proofs.resolve.resolve_slots.Given as goal

abbrev pub invariant-loop-draft : goal.invariant-loop-draft
invariant-loop-draft l = joined l.slots.items (try_map (resolved_slot l.classes l.drafts) (drop l.draft-index l.drafts)) ≡ try_map (resolved_slot l.classes l.drafts) l.drafts
