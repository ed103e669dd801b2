-- The parts of a source other than its act, and how one of them is replaced.
use Rattle.std.specs.Prelude.{Option, None}
use Rattle.bb_bundle.specs.declared.draft.Parts.{Parts}
use Rattle.bb_bundle.specs.declared.draft.ReactionDraft.{ReactionDraft}

-- no parts
abbrev pub no_parts : {C : Type 0} → Parts C
no_parts = record { require = None; obviate = None; retrigger = None; revalidate = None }

-- the parts with one of them replaced
abbrev pub with_require : {C : Type 0} → Parts C → Option C → Parts C
with_require parts code = record parts { require = code }

abbrev pub with_obviate : {C : Type 0} → Parts C → Option (ReactionDraft C) → Parts C
with_obviate parts reaction = record parts { obviate = reaction }

abbrev pub with_retrigger : {C : Type 0} → Parts C → Option (ReactionDraft C) → Parts C
with_retrigger parts reaction = record parts { retrigger = reaction }

abbrev pub with_revalidate : {C : Type 0} → Parts C → Option C → Parts C
with_revalidate parts code = record parts { revalidate = code }
