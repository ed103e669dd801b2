use Rattle.std.proofs.Common.{ℕ, ◌<◌, slice_index_or, List}
use Rattle.bb_code.specs.Code.{IsText}
use Rattle.bb_code.proofs.within.are_texts.Given as goal

-- the texts so far may stand in a code
abbrev pub invariant-loop-text : goal.invariant-loop-text
invariant-loop-text l = (k : ℕ) (d : List ℕ) → k < l.text-index → IsText (slice_index_or l.texts k d)
