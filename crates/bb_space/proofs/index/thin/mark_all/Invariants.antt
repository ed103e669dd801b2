use Rattle.std.proofs.Common.{◌≡◌, ℕ, true}
use Rattle.bb_space.specs.index.proving.Stretches.{stands_in}
use Rattle.bb_space.specs.index.proving.Marks.{is_left}
use Rattle.bb_space.proofs.index_lemmas.MarkLemmas.{LeftBut}
use Rattle.bb_space.proofs.index.thin.mark_all.Given as goal

abbrev pub invariant-loop-place : goal.invariant-loop-place
invariant-loop-place l =
    ((n : ℕ) → is_left l.fn.marks n ≡ true → is_left l.marks n ≡ true)
    × LeftBut (stands_in l.fn.stretch l.places) (is_left l.marks) l.place-iterator
