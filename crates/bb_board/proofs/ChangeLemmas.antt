-- What holds of a blackboard's state after a step that may fail: one that fails leaves the state as it was.
use Rattle.std.proofs.Common.{◌≡◌, Result, Ok, Err, sym, subst}
use Rattle.std.specs.Prelude.{OnOk, OnErr}
use Rattle.bb_board.specs.State.{World}

-- what held before the step, and holds of what it makes, holds after it
pub after_step : {X E : Type 0} (P : World → Type 0) (r : Result X E) (old new made : World) → OnOk r (new ≡ made) → OnErr r (new ≡ old) → P old → (new ≡ made → P made) → P new
after_step P (Ok x) old new made ok err was is = subst P (sym ok) (is ok)
after_step P (Err e) old new made ok err was is = subst P (sym err) was
