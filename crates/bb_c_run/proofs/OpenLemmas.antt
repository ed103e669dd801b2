-- What an opening returns, from what its parts do.
use Rattle.std.proofs.Common.{◌≡◌, ℕ, ℤ, List, Some, Result, Ok, Err}
use Rattle.std.specs.Prelude.{IfOk}
use Rattle.bb_shell.specs.Meaning.{Meaning}
use Rattle.bb_c_run.specs.Opening.{Begins, meaning_of}
use Rattle.bb_c_run.specs.declared.held.Held.{Held}
use Rattle.bb_c_run.specs.declared.held.OpenFault.{OpenFault}

pub begun_of : (input : List ℕ) (names : List (List ℕ)) (floor : ℤ) (m : Meaning) (r : Result Held OpenFault) → meaning_of input names floor ≡ Some m → IfOk r (λ h. Begins m h)
    → IfOk r (λ h. (x : Meaning) × (meaning_of input names floor ≡ Some x) × Begins x h)
begun_of input names floor m (Ok h) is begins = (m, is, begins)
begun_of input names floor m (Err fault) is begins = tt
