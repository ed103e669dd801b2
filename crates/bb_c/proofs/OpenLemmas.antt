-- A run that was begun, and that the handle holds then.
use Rattle.std.proofs.Common.{◌≡◌, ℕ, ℤ, List, Option, Some, None, sym, subst}
use Rattle.std.specs.Str.Lines.{lines}
use Rattle.bb_c_run.specs.Opening.{Begins, meaning_of}
use Rattle.bb_c_run.specs.Sitting.{stands_now}
use Rattle.bb_c_run.specs.Meaning.{Meaning}
use Rattle.bb_c_run.specs.declared.held.Held.{Held}
use Rattle.bb_c.specs.Called.{Begun, Opens, status_of}

-- the run of an input was begun
abbrev pub IsBegun : (input natives : List ℕ) → (floor : ℤ) → Held → Type 0
IsBegun input natives floor h = (m : Meaning) × (meaning_of input (lines natives) floor ≡ Some m) × Begins m h

pub opens : (input natives : List ℕ) (floor : ℤ) (old new : Option Held) (begun boxed : Held) (status : ℕ)
    → IsBegun input natives floor begun → boxed ≡ begun → old ≡ None → new ≡ Some boxed → status ≡ status_of (stands_now boxed.running) → Opens old new input natives floor status
opens input natives floor old new begun boxed status is same none holds stands =
    let here : IsBegun input natives floor boxed = subst (IsBegun input natives floor) (sym same) is in
    let told : Begun input natives floor (Some boxed) status = (here.0, here.1, here.2, stands) in
    subst (λ o. Opens o new input natives floor status) (sym none) (subst (λ n. Begun input natives floor n status) (sym holds) told)
