-- A post or an answer whose status is that of misuse did nothing.
use Rattle.std.proofs.Common.{◌≡◌, ◌∙◌, ℕ, Option, Some, ap, arith, refl, sym, true}
use Rattle.bb_c_run.specs.Moving.{did_nothing}
use Rattle.bb_c_run.specs.declared.held.Held.{Held}
use Rattle.bb_c_run.specs.declared.stands.Stands.{Stands}
use Rattle.bb_c_run.specs.declared.stands.Stands.TheVariants as stand
use Rattle.bb_c.specs.Called.{status_of}
use Rattle.bb_c.specs.declared.status.TheConstants.{MISUSE}

misused : (s : Stands) → status_of s ≡ MISUSE → did_nothing s ≡ true
misused stand.Resting is = absurd (let e : 0 ≡ 9 = is in omega (arith, e))
misused stand.Going is = absurd (let e : 3 ≡ 9 = is in omega (arith, e))
misused stand.Due is = absurd (let e : 8 ≡ 9 = is in omega (arith, e))
misused stand.Full is = absurd (let e : 4 ≡ 9 = is in omega (arith, e))
misused stand.Memory is = absurd (let e : 5 ≡ 9 = is in omega (arith, e))
misused stand.Finished is = refl
misused stand.Misused is = refl

pub misuse_keeps : (old new : Option Held) (h k : Held) (s : Stands) (status : ℕ)
    → old ≡ Some h → new ≡ Some k → (did_nothing s ≡ true → k ≡ h) → status ≡ status_of s → status ≡ MISUSE → new ≡ old
misuse_keeps old new h k s status was now kept is misuse =
    now ∙ (ap (λ (x : Held). Some x) (kept (misused s (sym is ∙ misuse))) ∙ sym was)
