-- Truth values: what a test gives beside a known one, and what follows from one that is known.
use Rattle.std.proofs.Common.{◌≡◌, ◌||◌, ◌&&◌, Bool, true, false, not, cond, refl}
use Rattle.std.specs.Prelude.{T}

pub or_false : (b : Bool) → (b || false) ≡ b
or_false true = refl
or_false false = refl

pub or_true : (b : Bool) → (b || true) ≡ true
or_true true = refl
or_true false = refl

pub and_false : (b : Bool) → (b && false) ≡ false
and_false true = refl
and_false false = refl

pub and_true : (b : Bool) → (b && true) ≡ b
and_true true = refl
and_true false = refl

pub and_first : (a b : Bool) → (a && b) ≡ true → a ≡ true
and_first true b h = refl
and_first false b h = h

pub and_second : (a b : Bool) → (a && b) ≡ true → b ≡ true
and_second true b h = h
and_second false b h = absurd cc

pub T_and : (a b : Bool) → T a → T b → T (a && b)
T_and true b h k = k
T_and false b h k = absurd h

pub or_right_and : (a b c : Bool) → b ≡ true → c ≡ true → (a || (b && c)) ≡ true
or_right_and true b c h k = refl
or_right_and false b c h k = rw (h, k) refl

pub not_true : (b : Bool) → not b ≡ true → b ≡ false
not_true true h = absurd cc
not_true false h = refl

pub cond_or_true : (b c : Bool) → c ≡ true → cond b true c ≡ true
cond_or_true true c h = refl
cond_or_true false c h = h

-- tests that follow from each other are the same
pub same_truth : (a b : Bool) → (a ≡ true → b ≡ true) → (b ≡ true → a ≡ true) → a ≡ b
same_truth true true f g = refl
same_truth true false f g = let e = f refl in absurd cc
same_truth false true f g = let e = g refl in absurd cc
same_truth false false f g = refl
