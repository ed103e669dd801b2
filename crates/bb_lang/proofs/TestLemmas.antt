-- What a test chooses.
use Rattle.std.proofs.Common.{◌≡◌, Bool, true, false, cond, refl}

pub yes : {A : Type 0} (b : Bool) (x y : A) → b ≡ true → cond b x y ≡ x
yes true x y h = refl
yes false x y h = absurd cc

pub no : {A : Type 0} (b : Bool) (x y : A) → b ≡ false → cond b x y ≡ y
no true x y h = absurd cc
no false x y h = refl
