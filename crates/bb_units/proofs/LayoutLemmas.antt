-- A list that is made of another one, entry by entry.
use Rattle.std.proofs.Common.{◌≡◌, ℕ, zero, suc, ◌+◌, ◌<◌, List, [], ◌∷◌, ◌++◌, map, take, length, Option, Some, refl, sym, ap, arith, add-one}
use Rattle.std.specs.Prelude.{slice_get, option_map, option_and_then}
use Rattle.std.specs.Option.{option_map_or}

map_take_more : {A B : Type 0} (f : A → B) (xs : List A) (i : ℕ) (b : B) → option_map f (slice_get xs i) ≡ Some b → map f (take (suc i) xs) ≡ map f (take i xs) ++ b ∷ []
map_take_more f [] i b is = absurd cc
map_take_more f (x ∷ xs) zero b is = let same : f x ≡ b = cc in ap (λ y. y ∷ []) same
map_take_more f (x ∷ xs) (suc i) b is = ap (λ ys. f x ∷ ys) (map_take_more f xs i b is)

-- the list so far, with what the next entry gives
pub made_one_more : {A B : Type 0} (f : A → B) (xs : List A) (i : ℕ) (b : B) (made : List B) → option_map f (slice_get xs i) ≡ Some b → made ≡ map f (take i xs) → made ++ b ∷ [] ≡ map f (take (i + 1) xs)
made_one_more f xs i b made is so_far = rw (so_far, add-one) (sym (map_take_more f xs i b is))

pub list_there : {A B : Type 0} (f : A → List B) (xs : List A) (i : ℕ) → i < length xs → option_map f (slice_get xs i) ≡ Some (option_map_or f (slice_get xs i) [])
list_there f [] i lt = absurd (omega (arith, lt))
list_there f (x ∷ xs) zero lt = refl
list_there f (x ∷ xs) (suc i) lt = list_there f xs i (omega (arith, lt))

pub option_there : {A B : Type 0} (f : A → Option B) (xs : List A) (i : ℕ) → i < length xs → option_map f (slice_get xs i) ≡ Some (option_and_then f (slice_get xs i))
option_there f [] i lt = absurd (omega (arith, lt))
option_there f (x ∷ xs) zero lt = refl
option_there f (x ∷ xs) (suc i) lt = option_there f xs i (omega (arith, lt))
