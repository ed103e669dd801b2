-- The index of the first item that passes a test, also where one more item is appended.
use Rattle.std.proofs.Common.{◌≡◌, ℕ, suc, ◌+◌, ◌<◌, ◌≤◌, ◌||◌, Bool, true, false, not, cond, List, [], ◌∷◌, ◌++◌, length, Option, Some, None, refl, ap, ◌∙◌, arith, ltb}
use Rattle.std.specs.Prelude.{position, option_map}
use Rattle.std.specs.List.{list_any, position_or_len}
use Rattle.std.proofs.lemmas.Bool.{lt-ltb, le-ltb, ltb-true, ltb-false, or_parts}
use Rattle.std.proofs.lemmas.List.Quantifiers.{position-Some}

pub position_within : {X : Type 0} (p : X → Bool) (xs : List X) (i : ℕ) → position p xs ≡ Some i → i < length xs
position_within p [] i h = absurd cc
position_within p (x ∷ xs) i h = (position-Some p (x ∷ xs) i x h).0

-- `position`, by recursion
abbrev pub spot : {X : Type 0} → (X → Bool) → List X → Option ℕ
spot p [] = None
spot p (x ∷ xs) = cond (p x) (Some 0) (option_map suc (spot p xs))

lt_steps : (n m : ℕ) (b : Bool) → ltb n m ≡ b → ltb (1 + n) (suc m) ≡ b
lt_steps n m true h = lt-ltb (1 + n) (suc m) (let lt : n < m = ltb-true n m h in omega arith)
lt_steps n m false h = le-ltb (1 + n) (suc m) (let le : m ≤ n = ltb-false n m h in omega arith)

one_on : (n m : ℕ) (b : Bool) → ltb n m ≡ b → cond (ltb (1 + n) (suc m)) (Some (1 + n)) None ≡ option_map suc (cond b (Some n) None)
one_on n m true h = rw (lt_steps n m true h) (ap (λ k. Some k) (let e : 1 + n ≡ suc n = omega arith in e))
one_on n m false h = rw (lt_steps n m false h) refl

at_front : (b : Bool) (n m : ℕ) → cond (ltb (cond (not b) (1 + n) 0) (suc m)) (Some (cond (not b) (1 + n) 0)) None ≡ cond b (Some 0) (option_map suc (cond (ltb n m) (Some n) None))
at_front true n m = rw (lt-ltb 0 (suc m) (let lt : 0 < suc m = omega arith in lt)) refl
at_front false n m = one_on n m (ltb n m) refl

pub position_spot : {X : Type 0} (p : X → Bool) (xs : List X) → position p xs ≡ spot p xs
position_spot p [] = refl
position_spot p (x ∷ xs) = at_front (p x) (position_or_len p xs) (length xs) ∙ ap (λ o. cond (p x) (Some 0) (option_map suc o)) (position_spot p xs)

-- the place in a longer list
abbrev pub or_last : Option ℕ → Bool → ℕ → Option ℕ
or_last (Some i) b n = Some i
or_last None b n = cond b (Some n) None

up : (o : Option ℕ) (b : Bool) (n : ℕ) → option_map suc (or_last o b n) ≡ or_last (option_map suc o) b (suc n)
up (Some i) b n = refl
up None true n = refl
up None false n = refl

front : (t : Bool) (o : Option ℕ) (b : Bool) (n : ℕ) → cond t (Some 0) (or_last o b n) ≡ or_last (cond t (Some 0) o) b n
front true o b n = refl
front false o b n = refl

pub spot_snoc : {X : Type 0} (p : X → Bool) (xs : List X) (y : X) → spot p (xs ++ y ∷ []) ≡ or_last (spot p xs) (p y) (length xs)
spot_snoc p [] y = refl
spot_snoc p (x ∷ xs) y =
    ap (λ o. cond (p x) (Some 0) (option_map suc o)) (spot_snoc p xs y)
    ∙ (ap (λ o. cond (p x) (Some 0) o) (up (spot p xs) (p y) (length xs)) ∙ front (p x) (option_map suc (spot p xs)) (p y) (suc (length xs)))

none_up : (o : Option ℕ) → option_map suc o ≡ None → o ≡ None
none_up None h = refl
none_up (Some i) h = absurd cc

none_below : (t b : Bool) (o : Option ℕ) → (o ≡ None → b ≡ false) → cond t (Some 0) (option_map suc o) ≡ None → (t || b) ≡ false
none_below true b o rest h = absurd cc
none_below false b o rest h = rest (none_up o h)

-- what has no place is not there
pub spot_none : {X : Type 0} (p : X → Bool) (xs : List X) → spot p xs ≡ None → list_any p xs ≡ false
spot_none p [] h = refl
spot_none p (x ∷ xs) h = none_below (p x) (list_any p xs) (spot p xs) (spot_none p xs) h

pub none_spot : {X : Type 0} (p : X → Bool) (xs : List X) → list_any p xs ≡ false → spot p xs ≡ None
none_spot p [] h = refl
none_spot p (x ∷ xs) h =
    let parts = or_parts (p x) (list_any p xs) h in
    ap (λ b. cond b (Some 0) (option_map suc (spot p xs))) parts.0 ∙ ap (option_map suc) (none_spot p xs parts.1)
