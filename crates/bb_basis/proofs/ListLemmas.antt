-- Tests and places in a list that a map makes, or that changes at one place, and options.
use Rattle.std.proofs.Common.{◌≡◌, ℕ, zero, suc, ◌+◌, ◌<◌, ◌||◌, ◌&&◌, Bool, cond, not, List, [], ◌∷◌, ◌++◌, map, length, Option, Some, None, refl, sym, ap, subst, ◌∙◌, arith}
use Rattle.std.specs.Prelude.{position, slice_get, slice_set, set, option_map, option_and_then, IfSome, All}
use Rattle.std.specs.Option.{option_map_or}
use Rattle.std.specs.List.{list_any, list_all, prefix_len}
use Rattle.std.proofs.lemmas.List.{length-map}
use Rattle.std.proofs.lemmas.List.Folds.{list_any-append}
use Rattle.std.proofs.lemmas.List.Elements.{All-nil, All-cons}
use Rattle.bb_basis.proofs.BoolLemmas.{or_false}

pub list_any-map : {X Y : Type 0} (p : Y → Bool) (f : X → Y) (xs : List X) → list_any p (map f xs) ≡ list_any (λ x. p (f x)) xs
list_any-map p f [] = refl
list_any-map p f (x ∷ xs) = ap (λ b. p (f x) || b) (list_any-map p f xs)

pub map_map : {X Y Z : Type 0} (g : Y → Z) (f : X → Y) (xs : List X) → map g (map f xs) ≡ map (λ x. g (f x)) xs
map_map g f [] = refl
map_map g f (x ∷ xs) = ap (λ ys. g (f x) ∷ ys) (map_map g f xs)

pub list_all_same : {X : Type 0} (p q : X → Bool) → ((x : X) → p x ≡ q x) → (xs : List X) → list_all p xs ≡ list_all q xs
list_all_same p q h [] = refl
list_all_same p q h (x ∷ xs) = ap (λ b. b && list_all p xs) (h x) ∙ ap (λ b. q x && b) (list_all_same p q h xs)

prefix_len-map : {X Y : Type 0} (p : Y → Bool) (f : X → Y) (xs : List X) → prefix_len p (map f xs) ≡ prefix_len (λ x. p (f x)) xs
prefix_len-map p f [] = refl
prefix_len-map p f (x ∷ xs) = ap (λ n. cond (p (f x)) (1 + n) 0) (prefix_len-map p f xs)

pub position-map : {X Y : Type 0} (p : Y → Bool) (f : X → Y) (xs : List X) → position p (map f xs) ≡ position (λ x. p (f x)) xs
position-map p f xs = rw (prefix_len-map (λ y. not (p y)) f xs, length-map) refl

-- a list with its last put on
pub map-last : {X Y : Type 0} (f : X → Y) (xs : List X) (x : X) → map f (xs ++ x ∷ []) ≡ map f xs ++ f x ∷ []
map-last f [] x = refl
map-last f (y ∷ ys) x = ap (λ zs. f y ∷ zs) (map-last f ys x)

pub list_any-last : {X : Type 0} (p : X → Bool) (xs : List X) (x : X) → list_any p (xs ++ x ∷ []) ≡ (list_any p xs || p x)
list_any-last p xs x = list_any-append p xs (x ∷ []) ∙ ap (λ b. list_any p xs || b) (or_false (p x))

pub slice_set-itself : {X : Type 0} (xs : List X) (i : ℕ) (x : X) → slice_get xs i ≡ Some x → slice_set xs i x ≡ xs
slice_set-itself [] i x is = absurd cc
slice_set-itself (y ∷ ys) zero x is = let e : y ≡ x = cc in ap (λ z. z ∷ ys) (sym e)
slice_set-itself (y ∷ ys) (suc i) x is = ap (λ zs. y ∷ zs) (slice_set-itself ys i x is)

pub slice_get-set : {X : Type 0} (xs : List X) (i : ℕ) (x : X) → i < length xs → slice_get (set xs i x) i ≡ Some x
slice_get-set [] i x lt = absurd (omega (arith, lt))
slice_get-set (y ∷ ys) zero x lt = refl
slice_get-set (y ∷ ys) (suc i) x lt = slice_get-set ys i x (omega (arith, lt))

pub all_any : {X : Type 0} (xs : List X) → All (λ _. Unit {0}) xs
all_any [] = All-nil (λ _. Unit {0})
all_any (x ∷ xs) = All-cons (λ _. Unit {0}) x xs tt (all_any xs)

pub option_and_then-map : {X Y : Type 0} (f : X → Option Y) (o : Option X) → option_and_then (λ d. d) (option_map f o) ≡ option_and_then f o
option_and_then-map f None = refl
option_and_then-map f (Some x) = refl

pub option_map_or-map : {X Y : Type 0} (f : X → List Y) (o : Option X) → option_map_or (λ l. l) (option_map f o) [] ≡ option_map_or f o []
option_map_or-map f None = refl
option_map_or-map f (Some x) = refl

pub if_some : {X : Type 0} (P : X → Type 0) (o : Option X) (x : X) → o ≡ Some x → IfSome o P → P x
if_some P o x same h = subst (λ w. IfSome w P) same h
