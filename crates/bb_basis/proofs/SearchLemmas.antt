-- Searches in a list that grows, and by two tests that agree on it.
use Rattle.std.proofs.Common.{◌≡◌, ◌||◌, Bool, true, false, cond, List, [], ◌∷◌, ◌++◌, Option, Some, refl, ap, ◌∙◌}
use Rattle.std.specs.Prelude.{All, find}
use Rattle.std.specs.List.{list_any}
use Rattle.std.proofs.lemmas.Bool.{or_parts}
use Rattle.std.proofs.lemmas.List.Elements.{All-head, All-tail}

front_by : {X : Type 0} (z x : X) (b : Bool) (rest more : Option X) → (rest ≡ Some x → more ≡ Some x) → cond b (Some z) rest ≡ Some x → cond b (Some z) more ≡ Some x
front_by z x true rest more on h = h
front_by z x false rest more on h = on h

pub find_front : {X : Type 0} (p : X → Bool) (xs ys : List X) (x : X) → find p xs ≡ Some x → find p (xs ++ ys) ≡ Some x
find_front p [] ys x h = absurd cc
find_front p (z ∷ xs) ys x h = front_by z x (p z) (find p xs) (find p (xs ++ ys)) (find_front p xs ys x) h

-- what the first list does not have is searched in the second
pub find_after : {X : Type 0} (p : X → Bool) (xs ys : List X) → list_any p xs ≡ false → find p (xs ++ ys) ≡ find p ys
find_after p [] ys h = refl
find_after p (z ∷ xs) ys h =
    let parts = or_parts (p z) (list_any p xs) h in
    ap (λ b. cond b (Some z) (find p (xs ++ ys))) parts.0 ∙ find_after p xs ys parts.1

pub find_same : {X : Type 0} (p q : X → Bool) (P : X → Type 0) (xs : List X) → All P xs → ((x : X) → P x → p x ≡ q x) → find p xs ≡ find q xs
find_same p q P [] all same = refl
find_same p q P (x ∷ xs) all same =
    ap (λ b. cond b (Some x) (find p xs)) (same x (All-head P x xs all)) ∙ ap (λ r. cond (q x) (Some x) r) (find_same p q P xs (All-tail P x xs all) same)

pub any_same : {X : Type 0} (p q : X → Bool) (P : X → Type 0) (xs : List X) → All P xs → ((x : X) → P x → p x ≡ q x) → list_any p xs ≡ list_any q xs
any_same p q P [] all same = refl
any_same p q P (x ∷ xs) all same = ap (λ b. b || list_any p xs) (same x (All-head P x xs all)) ∙ ap (λ r. q x || r) (any_same p q P xs (All-tail P x xs all) same)
