-- A loop that takes one item of a list after another gives what `try_map` gives of the list.
use Rattle.std.proofs.Common.{◌≡◌, ℕ, ◌+◌, ◌<◌, ◌≤◌, ◌⊎◌, inl, inr, List, [], ◌∷◌, ◌++◌, length, get_or, drop, Result, Ok, Err, refl, sym, ap, ◌∙◌, append_assoc, add-one}
use Rattle.std.proofs.Math.Seq.{drop-cons}
use Rattle.std.proofs.lemmas.List.{append-nil, drop_all, nil_from_length}
use Rattle.bb_basis.specs.Results.{◌>>=◌, try_map}

-- what was made so far, and then the rest
abbrev pub joined : {X E : Type 0} → List X → Result (List X) E → Result (List X) E
joined front rest = rest >>= λ xs. Ok (front ++ xs)

pub regrouped : {X E : Type 0} (front : List X) (x : X) (r : Result (List X) E) → joined front (r >>= λ xs. Ok (x ∷ xs)) ≡ joined (front ++ x ∷ []) r
regrouped front x (Ok xs) = ap (λ ys. Ok ys) (sym (append_assoc front (x ∷ []) xs))
regrouped front x (Err e) = refl

try_map-cons : {A X E : Type 0} (f : A → Result X E) (items rest : List A) (a : A) → items ≡ a ∷ rest → try_map f items ≡ (f a >>= λ first. try_map f rest >>= λ others. Ok (first ∷ others))
unfolding try_map
try_map-cons f items rest a is = ap (try_map f) is

pub into_map_next : {A X E : Type 0} (f : A → Result X E) (front : List X) (items rest : List A) (a : A) (x : X) (total : Result (List X) E) → items ≡ a ∷ rest → f a ≡ Ok x
    → joined front (try_map f items) ≡ total → joined (front ++ x ∷ []) (try_map f rest) ≡ total
into_map_next f front items rest a x total is read so_far =
    let one : try_map f items ≡ (try_map f rest >>= λ others. Ok (x ∷ others)) = try_map-cons f items rest a is ∙ ap (λ r. r >>= λ first. try_map f rest >>= λ others. Ok (first ∷ others)) read in
    sym (regrouped front x (try_map f rest)) ∙ (ap (joined front) (sym one) ∙ so_far)

-- at the exit of the loop by `?`, where an item gave the error
pub into_map_error : {A X E : Type 0} (memory : E) (f : A → Result X E) (front : List X) (items rest : List A) (a : A) (e : E) (total : Result (List X) E) → items ≡ a ∷ rest → (e ≡ memory) ⊎ (f a ≡ Err e)
    → joined front (try_map f items) ≡ total → (e ≡ memory) ⊎ (total ≡ Err e)
into_map_error memory f front items rest a e total is (inl m) so_far = inl m
into_map_error memory f front items rest a e total is (inr read) so_far =
    let one : try_map f items ≡ Err e = try_map-cons f items rest a is ∙ ap (λ r. r >>= λ first. try_map f rest >>= λ others. Ok (first ∷ others)) read in
    inr (sym so_far ∙ ap (joined front) one)

pub into_map_end : {A X E : Type 0} (f : A → Result X E) (front : List X) (items : List A) (total : Result (List X) E) → length items ≡ 0 → joined front (try_map f items) ≡ total → total ≡ Ok front
unfolding try_map
into_map_end f front items total none so_far =
    let one : try_map f items ≡ Ok [] = ap (try_map f) (nil_from_length items none) in
    sym so_far ∙ (ap (joined front) one ∙ ap (λ ys. Ok ys) (append-nil front))

-- over a slice whose items are seen as they are: the item that comes next, and the end
pub next_one : {A : Type 0} (all : List A) (i : ℕ) (a : A) → i < length all → a ≡ get_or all i a → drop i all ≡ a ∷ drop (i + 1) all
next_one all i a lt is = rw (drop-cons all i a lt, ← is, add-one) refl

pub length_drop_all : {A : Type 0} (all : List A) (i : ℕ) → length all ≤ i → length (drop i all) ≡ 0
length_drop_all all i le = ap length (drop_all i all le)
