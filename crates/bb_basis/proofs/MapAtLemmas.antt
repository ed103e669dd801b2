-- A loop over a slice that appends what each item gives, and tells a fault with the item's index, leaves what
-- `try_map_at` gives of what is seen of the slice.
use Rattle.std.proofs.Common.{◌≡◌, ℕ, ◌+◌, ◌<◌, ◌≤◌, ◌⊎◌, inl, inr, List, [], ◌∷◌, ◌++◌, length, get_or, drop, map, Result, Ok, Err, sym, ap, ◌∙◌, add-one}
use Rattle.std.proofs.lemmas.List.{append-nil, nil_from_length}
use Rattle.bb_basis.specs.Results.{◌>>=◌, map_err, try_map_at}
pub use Rattle.bb_basis.proofs.IntoMapLemmas.{joined}
use Rattle.bb_basis.proofs.IntoMapLemmas.{regrouped}
use Rattle.bb_basis.proofs.SliceLemmas.{next_seen, none_seen}

-- the first item, and then the others
at_cons : {A X E F : Type 0} (at : ℕ → E → F) (f : A → Result X E) (n : ℕ) (items rest : List A) (a : A) → items ≡ a ∷ rest → try_map_at at f n items ≡ (map_err (at n) (f a) >>= λ first. try_map_at at f (n + 1) rest >>= λ others. Ok (first ∷ others))
unfolding try_map_at
at_cons at f n items rest a is =
    ap (try_map_at at f n) is ∙ ap (λ m. map_err (at n) (f a) >>= λ first. try_map_at at f m rest >>= λ others. Ok (first ∷ others)) (sym (add-one n))

pub map_at_next : {A B X E F : Type 0} (at : ℕ → E → F) (f : B → Result X E) (g : A → B) (front : List X) (xs : List A) (i : ℕ) (a : A) (x : X) (total : Result (List X) F) → i < length xs → a ≡ get_or xs i a → map_err (at i) (f (g a)) ≡ Ok x
    → joined front (try_map_at at f i (drop i (map g xs))) ≡ total → joined (front ++ x ∷ []) (try_map_at at f (i + 1) (drop (i + 1) (map g xs))) ≡ total
map_at_next at f g front xs i a x total lt is read so_far =
    let rest = drop (i + 1) (map g xs) in
    let one = at_cons at f i (drop i (map g xs)) rest (g a) (next_seen g xs i a lt is) ∙ ap (λ r. r >>= λ first. try_map_at at f (i + 1) rest >>= λ others. Ok (first ∷ others)) read in
    sym (regrouped front x (try_map_at at f (i + 1) rest)) ∙ (ap (joined front) (sym one) ∙ so_far)

-- at the exit of the loop by `?`, where an item gave the error
pub map_at_error : {A B X E F : Type 0} (gone : F) (at : ℕ → E → F) (f : B → Result X E) (g : A → B) (front : List X) (xs : List A) (i : ℕ) (a : A) (e : F) (total : Result (List X) F) → i < length xs → a ≡ get_or xs i a → (e ≡ gone) ⊎ (map_err (at i) (f (g a)) ≡ Err e)
    → joined front (try_map_at at f i (drop i (map g xs))) ≡ total → (e ≡ gone) ⊎ (total ≡ Err e)
map_at_error gone at f g front xs i a e total lt is (inl m) so_far = inl m
map_at_error gone at f g front xs i a e total lt is (inr failed) so_far =
    let rest = drop (i + 1) (map g xs) in
    let one = at_cons at f i (drop i (map g xs)) rest (g a) (next_seen g xs i a lt is) ∙ ap (λ r. r >>= λ first. try_map_at at f (i + 1) rest >>= λ others. Ok (first ∷ others)) failed in
    inr (sym so_far ∙ ap (joined front) one)

pub map_at_end : {A B X E F : Type 0} (at : ℕ → E → F) (f : B → Result X E) (g : A → B) (front : List X) (xs : List A) (i : ℕ) (total : Result (List X) F) → length xs ≤ i
    → joined front (try_map_at at f i (drop i (map g xs))) ≡ total → total ≡ Ok front
unfolding try_map_at
map_at_end at f g front xs i total le so_far =
    let one : try_map_at at f i (drop i (map g xs)) ≡ Ok [] = ap (try_map_at at f i) (nil_from_length (drop i (map g xs)) (none_seen g xs i le)) in
    sym so_far ∙ (ap (joined front) one ∙ ap (λ ys. Ok ys) (append-nil front))
