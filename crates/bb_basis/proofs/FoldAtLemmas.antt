-- A loop over a slice that makes one change after another, and tells a fault with the item's index, leaves what
-- `try_fold_at` gives of what is seen of the slice.
use Rattle.std.proofs.Common.{◌≡◌, ℕ, ◌+◌, ◌<◌, ◌≤◌, ◌⊎◌, inl, inr, List, ◌∷◌, length, get_or, drop, map, Result, Ok, Err, sym, ap, ◌∙◌, add-one}
use Rattle.std.proofs.lemmas.List.{nil_from_length}
use Rattle.bb_basis.specs.Results.{◌>>=◌, map_err, try_fold_at}
use Rattle.bb_basis.proofs.SliceLemmas.{next_seen, none_seen}

-- the first change, and then the others
at_cons : {S A E F : Type 0} (at : ℕ → E → F) (f : S → A → Result S E) (n : ℕ) (s : S) (items rest : List A) (a : A) → items ≡ a ∷ rest → try_fold_at at f n s items ≡ (map_err (at n) (f s a) >>= λ next. try_fold_at at f (n + 1) next rest)
unfolding try_fold_at
at_cons at f n s items rest a is =
    ap (try_fold_at at f n s) is ∙ ap (λ m. map_err (at n) (f s a) >>= λ next. try_fold_at at f m next rest) (sym (add-one n))

pub fold_at_next : {S A B E F : Type 0} (at : ℕ → E → F) (f : S → B → Result S E) (g : A → B) (s t : S) (xs : List A) (i : ℕ) (a : A) (total : Result S F) → i < length xs → a ≡ get_or xs i a → map_err (at i) (f s (g a)) ≡ Ok t
    → try_fold_at at f i s (drop i (map g xs)) ≡ total → try_fold_at at f (i + 1) t (drop (i + 1) (map g xs)) ≡ total
fold_at_next at f g s t xs i a total lt is made so_far =
    let rest = drop (i + 1) (map g xs) in
    sym (at_cons at f i s (drop i (map g xs)) rest (g a) (next_seen g xs i a lt is) ∙ ap (λ r. r >>= λ next. try_fold_at at f (i + 1) next rest) made) ∙ so_far

-- at the exit of the loop by `?`, where a change gave the error
pub fold_at_error : {S A B E F : Type 0} (gone : F) (at : ℕ → E → F) (f : S → B → Result S E) (g : A → B) (s : S) (xs : List A) (i : ℕ) (a : A) (e : F) (total : Result S F) → i < length xs → a ≡ get_or xs i a → (e ≡ gone) ⊎ (map_err (at i) (f s (g a)) ≡ Err e)
    → try_fold_at at f i s (drop i (map g xs)) ≡ total → (e ≡ gone) ⊎ (total ≡ Err e)
fold_at_error gone at f g s xs i a e total lt is (inl m) so_far = inl m
fold_at_error gone at f g s xs i a e total lt is (inr failed) so_far =
    let rest = drop (i + 1) (map g xs) in
    inr (sym so_far ∙ (at_cons at f i s (drop i (map g xs)) rest (g a) (next_seen g xs i a lt is) ∙ ap (λ r. r >>= λ next. try_fold_at at f (i + 1) next rest) failed))

pub fold_at_end : {S A B E F : Type 0} (at : ℕ → E → F) (f : S → B → Result S E) (g : A → B) (s : S) (xs : List A) (i : ℕ) (total : Result S F) → length xs ≤ i
    → try_fold_at at f i s (drop i (map g xs)) ≡ total → total ≡ Ok s
unfolding try_fold_at
fold_at_end at f g s xs i total le so_far = sym so_far ∙ ap (try_fold_at at f i s) (nil_from_length (drop i (map g xs)) (none_seen g xs i le))
