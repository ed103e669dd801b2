-- Where no fault comes, `try_map_at` and `try_fold_at`, which add the index of an item to a fault, give what `try_map`
-- and `try_fold` give.
use Rattle.std.proofs.Common.{◌≡◌, ◌⊎◌, inl, inr, ℕ, suc, List, [], ◌∷◌, Result, Ok, Err, ap, sym, ◌∙◌}
use Rattle.bb_basis.specs.Results.{◌>>=◌, Gives, map_err, try_map, try_fold, try_map_at, try_fold_at}
use Rattle.bb_basis.proofs.ResultLemmas.{bind_ok, same_ok}

pub map_err_ok : {X E F : Type 0} (f : E → F) (r : Result X E) (x : X) → map_err f r ≡ Ok x → r ≡ Ok x
map_err_ok f (Ok y) x h = ap (λ z. Ok z) (let q : y ≡ x = cc in q)
map_err_ok f (Err e) x h = absurd cc

-- what a call gives, it gives with a fault mapped too: at the error, and without one
pub placed_err : {X Y E F : Type 0} (memory : E) (gone : F) (at : E → F) (view : X → Y) (r : Result X E) (given : Result Y E) (e : F) → at memory ≡ gone → Gives memory view r given → Err e ≡ map_err at r → (e ≡ gone) ⊎ (map_err at given ≡ Err e)
placed_err memory gone at view (Ok x) given e kept gives is = absurd cc
placed_err memory gone at view (Err d) given e kept (inl m) is = inl (let same : at d ≡ e = cc in sym same ∙ (ap at m ∙ kept))
placed_err memory gone at view (Err d) given e kept (inr failed) is = inr (let same : at d ≡ e = cc in ap (map_err at) failed ∙ ap (λ f. Err f) same)

pub placed_ok : {X Y E F : Type 0} (memory : E) (at : E → F) (view : X → Y) (r : Result X E) (given : Result Y E) (x : X) → Gives memory view r given → Ok x ≡ map_err at r → map_err at given ≡ Ok (view x)
placed_ok memory at view (Ok y) given x gives is = ap (map_err at) gives ∙ ap (λ z. Ok (view z)) (let same : y ≡ x = cc in same)
placed_ok memory at view (Err e) given x gives is = absurd cc

-- without a fault, try_fold gives what try_fold_at gives
pub fold_at_ok : {S A E F : Type 0} (at : ℕ → E → F) (f : S → A → Result S E) (n : ℕ) (s t : S) (items : List A) → try_fold_at at f n s items ≡ Ok t → try_fold f s items ≡ Ok t
unfolding try_fold try_fold_at
fold_at_ok at f n s t [] h = ap (λ u. Ok u) (same_ok s t h)
fold_at_ok at f n s t (a ∷ more) h =
    let one = bind_ok (map_err (at n) (f s a)) (λ next. try_fold_at at f (suc n) next more) t h in
    ap (λ r. r >>= λ next. try_fold f next more) (map_err_ok (at n) (f s a) one.0 one.1) ∙ fold_at_ok at f (suc n) one.0 t more one.2

-- a step that begins with try_fold_at and has no fault begins with try_fold
pub bind_fold : {S A B E F : Type 0} (at : ℕ → E → F) (f : S → A → Result S E) (n : ℕ) (s : S) (items : List A) (g : S → Result B F) (y : B) → (try_fold_at at f n s items >>= g) ≡ Ok y → (t : S) × (try_fold f s items ≡ Ok t) × (g t ≡ Ok y)
bind_fold at f n s items g y h =
    let one = bind_ok (try_fold_at at f n s items) g y h in
    (one.0, fold_at_ok at f n s one.0 items one.1, one.2)

pub map_at_ok : {A X E F : Type 0} (at : ℕ → E → F) (f : A → Result X E) (n : ℕ) (items : List A) (made : List X) → try_map_at at f n items ≡ Ok made → try_map f items ≡ Ok made
unfolding try_map try_map_at
map_at_ok at f n [] made h = ap (λ ys. Ok ys) (same_ok [] made h)
map_at_ok at f n (a ∷ more) made h =
    let one = bind_ok (map_err (at n) (f a)) (λ first. try_map_at at f (suc n) more >>= λ others. Ok (first ∷ others)) made h in
    let rest = bind_ok (try_map_at at f (suc n) more) (λ others. Ok (one.0 ∷ others)) made one.2 in
    ap (λ r. r >>= λ first. try_map f more >>= λ others. Ok (first ∷ others)) (map_err_ok (at n) (f a) one.0 one.1)
    ∙ (ap (λ r. r >>= λ others. Ok (one.0 ∷ others)) (map_at_ok at f (suc n) more rest.0 rest.1) ∙ ap (λ ys. Ok ys) (same_ok (one.0 ∷ rest.0) made rest.2))
