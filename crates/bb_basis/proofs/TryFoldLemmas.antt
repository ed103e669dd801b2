-- A loop that makes one change after another leaves what `try_fold` gives.
use Rattle.std.proofs.Common.{◌≡◌, ◌⊎◌, inl, inr, List, ◌∷◌, Result, Ok, Err, length, sym, ap, ◌∙◌}
use Rattle.std.proofs.lemmas.List.{nil_from_length}
use Rattle.bb_basis.specs.Results.{◌>>=◌, try_fold}

pub try_fold_next : {S A E : Type 0} (f : S → A → Result S E) (s t : S) (items rest : List A) (a : A) (total : Result S E) → items ≡ a ∷ rest → f s a ≡ Ok t → try_fold f s items ≡ total → try_fold f t rest ≡ total
unfolding try_fold
try_fold_next f s t items rest a total is made so_far = sym (ap (try_fold f s) is ∙ ap (λ r. r >>= λ next. try_fold f next rest) made) ∙ so_far

-- at the exit of the loop by `?`, where a change gave the error
pub try_fold_error : {S A E : Type 0} (memory : E) (f : S → A → Result S E) (s : S) (items rest : List A) (a : A) (e : E) (total : Result S E) → items ≡ a ∷ rest → (e ≡ memory) ⊎ (f s a ≡ Err e) → try_fold f s items ≡ total → (e ≡ memory) ⊎ (total ≡ Err e)
unfolding try_fold
try_fold_error memory f s items rest a e total is (inl m) so_far = inl m
try_fold_error memory f s items rest a e total is (inr failed) so_far = inr (sym so_far ∙ (ap (try_fold f s) is ∙ ap (λ r. r >>= λ next. try_fold f next rest) failed))

pub try_fold_end : {S A E : Type 0} (f : S → A → Result S E) (s : S) (items : List A) (total : Result S E) → length items ≡ 0 → try_fold f s items ≡ total → total ≡ Ok s
unfolding try_fold
try_fold_end f s items total none so_far = sym so_far ∙ ap (try_fold f s) (nil_from_length items none)
