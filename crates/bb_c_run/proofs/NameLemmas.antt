-- The names of natives, line by line: those that were copied, and those that are left.
use Rattle.std.proofs.Common.{◌≡◌, ℕ, ◌+◌, ◌<◌, List, [], ◌∷◌, ◌++◌, drop, get_or, length, sym, ap, ◌∙◌, append_assoc, arith}
use Rattle.std.proofs.lemmas.List.{append-nil, nil_from_length}
use Rattle.bb_basis.proofs.IntoMapLemmas.{next_one, length_drop_all}

pub names_next : (xs names : List (List ℕ)) (k n : ℕ) (line text : List ℕ) → k < length xs → line ≡ get_or xs k line → text ≡ line → n ≡ k + 1 → names ++ drop k xs ≡ xs → (names ++ text ∷ []) ++ drop n xs ≡ xs
names_next xs names k n line text lt is same next so_far =
    ap (λ m. (names ++ text ∷ []) ++ drop m xs) next
    ∙ (ap (λ t. (names ++ t ∷ []) ++ drop (k + 1) xs) same
    ∙ (append_assoc names (line ∷ []) (drop (k + 1) xs)
    ∙ (ap (λ l. names ++ l) (sym (next_one xs k line lt is)) ∙ so_far)))

pub names_end : (xs names : List (List ℕ)) (k : ℕ) → k ≡ length xs → names ++ drop k xs ≡ xs → names ≡ xs
names_end xs names k last so_far =
    sym (append-nil names) ∙ (ap (λ l. names ++ l) (sym (nil_from_length (drop k xs) (length_drop_all xs k (omega (arith, last))))) ∙ so_far)
