-- The first line of a text, by the place of its LF.
use Rattle.std.proofs.Common.{◌≡◌, ◌≢◌, ℕ, zero, suc, ◌+◌, ◌<◌, List, [], ◌∷◌, length, get_or, take, drop, ap, ◌∙◌, cond, arith, add-one}
use Rattle.std.proofs.lemmas.Bool.{eq-eqb, ne_eqb}
use Rattle.bb_main_input.specs.Lines.{lines, onto_first}

lines-at_end : (b : ℕ) (bytes : List ℕ) → b ≡ 10 → lines (b ∷ bytes) ≡ (b ∷ []) ∷ lines bytes
lines-at_end b bytes is = ap (λ t. cond t ((b ∷ []) ∷ lines bytes) (onto_first b (lines bytes))) (eq-eqb b 10 is)

lines-within : (b : ℕ) (bytes : List ℕ) → b ≢ 10 → lines (b ∷ bytes) ≡ onto_first b (lines bytes)
lines-within b bytes other = ap (λ t. cond t ((b ∷ []) ∷ lines bytes) (onto_first b (lines bytes))) (ne_eqb b 10 other)

cut-suc : (text : List ℕ) (k : ℕ) → k < length text → get_or text k 0 ≡ 10 → ((i : ℕ) → i < k → get_or text i 0 ≢ 10) → lines text ≡ take (suc k) text ∷ lines (drop (suc k) text)
cut-suc [] k within is none = absurd (omega arith)
cut-suc (b ∷ bytes) zero within is none = lines-at_end b bytes is
cut-suc (b ∷ bytes) (suc k) within is none = lines-within b bytes (none 0 (omega arith)) ∙ ap (onto_first b) (cut-suc bytes k (omega arith) is (λ i below. none (suc i) (omega arith)))

pub lines-cut : (text : List ℕ) (k : ℕ) → k < length text → get_or text k 0 ≡ 10 → ((i : ℕ) → i < k → get_or text i 0 ≢ 10) → lines text ≡ take (k + 1) text ∷ lines (drop (k + 1) text)
lines-cut text k within is none = rw add-one (cut-suc text k within is none)

pub lines-one : (text : List ℕ) → 0 < length text → ((i : ℕ) → i < length text → get_or text i 0 ≢ 10) → lines text ≡ text ∷ []
lines-one [] some none = absurd (omega arith)
lines-one (b ∷ []) some none = lines-within b [] (none 0 (omega arith))
lines-one (b ∷ d ∷ bytes) some none = lines-within b (d ∷ bytes) (none 0 (omega arith)) ∙ ap (onto_first b) (lines-one (d ∷ bytes) (omega arith) (λ i below. none (suc i) (omega arith)))
