-- What `parse` makes of a word without a leading `+` is the rate.
use Rattle.std.proofs.Common.{◌≡◌, ◌≢◌, ℕ, suc, ◌-◌, ◌<◌, ◌≤◌, ◌^◌, ℤ, pos, negsuc, neg_ℤ, Bool, true, false, ◌&&◌, cond, List, [], ◌∷◌, length, get_or, Some, None, Result, Ok, Err, refl, sym, ap, ◌∙◌, arith, rules, w64}
use Rattle.std.specs.Prelude.{nat_le, ◌==◌, option_map}
use Rattle.std.specs.List.{list_all}
use Rattle.std.specs.Result.{result_ok, OkIff}
use Rattle.std.specs.Str.Parse.{ParsesSigned}
use Rattle.std.specs.Fmt.{decimal, signed_decimal}
use Rattle.std.specs.Prelude.{FitsSigned}
use Rattle.std.proofs.lemmas.Bool.{le-leb, leb-true, eqb-true, ne_eqb, and_parts, and_from}
use Rattle.std.proofs.lemmas.Fmt.{digits_decimal, digits_value-decimal, decimal_nonempty}
use Rattle.std.proofs.lemmas.Bool.Decides.{Decides-eqb}
use Rattle.std.proofs.lemmas.Str.Parse.{IsNumeralModel, numerals_by_fold, parse_signed_minus, parse_signed_plain}
use Rattle.bb_basis.specs.Names.{is_digit}
use Rattle.bb_bundle.proofs.WordLemmas.{from}
use Rattle.bb_bundle.specs.Rate.{with_digits, number_up_to, rate_of}

own : IsNumeralModel (λ ds. list_all is_digit ds ≡ true) (with_digits 0)
own = numerals_by_fold _ (search rules) with_digits (search rules)

all_three : (a b c : Bool) (n : ℕ) → a ≡ true → b ≡ true → c ≡ true → cond (a && b && c) (Some n) None ≡ Some n
all_three true true true n p q r = refl
all_three false b c n p q r = absurd cc
all_three true false c n p q r = absurd cc
all_three true true false n p q r = absurd cc

not_all_three : (a b c : Bool) (n : ℕ) → (a ≡ true → b ≡ true → c ≡ true → ⊥) → cond (a && b && c) (Some n) None ≡ None
not_all_three true true true n h = absurd (h refl refl refl)
not_all_three true true false n h = refl
not_all_three true false c n h = refl
not_all_three false b c n h = refl

number_of_digits : (most : ℕ) (ds : List ℕ) → list_all is_digit ds ≡ true → 0 < length ds → with_digits 0 ds ≤ most → number_up_to most ds ≡ Some (with_digits 0 ds)
unfolding number_up_to
number_of_digits most ds digits some few = all_three (list_all is_digit ds) (nat_le 1 (length ds)) (nat_le (with_digits 0 ds) most) (with_digits 0 ds) digits (le-leb 1 (length ds) (omega arith)) (le-leb (with_digits 0 ds) most few)

missed : (most : ℕ) (ds : List ℕ) → (list_all is_digit ds ≡ true → 0 < length ds → with_digits 0 ds ≤ most → ⊥) → number_up_to most ds ≡ None
unfolding number_up_to
missed most ds h = not_all_three (list_all is_digit ds) (nat_le 1 (length ds)) (nat_le (with_digits 0 ds) most) (with_digits 0 ds)
    (λ p q r. h p (let lower : 1 ≤ length ds = leb-true 1 (length ds) q in omega arith) (leb-true (with_digits 0 ds) most r))

minus_read : {E : Type 0} (ds : List ℕ) (r : Result ℤ E) → OkIff r ((list_all is_digit ds ≡ true) × (0 < length ds) × (with_digits 0 ds ≤ 2 ^ 63)) (neg_ℤ (pos (with_digits 0 ds))) → result_ok r ≡ option_map (λ n. neg_ℤ (pos n)) (number_up_to (2 ^ 63) ds)
minus_read ds (Ok x) h = ap (λ z. Some z) h.1 ∙ sym (ap (option_map (λ n. neg_ℤ (pos n))) (number_of_digits (2 ^ 63) ds h.0.0 h.0.1 h.0.2))
minus_read ds (Err e) h = sym (ap (option_map (λ n. neg_ℤ (pos n))) (missed (2 ^ 63) ds (λ p q r. h (p, q, r))))

plain_read : {E : Type 0} (ds : List ℕ) (r : Result ℤ E) → OkIff r ((list_all is_digit ds ≡ true) × (0 < length ds) × (with_digits 0 ds < 2 ^ 63)) (pos (with_digits 0 ds)) → result_ok r ≡ option_map (λ n. pos n) (number_up_to (2 ^ 63 - 1) ds)
plain_read ds (Ok x) h =
    let below : with_digits 0 ds < 2 ^ 63 = h.0.2 in
    ap (λ z. Some z) h.1 ∙ sym (ap (option_map (λ n. pos n)) (number_of_digits (2 ^ 63 - 1) ds h.0.0 h.0.1 (omega arith)))
plain_read ds (Err e) h = sym (ap (option_map (λ n. pos n)) (missed (2 ^ 63 - 1) ds (λ p q r. h (p, q, let low : with_digits 0 ds < 2 ^ 63 = omega arith in low))))

signed_read : {E : Type 0} (b : ℕ) (bs : List ℕ) (r : Result ℤ E) (minus : Bool) → (b == 45) ≡ minus → ParsesSigned w64 10 (b ∷ bs) r → b ≢ 43 → result_ok r ≡ cond minus (option_map (λ n. neg_ℤ (pos n)) (number_up_to (2 ^ 63) bs)) (option_map (λ n. pos n) (number_up_to (2 ^ 63 - 1) (b ∷ bs)))
signed_read b bs r true is h plus = minus_read bs r (parse_signed_minus own w64 (b ∷ bs) r h (eqb-true b 45 is))
signed_read b bs r false is h plus = plain_read (b ∷ bs) r (parse_signed_plain own w64 (b ∷ bs) r h plus (λ e. absurd (let t : (b == 45) ≡ true = (Decides-eqb b 45).1 e in let f : true ≡ false = sym t ∙ is in cc)))

pub rate_of-parse : {E : Type 0} (bs : List ℕ) (r : Result ℤ E) → ParsesSigned w64 10 bs r → get_or bs 0 0 ≢ 43 → result_ok r ≡ rate_of bs
unfolding rate_of
rate_of-parse [] r h plus = plain_read [] r (parse_signed_plain own w64 [] r h plus (λ e. omega arith)) ∙ ap (option_map (λ n. pos n)) (missed (2 ^ 63 - 1) [] (λ p q r. omega arith))
rate_of-parse (b ∷ bs) r h plus = signed_read b bs r (b == 45) refl h plus

pub rate_of-plus : (bs : List ℕ) → get_or bs 0 0 ≡ 43 → None ≡ rate_of bs
unfolding rate_of number_up_to
rate_of-plus [] is = absurd (omega arith)
rate_of-plus (b ∷ bs) is = let e : b ≡ 43 = is in rw e refl

-- ---- what is written of a rate is read again

digit_bounds : (b : ℕ) → is_digit b ≡ true → (48 ≤ b) × (b ≤ 57)
digit_bounds b h = let parts = and_parts (nat_le 48 b) (nat_le b 57) h in (leb-true 48 b parts.0, leb-true b 57 parts.1)

plain_again : (ds : List ℕ) → list_all is_digit ds ≡ true → 0 < length ds → with_digits 0 ds ≤ 2 ^ 63 - 1 → rate_of ds ≡ Some (pos (with_digits 0 ds))
unfolding rate_of
plain_again [] digits some few = absurd (omega arith)
plain_again (d ∷ ds) digits some few =
    let digit = digit_bounds d (and_parts (is_digit d) (list_all is_digit ds) digits).0 in
    let other : (d == 45) ≡ false = ne_eqb d 45 (λ e. omega arith) in
    rw other (ap (option_map (λ n. pos n)) (number_of_digits (2 ^ 63 - 1) (d ∷ ds) digits some few))

digits_again : (n : ℕ) → n < 2 ^ 64 → (list_all is_digit (decimal n) ≡ true) × (0 < length (decimal n)) × (with_digits 0 (decimal n) ≡ n)
digits_again n small = (digits_decimal own n small, decimal_nonempty n small, digits_value-decimal own n small)

pub rate_again : (z : ℤ) → FitsSigned w64 z → rate_of (signed_decimal z) ≡ Some z
unfolding rate_of
rate_again (pos n) fits =
    let small : n < 2 ^ 63 = fits.sfits in
    let digits = digits_again n (omega arith) in
    let value : with_digits 0 (decimal n) ≤ 2 ^ 63 - 1 = omega (arith, digits.2) in
    plain_again (decimal n) digits.0 digits.1 value ∙ ap (λ k. Some (pos k)) digits.2
rate_again (negsuc n) fits =
    let small : n < 2 ^ 63 = fits.sfits in
    let digits = digits_again (suc n) (omega arith) in
    let value : with_digits 0 (decimal (suc n)) ≤ 2 ^ 63 = omega (arith, digits.2) in
    ap (option_map (λ k. neg_ℤ (pos k))) (number_of_digits (2 ^ 63) (decimal (suc n)) digits.0 digits.1 value) ∙ ap (λ k. Some (neg_ℤ (pos k))) digits.2

-- the bytes of a rate are digits and perhaps a sign
digits_from : (ds : List ℕ) → list_all is_digit ds ≡ true → from 33 ds ≡ true
digits_from [] h = refl
digits_from (d ∷ ds) h =
    let parts = and_parts (is_digit d) (list_all is_digit ds) h in
    let digit = digit_bounds d parts.0 in
    and_from (nat_le 33 d) (from 33 ds) (le-leb 33 d (omega arith)) (digits_from ds parts.1)

pub rate_word : (z : ℤ) → FitsSigned w64 z → from 33 (signed_decimal z) ≡ true
rate_word (pos n) fits = let small : n < 2 ^ 63 = fits.sfits in digits_from (decimal n) (digits_again n (omega arith)).0
rate_word (negsuc n) fits = let small : n < 2 ^ 63 = fits.sfits in digits_from (decimal (suc n)) (digits_again (suc n) (omega arith)).0
