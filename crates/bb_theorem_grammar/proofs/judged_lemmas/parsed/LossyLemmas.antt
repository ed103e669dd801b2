-- Whatever bytes there are, what `utf8_lossy` makes of them is UTF-8.
use Rattle.std.proofs.Common.{◌≡◌, ◌⊎◌, inl, inr, ℕ, zero, suc, ◌+◌, ◌<◌, Bool, true, false, cond, List, ◌++◌, length, take, drop, Option, Some, None, refl, sym, subst, ap, ◌∙◌, arith, length-drop}
use Rattle.std.specs.Prelude.{nat_lt, slice_index, ◌==◌}
use Rattle.std.specs.Char.{encode_utf8}
use Rattle.std.specs.Int.{is_in_range}
use Rattle.std.specs.Option.{unwrap_or}
use Rattle.std.specs.Str.{IsUtf8, is_utf8, chars}
use Rattle.std.specs.Str.Lossy.{valid_len_up_to, utf8_valid_len, second_byte_min, second_byte_max, error_len_after_two, error_len_after_one, error_len_of_some, utf8_error_len, utf8_invalid_len, after_first_chunk, replacement_bytes, utf8_lossy}
use Rattle.std.proofs.Math.Seq.{take-length}
use Rattle.std.proofs.lemmas.Bool.{cases_eq, cond_both}
use Rattle.std.proofs.lemmas.Str.{IsUtf8-append, IsUtf8-nil, IsUtf8-from_is_utf8, is_utf8-from_IsUtf8, utf8_valid_len_le, utf8_lossy-IsUtf8, utf8_lossy_step}

-- ---- the longest front that is UTF-8

front_by : (bs : List ℕ) (n m : ℕ) (b : Bool) → is_utf8 (take n bs) ≡ b → IsUtf8 (take m bs) → IsUtf8 (take (cond b n m) bs)
front_by bs n m true is below = IsUtf8-from_is_utf8 (take n bs) is
front_by bs n m false is below = below

front_up_to : (bs : List ℕ) (m : ℕ) → IsUtf8 (take (valid_len_up_to bs m) bs)
front_up_to bs zero = IsUtf8-nil
front_up_to bs (suc m) = front_by bs (suc m) (valid_len_up_to bs m) (is_utf8 (take (suc m) bs)) refl (front_up_to bs m)

front_is : (bs : List ℕ) → IsUtf8 (take (utf8_valid_len bs) bs)
unfolding utf8_valid_len
front_is bs = front_up_to bs (length bs)

-- ---- what is put for the rest

replacement_spelled : is_utf8 replacement_bytes ≡ true
unfolding is_utf8 chars encode_utf8
replacement_spelled = refl

replacement_is : IsUtf8 replacement_bytes
replacement_is = IsUtf8-from_is_utf8 replacement_bytes replacement_spelled

-- ---- what it stands for: a byte at least, so what is left is shorter

abbrev HasByte : (bs : List ℕ) → Option ℕ → Type 0
HasByte bs size = 0 < unwrap_or size (length bs)

module _ (bs : List ℕ) (some : 0 < length bs) where
  two_have : HasByte bs (error_len_after_two bs)
  two_have =
      let third = is_in_range 0x80 0xBF (slice_index bs 2) in
      let short : Option ℕ = cond (nat_lt (length bs) 4) None (Some 3) in
      let three : HasByte bs (Some 3) = omega arith in
      let two : HasByte bs (Some 2) = omega arith in
      cond_both (nat_lt (length bs) 3) None (cond third short (Some 2)) (HasByte bs) (λ _. some)
      (λ _. cond_both third short (Some 2) (HasByte bs) (λ _. cond_both (nat_lt (length bs) 4) None (Some 3) (HasByte bs) (λ _. some) (λ _. three)) (λ _. two))

  one_has : HasByte bs (error_len_after_one bs)
  one_has =
      let first = slice_index bs 0 in
      let second = is_in_range (second_byte_min first) (second_byte_max first) (slice_index bs 1) in
      cond_both (nat_lt (length bs) 2) None (cond second (error_len_after_two bs) (Some 1)) (HasByte bs) (λ _. some)
      (λ _. cond_both second (error_len_after_two bs) (Some 1) (HasByte bs) (λ _. two_have) (λ _. omega arith))

  fault_has : 0 < utf8_invalid_len bs
  unfolding utf8_error_len
  fault_has =
      cond_both (length bs == 0) None (error_len_of_some bs) (HasByte bs) (λ _. some)
      (λ _. cond_both (is_in_range 0xC2 0xF4 (slice_index bs 0)) (error_len_after_one bs) (Some 1) (HasByte bs) (λ _. one_has) (λ _. omega arith))

rest_shorter : (bs : List ℕ) → (utf8_valid_len bs ≡ length bs → ⊥) → length (after_first_chunk bs) < length bs
rest_shorter bs faulty =
    let valid = utf8_valid_len bs in
    let behind = drop valid bs in
    let within = utf8_valid_len_le bs in
    let left = length-drop valid bs in
    let size = fault_has behind (omega (arith, faulty, within, left)) in
    let rest = length-drop (valid + utf8_invalid_len behind) bs in
    omega (arith, rest, size, faulty, within)

-- ---- the whole

-- where all of it is UTF-8, nothing is replaced; else the bytes after the first fault are fewer
lossy_by : (bs : List ℕ) → ((rest : List ℕ) → length rest < length bs → IsUtf8 (utf8_lossy rest)) → (utf8_valid_len bs ≡ length bs) ⊎ (utf8_valid_len bs ≡ length bs → ⊥) → IsUtf8 (utf8_lossy bs)
lossy_by bs shorter (inl whole) =
    let is = subst IsUtf8 (ap (λ n. take n bs) whole ∙ take-length bs) (front_is bs) in
    subst IsUtf8 (sym (utf8_lossy-IsUtf8 bs is)) is
lossy_by bs shorter (inr faulty) =
    let rest = after_first_chunk bs in
    subst IsUtf8 (sym (utf8_lossy_step bs faulty))
    (IsUtf8-append (take (utf8_valid_len bs) bs) (replacement_bytes ++ utf8_lossy rest) (front_is bs)
    (IsUtf8-append replacement_bytes (utf8_lossy rest) replacement_is (shorter rest (rest_shorter bs faulty))))

lossy_within : (fuel : ℕ) (bs : List ℕ) → length bs < fuel → IsUtf8 (utf8_lossy bs)
lossy_within zero bs lt = absurd (omega arith)
lossy_within (suc fuel) bs lt = lossy_by bs (λ rest fewer. lossy_within fuel rest (omega (arith, lt, fewer))) (cases_eq (utf8_valid_len bs) (length bs))

pub lossy_utf8 : (bs : List ℕ) → is_utf8 (utf8_lossy bs) ≡ true
lossy_utf8 bs = is_utf8-from_IsUtf8 (utf8_lossy bs) (lossy_within (suc (length bs)) bs (omega arith))
