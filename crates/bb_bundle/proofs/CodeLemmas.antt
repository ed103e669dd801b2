-- The hex digits of a code are a word, and spell the code.
use Rattle.std.proofs.Common.{◌≡◌, ℕ, suc, ◌/◌, ◌%◌, ◌<◌, true, ◌&&◌, List, [], ◌∷◌, length, Ok, refl, ap, ◌∙◌, arith}
use Rattle.std.specs.Prelude.{nat_le, slice_index}
use Rattle.std.proofs.lemmas.Bool.{and_from, le-leb, agree_below_at}
use Rattle.hex.specs.Hex.{IsBytes, encode_with, encode_lower, lower_digits}
use Rattle.hex.proofs.HexLemmas.{decode_of-encode_lower, length-encode_with}
use Rattle.bb_basis.specs.Results.{◌>>=◌, map_err}
use Rattle.bb_code.specs.Code.{Code, IsCode}
use Rattle.bb_code.specs.Reading.{code_of}
use Rattle.bb_code.specs.Spelling.{spelling}
use Rattle.bb_code.proofs.Laws.{all_again}
use Rattle.bb_bundle.specs.declared.fault.BundleFault.TheVariants.{Hex, Code as NoCode}
use Rattle.bb_bundle.specs.Bundle.{code_in}
use Rattle.bb_bundle.specs.Written.{code_digits}
use Rattle.bb_bundle.specs.proving.Again.{IsAgain}
use Rattle.bb_bundle.proofs.WordLemmas.{from}

reads : (code : Code) → IsCode code → IsBytes (spelling code) → (line : ℕ) → code_in line (code_digits code) ≡ Ok code
unfolding code_in
reads code fits bytes line =
    ap (λ r. map_err (λ _. Hex line) r >>= λ bs. map_err (λ fault. NoCode line fault) (code_of bs)) (decode_of-encode_lower (spelling code) bytes)
    ∙ ap (map_err (λ fault. NoCode line fault)) (all_again code fits)

digit_word : (d : ℕ) → d < 16 → nat_le 33 (slice_index lower_digits d) ≡ true
digit_word d lt = agree_below_at (λ n. nat_le 33 (slice_index lower_digits n)) (λ n. true) 16 d refl lt

encoded_word : (bytes : List ℕ) → IsBytes bytes → from 33 (encode_lower bytes) ≡ true
unfolding encode_with
encoded_word [] h = refl
encoded_word (b ∷ bs) h =
    let byte : b < 256 = h 0 in
    let high : b / 16 < 16 = omega arith in
    let low : b % 16 < 16 = omega arith in
    let rest = encoded_word bs (λ i. h (suc i)) in
    and_from (nat_le 33 (slice_index lower_digits (b / 16))) (nat_le 33 (slice_index lower_digits (b % 16)) && from 33 (encode_lower bs)) (digit_word (b / 16) high)
    (and_from (nat_le 33 (slice_index lower_digits (b % 16))) (from 33 (encode_lower bs)) (digit_word (b % 16) low) rest)

pub digits_spell : (code : Code) → IsCode code → IsBytes (spelling code) → IsAgain code
digits_spell code fits bytes = record { word = encoded_word (spelling code) bytes; read = reads code fits bytes }

some_encoded : (b : ℕ) (bs : List ℕ) → nat_le 1 (length (encode_lower (b ∷ bs))) ≡ true
some_encoded b bs = let two = length-encode_with lower_digits (b ∷ bs) in le-leb 1 (length (encode_lower (b ∷ bs))) (omega (arith, two))

pub some_digits : (code : Code) → nat_le 1 (length (code_digits code)) ≡ true
some_digits code = some_encoded _ _
