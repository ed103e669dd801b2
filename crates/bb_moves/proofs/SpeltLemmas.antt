-- A value that is written is read as itself, and is the end of a line.
use Rattle.std.proofs.Common.{◌≡◌, ℕ, ℤ, pos, negsuc, true, false, cond, List, ◌∷◌, ◌++◌, Some, None, Ok, refl, sym, ap, subst, ◌∙◌, codes, arith}
use Rattle.std.specs.Prelude.{int_le, ◌&&◌, option_map}
use Rattle.std.specs.Fmt.{signed_decimal}
use Rattle.serde_json.specs.Data.{string}
use Rattle.serde_json.specs.Find.{as_i64, of_integer}
use Rattle.serde_json.specs.Read.{read}
use Rattle.serde_json.specs.Written.{compact_text}
use Rattle.bb_basis.specs.Results.{ok_or}
use Rattle.bb_basis.proofs.BoolLemmas.{and_first, and_second}
use Rattle.bb_schema.specs.Fits as schemas
use Rattle.bb_schema.specs.Schema.{Schema}
use Rattle.bb_shell.specs.Value.{Value}
use Rattle.bb_shell.specs.Value.TheVariants as values
use Rattle.bb_moves.specs.Values.{text_of, value_by, value_of}
use Rattle.bb_moves.specs.Written.{is_i64, spelt, tells_value}
use Rattle.bb_moves.specs.declared.fault.MovesFlaw.TheVariants.{Value as NoValue}
use Rattle.bb_moves.specs.declared.fault.Slip.TheVariants.{Flaw}
use Rattle.bb_moves.proofs.GraphicLemmas.{IsTail, IsWord, integer_word, join_words, name_word, quoted_tail, word_tail}
use Rattle.bb_moves.proofs.LabelLemmas.{has_label, label_read, label_spelt}
use Rattle.bb_moves.proofs.ReadBackLemmas.{no_json, read_integer, read_interval, read_text, read_truth}

whole_back : (z : ℤ) → is_i64 z ≡ true → as_i64 (of_integer z) ≡ Some z
whole_back (pos n) h = ap (λ b. cond b (Some (pos n)) None) h
whole_back (negsuc n) h = refl

-- what the tests of an interval show
pub record IsInterval (low high : ℤ) : Type 0 where
  pub low_fits : is_i64 low ≡ true
  pub high_fits : is_i64 high ≡ true
  pub in_order : int_le low high ≡ true

pub interval_parts : (low high : ℤ) → (is_i64 low && is_i64 high && int_le low high) ≡ true → IsInterval low high
interval_parts low high h =
    let both = and_first (is_i64 low && is_i64 high) (int_le low high) h in
    record {
      low_fits = and_first (is_i64 low) (is_i64 high) both;
      high_fits = and_second (is_i64 low) (is_i64 high) both;
      in_order = and_second (is_i64 low && is_i64 high) (int_le low high) h;
    }

module _ (s : Schema) (fits : schemas.Fits s) where
  pub value_back : (v : Value) → tells_value s v ≡ true → value_of s (spelt s v) ≡ Ok v
  unfolding value_of
  value_back (values.Int z) h = ap (value_by s (signed_decimal z)) (read_integer z h) ∙ ap (λ o. ok_or (option_map values.Int o) (Flaw NoValue)) (whole_back z h)
  value_back (values.Text t) h = ap (value_by s (compact_text (string t))) (read_text t)
  value_back (values.Bool b) h = ap (value_by s (cond b (codes "true") (codes "false"))) (read_truth b)
  value_back (values.Label set label) h =
      let has = has_label s fits set label h in
      let text = has.of ++ 58 ∷ has.name in
      ap (λ l. value_by s l (read l)) (label_spelt s fits set label has)
      ∙ (ap (value_by s text) (no_json has.of has.name has.set_name) ∙ label_read s fits set label has)
  value_back (values.Interval low high) h =
      let is = interval_parts low high h in
      ap (value_by s (codes "[" ++ signed_decimal low ++ codes "," ++ signed_decimal high ++ codes "]")) (read_interval low high is.low_fits is.high_fits)
      ∙ rw (whole_back low is.low_fits, whole_back high is.high_fits, is.in_order) refl

  pub value_tail : (v : Value) → tells_value s v ≡ true → IsTail (spelt s v)
  value_tail (values.Int z) h = word_tail (signed_decimal z) (integer_word z h)
  value_tail (values.Text t) h = quoted_tail t
  value_tail (values.Bool true) h = word_tail (codes "true") (record { some = omega arith; bytes = ((omega arith, omega arith), ((omega arith, omega arith), ((omega arith, omega arith), ((omega arith, omega arith), tt)))) })
  value_tail (values.Bool false) h = word_tail (codes "false") (record { some = omega arith; bytes = ((omega arith, omega arith), ((omega arith, omega arith), ((omega arith, omega arith), ((omega arith, omega arith), ((omega arith, omega arith), tt))))) })
  value_tail (values.Label set label) h =
      let has = has_label s fits set label h in
      subst IsTail (sym (label_spelt s fits set label has))
      (word_tail (has.of ++ 58 ∷ has.name) (join_words has.of (58 ∷ has.name) (name_word has.of has.set_name) ((omega arith, omega arith), (name_word has.name has.label_name).bytes)))
  value_tail (values.Interval low high) h =
      let is = interval_parts low high h in
      let one = integer_word low is.low_fits in
      let two = integer_word high is.high_fits in
      let opens : IsWord (codes "[" ++ signed_decimal low) = record { some = omega arith; bytes = ((omega arith, omega arith), one.bytes) } in
      let parted = join_words (codes "[" ++ signed_decimal low) (codes ",") opens ((omega arith, omega arith), tt) in
      let more = join_words (codes "[" ++ signed_decimal low ++ codes ",") (signed_decimal high) parted two.bytes in
      word_tail (codes "[" ++ signed_decimal low ++ codes "," ++ signed_decimal high ++ codes "]")
      (join_words (codes "[" ++ signed_decimal low ++ codes "," ++ signed_decimal high) (codes "]") more ((omega arith, omega arith), tt))

-- a text in quotes
pub text_back : (t : List ℕ) → text_of (compact_text (string t)) ≡ Ok t
unfolding text_of
text_back t = rw (read_text t) refl
