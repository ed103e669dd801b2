-- A line that is a word alone, by what follows the word.
use Rattle.std.proofs.Common.{◌≡◌, ◌≢◌, ℕ, true, false, List, [], ◌∷◌, ◌++◌, refl, sym, ap, ◌∙◌, ◌&&◌, Option, None, Some, append_assoc, ◌-◌, ◌<◌, ◌==◌, length, take, arith, length-append}
use Rattle.std.proofs.lemmas.Bool.{eq-eqb, eqb-false, true≢false}
use Rattle.std.proofs.lemmas.List.{append-nil, nil_from_length, take_at}
use Rattle.std.proofs.lemmas.Slice.{between_from_start}
use Rattle.std.proofs.lemmas.Str.{IsCharBoundary-at_seam}
use Rattle.std.specs.Str.{IsUtf8, IsCharBoundary}
use Rattle.std.specs.Option.{is_some}
use Rattle.std.specs.List.{slice_range}
use Rattle.bb_main_input.specs.declared.sections.Header.{Header}
use Rattle.std.proofs.lemmas.Slice.Eq.{bytes_eq-Decides}
use Rattle.std.specs.Str.{bytes_eq}
use Rattle.bb_main_input.specs.Lines.{lines}
use Rattle.bb_main_input.specs.Sections.{is_alone, header_of, before, parts, line_before, with_part}
use Rattle.bb_main_input.specs.proving.Cuts.{is_end, Begins}

same_end : (word a b : List ℕ) → bytes_eq (word ++ a) (word ++ b) ≡ bytes_eq a b
same_end [] a b = refl
same_end (x ∷ word) a b = ap (λ t. t && bytes_eq (word ++ a) (word ++ b)) (eq-eqb x x refl) ∙ same_end word a b

after_word : (word line end other : List ℕ) → line ≡ word ++ end → bytes_eq line (word ++ other) ≡ bytes_eq end other
after_word word line end other is = ap (λ l. bytes_eq l (word ++ other)) is ∙ same_end word end other

pub alone-after : (word line end : List ℕ) → line ≡ word ++ end → is_alone word line ≡ is_end end
unfolding is_alone
alone-after word line end is =
    let bare : bytes_eq line word ≡ bytes_eq end [] = ap (bytes_eq line) (sym (append-nil word)) ∙ after_word word line end [] is in
    let lf : bytes_eq line (word ++ 10 ∷ []) ≡ bytes_eq end (10 ∷ []) = after_word word line end _ is in
    let crlf : bytes_eq line (word ++ 13 ∷ 10 ∷ []) ≡ bytes_eq end (13 ∷ 10 ∷ []) = after_word word line end _ is in
    rw (bare, lf, crlf) refl

differs : (line other : List ℕ) → line ≢ other → bytes_eq line other ≡ false
differs line other lacks = elim (bytes_eq line other) as (λ t. (t ≡ true → line ≡ other) → t ≡ false) [ true ↦ λ is. absurd (lacks (is refl)) | false ↦ λ _. refl ] (bytes_eq-Decides line other).0

pub alone-without : (word line : List ℕ) → ((rest : List ℕ) → line ≢ word ++ rest) → false ≡ is_alone word line
unfolding is_alone
alone-without word line lacks =
    let bare : bytes_eq line word ≡ false = differs line word (λ is. lacks [] (is ∙ sym (append-nil word))) in
    let lf : bytes_eq line (word ++ 10 ∷ []) ≡ false = differs line _ (lacks (10 ∷ [])) in
    let crlf : bytes_eq line (word ++ 13 ∷ 10 ∷ []) ≡ false = differs line _ (lacks (13 ∷ 10 ∷ [])) in
    rw (bare, lf, crlf) refl

-- the text is some lines that begin nothing, and then the rest
pub record Passed (text rest : List ℕ) : Type 0 where
  pub passed : List ℕ
  pub is : text ≡ passed ++ rest
  pub before_is : before (lines text) ≡ passed ++ before (lines rest)
  pub parts_is : parts (lines text) ≡ parts (lines rest)

pub passed-more : (text rest line after : List ℕ) → Passed text rest → rest ≡ line ++ after → lines rest ≡ line ∷ lines after → header_of line ≡ None → Passed text after
passed-more text rest line after so_far joined first none = record {
  passed = so_far.passed ++ line;
  is = so_far.is ∙ (ap (λ r. so_far.passed ++ r) joined ∙ sym (append_assoc so_far.passed line after));
  before_is = so_far.before_is ∙ (ap (λ r. so_far.passed ++ r) (ap before first ∙ ap (λ h. line_before h line (before (lines after))) none) ∙ sym (append_assoc so_far.passed line (before (lines after))));
  parts_is = so_far.parts_is ∙ (ap parts first ∙ ap (λ h. with_part h (before (lines after)) (parts (lines after))) none);
}

pub none_from : (found : Option Header) → is_some found ≡ false → found ≡ None
none_from None lacks = refl
none_from (Some header) lacks = absurd (true≢false lacks)

pub begins-nil : (rest : List ℕ) → length rest ≡ 0 → Begins rest
begins-nil rest empty = ap (λ r. before (lines r)) (nil_from_length rest empty)

begins_at : (found : Option Header) (line rest : List ℕ) → is_some found ≡ true → line_before found line rest ≡ []
begins_at (Some header) line rest is = refl
begins_at None line rest is = absurd (true≢false (sym is))

pub begins-header : (rest line after : List ℕ) → lines rest ≡ line ∷ lines after → is_some (header_of line) ≡ true → Begins rest
begins-header rest line after first is = ap before first ∙ begins_at (header_of line) line (before (lines after)) is

pub before-cut : (text rest : List ℕ) → Passed text rest → Begins rest → slice_range text 0 (length text - length rest) ≡ before (lines text)
before-cut text rest so_far begins =
    let cut : take (length text - length rest) text ≡ so_far.passed = rw so_far.is (take_at so_far.passed rest (length (so_far.passed ++ rest) - length rest) (omega (arith, length-append so_far.passed rest))) in
    between_from_start text (length text - length rest) ∙ (cut ∙ (sym (append-nil so_far.passed) ∙ (ap (λ r. so_far.passed ++ r) (sym begins) ∙ sym so_far.before_is)))

pub cut-at : (text rest : List ℕ) → Passed text rest → IsUtf8 rest → IsCharBoundary text (length text - length rest)
cut-at text rest so_far utf8 =
    let n : length text - length rest ≡ length so_far.passed = omega (arith, ap length so_far.is, length-append so_far.passed rest) in
    rw n (IsCharBoundary-at_seam text so_far.passed rest so_far.is utf8)

pub some_from : (n : ℕ) → false ≡ (n == 0) → 0 < n
some_from n is = let other : n ≢ 0 = eqb-false n 0 (sym is) in omega arith
