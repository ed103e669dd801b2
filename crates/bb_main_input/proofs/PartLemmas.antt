-- The parts of a text by its first line.
use Rattle.std.proofs.Common.{◌≡◌, ◌≢◌, ℕ, ◌<◌, List, [], ◌∷◌, ◌++◌, length, Option, Some, None, refl, sym, ap, ◌∙◌, arith}
use Rattle.bb_main_input.specs.declared.sections.Header.{Header}
use Rattle.bb_main_input.specs.Lines.{lines}
use Rattle.bb_main_input.specs.Sections.{header_of, is_alone, before, parts, line_before, with_part, Part, part}
use Rattle.bb_main_input.specs.proving.Cuts.{Begins}

header_of-nil : header_of [] ≡ None
unfolding header_of is_alone
header_of-nil = refl

pub begun : (text line after : List ℕ) (header : Header) → text ≡ line ++ after → header_of line ≡ Some header → 0 < length text
begun text [] after header joined is = absurd (let e : None ≡ Some header = sym header_of-nil ∙ is in cc)
begun text (x ∷ line) after header joined is = rw joined (omega arith)

pub begins-with : (text line after : List ℕ) (header : Header) → lines text ≡ line ∷ lines after → header_of line ≡ Some header → Begins text
begins-with text line after header first is = ap before first ∙ ap (λ h. line_before h line (before (lines after))) is

pub parts-with : (text line after : List ℕ) (header : Header) → lines text ≡ line ∷ lines after → header_of line ≡ Some header → parts (lines text) ≡ part header (before (lines after)) ∷ parts (lines after)
parts-with text line after header first is = ap parts first ∙ ap (λ h. with_part h (before (lines after)) (parts (lines after))) is

other_first : (found : Option Header) (header : Header) (line rest s : List ℕ) (behind others : List Part) → found ≢ Some header → 0 < length line → line_before found line rest ≡ [] → with_part found rest behind ≡ part header s ∷ others → ⊥
other_first (Some h) header line rest s behind others other some none is = other (let e : h ≡ header = cc in ap (λ x. Some x) e)
other_first None header [] rest s behind others other some none is = absurd (omega arith)
other_first None header (x ∷ line) rest s behind others other some none is = cc

others-begin : (found : List (List ℕ)) (line : List ℕ) (after : List (List ℕ)) (header : Header) (s : List ℕ) (others : List Part) → found ≡ line ∷ after → 0 < length line → header_of line ≢ Some header → before found ≡ [] → parts found ≡ part header s ∷ others → ⊥
others-begin found line after header s others first some other none is =
    other_first (header_of line) header line (before after) s (parts after) others other some (sym (ap before first) ∙ none) (sym (ap parts first) ∙ is)

pub lacks-part : (text line after : List ℕ) (header : Header) → (0 < length text → lines text ≡ line ∷ lines after) → (0 < length text → 0 < length line) → header_of line ≢ Some header → Begins text → (s : List ℕ) (others : List Part) → parts (lines text) ≡ part header s ∷ others → ⊥
lacks-part [] line after header first some other none s others is = cc
lacks-part (x ∷ text) line after header first some other none s others is =
    let there : 0 < length (x ∷ text) = omega arith in
    others-begin (lines (x ∷ text)) line (lines after) header s others (first there) (some there) other none is
