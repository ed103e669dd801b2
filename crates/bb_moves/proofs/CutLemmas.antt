-- Where a text is cut into lines.
use Rattle.std.proofs.Common.{◌≡◌, ◌<◌, ℕ, Bool, true, false, cond, List, [], ◌∷◌, ◌++◌, map, length, refl, sym, ap, ◌∙◌, arith, append_assoc, append-nil}
use Rattle.std.specs.Prelude.{◌==◌}
use Rattle.std.specs.List.{onto_first, slice_split}
use Rattle.std.specs.Str.Lines.{lines, lines_of_parts, strip_carriage_return}
use Rattle.std.proofs.lemmas.List.Splits.{length-slice_split, slice_split-cons_yes, slice_split_none}
use Rattle.bb_moves.proofs.GraphicLemmas.{IsTail, no_line_feed, no_return}

abbrev is_feed : ℕ → Bool
is_feed b = b == 10

onto_first_part : (x : ℕ) (ps qs : List (List ℕ)) → 0 < length ps → onto_first x (ps ++ qs) ≡ onto_first x ps ++ qs
onto_first_part x [] qs some = absurd (omega (arith, some))
onto_first_part x (p ∷ ps) qs some = refl

in_two : (x : ℕ) (ps qs : List (List ℕ)) (b : Bool) → 0 < length ps → cond b ([] ∷ (ps ++ qs)) (onto_first x (ps ++ qs)) ≡ cond b ([] ∷ ps) (onto_first x ps) ++ qs
in_two x ps qs true some = refl
in_two x ps qs false some = onto_first_part x ps qs some

split_both : (xs ys : List ℕ) → slice_split is_feed (xs ++ 10 ∷ ys) ≡ slice_split is_feed xs ++ slice_split is_feed ys
split_both [] ys = slice_split-cons_yes is_feed 10 ys refl
split_both (x ∷ xs) ys =
    ap (λ ps. cond (is_feed x) ([] ∷ ps) (onto_first x ps)) (split_both xs ys)
    ∙ in_two x (slice_split is_feed xs) (slice_split is_feed ys) (is_feed x) (omega (arith, length-slice_split is_feed xs))

ended : (ps qs : List (List ℕ)) → 0 < length qs → lines_of_parts (ps ++ qs) ≡ map strip_carriage_return ps ++ lines_of_parts qs
ended [] qs some = refl
ended (p ∷ []) [] some = absurd (omega (arith, some))
ended (p ∷ []) (q ∷ qs) some = refl
ended (p ∷ r ∷ ps) qs some = ap (λ l. strip_carriage_return p ∷ l) (ended (r ∷ ps) qs some)

lines_at : (a b : List ℕ) → lines (a ++ 10 ∷ b) ≡ map strip_carriage_return (slice_split is_feed a) ++ lines b
lines_at a b = ap lines_of_parts (split_both a b) ∙ ended (slice_split is_feed a) (slice_split is_feed b) (omega (arith, length-slice_split is_feed b))

-- a text whose last line is ended, and then another
pub lines_join : (a b : List ℕ) → lines ((a ++ 10 ∷ []) ++ b) ≡ lines (a ++ 10 ∷ []) ++ lines b
lines_join a b =
    ap lines (append_assoc a (10 ∷ []) b)
    ∙ (lines_at a b ∙ ap (λ l. l ++ lines b) (sym (lines_at a [] ∙ append-nil (map strip_carriage_return (slice_split is_feed a)))))

-- a line that is written, and then others
pub line_first : (l rest : List ℕ) → IsTail l → lines (l ++ 10 ∷ rest) ≡ l ∷ lines rest
line_first l rest t =
    lines_at l rest
    ∙ (ap (λ ps. map strip_carriage_return ps ++ lines rest) (slice_split_none is_feed l (no_line_feed l t.bytes)) ∙ ap (λ x. x ∷ lines rest) (no_return l t))
