-- The text of lines is split into these lines again, and each line is read as its words.
use Rattle.std.proofs.Common.{◌≡◌, ℕ, ◌+◌, ◌-◌, ◌≤◌, Bool, true, false, ◌&&◌, cond, List, [], ◌∷◌, ◌++◌, length, take, map, None, Result, Ok, refl, ap, ◌∙◌, lit<, inl, inr, arith, append_assoc}
use Rattle.std.specs.Prelude.{◌==◌, nat_le, All, slice_index}
use Rattle.std.specs.List.{list_all, slice_split, join_with_byte}
use Rattle.std.specs.Str.Lines.{lines, lines_of_parts, strip_carriage_return}
use Rattle.std.proofs.lemmas.Bool.{and_parts, leb-true, ne_eqb, cases_lt}
use Rattle.std.proofs.lemmas.Grind.{flat_map-append}
use Rattle.std.proofs.lemmas.List.{get_or_past, take_all}
use Rattle.std.proofs.lemmas.List.Elements.{All-get_or}
use Rattle.std.proofs.lemmas.List.Splits.{slice_split_at}
use Rattle.bb_bundle.specs.declared.fault.BundleFault.{BundleFault}
use Rattle.bb_bundle.specs.Line.{words_of}
use Rattle.bb_bundle.specs.Bundle.{Parser, after_line, after_words}
use Rattle.bb_bundle.specs.Written.{Words, line_text, text_of}
use Rattle.bb_bundle.proofs.WordLemmas.{from, are_words, lacks, joined_from, split_again}

-- whether these are the words of a line: four more at most, and the first is not empty
abbrev pub is_line : Words → Bool
is_line [] = false
is_line ([] ∷ ws) = false
is_line ((b ∷ bs) ∷ ws) = are_words ((b ∷ bs) ∷ ws) && nat_le (length ws) 4

line_words : (ws : Words) → is_line ws ≡ true → are_words ws ≡ true
line_words [] h = refl
line_words ([] ∷ ws) h = absurd cc
line_words ((b ∷ bs) ∷ ws) h = (and_parts (are_words ((b ∷ bs) ∷ ws)) (nat_le (length ws) 4) h).0

-- ---- the lines of a text

not_return : (bs : List ℕ) (k : ℕ) → from 32 bs ≡ true → (slice_index bs k == 13) ≡ false
not_return bs k h =
    elim (cases_lt k (length bs)) [
      | inl lt ↦ All-get_or (λ b. (b == 13) ≡ false) bs k 0 lt (lacks 13 32 bs (lit< tt) h)
      | inr past ↦ ap (λ b. b == 13) (get_or_past bs k 0 past)
    ]

not_stripped : (bs : List ℕ) → from 32 bs ≡ true → strip_carriage_return bs ≡ bs
not_stripped bs h = ap (λ b. cond b (take (length bs - 1) bs) bs) (not_return bs (length bs - 1) h)

abbrev joined : Words → List ℕ
joined ws = join_with_byte 32 ws

parts_again : (wss : List Words) → list_all is_line wss ≡ true → slice_split (λ b. b == 10) (text_of wss) ≡ map joined wss ++ [] ∷ []
unfolding text_of
parts_again [] h = refl
parts_again (ws ∷ wss) h =
    let parts = and_parts (is_line ws) (list_all is_line wss) h in
    let inline : All (λ b. (b == 10) ≡ false) (joined ws) = lacks 10 32 (joined ws) (lit< tt) (joined_from ws (line_words ws parts.0)) in
    let grouped : line_text ws ++ text_of wss ≡ joined ws ++ 10 ∷ text_of wss = append_assoc (joined ws) (10 ∷ []) (text_of wss) in
    ap (slice_split (λ b. b == 10)) grouped ∙ slice_split_at (λ b. b == 10) (joined ws) 10 (text_of wss) inline refl
    ∙ ap (λ ps. joined ws ∷ ps) (parts_again wss parts.1)

one_more_part : (part : List ℕ) (parts : List (List ℕ)) → lines_of_parts (part ∷ (parts ++ [] ∷ [])) ≡ strip_carriage_return part ∷ lines_of_parts (parts ++ [] ∷ [])
one_more_part part [] = refl
one_more_part part (p ∷ ps) = refl

unended : (wss : List Words) → list_all is_line wss ≡ true → lines_of_parts (map joined wss ++ [] ∷ []) ≡ map joined wss
unended [] h = refl
unended (ws ∷ wss) h =
    let parts = and_parts (is_line ws) (list_all is_line wss) h in
    one_more_part (joined ws) (map joined wss)
    ∙ ap (λ l. l ∷ lines_of_parts (map joined wss ++ [] ∷ [])) (not_stripped (joined ws) (joined_from ws (line_words ws parts.0)))
    ∙ ap (λ ls. joined ws ∷ ls) (unended wss parts.1)

pub lines_again : (wss : List Words) → list_all is_line wss ≡ true → lines (text_of wss) ≡ map (λ ws. join_with_byte 32 ws) wss
lines_again wss h = ap lines_of_parts (parts_again wss h) ∙ unended wss h

pub text_of-append : (as' bs : List Words) → text_of (as' ++ bs) ≡ text_of as' ++ text_of bs
unfolding text_of
text_of-append as' bs = flat_map-append line_text as' bs

-- ---- one line

not_empty : (b : ℕ) (bs : List ℕ) (ws : Words) → (length (join_with_byte 32 ((b ∷ bs) ∷ ws)) == 0) ≡ false
not_empty b bs [] = ne_eqb (length (b ∷ bs)) 0 (λ e. omega arith)
not_empty b bs (w ∷ ws) = ne_eqb (length (b ∷ (bs ++ 32 ∷ join_with_byte 32 (w ∷ ws)))) 0 (λ e. omega arith)

same_words : (w : List ℕ) (ws : Words) → are_words (w ∷ ws) ≡ true → length ws ≤ 4 → words_of (join_with_byte 32 (w ∷ ws)) ≡ w ∷ ws
same_words w ws h few = ap (take 5) (split_again w ws h) ∙ take_all 5 (w ∷ ws) (omega arith)

pub line_again : (p : Parser) (ws : Words) (r : Result Parser BundleFault) → is_line ws ≡ true → after_words (record { lines = p.lines + 1; sources = p.sources; partial = None }) p.partial ws ≡ r → after_line p (join_with_byte 32 ws) ≡ r
unfolding after_line
line_again p [] r h e = absurd cc
line_again p ([] ∷ ws) r h e = absurd cc
line_again p ((b ∷ bs) ∷ ws) r h e =
    let parts = and_parts (are_words ((b ∷ bs) ∷ ws)) (nat_le (length ws) 4) h in
    let after : Parser = record { lines = p.lines + 1; sources = p.sources; partial = None } in
    let next : Words → Result Parser BundleFault = λ vs. after_words after p.partial vs in
    let same : Result Parser BundleFault = Ok (record { lines = p.lines + 1; sources = p.sources; partial = p.partial }) in
    ap (λ empty. cond empty same (next (words_of (join_with_byte 32 ((b ∷ bs) ∷ ws))))) (not_empty b bs ws)
    ∙ ap next (same_words (b ∷ bs) ws parts.0 (leb-true (length ws) 4 parts.1)) ∙ e
