-- The text of a source is that of its parts, one behind another.
use Rattle.std.proofs.Common.{◌≡◌, ℕ, ◌+◌, ◌<◌, List, [], ◌∷◌, ◌++◌, length, get_or, take, map, refl, sym, ap, ◌∙◌, append_assoc}
use Rattle.std.specs.Prelude.{codes}
use Rattle.std.proofs.lemmas.Grind.{flat_map-append}
use Rattle.std.proofs.lemmas.List.{append-nil, take_more}
use Rattle.bb_code.specs.Code.{Code}
use Rattle.bb_bundle.specs.declared.draft.SourceDraft.{SourceDraft}
use Rattle.bb_bundle.specs.Written.{Words, line_text, clause_words, code_lines, reaction_lines, act_words, header_words, source_lines, text_of, bundle_text}
use Rattle.bb_bundle.proofs.LinesLemmas.{text_of-append}

text_of-one : (ws : Words) → text_of (ws ∷ []) ≡ line_text ws
unfolding text_of
text_of-one ws = append-nil (line_text ws)

-- one part more
put_more : (a b c : List ℕ) (as' bs : List Words) (rest : List ℕ) → b ≡ a ++ text_of as' → c ≡ b ++ rest → rest ≡ text_of bs → c ≡ a ++ text_of (as' ++ bs)
put_more a b c as' bs rest first second is =
    second ∙ ap (λ x. x ++ rest) first ∙ append_assoc a (text_of as') rest
    ∙ ap (λ r. a ++ (text_of as' ++ r)) is ∙ ap (λ x. a ++ x) (sym (text_of-append as' bs))

pub one_line : (ws : Words) → line_text ws ≡ text_of (ws ∷ [])
one_line ws = sym (text_of-one ws)

-- what was written after seven parts
pub all_put : (s : SourceDraft Code) (b0 b1 b2 b3 b4 b5 b6 b7 : List ℕ)
    → b1 ≡ b0 ++ line_text (header_words s.header) → b2 ≡ b1 ++ text_of (map clause_words s.header.triggers) → b3 ≡ b2 ++ text_of (code_lines (codes "require") s.parts.require)
    → b4 ≡ b3 ++ text_of (reaction_lines (codes "obviate") s.parts.obviate) → b5 ≡ b4 ++ text_of (reaction_lines (codes "retrigger") s.parts.retrigger)
    → b6 ≡ b5 ++ text_of (code_lines (codes "revalidate") s.parts.revalidate) → b7 ≡ b6 ++ line_text (act_words s.act) → b7 ≡ b0 ++ text_of (source_lines s)
all_put s b0 b1 b2 b3 b4 b5 b6 b7 e1 e2 e3 e4 e5 e6 e7 =
    let act : List Words = act_words s.act ∷ [] in
    let valid : List Words = code_lines (codes "revalidate") s.parts.revalidate ++ act in
    let again : List Words = reaction_lines (codes "retrigger") s.parts.retrigger ++ valid in
    let off : List Words = reaction_lines (codes "obviate") s.parts.obviate ++ again in
    let need : List Words = code_lines (codes "require") s.parts.require ++ off in
    let clauses : List Words = map clause_words s.header.triggers ++ need in
    let f7 : b7 ≡ b6 ++ text_of act = e7 ∙ ap (λ x. b6 ++ x) (one_line (act_words s.act)) in
    let f6 : b7 ≡ b5 ++ text_of valid = put_more b5 b6 b7 (code_lines (codes "revalidate") s.parts.revalidate) act (text_of act) e6 f7 refl in
    let f5 : b7 ≡ b4 ++ text_of again = put_more b4 b5 b7 (reaction_lines (codes "retrigger") s.parts.retrigger) valid (text_of valid) e5 f6 refl in
    let f4 : b7 ≡ b3 ++ text_of off = put_more b3 b4 b7 (reaction_lines (codes "obviate") s.parts.obviate) again (text_of again) e4 f5 refl in
    let f3 : b7 ≡ b2 ++ text_of need = put_more b2 b3 b7 (code_lines (codes "require") s.parts.require) off (text_of off) e3 f4 refl in
    let f2 : b7 ≡ b1 ++ text_of clauses = put_more b1 b2 b7 (map clause_words s.header.triggers) need (text_of need) e2 f3 refl in
    put_more b0 b1 b7 (header_words s.header ∷ []) clauses (text_of clauses) (e1 ∙ ap (λ x. b0 ++ x) (one_line (header_words s.header))) f2 refl

abbrev source_text : SourceDraft Code → List ℕ
source_text s = text_of (source_lines s)

-- one source more
pub more_written : (ss : List (SourceDraft Code)) (i : ℕ) (s : SourceDraft Code) (a b : List ℕ) → i < length ss → s ≡ get_or ss i s → a ≡ bundle_text (take i ss) → b ≡ a ++ text_of (source_lines s) → b ≡ bundle_text (take (i + 1) ss)
unfolding bundle_text
more_written ss i s a b lt is so_far more =
    let source : List ℕ = source_text s in
    let one : take (i + 1) ss ≡ take i ss ++ s ∷ [] = take_more ss i s lt ∙ ap (λ t. take i ss ++ t ∷ []) (sym is) in
    more ∙ ap (λ x. x ++ source) so_far
    ∙ ap (λ x. bundle_text (take i ss) ++ x) (sym (append-nil source))
    ∙ sym (flat_map-append source_text (take i ss) (s ∷ [])) ∙ ap bundle_text (sym one)
