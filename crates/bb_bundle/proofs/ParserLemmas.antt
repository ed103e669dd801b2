-- The loop over the lines of a bundle, each of which counts as one.
use Rattle.std.proofs.Common.{◌≡◌, ◌⊎◌, inl, inr, ◌<◌, get_or, drop, ℕ, ◌+◌, Bool, true, false, cond, List, [], ◌∷◌, ◌++◌, length, Option, Some, None, Result, Ok, Err, sym, ap, arith}
use Rattle.std.specs.Prelude.{◌==◌}
use Rattle.std.specs.Str.Lines.{lines}
use Rattle.bb_basis.specs.Results.{◌>>=◌, ok_or, try_fold}
use Rattle.bb_basis.proofs.ResultLemmas.{bind_ok, same_ok}
use Rattle.bb_basis.proofs.IntoMapLemmas.{next_one, length_drop_all}
use Rattle.bb_basis.proofs.TryFoldLemmas.{try_fold_next, try_fold_error, try_fold_end}
use Rattle.bb_code.specs.Code.{Code}
use Rattle.bb_bundle.specs.declared.keyword.Keyword.{Keyword}
use Rattle.bb_bundle.specs.declared.keyword.Keyword.TheVariants.{When, Require, Obviate, Retrigger, Revalidate, Do, Native}
use Rattle.bb_bundle.specs.declared.draft.ActDraft.{ActDraft}
use Rattle.bb_bundle.specs.declared.draft.ActDraft.TheVariants as acts
use Rattle.bb_bundle.specs.declared.partial.PartialSource.{PartialSource}
use Rattle.bb_bundle.specs.declared.fault.BundleFault.{BundleFault}
use Rattle.bb_bundle.specs.declared.fault.BundleFault.TheVariants.{Line, Memory}
use Rattle.bb_bundle.specs.Drafts.{no_parts, with_require, with_obviate, with_retrigger, with_revalidate}
use Rattle.bb_bundle.specs.Spelled.{if_spelled}
use Rattle.bb_bundle.specs.Clauses.{clause_of}
use Rattle.bb_bundle.specs.Keywords.{keyword_of}
use Rattle.bb_bundle.specs.Line.{words_of, header_of}
use Rattle.bb_bundle.specs.Partial.{may_come, with_clause, with_act, with_parts}
use Rattle.bb_bundle.specs.Bundle.{Parser, new_parser, with_source, with_whole, code_of_words, reaction_of_words, after_first, after_when, after_require, after_obviate, after_retrigger, after_revalidate, after_do, after_native, after_keyword, after_further, after_words, after_line, at_end, sources_of}

-- one line more leaves a parser that counted one line more
same_lines : (r t : Parser) → ◌≡◌ {A = Result Parser BundleFault} (Ok r) (Ok t) → t.lines ≡ r.lines
same_lines r t e = sym (ap (λ q. q.lines) (same_ok r t e))

-- what stands behind a step that went well counts no line
binds_count : {A : Type 0} (r : Result A BundleFault) (f : A → Result Parser BundleFault) (t : Parser) (n : ℕ) → ((a : A) → f a ≡ Ok t → t.lines ≡ n) → (r >>= f) ≡ Ok t → t.lines ≡ n
binds_count r f t n step e = let one = bind_ok r f t e in step one.0 one.2

with_source_lines : (p t : Parser) (source : PartialSource) → ◌≡◌ {A = Result Parser BundleFault} (Ok (with_source p source)) (Ok t) → t.lines ≡ p.lines
with_source_lines p t source e = same_lines (with_source p source) t e

first_counts : (p t : Parser) (ws : List (List ℕ)) → after_first p ws ≡ Ok t → t.lines ≡ p.lines
unfolding after_first
first_counts p t ws e = binds_count (ok_or (header_of ws) (Line p.lines)) (λ header. Ok (with_source p (record { header = header; parts = no_parts }))) t p.lines (λ header. with_source_lines p t (record { header = header; parts = no_parts })) e

whole_counts : (p t : Parser) (source : PartialSource) (act : ActDraft Code) → with_whole p source act ≡ Ok t → t.lines ≡ p.lines
unfolding with_whole
whole_counts p t source act e =
    binds_count (ok_or (if_spelled (with_act source act)) (Line p.lines)) (λ whole. Ok (record { lines = p.lines; sources = p.sources ++ whole ∷ []; partial = p.partial })) t p.lines
    (λ whole h. same_lines (record { lines = p.lines; sources = p.sources ++ whole ∷ []; partial = p.partial }) t h) e

ends : (p t : Parser) (source : PartialSource) (none : Bool) → cond none (with_whole p source acts.Native) (Err (Line p.lines)) ≡ Ok t → t.lines ≡ p.lines
ends p t source true e = whole_counts p t source acts.Native e
ends p t source false e = absurd cc

keyword_counts : (p t : Parser) (source : PartialSource) (keyword : Keyword) (ws : List (List ℕ)) → after_keyword p source keyword ws ≡ Ok t → t.lines ≡ p.lines
unfolding after_keyword after_when after_require after_obviate after_retrigger after_revalidate after_do after_native
keyword_counts p t source When ws e = binds_count (ok_or (clause_of ws) (Line p.lines)) (λ clause. Ok (with_source p (with_clause source clause))) t p.lines (λ clause. with_source_lines p t (with_clause source clause)) e
keyword_counts p t source Require ws e = binds_count (code_of_words p.lines ws) (λ code. Ok (with_source p (with_parts source (with_require source.parts (Some code))))) t p.lines (λ code. with_source_lines p t (with_parts source (with_require source.parts (Some code)))) e
keyword_counts p t source Obviate ws e = binds_count (reaction_of_words p.lines ws) (λ reaction. Ok (with_source p (with_parts source (with_obviate source.parts (Some reaction))))) t p.lines (λ reaction. with_source_lines p t (with_parts source (with_obviate source.parts (Some reaction)))) e
keyword_counts p t source Retrigger ws e = binds_count (reaction_of_words p.lines ws) (λ reaction. Ok (with_source p (with_parts source (with_retrigger source.parts (Some reaction))))) t p.lines (λ reaction. with_source_lines p t (with_parts source (with_retrigger source.parts (Some reaction)))) e
keyword_counts p t source Revalidate ws e = binds_count (code_of_words p.lines ws) (λ code. Ok (with_source p (with_parts source (with_revalidate source.parts (Some code))))) t p.lines (λ code. with_source_lines p t (with_parts source (with_revalidate source.parts (Some code)))) e
keyword_counts p t source Do ws e = binds_count (code_of_words p.lines ws) (λ code. with_whole p source (acts.Do code)) t p.lines (λ code. whole_counts p t source (acts.Do code)) e
keyword_counts p t source Native ws e = ends p t source (length ws == 0) e

comes : (p t : Parser) (source : PartialSource) (ws : List (List ℕ)) (keyword : Keyword) (may : Bool) → cond may (after_keyword p source keyword ws) (Err (Line p.lines)) ≡ Ok t → t.lines ≡ p.lines
comes p t source ws keyword true e = keyword_counts p t source keyword ws e
comes p t source ws keyword false e = absurd cc

further_counts : (p t : Parser) (source : PartialSource) (ws : List (List ℕ)) → after_further p source ws ≡ Ok t → t.lines ≡ p.lines
unfolding after_further
further_counts p t source [] e = absurd cc
further_counts p t source (word ∷ ws) e = binds_count (ok_or (keyword_of word) (Line p.lines)) (λ keyword. cond (may_come source keyword) (after_keyword p source keyword ws) (Err (Line p.lines))) t p.lines (λ keyword. comes p t source ws keyword (may_come source keyword)) e

words_count : (p t : Parser) (partial : Option PartialSource) (ws : List (List ℕ)) → after_words p partial ws ≡ Ok t → t.lines ≡ p.lines
words_count p t None ws e = first_counts p t ws e
words_count p t (Some source) ws e = further_counts p t source ws e

pub line_counts : (p t : Parser) (line : List ℕ) → after_line p line ≡ Ok t → t.lines ≡ p.lines + 1
unfolding after_line
line_counts p t line e = counts (length line == 0) e
  where
    counts : (empty : Bool) → cond empty (Ok (record { lines = p.lines + 1; sources = p.sources; partial = p.partial })) (after_words (record { lines = p.lines + 1; sources = p.sources; partial = None }) p.partial (words_of line)) ≡ Ok t → t.lines ≡ p.lines + 1
    counts true e = same_lines (record { lines = p.lines + 1; sources = p.sources; partial = p.partial }) t e
    counts false e = words_count (record { lines = p.lines + 1; sources = p.sources; partial = None }) t p.partial (words_of line) e

pub lines_next : (p t : Parser) (all : List (List ℕ)) (k n : ℕ) (line : List ℕ) (total : Result Parser BundleFault) → k < length all → line ≡ get_or all k line → n ≡ k + 1 → after_line p line ≡ Ok t
    → try_fold after_line p (drop k all) ≡ total → try_fold after_line t (drop n all) ≡ total
lines_next p t all k n line total lt is after read so_far =
    rw after (try_fold_next after_line p t (drop k all) (drop (k + 1) all) line total (next_one all k line lt is) read so_far)

-- a fault in a line is the fault of the bundle
pub lines_error : (p : Parser) (text : List ℕ) (k : ℕ) (line : List ℕ) (e : BundleFault) → k < length (lines text) → line ≡ get_or (lines text) k line → (e ≡ Memory) ⊎ (after_line p line ≡ Err e)
    → try_fold after_line p (drop k (lines text)) ≡ try_fold after_line new_parser (lines text) → (e ≡ Memory) ⊎ (sources_of text ≡ Err e)
unfolding sources_of
lines_error p text k line e lt is read so_far =
    elim (try_fold_error Memory after_line p (drop k (lines text)) (drop (k + 1) (lines text)) line e (try_fold after_line new_parser (lines text)) (next_one (lines text) k line lt is) read so_far) [
      | inl memory ↦ inl memory
      | inr failed ↦ inr (ap (λ x. x >>= at_end) failed)
    ]

-- at the end of the text
pub lines_end : (p : Parser) (text : List ℕ) (k : ℕ) → k ≡ length (lines text) → try_fold after_line p (drop k (lines text)) ≡ try_fold after_line new_parser (lines text) → sources_of text ≡ at_end p
unfolding sources_of
lines_end p text k last so_far =
    ap (λ x. x >>= at_end) (try_fold_end after_line p (drop k (lines text)) (try_fold after_line new_parser (lines text)) (length_drop_all (lines text) k (omega arith)) so_far)
