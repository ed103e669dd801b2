-- What is written of sources is read as these sources again.
use Rattle.std.proofs.Common.{◌≡◌, ℕ, ℤ, true, ◌&&◌, cond, List, [], ◌∷◌, ◌++◌, length, map, Option, Some, None, Result, Ok, refl, sym, ap, subst, ◌∙◌, append_assoc}
use Rattle.std.specs.Prelude.{nat_le, codes, All, option_map}
use Rattle.std.specs.List.{list_all, flat_map}
use Rattle.std.specs.Fmt.{signed_decimal}
use Rattle.std.specs.Str.Lines.{lines}
use Rattle.std.proofs.lemmas.Bool.{and_parts, and_from}
use Rattle.std.proofs.lemmas.List.{append-nil}
use Rattle.std.proofs.lemmas.List.Elements.{All-head, All-tail}
use Rattle.bb_basis.specs.Names.{is_name}
use Rattle.bb_basis.specs.Results.{◌>>=◌, ok_or, try_fold}
use Rattle.bb_code.specs.Code.{Code}
use Rattle.bb_bundle.specs.declared.fault.BundleFault.{BundleFault}
use Rattle.bb_bundle.specs.declared.fault.BundleFault.TheVariants.{Line}
use Rattle.bb_bundle.specs.declared.keyword.Keyword.TheVariants as keywords
use Rattle.bb_bundle.specs.declared.partial.PartialSource.{PartialSource}
use Rattle.bb_bundle.specs.declared.draft.ActDraft.{ActDraft}
use Rattle.bb_bundle.specs.declared.draft.ActDraft.TheVariants.{Do, Native}
use Rattle.bb_lang_tree.specs.declared.source_text.ClauseText.{ClauseText}
use Rattle.bb_bundle.specs.declared.draft.Header.{Header}
use Rattle.bb_bundle.specs.declared.draft.ReactionDraft.{ReactionDraft}
use Rattle.bb_bundle.specs.declared.draft.SourceDraft.{SourceDraft}
use Rattle.bb_bundle.specs.Drafts.{no_parts}
use Rattle.bb_bundle.specs.Spelled.{is_clause, are_clauses, is_reaction, is_spelled, IsSpelled}
use Rattle.bb_bundle.specs.Keywords.{keyword_of}
use Rattle.bb_bundle.specs.Line.{header_of, digits_of, class_and_digits_of}
use Rattle.bb_bundle.specs.Rate.{rate_of}
use Rattle.bb_bundle.specs.Partial.{has_clause, has_clauses, takes_clause, may_come, with_clause}
use Rattle.bb_bundle.specs.Bundle.{Parser, new_parser, with_whole, code_in, code_of_words, reaction_of_words, after_first, after_when, after_require, after_obviate, after_retrigger, after_revalidate, after_do, after_native, after_keyword, after_further, after_line, at_end, sources_of}
use Rattle.bb_bundle.specs.Written.{Words, clause_words, code_digits, code_lines, reaction_lines, act_words, header_words, source_lines, text_of, bundle_text}
use Rattle.bb_bundle.specs.proving.Again.{IsAgain, AreAgain, IsReactionAgain, IsActAgain, IsSpelledAgain}
use Rattle.bb_bundle.proofs.WordLemmas.{from, are_words, name_word, words2, words3, words4}
use Rattle.bb_bundle.proofs.LeadLemmas.{Leads, leads_by_nothing, leads_on, by_line, between, goes, by_keyword}
use Rattle.bb_bundle.proofs.LinesLemmas.{is_line, lines_again, text_of-append}
use Rattle.bb_bundle.proofs.RateLemmas.{rate_again, rate_word}
use Rattle.bb_bundle.proofs.CodeLemmas.{some_digits}
use Rattle.bb_bundle.proofs.EventLemmas.{event_words, clause_words_are, clause_again, clause_line}

-- ---- what was read of a source

-- the source with so many parts of what it has
abbrev part : SourceDraft Code → List ClauseText → Option Code → (obviate retrigger : Option (ReactionDraft Code)) → Option Code → PartialSource
part s triggers require obviate retrigger revalidate = record {
  header = record { name = s.header.name; class = s.header.class; rate = s.header.rate; triggers = triggers };
  parts = record { require = require; obviate = obviate; retrigger = retrigger; revalidate = revalidate };
}

-- the header of a source of this rate before its triggers
abbrev start : SourceDraft Code → ℤ → Header
start s rate = record { name = s.header.name; class = s.header.class; rate = rate; triggers = [] }

abbrev reaction : (class : List ℕ) → Code → List ClauseText → ReactionDraft Code
reaction class code clauses = record { class = class; clauses = clauses; code = code }

-- clauses go to the part that was begun last
module _ (d : List (SourceDraft Code)) (shape : List ClauseText → PartialSource) (takes : (cs : List ClauseText) → takes_clause (shape cs) ≡ true) (adds : (cs : List ClauseText) (c : ClauseText) → with_clause (shape cs) c ≡ shape (cs ++ c ∷ [])) where
  clause_reads : (front : List ClauseText) (c : ClauseText) → is_clause c ≡ true → (n : ℕ) → after_further (between n d) (shape front) (clause_words c) ≡ goes n d (shape (front ++ c ∷ []))
  unfolding may_come after_keyword after_when keyword_of
  clause_reads front c h n =
      ap (after_further (between n d) (shape front)) (clause_words_are c)
      ∙ by_keyword d (shape front) (codes "when") keywords.When (event_words c) n (goes n d (shape (front ++ c ∷ []))) refl (takes front)
      (ap (λ o. ok_or o (Line n) >>= λ clause. goes n d (with_clause (shape front) clause)) (clause_again c h) ∙ ap (goes n d) (adds front c))

  clause_leads : (front : List ClauseText) (c : ClauseText) → is_clause c ≡ true → Leads d (Some (shape front)) (clause_words c ∷ []) d (Some (shape (front ++ c ∷ [])))
  clause_leads front c h = by_line d d (Some (shape front)) (Some (shape (front ++ c ∷ []))) (clause_words c) (clause_line c h) (clause_reads front c h)

  clauses_lead : (cs front : List ClauseText) → list_all is_clause cs ≡ true → Leads d (Some (shape front)) (map clause_words cs) d (Some (shape (front ++ cs)))
  clauses_lead [] front h = subst (λ cs. Leads d (Some (shape front)) [] d (Some (shape cs))) (sym (append-nil front)) (leads_by_nothing d (Some (shape front)))
  clauses_lead (c ∷ cs) front h =
      let parts = and_parts (is_clause c) (list_all is_clause cs) h in
      let rest = clauses_lead cs (front ++ c ∷ []) parts.1 in
      let more = subst (λ all. Leads d (Some (shape (front ++ c ∷ []))) (map clause_words cs) d (Some (shape all))) (append_assoc front (c ∷ []) cs) rest in
      leads_on d d d (Some (shape front)) (Some (shape (front ++ c ∷ []))) (Some (shape (front ++ c ∷ cs))) (clause_words c ∷ []) (map clause_words cs) (clause_leads front c parts.0) more

-- ---- codes and reactions

code_again : (code : Code) (n : ℕ) → IsAgain code → code_of_words n (code_digits code ∷ []) ≡ Ok code
unfolding code_of_words digits_of
code_again code n again = ap (λ b. ok_or (cond b (Some (code_digits code)) None) (Line n) >>= λ digits. code_in n digits) (some_digits code) ∙ again.read n

code_line : (b : ℕ) (bs : List ℕ) (code : Code) → from 33 (b ∷ bs) ≡ true → IsAgain code → is_line ((b ∷ bs) ∷ code_digits code ∷ []) ≡ true
code_line b bs code word again = and_from (are_words ((b ∷ bs) ∷ code_digits code ∷ [])) true (words2 (b ∷ bs) (code_digits code) word again.word) refl

abbrev begun : (class : List ℕ) → Code → Result (ReactionDraft Code) BundleFault
begun class code = Ok (reaction class code [])

-- a reaction, where there are its class and its digits
abbrev begins : ℕ → Option (List ℕ × List ℕ) → Result (ReactionDraft Code) BundleFault
begins n parts = ok_or parts (Line n) >>= λ p. code_in n p.1 >>= λ code. begun p.0 code

class_again : (class digits : List ℕ) → is_name class ≡ true → nat_le 1 (length digits) ≡ true → class_and_digits_of (class ∷ digits ∷ []) ≡ Some (class, digits)
unfolding class_and_digits_of
class_again class digits named some =
    ap (λ b. cond b (Some (class, digits)) None) (and_from (is_name class) (nat_le 1 (length digits)) named some)

reaction_again : (r : ReactionDraft Code) (n : ℕ) → is_name r.class ≡ true → IsAgain r.code → reaction_of_words n (r.class ∷ code_digits r.code ∷ []) ≡ begun r.class r.code
unfolding reaction_of_words
reaction_again r n named again =
    ap (begins n) (class_again r.class (code_digits r.code) named (some_digits r.code)) ∙ ap (λ c. c >>= λ code. begun r.class code) (again.read n)

reaction_line : (b : ℕ) (bs : List ℕ) (r : ReactionDraft Code) → from 33 (b ∷ bs) ≡ true → is_name r.class ≡ true → IsAgain r.code → is_line ((b ∷ bs) ∷ r.class ∷ code_digits r.code ∷ []) ≡ true
reaction_line b bs r word named again =
    and_from (are_words ((b ∷ bs) ∷ r.class ∷ code_digits r.code ∷ [])) true (words3 (b ∷ bs) r.class (code_digits r.code) word (name_word r.class named) again.word) refl

-- ---- the parts of a source

some_clause : (clauses : List ClauseText) → are_clauses clauses ≡ true → nat_le 1 (length clauses) ≡ true
some_clause clauses h = (and_parts (nat_le 1 (length clauses)) (list_all is_clause clauses) h).0

each_clause : (clauses : List ClauseText) → are_clauses clauses ≡ true → list_all is_clause clauses ≡ true
each_clause clauses h = (and_parts (nat_le 1 (length clauses)) (list_all is_clause clauses) h).1

reaction_has : (r : Option (ReactionDraft Code)) → is_reaction r ≡ true → has_clause r ≡ true
reaction_has None h = refl
reaction_has (Some r) h = some_clause r.clauses (and_parts (is_name r.class) (are_clauses r.clauses) h).1

all_have : (triggers : List ClauseText) (obviate retrigger : Option (ReactionDraft Code)) → are_clauses triggers ≡ true → is_reaction obviate ≡ true → is_reaction retrigger ≡ true → (nat_le 1 (length triggers) && has_clause obviate && has_clause retrigger) ≡ true
all_have triggers obviate retrigger t o r =
    and_from (nat_le 1 (length triggers) && has_clause obviate) (has_clause retrigger)
    (and_from (nat_le 1 (length triggers)) (has_clause obviate) (some_clause triggers t) (reaction_has obviate o)) (reaction_has retrigger r)

module _ (d : List (SourceDraft Code)) (s : SourceDraft Code) where
  header_again : is_name s.header.name ≡ true → is_name s.header.class ≡ true → rate_of (signed_decimal s.header.rate) ≡ Some s.header.rate → header_of (header_words s.header) ≡ Some (start s s.header.rate)
  unfolding header_of
  header_again name class rate =
      ap (λ b. cond b (option_map (start s) (rate_of (signed_decimal s.header.rate))) None) (and_from (is_name s.header.name) (is_name s.header.class) name class)
      ∙ ap (option_map (start s)) rate

  header_leads : is_name s.header.name ≡ true → is_name s.header.class ≡ true → rate_of (signed_decimal s.header.rate) ≡ Some s.header.rate → from 33 (signed_decimal s.header.rate) ≡ true
      → Leads d None (header_words s.header ∷ []) d (Some (part s [] None None None None))
  unfolding after_first
  header_leads name class rate word =
      by_line d d None (Some (part s [] None None None None)) (header_words s.header)
      (and_from (are_words (header_words s.header)) true (words4 (codes "source") s.header.name s.header.class (signed_decimal s.header.rate) refl (name_word s.header.name name) (name_word s.header.class class) word) refl)
      (λ n. ap (λ o. ok_or o (Line n) >>= λ header. goes n d (record { header = header; parts = no_parts })) (header_again name class rate))

  triggers_lead : are_clauses s.header.triggers ≡ true → Leads d (Some (part s [] None None None None)) (map clause_words s.header.triggers) d (Some (part s s.header.triggers None None None None))
  unfolding takes_clause with_clause
  triggers_lead h = clauses_lead d (λ cs. part s cs None None None None) (λ cs. refl) (λ cs c. refl) s.header.triggers [] (each_clause s.header.triggers h)

  -- a part that is a code alone
  require_reads : (code : Code) → IsAgain code → are_clauses s.header.triggers ≡ true → (n : ℕ)
      → after_further (between n d) (part s s.header.triggers None None None None) (codes "require" ∷ code_digits code ∷ []) ≡ goes n d (part s s.header.triggers (Some code) None None None)
  unfolding may_come has_clauses after_keyword after_require keyword_of
  require_reads code again t n =
      by_keyword d (part s s.header.triggers None None None None) (codes "require") keywords.Require (code_digits code ∷ []) n (goes n d (part s s.header.triggers (Some code) None None None)) refl
      (ap (λ b. b && true && true && true && true) (all_have s.header.triggers None None t refl refl))
      (ap (λ r. r >>= λ c. goes n d (part s s.header.triggers (Some c) None None None)) (code_again code n again))

  require_leads : (require : Option Code) → AreAgain require → are_clauses s.header.triggers ≡ true
      → Leads d (Some (part s s.header.triggers None None None None)) (code_lines (codes "require") require) d (Some (part s s.header.triggers require None None None))
  require_leads None again t = leads_by_nothing d (Some (part s s.header.triggers None None None None))
  require_leads (Some code) again t =
      by_line d d (Some (part s s.header.triggers None None None None)) (Some (part s s.header.triggers (Some code) None None None)) (codes "require" ∷ code_digits code ∷ [])
      (code_line 114 (codes "equire") code refl again) (require_reads code again t)

  -- the first reaction
  obviating : Option Code → ReactionDraft Code → List ClauseText → PartialSource
  obviating require r cs = part s s.header.triggers require (Some (reaction r.class r.code cs)) None None

  obviate_takes : (require : Option Code) (r : ReactionDraft Code) (cs : List ClauseText) → takes_clause (obviating require r cs) ≡ true
  unfolding obviating takes_clause
  obviate_takes None r cs = refl
  obviate_takes (Some code) r cs = refl

  obviate_adds : (require : Option Code) (r : ReactionDraft Code) (cs : List ClauseText) (c : ClauseText) → with_clause (obviating require r cs) c ≡ obviating require r (cs ++ c ∷ [])
  unfolding obviating with_clause
  obviate_adds require r cs c = refl

  obviate_reads : (require : Option Code) (r : ReactionDraft Code) → IsAgain r.code → are_clauses s.header.triggers ≡ true → is_name r.class ≡ true → (n : ℕ)
      → after_further (between n d) (part s s.header.triggers require None None None) (codes "obviate" ∷ r.class ∷ code_digits r.code ∷ []) ≡ goes n d (obviating require r [])
  unfolding obviating may_come has_clauses after_keyword after_obviate keyword_of
  obviate_reads require r again t named n =
      by_keyword d (part s s.header.triggers require None None None) (codes "obviate") keywords.Obviate (r.class ∷ code_digits r.code ∷ []) n (goes n d (obviating require r [])) refl
      (ap (λ b. b && true && true && true) (all_have s.header.triggers None None t refl refl))
      (ap (λ x. x >>= λ y. goes n d (part s s.header.triggers require (Some y) None None)) (reaction_again r n named again))

  obviate_leads : (require : Option Code) (obviate : Option (ReactionDraft Code)) → IsReactionAgain obviate → are_clauses s.header.triggers ≡ true → is_reaction obviate ≡ true
      → Leads d (Some (part s s.header.triggers require None None None)) (reaction_lines (codes "obviate") obviate) d (Some (part s s.header.triggers require obviate None None))
  unfolding obviating
  obviate_leads require None again t o = leads_by_nothing d (Some (part s s.header.triggers require None None None))
  obviate_leads require (Some r) again t o =
      let parts = and_parts (is_name r.class) (are_clauses r.clauses) o in
      let words : Words = codes "obviate" ∷ r.class ∷ code_digits r.code ∷ [] in
      let before = Some (part s s.header.triggers require None None None) in
      leads_on d d d before (Some (obviating require r [])) (Some (obviating require r r.clauses)) (words ∷ []) (map clause_words r.clauses)
      (by_line d d before (Some (obviating require r [])) words (reaction_line 111 (codes "bviate") r refl parts.0 again) (obviate_reads require r again t parts.0))
      (clauses_lead d (obviating require r) (obviate_takes require r) (obviate_adds require r) r.clauses [] (each_clause r.clauses parts.1))

  -- the second one
  retriggering : (require : Option Code) (obviate : Option (ReactionDraft Code)) → ReactionDraft Code → List ClauseText → PartialSource
  retriggering require obviate r cs = part s s.header.triggers require obviate (Some (reaction r.class r.code cs)) None

  retrigger_takes : (require : Option Code) (obviate : Option (ReactionDraft Code)) (r : ReactionDraft Code) (cs : List ClauseText) → takes_clause (retriggering require obviate r cs) ≡ true
  unfolding retriggering takes_clause
  retrigger_takes None None r cs = refl
  retrigger_takes None (Some o) r cs = refl
  retrigger_takes (Some code) None r cs = refl
  retrigger_takes (Some code) (Some o) r cs = refl

  retrigger_adds : (require : Option Code) (obviate : Option (ReactionDraft Code)) (r : ReactionDraft Code) (cs : List ClauseText) (c : ClauseText) → with_clause (retriggering require obviate r cs) c ≡ retriggering require obviate r (cs ++ c ∷ [])
  unfolding retriggering with_clause
  retrigger_adds require obviate r cs c = refl

  retrigger_reads : (require : Option Code) (obviate : Option (ReactionDraft Code)) (r : ReactionDraft Code) → IsAgain r.code → are_clauses s.header.triggers ≡ true → is_reaction obviate ≡ true → is_name r.class ≡ true → (n : ℕ)
      → after_further (between n d) (part s s.header.triggers require obviate None None) (codes "retrigger" ∷ r.class ∷ code_digits r.code ∷ []) ≡ goes n d (retriggering require obviate r [])
  unfolding retriggering may_come has_clauses after_keyword after_retrigger keyword_of
  retrigger_reads require obviate r again t o named n =
      by_keyword d (part s s.header.triggers require obviate None None) (codes "retrigger") keywords.Retrigger (r.class ∷ code_digits r.code ∷ []) n (goes n d (retriggering require obviate r [])) refl
      (ap (λ b. b && true && true) (all_have s.header.triggers obviate None t o refl))
      (ap (λ x. x >>= λ y. goes n d (part s s.header.triggers require obviate (Some y) None)) (reaction_again r n named again))

  retrigger_leads : (require : Option Code) (obviate retrigger : Option (ReactionDraft Code)) → IsReactionAgain retrigger → are_clauses s.header.triggers ≡ true → is_reaction obviate ≡ true → is_reaction retrigger ≡ true
      → Leads d (Some (part s s.header.triggers require obviate None None)) (reaction_lines (codes "retrigger") retrigger) d (Some (part s s.header.triggers require obviate retrigger None))
  unfolding retriggering
  retrigger_leads require obviate None again t o e = leads_by_nothing d (Some (part s s.header.triggers require obviate None None))
  retrigger_leads require obviate (Some r) again t o e =
      let parts = and_parts (is_name r.class) (are_clauses r.clauses) e in
      let words : Words = codes "retrigger" ∷ r.class ∷ code_digits r.code ∷ [] in
      let before = Some (part s s.header.triggers require obviate None None) in
      leads_on d d d before (Some (retriggering require obviate r [])) (Some (retriggering require obviate r r.clauses)) (words ∷ []) (map clause_words r.clauses)
      (by_line d d before (Some (retriggering require obviate r [])) words (reaction_line 114 (codes "etrigger") r refl parts.0 again) (retrigger_reads require obviate r again t o parts.0))
      (clauses_lead d (retriggering require obviate r) (retrigger_takes require obviate r) (retrigger_adds require obviate r) r.clauses [] (each_clause r.clauses parts.1))

  revalidate_reads : (code : Code) → IsAgain code → are_clauses s.header.triggers ≡ true → is_reaction s.parts.obviate ≡ true → is_reaction s.parts.retrigger ≡ true → (n : ℕ)
      → after_further (between n d) (part s s.header.triggers s.parts.require s.parts.obviate s.parts.retrigger None) (codes "revalidate" ∷ code_digits code ∷ []) ≡ goes n d (part s s.header.triggers s.parts.require s.parts.obviate s.parts.retrigger (Some code))
  unfolding may_come has_clauses after_keyword after_revalidate keyword_of
  revalidate_reads code again t o e n =
      by_keyword d (part s s.header.triggers s.parts.require s.parts.obviate s.parts.retrigger None) (codes "revalidate") keywords.Revalidate (code_digits code ∷ []) n (goes n d (part s s.header.triggers s.parts.require s.parts.obviate s.parts.retrigger (Some code))) refl
      (ap (λ b. b && true) (all_have s.header.triggers s.parts.obviate s.parts.retrigger t o e))
      (ap (λ r. r >>= λ c. goes n d (part s s.header.triggers s.parts.require s.parts.obviate s.parts.retrigger (Some c))) (code_again code n again))

  revalidate_leads : (revalidate : Option Code) → AreAgain revalidate → are_clauses s.header.triggers ≡ true → is_reaction s.parts.obviate ≡ true → is_reaction s.parts.retrigger ≡ true
      → Leads d (Some (part s s.header.triggers s.parts.require s.parts.obviate s.parts.retrigger None)) (code_lines (codes "revalidate") revalidate) d (Some (part s s.header.triggers s.parts.require s.parts.obviate s.parts.retrigger revalidate))
  revalidate_leads None again t o e = leads_by_nothing d (Some (part s s.header.triggers s.parts.require s.parts.obviate s.parts.retrigger None))
  revalidate_leads (Some code) again t o e =
      by_line d d (Some (part s s.header.triggers s.parts.require s.parts.obviate s.parts.retrigger None)) (Some (part s s.header.triggers s.parts.require s.parts.obviate s.parts.retrigger (Some code))) (codes "revalidate" ∷ code_digits code ∷ [])
      (code_line 114 (codes "evalidate") code refl again) (revalidate_reads code again t o e)

-- ---- the act

-- all that was read of a source
abbrev whole : SourceDraft Code → PartialSource
whole s = part s s.header.triggers s.parts.require s.parts.obviate s.parts.retrigger s.parts.revalidate

-- behind the source
abbrev behind : ℕ → List (SourceDraft Code) → SourceDraft Code → Result Parser BundleFault
behind n d s = Ok (record { lines = n; sources = d ++ s ∷ []; partial = None })

module _ (d : List (SourceDraft Code)) (s : SourceDraft Code) (h : IsSpelled s) (t : are_clauses s.header.triggers ≡ true) (o : is_reaction s.parts.obviate ≡ true) (e : is_reaction s.parts.retrigger ≡ true) where
  completes : (n : ℕ) → with_whole (between n d) (whole s) s.act ≡ behind n d s
  unfolding with_whole
  completes n = ap (λ b. ok_or (cond b (Some s) None) (Line n) >>= λ source. behind n d source) h

  do_reads : (code : Code) → s.act ≡ Do code → IsAgain code → (n : ℕ) → after_further (between n d) (whole s) (codes "do" ∷ code_digits code ∷ []) ≡ behind n d s
  unfolding may_come has_clauses after_keyword after_do keyword_of
  do_reads code is again n =
      by_keyword d (whole s) (codes "do") keywords.Do (code_digits code ∷ []) n (behind n d s) refl (all_have s.header.triggers s.parts.obviate s.parts.retrigger t o e)
      (ap (λ r. r >>= λ c. with_whole (between n d) (whole s) (Do c)) (code_again code n again) ∙ ap (with_whole (between n d) (whole s)) (sym is) ∙ completes n)

  native_reads : s.act ≡ Native → (n : ℕ) → after_further (between n d) (whole s) (codes "native" ∷ []) ≡ behind n d s
  unfolding may_come has_clauses after_keyword after_native keyword_of
  native_reads is n =
      by_keyword d (whole s) (codes "native") keywords.Native [] n (behind n d s) refl (all_have s.header.triggers s.parts.obviate s.parts.retrigger t o e)
      (ap (with_whole (between n d) (whole s)) (sym is) ∙ completes n)

  act_leads : (act : ActDraft Code) → s.act ≡ act → IsActAgain act → Leads d (Some (whole s)) (act_words act ∷ []) (d ++ s ∷ []) None
  act_leads (Do code) is again = by_line d (d ++ s ∷ []) (Some (whole s)) None (codes "do" ∷ code_digits code ∷ []) (code_line 100 (codes "o") code refl again) (do_reads code is again)
  act_leads Native is again = by_line d (d ++ s ∷ []) (Some (whole s)) None (codes "native" ∷ []) refl (native_reads is)

-- ---- whole sources

record SpelledParts (s : SourceDraft Code) : Type 0 where
  name : is_name s.header.name ≡ true
  class : is_name s.header.class ≡ true
  triggers : are_clauses s.header.triggers ≡ true
  obviate : is_reaction s.parts.obviate ≡ true
  retrigger : is_reaction s.parts.retrigger ≡ true

spelled_parts : (s : SourceDraft Code) → IsSpelled s → SpelledParts s
unfolding is_spelled
spelled_parts s h =
    let names = is_name s.header.name && is_name s.header.class in
    let retrigger = and_parts (names && are_clauses s.header.triggers && is_reaction s.parts.obviate) (is_reaction s.parts.retrigger) h in
    let obviate = and_parts (names && are_clauses s.header.triggers) (is_reaction s.parts.obviate) retrigger.0 in
    let triggers = and_parts names (are_clauses s.header.triggers) obviate.0 in
    let both = and_parts (is_name s.header.name) (is_name s.header.class) triggers.0 in
    record { name = both.0; class = both.1; triggers = triggers.1; obviate = obviate.1; retrigger = retrigger.1 }

source_leads : (d : List (SourceDraft Code)) (s : SourceDraft Code) → IsSpelledAgain s → Leads d None (source_lines s) (d ++ s ∷ []) None
source_leads d s spelled =
    let parts = spelled_parts s spelled.spelled in
    let again = spelled.again in
    let last = d ++ s ∷ [] in
    let at_triggers = Some (part s [] None None None None) in
    let at_require = Some (part s s.header.triggers None None None None) in
    let at_obviate = Some (part s s.header.triggers s.parts.require None None None) in
    let at_retrigger = Some (part s s.header.triggers s.parts.require s.parts.obviate None None) in
    let at_revalidate = Some (part s s.header.triggers s.parts.require s.parts.obviate s.parts.retrigger None) in
    let act : Words = act_words s.act in
    let line6 : List Words = act ∷ [] in
    let line5 : List Words = code_lines (codes "revalidate") s.parts.revalidate ++ line6 in
    let line4 : List Words = reaction_lines (codes "retrigger") s.parts.retrigger ++ line5 in
    let line3 : List Words = reaction_lines (codes "obviate") s.parts.obviate ++ line4 in
    let line2 : List Words = code_lines (codes "require") s.parts.require ++ line3 in
    let line1 : List Words = map clause_words s.header.triggers ++ line2 in
    leads_on d d last None at_triggers None (header_words s.header ∷ []) line1 (header_leads d s parts.name parts.class (rate_again s.header.rate again.rate) (rate_word s.header.rate again.rate))
    (leads_on d d last at_triggers at_require None (map clause_words s.header.triggers) line2 (triggers_lead d s parts.triggers)
    (leads_on d d last at_require at_obviate None (code_lines (codes "require") s.parts.require) line3 (require_leads d s s.parts.require again.require parts.triggers)
    (leads_on d d last at_obviate at_retrigger None (reaction_lines (codes "obviate") s.parts.obviate) line4 (obviate_leads d s s.parts.require s.parts.obviate again.obviate parts.triggers parts.obviate)
    (leads_on d d last at_retrigger at_revalidate None (reaction_lines (codes "retrigger") s.parts.retrigger) line5 (retrigger_leads d s s.parts.require s.parts.obviate s.parts.retrigger again.retrigger parts.triggers parts.obviate parts.retrigger)
    (leads_on d d last at_revalidate (Some (whole s)) None (code_lines (codes "revalidate") s.parts.revalidate) line6 (revalidate_leads d s s.parts.revalidate again.revalidate parts.triggers parts.obviate parts.retrigger)
    (act_leads d s spelled.spelled parts.triggers parts.obviate parts.retrigger s.act refl again.act))))))

abbrev all_lines : List (SourceDraft Code) → List Words
all_lines sources = flat_map source_lines sources

sources_lead : (ss d : List (SourceDraft Code)) → All IsSpelledAgain ss → Leads d None (all_lines ss) (d ++ ss) None
sources_lead [] d h = subst (λ e. Leads d None [] e None) (sym (append-nil d)) (leads_by_nothing d None)
sources_lead (s ∷ ss) d h =
    let rest = sources_lead ss (d ++ s ∷ []) (All-tail IsSpelledAgain s ss h) in
    let more = subst (λ e. Leads (d ++ s ∷ []) None (all_lines ss) e None) (append_assoc d (s ∷ []) ss) rest in
    leads_on d (d ++ s ∷ []) (d ++ s ∷ ss) None None None (source_lines s) (all_lines ss) (source_leads d s (All-head IsSpelledAgain s ss h)) more

bundle_lines : (ss : List (SourceDraft Code)) → bundle_text ss ≡ text_of (all_lines ss)
unfolding bundle_text text_of
bundle_lines [] = refl
bundle_lines (s ∷ ss) = ap (λ t. text_of (source_lines s) ++ t) (bundle_lines ss) ∙ sym (text_of-append (source_lines s) (all_lines ss))

pub sources_again : (ss : List (SourceDraft Code)) → All IsSpelledAgain ss → sources_of (bundle_text ss) ≡ Ok ss
unfolding sources_of
sources_again ss h =
    let leads = sources_lead ss [] h in
    let reads = leads.reads 0 in
    ap (λ ls. try_fold after_line new_parser ls >>= at_end) (ap lines (bundle_lines ss) ∙ lines_again (all_lines ss) leads.are_lines)
    ∙ ap (λ r. r >>= at_end) reads.1
