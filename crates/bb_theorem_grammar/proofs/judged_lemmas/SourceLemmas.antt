-- A source is refused for the first fault of the judgement.
use Rattle.std.proofs.Common.{◌≡◌, ◌⊎◌, inl, inr, ℕ, Bool, true, false, cond, ◌&&◌, List, [], ◌∷◌, ◌++◌, Option, Some, None, Result, Ok, Err, refl, subst, sym, ap, ◌∙◌, append_assoc}
use Rattle.std.specs.Prelude.{is_ok}
use Rattle.std.specs.List.{list_all}
use Rattle.std.proofs.lemmas.List.{append-nil}
use Rattle.bb_basis.proofs.BoolLemmas.{and_first, and_second}
use Rattle.bb_basis.specs.Names.{is_name}
use Rattle.bb_basis.specs.Results.{◌>>=◌, ok_or}
use Rattle.bb_code.specs.Code.{Code}
use Rattle.bb_schema.specs.Fits.{Fits}
use Rattle.bb_schema.specs.Schema.{Schema, class_named}
use Rattle.bb_verify_effect.specs.declared.part.Part.{Part}
use Rattle.bb_verify_effect.specs.declared.part.Part.TheVariants.{Require, Obviate, Retrigger, Revalidate, Do}
use Rattle.bb_lang.specs.ActText.{ActText}
use Rattle.bb_lang.specs.ActText.TheVariants as acts
use Rattle.bb_lang.specs.Blocks.{BlockTree}
use Rattle.bb_lang.specs.PartText.{PartText}
use Rattle.bb_lang.specs.PartTexts.{PartTexts}
use Rattle.bb_lang.specs.ReactionText.{ReactionText}
use Rattle.bb_lang.specs.SourceText.{SourceText}
use Rattle.bb_bundle.specs.Spelled.{are_clauses, is_reaction, is_spelled, if_spelled}
use Rattle.bb_bundle.specs.declared.draft.ActDraft.{ActDraft}
use Rattle.bb_bundle.specs.declared.draft.Parts.{Parts}
use Rattle.bb_bundle.specs.declared.draft.ReactionDraft.{ReactionDraft}
use Rattle.bb_bundle.specs.declared.draft.SourceDraft.{SourceDraft}
use Rattle.bb_compile_scope.specs.Ending.{block_ends}
use Rattle.bb_compile_scope.specs.Place.{Place}
use Rattle.bb_compile_scope.specs.declared.fault.CompileFault.{CompileFault}
use Rattle.bb_compile_scope.specs.declared.fault.CompileFault.TheVariants.{At}
use Rattle.bb_compile_scope.specs.declared.fault.TextFlaw.TheVariants.{Unknown, NoEnd}
use Rattle.bb_compile.specs.Parts.{part_code}
use Rattle.bb_compile.specs.Compiled.{class_on, part_of, reaction_of, reaction_if, act_of, parts_of, header_of, draft_of, compiled}
use Rattle.bb_theorem_grammar.specs.judged.Fitting.{fits}
use Rattle.bb_theorem_grammar.specs.judged.Judgement.{part_faults, IsFirst, IsJudged}
use Rattle.bb_theorem_grammar.specs.judged.Sources.{faults_if, events_faults, reaction_faults, act_faults, is_reaction_spelled, is_text_spelled, spelling_faults, faults_of_class, source_faults, Extent, extent_of, extent_if, events_extent, reaction_extent, act_extent, extents_of_class, extents, all_fit, IsTooLarge, AreJudged}
use Rattle.bb_theorem_grammar.proofs.judged_lemmas.within.FineParts.{part_judged}

-- ---- one part after another

-- what is made has no fault, and P holds of it
abbrev Agree : {X : Type 0} → List Extent → List CompileFault → (P : X → Type 0) → Result X CompileFault → Type 0
Agree places faults P (Ok x) = (faults ≡ []) × P x
Agree places faults P (Err fault) = IsFirst fault faults ⊎ IsTooLarge fault places

first_on : (fault : CompileFault) (xs ys : List CompileFault) → IsFirst fault xs → IsFirst fault (xs ++ ys)
first_on fault [] ys h = absurd h
first_on fault (x ∷ xs) ys h = h

large_on : (fault : CompileFault) (ps qs : List Extent) → IsTooLarge fault ps → IsTooLarge fault (ps ++ qs)
large_on fault [] qs h = absurd h
large_on fault (p ∷ ps) qs (inl h) = inl h
large_on fault (p ∷ ps) qs (inr h) = inr (large_on fault ps qs h)

large_behind : (fault : CompileFault) (ps qs : List Extent) → IsTooLarge fault qs → IsTooLarge fault (ps ++ qs)
large_behind fault [] qs h = h
large_behind fault (p ∷ ps) qs h = inr (large_behind fault ps qs h)

either_on : (fault : CompileFault) (ps qs : List Extent) (xs ys : List CompileFault) → IsFirst fault xs ⊎ IsTooLarge fault ps → IsFirst fault (xs ++ ys) ⊎ IsTooLarge fault (ps ++ qs)
either_on fault ps qs xs ys (inl h) = inl (first_on fault xs ys h)
either_on fault ps qs xs ys (inr h) = inr (large_on fault ps qs h)

agree_after : {X : Type 0} (ps qs : List Extent) (ys : List CompileFault) (Q : X → Type 0) (r : Result X CompileFault) → Agree qs ys Q r → Agree (ps ++ qs) ys Q r
agree_after ps qs ys Q (Ok x) h = h
agree_after ps qs ys Q (Err fault) (inl h) = inl h
agree_after ps qs ys Q (Err fault) (inr h) = inr (large_behind fault ps qs h)

agree_then : {X Z : Type 0} (ps qs : List Extent) (xs ys : List CompileFault) (P : X → Type 0) (Q : Z → Type 0) (r : Result X CompileFault) (f : X → Result Z CompileFault)
    → Agree ps xs P r → ((x : X) → P x → Agree qs ys Q (f x)) → Agree (ps ++ qs) (xs ++ ys) Q (r >>= f)
agree_then ps qs xs ys P Q (Err fault) f h next = either_on fault ps qs xs ys h
agree_then ps qs xs ys P Q (Ok x) f h next = subst (λ l. Agree (ps ++ qs) (l ++ ys) Q (f x)) (sym h.0) (agree_after ps qs ys Q (f x) (next x h.1))

-- the second finds nothing
agree_last : {X Z : Type 0} (ps : List Extent) (xs : List CompileFault) (P : X → Type 0) (Q : Z → Type 0) (r : Result X CompileFault) (f : X → Result Z CompileFault)
    → Agree ps xs P r → ((x : X) → P x → Agree [] [] Q (f x)) → Agree ps xs Q (r >>= f)
agree_last ps xs P Q r f h next =
    subst (λ l. Agree l xs Q (r >>= f)) (append-nil ps) (subst (λ l. Agree (ps ++ []) l Q (r >>= f)) (append-nil xs) (agree_then ps [] xs [] P Q r f h next))

-- nothing is asked
abbrev IsAny : {X : Type 0} → X → Type 0
IsAny x = Unit {0}

judged_agree : {X : Type 0} (start : Place) (fits : Bool) (faults : List CompileFault) (r : Result X CompileFault) → IsJudged start fits faults r → Agree (record { start = start; fits = fits } ∷ []) faults IsAny r
judged_agree start fits faults (Ok x) h = (h, tt)
judged_agree start fits faults (Err fault) (inl h) = inl h
judged_agree start fits faults (Err fault) (inr h) = inr (inl h)

-- ---- the parts of a source

module _ (schema : Schema) (sf : Fits schema) where
  -- the code of a part
  code_agrees : (part : Part) (start : Place) (b : BlockTree) → Agree (extent_of schema part start b) (part_faults schema part start b) IsAny (part_code schema part start b)
  code_agrees part start b = judged_agree start (fits schema part b) (part_faults schema part start b) (part_code schema part start b) (part_judged schema sf part start b)

  part_agrees : (part : Part) (text : Option PartText) → Agree (extent_if schema part text) (faults_if schema part text) IsAny (part_of schema part text)
  part_agrees part None = (refl, tt)
  part_agrees part (Some text) =
      agree_last (extent_of schema part text.place text.block) (part_faults schema part text.place text.block) IsAny IsAny (part_code schema part text.place text.block) _
      (code_agrees part text.place text.block) (λ code any. (refl, tt))

  -- a reaction has the class and the clauses of its text
  abbrev IsOf : Option ReactionText → Option (ReactionDraft Code) → Type 0
  IsOf text made = is_reaction made ≡ is_reaction_spelled text

  reaction_agrees : (part : (of : ℕ) → Part) (text : Option ReactionText) → Agree (reaction_extent schema part text) (reaction_faults schema part text) (IsOf text) (reaction_if schema part text)
  unfolding reaction_of
  reaction_agrees part None = (refl, refl)
  reaction_agrees part (Some text) = by_end (block_ends text.block)
    where
      by_class : (o : Option ℕ) → Agree (events_extent schema part text o) (events_faults schema part text o) (IsOf (Some text)) (ok_or o (At Unknown text.on) >>= λ of. reaction_of schema (part of) text >>= λ reaction. Ok (Some reaction))
      by_class None = inl refl
      by_class (Some of) =
          let faults = part_faults schema (part of) text.place text.block in
          let extent = extent_of schema (part of) text.place text.block in
          agree_last extent faults (λ (r : ReactionDraft Code). IsOf (Some text) (Some r)) (IsOf (Some text)) (reaction_of schema (part of) text) _
          (agree_last extent faults IsAny (λ (r : ReactionDraft Code). IsOf (Some text) (Some r)) (part_code schema (part of) text.place text.block) _
          (code_agrees (part of) text.place text.block) (λ code any. (refl, refl)))
          (λ r same. (refl, same))

      by_end : (b : Bool) → Agree (events_extent schema part text (class_named schema text.class)) (cond b (events_faults schema part text (class_named schema text.class)) (At NoEnd text.place ∷ [])) (IsOf (Some text))
          (cond b (class_on schema text.class text.on) (Err (At NoEnd text.place)) >>= λ of. reaction_of schema (part of) text >>= λ reaction. Ok (Some reaction))
      by_end true = by_class (class_named schema text.class)
      by_end false = inl refl

  act_agrees : (class : ℕ) (text : ActText) → Agree (act_extent schema class text) (act_faults schema class text) IsAny (act_of schema class text)
  act_agrees class acts.Native = (refl, tt)
  act_agrees class (acts.Do text) =
      agree_last (extent_of schema (Do class) text.place text.block) (part_faults schema (Do class) text.place text.block) IsAny IsAny (part_code schema (Do class) text.place text.block) _
      (code_agrees (Do class) text.place text.block) (λ code any. (refl, tt))

  -- ---- the source

  parts_agree : (class : ℕ) (texts : PartTexts)
      → Agree (extent_if schema (Require class) texts.require ++ (reaction_extent schema (Obviate class) texts.obviate ++ (reaction_extent schema (Retrigger class) texts.retrigger ++ extent_if schema (Revalidate class) texts.revalidate)))
      (faults_if schema (Require class) texts.require ++ (reaction_faults schema (Obviate class) texts.obviate ++ (reaction_faults schema (Retrigger class) texts.retrigger ++ faults_if schema (Revalidate class) texts.revalidate)))
      (λ (p : Parts Code). IsOf texts.obviate p.obviate × IsOf texts.retrigger p.retrigger) (parts_of schema class texts)
  unfolding parts_of
  parts_agree class texts =
      agree_then (extent_if schema (Require class) texts.require) (reaction_extent schema (Obviate class) texts.obviate ++ (reaction_extent schema (Retrigger class) texts.retrigger ++ extent_if schema (Revalidate class) texts.revalidate))
      (faults_if schema (Require class) texts.require) (reaction_faults schema (Obviate class) texts.obviate ++ (reaction_faults schema (Retrigger class) texts.retrigger ++ faults_if schema (Revalidate class) texts.revalidate))
      IsAny (λ (p : Parts Code). IsOf texts.obviate p.obviate × IsOf texts.retrigger p.retrigger) (part_of schema (Require class) texts.require) _ (part_agrees (Require class) texts.require)
      (λ require any. agree_then (reaction_extent schema (Obviate class) texts.obviate) (reaction_extent schema (Retrigger class) texts.retrigger ++ extent_if schema (Revalidate class) texts.revalidate)
      (reaction_faults schema (Obviate class) texts.obviate) (reaction_faults schema (Retrigger class) texts.retrigger ++ faults_if schema (Revalidate class) texts.revalidate)
      (IsOf texts.obviate) (λ (p : Parts Code). IsOf texts.obviate p.obviate × IsOf texts.retrigger p.retrigger) (reaction_if schema (Obviate class) texts.obviate) _ (reaction_agrees (Obviate class) texts.obviate)
      (λ obviate one. agree_then (reaction_extent schema (Retrigger class) texts.retrigger) (extent_if schema (Revalidate class) texts.revalidate)
      (reaction_faults schema (Retrigger class) texts.retrigger) (faults_if schema (Revalidate class) texts.revalidate)
      (IsOf texts.retrigger) (λ (p : Parts Code). IsOf texts.obviate p.obviate × IsOf texts.retrigger p.retrigger) (reaction_if schema (Retrigger class) texts.retrigger) _ (reaction_agrees (Retrigger class) texts.retrigger)
      (λ retrigger two. agree_last (extent_if schema (Revalidate class) texts.revalidate) (faults_if schema (Revalidate class) texts.revalidate) IsAny (λ (p : Parts Code). IsOf texts.obviate p.obviate × IsOf texts.retrigger p.retrigger)
      (part_of schema (Revalidate class) texts.revalidate) _ (part_agrees (Revalidate class) texts.revalidate) (λ revalidate all. (refl, (one, two))))))

-- ---- lists that are put together

four_on : {X : Type 0} (a b c d e : List X) → (a ++ (b ++ (c ++ d))) ++ e ≡ a ++ (b ++ (c ++ (d ++ e)))
four_on a b c d e = append_assoc a (b ++ (c ++ d)) e ∙ ap (λ l. a ++ l) (append_assoc b (c ++ d) e ∙ ap (λ l. b ++ l) (append_assoc c d e))

five_on : {X : Type 0} (a b c d e f : List X) → ((a ++ (b ++ (c ++ d))) ++ e) ++ f ≡ a ++ (b ++ (c ++ (d ++ (e ++ f))))
five_on a b c d e f = append_assoc (a ++ (b ++ (c ++ d))) e f ∙ four_on a b c d (e ++ f)

-- ---- the source

abbrev drafted : SourceText → Parts Code → ActDraft Code → SourceDraft Code
drafted text parts act = record { header = header_of text; parts = parts; act = act }

-- a bundle can spell the draft exactly where it can spell the text
abbrev IsSame : SourceText → SourceDraft Code → Type 0
IsSame text draft = is_spelled draft ≡ is_text_spelled text

same_spelled : (text : SourceText) (parts : Parts Code) (act : ActDraft Code) → is_reaction parts.obviate ≡ is_reaction_spelled text.parts.obviate → is_reaction parts.retrigger ≡ is_reaction_spelled text.parts.retrigger → IsSame text (drafted text parts act)
unfolding is_spelled
same_spelled text parts act one two =
    ap (λ b. is_name text.header.name && is_name text.header.class && are_clauses text.clauses && b && is_reaction parts.retrigger) one
    ∙ ap (λ b. is_name text.header.name && is_name text.header.class && are_clauses text.clauses && is_reaction_spelled text.parts.obviate && b) two

spelled_agrees : (text : SourceText) (draft : SourceDraft Code) → IsSame text draft → Agree [] (spelling_faults text) IsAny (ok_or (if_spelled draft) (At Unknown text.header.on))
spelled_agrees text draft same =
    subst (λ b. Agree [] (cond b [] (At Unknown text.header.on ∷ [])) IsAny (ok_or (if_spelled draft) (At Unknown text.header.on))) same (by_spelled (is_spelled draft))
  where
    by_spelled : (b : Bool) → Agree [] (cond b [] (At Unknown text.header.on ∷ [])) IsAny (ok_or (cond b (Some draft) None) (At Unknown text.header.on))
    by_spelled true = (refl, tt)
    by_spelled false = inl refl

agree_judged : {X : Type 0} (places : List Extent) (faults : List CompileFault) (r : Result X CompileFault) → Agree places faults IsAny r → AreJudged places faults r
agree_judged places faults (Ok x) h = h.0
agree_judged places faults (Err fault) h = h

module _ (schema : Schema) (sf : Fits schema) (text : SourceText) where
  drafts_of : (class : ℕ) → Result (SourceDraft Code) CompileFault
  drafts_of class = parts_of schema class text.parts >>= λ parts. act_of schema class text.act >>= λ act. Ok (drafted text parts act)

  drafts_agree : (class : ℕ) → Agree
      ((extent_if schema (Require class) text.parts.require ++ (reaction_extent schema (Obviate class) text.parts.obviate ++ (reaction_extent schema (Retrigger class) text.parts.retrigger ++ extent_if schema (Revalidate class) text.parts.revalidate))) ++ act_extent schema class text.act)
      ((faults_if schema (Require class) text.parts.require ++ (reaction_faults schema (Obviate class) text.parts.obviate ++ (reaction_faults schema (Retrigger class) text.parts.retrigger ++ faults_if schema (Revalidate class) text.parts.revalidate))) ++ act_faults schema class text.act)
      (IsSame text) (drafts_of class)
  unfolding drafts_of
  drafts_agree class =
      agree_then (extent_if schema (Require class) text.parts.require ++ (reaction_extent schema (Obviate class) text.parts.obviate ++ (reaction_extent schema (Retrigger class) text.parts.retrigger ++ extent_if schema (Revalidate class) text.parts.revalidate))) (act_extent schema class text.act)
      (faults_if schema (Require class) text.parts.require ++ (reaction_faults schema (Obviate class) text.parts.obviate ++ (reaction_faults schema (Retrigger class) text.parts.retrigger ++ faults_if schema (Revalidate class) text.parts.revalidate))) (act_faults schema class text.act)
      (λ (p : Parts Code). IsOf schema sf text.parts.obviate p.obviate × IsOf schema sf text.parts.retrigger p.retrigger) (IsSame text) (parts_of schema class text.parts) _ (parts_agree schema sf class text.parts)
      (λ parts same. agree_last (act_extent schema class text.act) (act_faults schema class text.act) IsAny (IsSame text) (act_of schema class text.act) _ (act_agrees schema sf class text.act)
      (λ act any. (refl, same_spelled text parts act same.0 same.1)))

  class_agrees : (class : ℕ) → Agree (extents_of_class schema text (Some class)) (faults_of_class schema text (Some class)) IsAny (drafts_of class >>= λ draft. ok_or (if_spelled draft) (At Unknown text.header.on))
  class_agrees class =
      let places = (extent_if schema (Require class) text.parts.require ++ (reaction_extent schema (Obviate class) text.parts.obviate ++ (reaction_extent schema (Retrigger class) text.parts.retrigger ++ extent_if schema (Revalidate class) text.parts.revalidate))) ++ act_extent schema class text.act in
      let faults = (faults_if schema (Require class) text.parts.require ++ (reaction_faults schema (Obviate class) text.parts.obviate ++ (reaction_faults schema (Retrigger class) text.parts.retrigger ++ faults_if schema (Revalidate class) text.parts.revalidate))) ++ act_faults schema class text.act in
      let r = drafts_of class >>= λ draft. ok_or (if_spelled draft) (At Unknown text.header.on) in
      subst (λ l. Agree l (faults_of_class schema text (Some class)) IsAny r) (append-nil places ∙ four_on (extent_if schema (Require class) text.parts.require) (reaction_extent schema (Obviate class) text.parts.obviate) (reaction_extent schema (Retrigger class) text.parts.retrigger) (extent_if schema (Revalidate class) text.parts.revalidate) (act_extent schema class text.act))
      (subst (λ l. Agree (places ++ []) l IsAny r) (five_on (faults_if schema (Require class) text.parts.require) (reaction_faults schema (Obviate class) text.parts.obviate) (reaction_faults schema (Retrigger class) text.parts.retrigger) (faults_if schema (Revalidate class) text.parts.revalidate) (act_faults schema class text.act) (spelling_faults text))
      (agree_then places [] faults (spelling_faults text) (IsSame text) IsAny (drafts_of class) _ (drafts_agree class) (λ draft same. spelled_agrees text draft same)))

  pub source_judged : AreJudged (extents schema text) (source_faults schema text) (compiled schema text)
  unfolding compiled draft_of source_faults drafts_of
  source_judged = agree_judged (extents schema text) (source_faults schema text) (compiled schema text) (by_class (class_named schema text.header.class))
    where
      by_class : (o : Option ℕ) → Agree (extents_of_class schema text o) (faults_of_class schema text o) IsAny ((ok_or o (At Unknown text.header.on) >>= drafts_of) >>= λ draft. ok_or (if_spelled draft) (At Unknown text.header.on))
      by_class None = inl refl
      by_class (Some class) = class_agrees class

  -- where there is no fault, the code of a part is too large
  pub clean_judged : (fault : CompileFault) → source_faults schema text ≡ [] → compiled schema text ≡ Err fault → IsTooLarge fault (extents schema text)
  clean_judged fault none refused =
      by_fault (subst (λ faults. AreJudged {X = SourceDraft Code} (extents schema text) faults (Err fault)) none (subst (AreJudged (extents schema text) (source_faults schema text)) refused source_judged))
    where
      by_fault : ⊥ ⊎ IsTooLarge fault (extents schema text) → IsTooLarge fault (extents schema text)
      by_fault (inl never) = absurd never
      by_fault (inr large) = large

  -- where each part fits, no code is too large
  none_large : (fault : CompileFault) (parts : List Extent) → list_all (λ (e : Extent). e.fits) parts ≡ true → IsTooLarge fault parts → ⊥
  none_large fault [] all large = large
  none_large fault (e ∷ es) all (inl large) = let one = and_first e.fits (list_all (λ (e : Extent). e.fits) es) all in let other = large.1 in cc
  none_large fault (e ∷ es) all (inr large) = none_large fault es (and_second e.fits (list_all (λ (e : Extent). e.fits) es) all) large

  -- and what has no fault compiles
  pub whole_judged : source_faults schema text ≡ [] → all_fit schema text ≡ true → is_ok (compiled schema text) ≡ true
  whole_judged none all = by_answer (compiled schema text) refl
    where
      by_answer : (r : Result (SourceDraft Code) CompileFault) → compiled schema text ≡ r → is_ok r ≡ true
      by_answer (Ok draft) is = refl
      by_answer (Err fault) is = absurd (none_large fault (extents schema text) all (clean_judged fault none is))
