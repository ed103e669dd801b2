-- The parts of a source that compiles fit.
use Rattle.std.proofs.Common.{◌≡◌, ℕ, Bool, true, false, ◌&&◌, cond, List, ◌++◌, Option, Some, None, Ok, Err, refl, subst, sym, ◌∙◌}
use Rattle.std.specs.List.{list_all}
use Rattle.std.proofs.lemmas.Bool.{and_from}
use Rattle.std.proofs.lemmas.List.Folds.{list_all-append}
use Rattle.bb_basis.specs.Results.{◌>>=◌, ok_or}
use Rattle.bb_basis.proofs.BoolLemmas.{and_first, and_second}
use Rattle.bb_basis.proofs.ResultLemmas.{bind_ok, ok_or_ok}
use Rattle.bb_code.specs.Code.{Code}
use Rattle.bb_schema.specs.Fits.{Fits}
use Rattle.bb_schema.specs.Schema.{Schema, class_named}
use Rattle.bb_verify_effect.specs.declared.part.Part.{Part}
use Rattle.bb_verify_effect.specs.declared.part.Part.TheVariants.{Require, Obviate, Retrigger, Revalidate, Do}
use Rattle.bb_lang.specs.ActText.{ActText}
use Rattle.bb_lang.specs.ActText.TheVariants as acts
use Rattle.bb_lang.specs.Blocks.{BlockTree}
use Rattle.bb_lang.specs.PartText.{PartText}
use Rattle.bb_lang.specs.ReactionText.{ReactionText}
use Rattle.bb_lang.specs.SourceText.{SourceText}
use Rattle.bb_bundle.specs.Spelled.{if_spelled}
use Rattle.bb_bundle.specs.declared.draft.ActDraft.{ActDraft}
use Rattle.bb_bundle.specs.declared.draft.ActDraft.TheVariants as drafts
use Rattle.bb_bundle.specs.declared.draft.Parts.{Parts}
use Rattle.bb_bundle.specs.declared.draft.ReactionDraft.{ReactionDraft}
use Rattle.bb_bundle.specs.declared.draft.SourceDraft.{SourceDraft}
use Rattle.bb_compile_scope.specs.Ending.{block_ends}
use Rattle.bb_compile_scope.specs.Place.{Place}
use Rattle.bb_compile_scope.specs.declared.fault.CompileFault.TheVariants.{At}
use Rattle.bb_compile_scope.specs.declared.fault.TextFlaw.TheVariants.{Unknown, NoEnd}
use Rattle.bb_compile_buffer.specs.Within.{two_bytes}
use Rattle.bb_compile.specs.Parts.{part_code}
use Rattle.bb_compile.specs.Compiled.{class_on, class_of_events, part_of, reaction_of, reaction_if, act_of, parts_of, draft_of, compiled}
use Rattle.bb_theorem_grammar.specs.judged.Fitting.{fits}
use Rattle.bb_theorem_grammar.specs.judged.Held.{part_held, statements_held, text_held, reaction_held, act_held, source_held}
use Rattle.bb_theorem_grammar.specs.judged.Sources.{Extent, extent_of, extent_if, events_extent, reaction_extent, act_extent, extents_of_class, all_fit}
use Rattle.bb_theorem_grammar.proofs.judged_lemmas.exact.ExactParts.{code_fits}
use Rattle.bb_theorem_grammar.proofs.judged_lemmas.within.WithinSchema.{InTwoBytes, class_in}

abbrev AllFit : List Extent → Type 0
AllFit parts = list_all (λ (e : Extent). e.fits) parts ≡ true

both_fit : (ps qs : List Extent) → AllFit ps → AllFit qs → AllFit (ps ++ qs)
both_fit ps qs one two =
    list_all-append (λ (e : Extent). e.fits) ps qs ∙ and_from (list_all (λ (e : Extent). e.fits) ps) (list_all (λ (e : Extent). e.fits) qs) one two

module _ (schema : Schema) (sf : Fits schema) where
  code_fit : (part : Part) (start : Place) (b : BlockTree) (code : Code) → part_held part ≡ true → statements_held b ≡ true → part_code schema part start b ≡ Ok code → AllFit (extent_of schema part start b)
  code_fit part start b code known held made = and_from (fits schema part b) true (code_fits schema part start b known held code made) refl

  part_fits : (part : Part) (text : Option PartText) (made : Option Code) → part_held part ≡ true → text_held text ≡ true → part_of schema part text ≡ Ok made → AllFit (extent_if schema part text)
  part_fits part None made known held h = refl
  part_fits part (Some text) made known held h =
      let one = bind_ok (part_code schema part text.place text.block) (λ code. Ok (Some code)) made h in
      code_fit part text.place text.block one.0 known held one.1

  -- a class that is named has a small number
  class_small : (name : List ℕ) (class : ℕ) → class_named schema name ≡ Some class → two_bytes class ≡ true
  class_small name class named = subst InTwoBytes named (class_in schema sf name)

  events_named : (text : ReactionText) (of : ℕ) → class_of_events schema text ≡ Ok of → class_named schema text.class ≡ Some of
  events_named text of h = by_end (block_ends text.block) h
    where
      by_end : (b : Bool) → cond b (class_on schema text.class text.on) (Err (At NoEnd text.place)) ≡ Ok of → class_named schema text.class ≡ Some of
      by_end true h = ok_or_ok (At Unknown text.on) (class_named schema text.class) of h
      by_end false h = absurd cc

  reaction_fits : (part : (of : ℕ) → Part) → ((of : ℕ) → two_bytes of ≡ true → part_held (part of) ≡ true) → (text : Option ReactionText) (made : Option (ReactionDraft Code)) → reaction_held text ≡ true → reaction_if schema part text ≡ Ok made → AllFit (reaction_extent schema part text)
  unfolding reaction_of
  reaction_fits part known None made held h = refl
  reaction_fits part known (Some text) made held h =
      let one = bind_ok (class_of_events schema text) (λ of. reaction_of schema (part of) text >>= λ reaction. Ok (Some reaction)) made h in
      let of = one.0 in
      let named = events_named text of one.1 in
      let two = bind_ok (reaction_of schema (part of) text) (λ reaction. Ok (Some reaction)) made one.2 in
      let three = bind_ok (part_code schema (part of) text.place text.block) (λ code. Ok (record { class = text.class; clauses = text.clauses; code = code })) two.0 two.1 in
      subst (λ o. AllFit (events_extent schema part text o)) (sym named) (code_fit (part of) text.place text.block three.0 (known of (class_small text.class of named)) held three.1)

  act_fits : (class : ℕ) (text : ActText) (made : ActDraft Code) → two_bytes class ≡ true → act_held text ≡ true → act_of schema class text ≡ Ok made → AllFit (act_extent schema class text)
  act_fits class acts.Native made small held h = refl
  act_fits class (acts.Do text) made small held h =
      let one = bind_ok (part_code schema (Do class) text.place text.block) (λ code. Ok (drafts.Do code)) made h in
      code_fit (Do class) text.place text.block one.0 small held one.1

  -- ---- the source

  module _ (text : SourceText) (held : source_held text ≡ true) where
    class_fits : (class : ℕ) (parts : Parts Code) (act : ActDraft Code) → two_bytes class ≡ true → parts_of schema class text.parts ≡ Ok parts → act_of schema class text.act ≡ Ok act → AllFit (extents_of_class schema text (Some class))
    unfolding parts_of
    class_fits class parts act small made acts_made =
        let a = text_held text.parts.require in
        let b = reaction_held text.parts.obviate in
        let c = reaction_held text.parts.retrigger in
        let d = text_held text.parts.revalidate in
        let e = act_held text.act in
        let h1 = and_second a (b && (c && (d && e))) held in
        let h2 = and_second b (c && (d && e)) h1 in
        let h3 = and_second c (d && e) h2 in
        let one = bind_ok (part_of schema (Require class) text.parts.require) _ parts made in
        let two = bind_ok (reaction_if schema (Obviate class) text.parts.obviate) _ parts one.2 in
        let three = bind_ok (reaction_if schema (Retrigger class) text.parts.retrigger) _ parts two.2 in
        let four = bind_ok (part_of schema (Revalidate class) text.parts.revalidate) _ parts three.2 in
        let es = act_extent schema class text.act in
        let ds = extent_if schema (Revalidate class) text.parts.revalidate in
        let cs = reaction_extent schema (Retrigger class) text.parts.retrigger in
        let bs = reaction_extent schema (Obviate class) text.parts.obviate in
        both_fit (extent_if schema (Require class) text.parts.require) (bs ++ (cs ++ (ds ++ es))) (part_fits (Require class) text.parts.require one.0 small (and_first a (b && (c && (d && e))) held) one.1)
        (both_fit bs (cs ++ (ds ++ es)) (reaction_fits (Obviate class) (λ of n. and_from (two_bytes class) (two_bytes of) small n) text.parts.obviate two.0 (and_first b (c && (d && e)) h1) two.1)
        (both_fit cs (ds ++ es) (reaction_fits (Retrigger class) (λ of n. and_from (two_bytes class) (two_bytes of) small n) text.parts.retrigger three.0 (and_first c (d && e) h2) three.1)
        (both_fit ds es (part_fits (Revalidate class) text.parts.revalidate four.0 small (and_first d e h3) four.1)
        (act_fits class text.act act small (and_second d e h3) acts_made))))

    -- the parts of a source that compiles
    pub source_fits : (draft : SourceDraft Code) → compiled schema text ≡ Ok draft → all_fit schema text ≡ true
    unfolding compiled draft_of
    source_fits draft h =
        let one = bind_ok (draft_of schema text) (λ d. ok_or (if_spelled d) (At Unknown text.header.on)) draft h in
        let two = bind_ok (class_on schema text.header.class text.header.on) _ one.0 one.1 in
        let class = two.0 in
        let named = ok_or_ok (At Unknown text.header.on) (class_named schema text.header.class) class two.1 in
        let three = bind_ok (parts_of schema class text.parts) _ one.0 two.2 in
        let four = bind_ok (act_of schema class text.act) _ one.0 three.2 in
        subst (λ o. AllFit (extents_of_class schema text o)) (sym named) (class_fits class three.0 four.0 (class_small text.header.class class named) three.1 four.1)
