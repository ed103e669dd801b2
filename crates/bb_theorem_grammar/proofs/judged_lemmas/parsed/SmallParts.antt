-- Of a source that contains only what codes can hold, the parts that fit are those that are small.
use Rattle.std.proofs.Common.{◌≡◌, ◌⊎◌, inl, inr, ℕ, Bool, true, ◌&&◌, List, [], ◌∷◌, ◌++◌, Option, Some, None, Ok, refl, sym, subst, ap, ◌∙◌}
use Rattle.std.specs.Prelude.{map, is_ok}
use Rattle.std.specs.List.{list_all}
use Rattle.std.proofs.lemmas.Bool.{and_from}
use Rattle.std.proofs.lemmas.List.{map-append}
use Rattle.std.proofs.lemmas.List.Folds.{list_all-append}
use Rattle.bb_basis.proofs.BoolLemmas.{and_first, and_second, and_true}
use Rattle.bb_code.specs.Code.{Code}
use Rattle.bb_schema.specs.Fits.{Fits}
use Rattle.bb_schema.specs.Schema.{Schema, class_named}
use Rattle.bb_verify_effect.specs.declared.part.Part.{Part}
use Rattle.bb_verify_effect.specs.declared.part.Part.TheVariants.{Require, Obviate, Retrigger, Revalidate, Do}
use Rattle.bb_lang.specs.ActText.{ActText}
use Rattle.bb_lang.specs.ActText.TheVariants as acts
use Rattle.bb_lang.specs.PartText.{PartText}
use Rattle.bb_lang.specs.ReactionText.{ReactionText}
use Rattle.bb_lang.specs.SourceText.{SourceText}
use Rattle.bb_bundle.specs.declared.draft.SourceDraft.{SourceDraft}
use Rattle.bb_compile_buffer.specs.Within.{two_bytes}
use Rattle.bb_compile.specs.Compiled.{compiled}
use Rattle.bb_compile_scope.specs.declared.fault.CompileFault.{CompileFault}
use Rattle.bb_theorem_grammar.specs.judged.Fitting.{are_few, fits}
use Rattle.bb_theorem_grammar.specs.judged.Held.{part_held, statements_held, text_held, reaction_held, act_held, source_held}
use Rattle.bb_theorem_grammar.specs.judged.Judgement.{IsFirst}
use Rattle.bb_theorem_grammar.specs.judged.Names.{begin_with}
use Rattle.bb_theorem_grammar.specs.judged.Small.{PartAt, is_small, part_if, events_part, reaction_part, act_part, parts_of_class, parts_of, all_small, IsLarge, IsJudgedAsRead}
use Rattle.bb_theorem_grammar.specs.judged.Sources.{Extent, extent_if, events_extent, reaction_extent, act_extent, extents_of_class, extents, all_fit, source_faults, IsTooLarge, AreJudged}
use Rattle.bb_theorem_grammar.specs.judged.Sums.{part_sums, statements_have_room}
use Rattle.bb_theorem_grammar.proofs.judged_lemmas.within.WithinSchema.{InTwoBytes, class_in}

-- ---- parts that contain only what codes can hold

abbrev is_held : PartAt → Bool
is_held p = part_held p.part && statements_held p.block

abbrev AllHeld : List PartAt → Type 0
AllHeld ps = list_all is_held ps ≡ true

both_held : (ps qs : List PartAt) → AllHeld ps → AllHeld qs → AllHeld (ps ++ qs)
both_held ps qs one two = list_all-append is_held ps qs ∙ and_from (list_all is_held ps) (list_all is_held qs) one two

one_held : (p : PartAt) → part_held p.part ≡ true → statements_held p.block ≡ true → AllHeld (p ∷ [])
one_held p known held = and_from (is_held p) true (and_from (part_held p.part) (statements_held p.block) known held) refl

module _ (schema : Schema) where
  abbrev extent_at : PartAt → Extent
  extent_at p = record { start = p.start; fits = fits schema p.part p.block }

  fits_small : (p : PartAt) → is_held p ≡ true → fits schema p.part p.block ≡ is_small schema p
  unfolding fits
  fits_small p held =
      let few = are_few (part_sums schema p.part p.block) in
      let room = statements_have_room schema (begin_with p.part) p.block in
      ap (λ b. few && (room && b)) held ∙ ap (λ b. few && b) (and_true room)

  -- so the sums alone decide
  all_small_of : (ps : List PartAt) → AllHeld ps → list_all (λ (e : Extent). e.fits) (map extent_at ps) ≡ list_all (is_small schema) ps
  all_small_of [] held = refl
  all_small_of (p ∷ ps) held =
      ap (λ b. b && list_all (λ (e : Extent). e.fits) (map extent_at ps)) (fits_small p (and_first (is_held p) (list_all is_held ps) held))
      ∙ ap (λ b. is_small schema p && b) (all_small_of ps (and_second (is_held p) (list_all is_held ps) held))

  large_of : (fault : CompileFault) (ps : List PartAt) → AllHeld ps → IsTooLarge fault (map extent_at ps) → IsLarge schema fault ps
  large_of fault [] held large = large
  large_of fault (p ∷ ps) held (inl large) = inl (large.0, sym (fits_small p (and_first (is_held p) (list_all is_held ps) held)) ∙ large.1)
  large_of fault (p ∷ ps) held (inr large) = inr (large_of fault ps (and_second (is_held p) (list_all is_held ps) held) large)

  -- ---- the parts of a source

  part_extent : (part : Part) (text : Option PartText) → extent_if schema part text ≡ map extent_at (part_if part text)
  part_extent part None = refl
  part_extent part (Some text) = refl

  events_at : (part : (of : ℕ) → Part) (text : ReactionText) (of : Option ℕ) → events_extent schema part text of ≡ map extent_at (events_part part text of)
  events_at part text None = refl
  events_at part text (Some of) = refl

  reaction_at : (part : (of : ℕ) → Part) (text : Option ReactionText) → reaction_extent schema part text ≡ map extent_at (reaction_part schema part text)
  reaction_at part None = refl
  reaction_at part (Some text) = events_at part text (class_named schema text.class)

  act_at : (class : ℕ) (text : ActText) → act_extent schema class text ≡ map extent_at (act_part class text)
  act_at class acts.Native = refl
  act_at class (acts.Do text) = refl

  both_at : (es fs : List Extent) (ps qs : List PartAt) → es ≡ map extent_at ps → fs ≡ map extent_at qs → es ++ fs ≡ map extent_at (ps ++ qs)
  both_at es fs ps qs one two = ap (λ l. l ++ fs) one ∙ ap (λ l. map extent_at ps ++ l) two ∙ sym (map-append extent_at ps qs)

  class_at : (text : SourceText) (of : Option ℕ) → extents_of_class schema text of ≡ map extent_at (parts_of_class schema text of)
  class_at text None = refl
  class_at text (Some class) =
      let d = part_if (Revalidate class) text.parts.revalidate ++ act_part class text.act in
      let ds = extent_if schema (Revalidate class) text.parts.revalidate ++ act_extent schema class text.act in
      let c = reaction_part schema (Retrigger class) text.parts.retrigger in
      let cs = reaction_extent schema (Retrigger class) text.parts.retrigger in
      let b = reaction_part schema (Obviate class) text.parts.obviate in
      let bs = reaction_extent schema (Obviate class) text.parts.obviate in
      both_at (extent_if schema (Require class) text.parts.require) (bs ++ (cs ++ ds)) (part_if (Require class) text.parts.require) (b ++ (c ++ d)) (part_extent (Require class) text.parts.require)
      (both_at bs (cs ++ ds) b (c ++ d) (reaction_at (Obviate class) text.parts.obviate)
      (both_at cs ds c d (reaction_at (Retrigger class) text.parts.retrigger)
      (both_at (extent_if schema (Revalidate class) text.parts.revalidate) (act_extent schema class text.act) (part_if (Revalidate class) text.parts.revalidate) (act_part class text.act)
      (part_extent (Revalidate class) text.parts.revalidate) (act_at class text.act))))

module _ (schema : Schema) (sf : Fits schema) where
  class_small : (name : List ℕ) (class : ℕ) → class_named schema name ≡ Some class → two_bytes class ≡ true
  class_small name class named = subst InTwoBytes named (class_in schema sf name)

  part_known : (part : Part) (text : Option PartText) → part_held part ≡ true → text_held text ≡ true → AllHeld (part_if part text)
  part_known part None known held = refl
  part_known part (Some text) known held = one_held (record { part = part; start = text.place; block = text.block }) known held

  reaction_known : (part : (of : ℕ) → Part) → ((of : ℕ) → two_bytes of ≡ true → part_held (part of) ≡ true) → (text : Option ReactionText) → reaction_held text ≡ true → AllHeld (reaction_part schema part text)
  reaction_known part known None held = refl
  reaction_known part known (Some text) held = by_class (class_named schema text.class) refl
    where
      by_class : (o : Option ℕ) → class_named schema text.class ≡ o → AllHeld (events_part part text o)
      by_class None named = refl
      by_class (Some of) named = one_held (record { part = part of; start = text.place; block = text.block }) (known of (class_small text.class of named)) held

  act_known : (class : ℕ) (text : ActText) → two_bytes class ≡ true → act_held text ≡ true → AllHeld (act_part class text)
  act_known class acts.Native small held = refl
  act_known class (acts.Do text) small held = one_held (record { part = Do class; start = text.place; block = text.block }) small held

  parts_known : (text : SourceText) → source_held text ≡ true → AllHeld (parts_of schema text)
  parts_known text held = by_class (class_named schema text.header.class) refl
    where
      by_class : (o : Option ℕ) → class_named schema text.header.class ≡ o → AllHeld (parts_of_class schema text o)
      by_class None named = refl
      by_class (Some class) named =
          let small = class_small text.header.class class named in
          let a = text_held text.parts.require in
          let b = reaction_held text.parts.obviate in
          let c = reaction_held text.parts.retrigger in
          let d = text_held text.parts.revalidate in
          let e = act_held text.act in
          let h1 = and_second a (b && (c && (d && e))) held in
          let h2 = and_second b (c && (d && e)) h1 in
          let h3 = and_second c (d && e) h2 in
          let es = act_part class text.act in
          let ds = part_if (Revalidate class) text.parts.revalidate in
          let cs = reaction_part schema (Retrigger class) text.parts.retrigger in
          let bs = reaction_part schema (Obviate class) text.parts.obviate in
          both_held (part_if (Require class) text.parts.require) (bs ++ (cs ++ (ds ++ es))) (part_known (Require class) text.parts.require small (and_first a (b && (c && (d && e))) held))
          (both_held bs (cs ++ (ds ++ es)) (reaction_known (Obviate class) (λ of n. and_from (two_bytes class) (two_bytes of) small n) text.parts.obviate (and_first b (c && (d && e)) h1))
          (both_held cs (ds ++ es) (reaction_known (Retrigger class) (λ of n. and_from (two_bytes class) (two_bytes of) small n) text.parts.retrigger (and_first c (d && e) h2))
          (both_held ds es (part_known (Revalidate class) text.parts.revalidate small (and_first d e h3)) (act_known class text.act small (and_second d e h3)))))

  -- ---- the judgement of a source

  module _ (text : SourceText) (held : source_held text ≡ true) where
    fit_small : all_fit schema text ≡ all_small schema text
    fit_small =
        ap (λ es. list_all (λ (e : Extent). e.fits) es) (class_at schema text (class_named schema text.header.class))
        ∙ all_small_of schema (parts_of schema text) (parts_known text held)

    refused_large : (fault : CompileFault) → IsFirst fault (source_faults schema text) ⊎ IsTooLarge fault (extents schema text) → IsFirst fault (source_faults schema text) ⊎ IsLarge schema fault (parts_of schema text)
    refused_large fault (inl first) = inl first
    refused_large fault (inr large) =
        inr (large_of schema fault (parts_of schema text) (parts_known text held) (subst (IsTooLarge fault) (class_at schema text (class_named schema text.header.class)) large))

    pub judged_as_read : AreJudged (extents schema text) (source_faults schema text) (compiled schema text)
        → (source_faults schema text ≡ [] → all_fit schema text ≡ true → is_ok (compiled schema text) ≡ true)
        → ((draft : SourceDraft Code) → compiled schema text ≡ Ok draft → all_fit schema text ≡ true)
        → IsJudgedAsRead schema text
    judged_as_read judged whole fitting = record {
      compiles = λ none small. whole none (fit_small ∙ small);
      clean = λ draft is. subst (AreJudged {X = SourceDraft Code} (extents schema text) (source_faults schema text)) is judged;
      small = λ draft is. sym fit_small ∙ fitting draft is;
      refused = λ fault is. refused_large fault (subst (AreJudged {X = SourceDraft Code} (extents schema text) (source_faults schema text)) is judged);
    }
