-- The verifier refuses no source that is text: its codes are accepted.
use Rattle.std.proofs.Common.{◌≡◌, ◌⊎◌, inl, inr, ℕ, zero, suc, List, [], ◌∷◌, ◌++◌, slice_get, Option, Some, None, option_map, Result, Ok, Err, refl, sym, ap, subst, ◌∙◌}
use Rattle.std.specs.Prelude.{IfSome}
use Rattle.bb_basis.specs.Results.{◌>>=◌, map_err, try_map}
use Rattle.bb_basis.proofs.MadeLemmas.{try_map-from}
use Rattle.bb_basis.proofs.PlacedLemmas.{map_err_ok}
use Rattle.bb_basis.proofs.ResultLemmas.{bind_ok, ok_or_ok, same_ok}
use Rattle.bb_schema.specs.Schema.{Schema, class_named}
use Rattle.bb_code.specs.Code.{Code}
use Rattle.bb_verify.specs.Accepted.{Checked}
use Rattle.bb_code.specs.declared.flaw.VerifyFault.{VerifyFault}
use Rattle.bb_verify.specs.PartType.{Part}
use Rattle.bb_verify.specs.PartType.TheVariants.{Require, Obviate, Retrigger, Revalidate, Do}
use Rattle.bb_lang.specs.Sources.{sources_of as trees_of}
use Rattle.bb_lang.specs.SourceText.{SourceText}
use Rattle.bb_compile.specs.Compiled.{compiled}
use Rattle.bb_bundle.specs.Bundle.{sources_of}
use Rattle.bb_bundle.specs.declared.draft.ActDraft.{ActDraft}
use Rattle.bb_bundle.specs.declared.draft.ActDraft.TheVariants as drafts
use Rattle.bb_bundle.specs.declared.draft.Parts.{Parts}
use Rattle.bb_bundle.specs.declared.draft.ReactionDraft.{ReactionDraft}
use Rattle.bb_bundle.specs.declared.draft.SourceDraft.{SourceDraft}
use Rattle.bb_rules.specs.declared.fault.RuleFault.TheVariants as rules
use Rattle.bb_rules.specs.declared.place.ClassPlace.{ClassPlace}
use Rattle.bb_rules.specs.declared.place.ClassPlace.TheVariants as places
use Rattle.bb_rules.specs.declared.resolve.Classes.{Classes}
use Rattle.bb_rules.specs.Source.{class_of, classes_of, obviate_part, reaction_class, retrigger_part, source_of}
use Rattle.bb_shell.specs.InputFault.{InputFault}
use Rattle.bb_shell.specs.InputFault.TheVariants as inputs
use Rattle.bb_shell.specs.Accepting.{accepted_act, accepted_code, accepted_draft, accepted_part, accepted_parts, accepted_reaction, accepted_source, in_source}
use Rattle.bb_shell.specs.Fitting.{fitted}
use Rattle.bb_shell.proofs.Laws.{fits_or_not}
use Rattle.bb_shell.specs.Sources.{codes_in, compiled_source, compiled_text, given, in_input, resolved_source, sources_for}
use Rattle.bb_theorem_meaning.specs.Sources.{AreAccepted, IsAccepted, IsAcceptedAct, IsAcceptedFor}
use Rattle.bb_theorem_texts.specs.Texts.{IsRefusedInBundle}
use Rattle.bb_theorem_texts.proofs.GivenLemmas.{AreClasses, classes_are, codes_given}

-- ---- where a fault comes from

bind_err : {A B E : Type 0} (r : Result A E) (f : A → Result B E) (e : E) → (r >>= f) ≡ Err e → (r ≡ Err e) ⊎ ((x : A) × (r ≡ Ok x) × (f x ≡ Err e))
bind_err (Ok x) f e h = inr (x, refl, h)
bind_err (Err d) f e h = inl (let same : d ≡ e = cc in ap (λ z. Err z) same)

mapped : {X E F : Type 0} (f : E → F) (r : Result X E) (e : F) → map_err f r ≡ Err e → (d : E) × (f d ≡ e)
mapped f (Ok x) e h = absurd cc
mapped f (Err d) e h = (d, let same : f d ≡ e = cc in same)

-- the item that f refuses
refused_at : {A X E : Type 0} (f : A → Result X E) (items : List A) (e : E) → try_map f items ≡ Err e → (i : ℕ) × (a : A) × (slice_get items i ≡ Some a) × (f a ≡ Err e)
unfolding try_map
refused_at f [] e h = absurd cc
refused_at f (a ∷ more) e h =
    elim (bind_err (f a) (λ first. try_map f more >>= λ others. Ok (first ∷ others)) e h) [
      | inl here ↦ (0, a, refl, here)
      | inr later ↦ elim (bind_err (try_map f more) (λ others. Ok (later.0 ∷ others)) e later.2) [
        | inl there ↦ let r = refused_at f more e there in (suc r.0, r.1, r.2, r.3)
        | inr none ↦ absurd (let no : Ok (later.0 ∷ none.0) ≡ Err e = none.2 in cc)
      ]
    ]

-- an item of two lists is one of the first or of the second
of_two : {A : Type 0} (xs ys : List A) (i : ℕ) (a : A) → slice_get (xs ++ ys) i ≡ Some a → (slice_get xs i ≡ Some a) ⊎ ((j : ℕ) × (slice_get ys j ≡ Some a))
of_two [] ys i a h = inr (i, h)
of_two (x ∷ xs) ys zero a h = inl h
of_two (x ∷ xs) ys (suc i) a h = of_two xs ys i a h

bind_is : {A B E : Type 0} (r : Result A E) (f : A → Result B E) (x : A) (z : Result B E) → r ≡ Ok x → f x ≡ z → (r >>= f) ≡ z
bind_is r f x z is then = ap (λ q. q >>= f) is ∙ then

module _ (s : Schema) where
  -- ---- codes that are accepted

  code_passes : (part : Part) (code : Code) → IsAccepted s part code → (c : Checked) × (accepted_code s part code ≡ Ok c)
  code_passes part code is = (record { code = code; part = part; frames = is.0 }, ap (map_err _) is.1)

  part_passes : (part : Part) (code : Option Code) → IfSome code (IsAccepted s part) → (made : Option Checked) × (accepted_part s part code ≡ Ok made)
  part_passes part None is = (None, refl)
  part_passes part (Some code) is =
      let c = code_passes part code is in
      (Some c.0, bind_is (accepted_code s part code) (λ d. Ok (Some d)) c.0 (Ok (Some c.0)) c.1 refl)

  reaction_passes : (place : ClassPlace) (part : ℕ → Part) (draft : Option (ReactionDraft Code)) (of : Option ℕ) → reaction_class s place draft ≡ Ok of → IfSome draft (IsAcceptedFor s part)
      → (made : Option (ReactionDraft Checked)) × (accepted_reaction s (option_map part of) draft ≡ Ok made)
  reaction_passes place part None None found is = (None, refl)
  reaction_passes place part None (Some class) found is = (None, refl)
  reaction_passes place part (Some draft) None found is = (None, refl)
  reaction_passes place part (Some draft) (Some class) found is =
      let one = bind_ok (class_of s place draft.class) (λ c. Ok (Some c)) (Some class) found in
      let named : class_named s draft.class ≡ Some one.0 = ok_or_ok (rules.Class place) (class_named s draft.class) one.0 one.1 in
      let first : one.0 ≡ class = let some : Some one.0 ≡ Some class = same_ok (Some one.0) (Some class) one.2 in cc in
      let second : is.0 ≡ one.0 = let some : Some is.0 ≡ Some one.0 = sym is.1 ∙ named in cc in
      let c = code_passes (part class) draft.code (subst (λ n. IsAccepted s (part n) draft.code) (second ∙ first) is.2) in
      let made : ReactionDraft Checked = record { class = draft.class; clauses = draft.clauses; code = c.0 } in
      (Some made, bind_is (accepted_code s (part class) draft.code) (λ d. Ok (Some (record { class = draft.class; clauses = draft.clauses; code = d }))) c.0 (Ok (Some made)) c.1 refl)

  act_passes : (class : ℕ) (act : ActDraft Code) → IsAcceptedAct s class act → (made : ActDraft Checked) × (accepted_act s (Do class) act ≡ Ok made)
  act_passes class drafts.Native is = (drafts.Native, refl)
  act_passes class (drafts.Do code) is =
      let c = code_passes (Do class) code is in
      (drafts.Do c.0, bind_is (accepted_code s (Do class) code) (λ d. Ok (drafts.Do d)) c.0 (Ok (drafts.Do c.0)) c.1 refl)

  draft_passes : (c : Classes) (draft : SourceDraft Code) → AreClasses s draft c → AreAccepted s draft → (made : SourceDraft Checked) × (accepted_draft s c draft ≡ Ok made)
  unfolding accepted_draft accepted_parts
  draft_passes c draft classes are =
      let own : are.class ≡ c.own = let some : Some are.class ≡ Some c.own = sym are.named ∙ classes.own in cc in
      let p = draft.parts in
      let r = part_passes (Require c.own) p.require (subst (λ n. IfSome p.require (IsAccepted s (Require n))) own are.require) in
      let o = reaction_passes places.Obviate (Obviate c.own) p.obviate c.obviated classes.obviated (subst (λ n. IfSome p.obviate (IsAcceptedFor s (Obviate n))) own are.obviate) in
      let t = reaction_passes places.Retrigger (Retrigger c.own) p.retrigger c.retriggered classes.retriggered (subst (λ n. IfSome p.retrigger (IsAcceptedFor s (Retrigger n))) own are.retrigger) in
      let v = part_passes (Revalidate c.own) p.revalidate (subst (λ n. IfSome p.revalidate (IsAccepted s (Revalidate n))) own are.revalidate) in
      let a = act_passes c.own draft.act (subst (λ n. IsAcceptedAct s n draft.act) own are.act) in
      let obviate = accepted_reaction s (obviate_part c) p.obviate in
      let retrigger = accepted_reaction s (retrigger_part c) p.retrigger in
      let revalidate = accepted_part s (Revalidate c.own) p.revalidate in
      let parts : Option Checked → Option (ReactionDraft Checked) → Option (ReactionDraft Checked) → Option Checked → Parts Checked =
      λ x y z w. record { require = x; obviate = y; retrigger = z; revalidate = w } in
      let whole : Parts Checked → ActDraft Checked → SourceDraft Checked = λ q b. record { header = draft.header; parts = q; act = b } in
      let made = parts r.0 o.0 t.0 v.0 in
      let passed : accepted_parts s c p ≡ Ok made =
      bind_is (accepted_part s (Require c.own) p.require) (λ x. obviate >>= λ y. retrigger >>= λ z. revalidate >>= λ w. Ok (parts x y z w)) r.0 (Ok made) r.1
      (bind_is obviate (λ y. retrigger >>= λ z. revalidate >>= λ w. Ok (parts r.0 y z w)) o.0 (Ok made) o.1
      (bind_is retrigger (λ z. revalidate >>= λ w. Ok (parts r.0 o.0 z w)) t.0 (Ok made) t.1
      (bind_is revalidate (λ w. Ok (parts r.0 o.0 t.0 w)) v.0 (Ok made) v.1 refl))) in (
        whole made a.0,
        bind_is (accepted_parts s c p) (λ q. accepted_act s (Do c.own) draft.act >>= λ b. Ok (whole q b)) made (Ok (whole made a.0)) passed
            (bind_is (accepted_act s (Do c.own) draft.act) (λ b. Ok (whole made b)) a.0 (Ok (whole made a.0)) a.1 refl),
      )

  -- ---- a source whose codes are accepted is not refused for one

  not_refused : (draft : SourceDraft Code) (name : List ℕ) (part : Part) (fault : VerifyFault) → AreAccepted s draft → accepted_source s draft ≡ Err (inputs.Verify name part fault) → ⊥
  not_refused draft name part fault are h =
      elim (bind_err (map_err (inputs.Rule draft.header.name) (classes_of s draft)) (λ c. map_err (in_source draft.header.name) (accepted_draft s c draft)) (inputs.Verify name part fault) h) [
        | inl classes ↦ let rule = mapped (inputs.Rule draft.header.name) (classes_of s draft) (inputs.Verify name part fault) classes in absurd (let no : inputs.Rule draft.header.name rule.0 ≡ inputs.Verify name part fault = rule.1 in cc)
        | inr found ↦
            let c = found.0 in
            let are_classes = classes_are s draft c (map_err_ok (inputs.Rule draft.header.name) (classes_of s draft) c found.1) in
            let made = draft_passes c draft are_classes are in
            let ok : Ok made.0 ≡ Err (inputs.Verify name part fault) = sym (ap (map_err (in_source draft.header.name)) made.1) ∙ found.2 in
            absurd cc
      ]

  -- ---- the sources of both texts

  abbrev verdict : (name : List ℕ) (part : Part) (fault : VerifyFault) → InputFault
  verdict name part fault = inputs.Verify name part fault

  -- the text of the sources, or the bundle, is refused by another fault
  codes_pass : (sources bundle name : List ℕ) (part : Part) (fault : VerifyFault) → codes_in s sources bundle ≡ Err (verdict name part fault) → ⊥
  unfolding codes_in compiled_text
  codes_pass sources bundle name part fault h =
      elim (bind_err (compiled_text s sources) (λ cs. map_err inputs.Bundle (sources_of bundle) >>= λ bs. Ok (cs ++ bs)) (verdict name part fault) h) [
        | inl texts ↦ elim (bind_err (map_err inputs.Lang (trees_of sources)) (try_map (compiled_source s)) (verdict name part fault) texts) [
          | inl read ↦ let lang = mapped inputs.Lang (trees_of sources) (verdict name part fault) read in absurd (let no : inputs.Lang lang.0 ≡ inputs.Verify name part fault = lang.1 in cc)
          | inr trees ↦
              let one = refused_at (compiled_source s) trees.0 (verdict name part fault) trees.2 in
              let text = one.1 in
              let flaw = mapped (inputs.Compile text.header.name) (compiled s text) (verdict name part fault) one.3 in
              absurd (let no : inputs.Compile text.header.name flaw.0 ≡ inputs.Verify name part fault = flaw.1 in cc)
        ]
        | inr found ↦ elim (bind_err (map_err inputs.Bundle (sources_of bundle)) (λ bs. Ok (found.0 ++ bs)) (verdict name part fault) found.2) [
          | inl read ↦ let flaw = mapped inputs.Bundle (sources_of bundle) (verdict name part fault) read in absurd (let no : inputs.Bundle flaw.0 ≡ inputs.Verify name part fault = flaw.1 in cc)
          | inr all ↦ absurd (let no : Ok (found.0 ++ all.0) ≡ Err (verdict name part fault) = all.2 in cc)
        ]
      ]

  -- so it is refused where its codes are accepted
  refused_code : (natives : List (List ℕ)) (codes : List (SourceDraft Code)) (name : List ℕ) (part : Part) (fault : VerifyFault) → sources_for natives s codes ≡ Err (verdict name part fault)
      → (i : ℕ) × (draft : SourceDraft Code) × (slice_get codes i ≡ Some draft) × (accepted_source s draft ≡ Err (verdict name part fault))
  unfolding sources_for
  refused_code natives codes name part fault h =
      elim (bind_err (try_map (accepted_source s) codes) (λ ds. try_map (resolved_source s) ds >>= λ rs. map_err in_input (fitted natives rs)) (verdict name part fault) h) [
        | inl accepted' ↦ refused_at (accepted_source s) codes (verdict name part fault) accepted'
        | inr found ↦ elim (bind_err (try_map (resolved_source s) found.0) (λ rs. map_err in_input (fitted natives rs)) (verdict name part fault) found.2) [
          | inl resolved ↦
              let one = refused_at (resolved_source s) found.0 (verdict name part fault) resolved in
              let d = one.1 in
              let flaw = mapped (inputs.Rule d.header.name) (source_of s d) (verdict name part fault) one.3 in
              absurd (let no : inputs.Rule d.header.name flaw.0 ≡ inputs.Verify name part fault = flaw.1 in cc)
          | inr all ↦ absurd (fits_or_not (fitted natives all.0) name part fault all.2)
        ]
      ]

  pub refused_in_bundle : (natives : List (List ℕ)) (sources bundle name : List ℕ) (part : Part) (fault : VerifyFault) → ((text : SourceText) (draft : SourceDraft Code) → compiled s text ≡ Ok draft → AreAccepted s draft)
      → given natives s sources bundle ≡ Err (verdict name part fault) → IsRefusedInBundle s bundle (verdict name part fault)
  unfolding given
  refused_in_bundle natives sources bundle name part fault passes h =
      elim (bind_err (codes_in s sources bundle) (sources_for natives s) (verdict name part fault) h) [
        | inl codes ↦ absurd (codes_pass sources bundle name part fault codes)
        | inr found ↦
            let g = codes_given s sources bundle found.0 found.1 in
            let one = refused_code natives found.0 name part fault found.2 in
            let at : slice_get (g.compiled' ++ g.bundled) one.0 ≡ Some one.1 = ap (λ l. slice_get l one.0) g.all ∙ one.2 in
            elim (of_two g.compiled' g.bundled one.0 one.1 at) [
              | inl text ↦
                  let from = try_map-from (compiled_source s) g.trees g.compiled' one.0 one.1 g.each text in
                  absurd (not_refused one.1 name part fault (passes from.0 one.1 (map_err_ok (inputs.Compile from.0.header.name) (compiled s from.0) one.1 from.2)) one.3)
              | inr in_bundle ↦ record { sources = g.bundled; read = g.bundle_read; place = in_bundle.0; source = one.1; there = in_bundle.1; refused = one.3 }
            ]
      ]
