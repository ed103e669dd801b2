-- What the sources of an input are made of: each has the codes that its text or its bundle gives, at its place.
use Rattle.std.proofs.Common.{◌≡◌, ℕ, zero, suc, List, [], ◌∷◌, ◌++◌, slice_get, Option, Some, None, option_map, Result, Ok, refl, sym, ap, subst, ◌∙◌}
use Rattle.std.specs.List.{AllZip}
use Rattle.bb_basis.specs.Results.{◌>>=◌, map_err, try_map}
use Rattle.bb_basis.proofs.PlacedLemmas.{map_err_ok}
use Rattle.bb_basis.proofs.ResultLemmas.{bind_ok, ok_or_ok, same_ok}
use Rattle.bb_schema.specs.Schema.{Schema, class_named}
use Rattle.bb_code.specs.Code.{Code}
use Rattle.bb_verify.specs.Accepted.{Checked, accepted, checked}
use Rattle.bb_verify.specs.PartType.{Part}
use Rattle.bb_verify.specs.PartType.TheVariants.{Require, Obviate, Retrigger, Revalidate, Do}
use Rattle.bb_lang.specs.Sources.{sources_of as trees_of}
use Rattle.bb_lang.specs.SourceText.{SourceText}
use Rattle.bb_compile.specs.Compiled.{compiled}
use Rattle.bb_bundle.specs.Bundle.{sources_of}
use Rattle.bb_bundle.specs.declared.draft.ActDraft.{ActDraft}
use Rattle.bb_bundle.specs.declared.draft.ActDraft.TheVariants as drafts
use Rattle.bb_bundle.specs.declared.draft.Parts.{Parts}
use Rattle.bb_bundle.specs.declared.draft.ReactionDraft.{ReactionDraft}
use Rattle.bb_bundle.specs.declared.draft.SourceDraft.{SourceDraft}
use Rattle.bb_rules.specs.declared.clause.Clause.{Clause}
use Rattle.bb_rules.specs.declared.fault.RuleFault.TheVariants as rules
use Rattle.bb_rules.specs.declared.place.ClassPlace.{ClassPlace}
use Rattle.bb_rules.specs.declared.place.ClassPlace.TheVariants as places
use Rattle.bb_rules.specs.declared.place.ClauseList.{ClauseList}
use Rattle.bb_rules.specs.declared.place.ClauseList.TheVariants as lists
use Rattle.bb_rules.specs.declared.resolve.Classes.{Classes}
use Rattle.bb_rules.specs.declared.source.Reaction.{Reaction}
use Rattle.bb_rules.specs.Parts.{Source}
use Rattle.bb_rules.specs.Source.{act_of, class_of, classes_of, clauses_of, made_of, obviate_part, parts_fit, reaction_class, reaction_of, retrigger_part, source_of}
use Rattle.bb_shell.specs.InputFault.TheVariants as inputs
use Rattle.bb_shell.specs.Accepting.{accepted_act, accepted_code, accepted_draft, accepted_part, accepted_parts, accepted_reaction, accepted_source, in_source}
use Rattle.bb_shell.specs.Fitting.{fitted}
use Rattle.bb_shell.proofs.Laws.{fitted_same}
use Rattle.bb_shell.specs.Sources.{codes_in, compiled_source, compiled_text, given, in_input, resolved_source, sources_for}
use Rattle.bb_theorem_meaning.specs.Sources.{AreMeant, within_budget}
use Rattle.bb_theorem_texts.specs.Texts.{HasCodes, HasReaction, IsClause, RunsAt, act_in, code_in}
use Rattle.bb_theorem_texts.proofs.ClauseLemmas.{clauses_are}

-- ---- lists

-- what f gives of the item at an index stands at that index
pub try_map_to : {A X E : Type 0} (f : A → Result X E) (items : List A) (made : List X) (i : ℕ) (a : A) → try_map f items ≡ Ok made → slice_get items i ≡ Some a → (x : X) × (f a ≡ Ok x) × (slice_get made i ≡ Some x)
unfolding try_map
try_map_to f [] made i a h at = absurd cc
try_map_to f (b ∷ more) made zero a h at =
    let one = bind_ok (f b) (λ first. try_map f more >>= λ others. Ok (first ∷ others)) made h in
    let rest = bind_ok (try_map f more) (λ others. Ok (one.0 ∷ others)) made one.2 in
    let same : b ≡ a = cc in
    (one.0, subst (λ c. f c ≡ Ok one.0) same one.1, ap (λ ys. slice_get ys 0) (sym (same_ok (one.0 ∷ rest.0) made rest.2)))
try_map_to f (b ∷ more) made (suc i) a h at =
    let one = bind_ok (f b) (λ first. try_map f more >>= λ others. Ok (first ∷ others)) made h in
    let rest = bind_ok (try_map f more) (λ others. Ok (one.0 ∷ others)) made one.2 in
    let later = try_map_to f more rest.0 i a rest.1 at in
    (later.0, later.1, ap (λ ys. slice_get ys (suc i)) (sym (same_ok (one.0 ∷ rest.0) made rest.2)) ∙ later.2)

in_front : {A : Type 0} (xs ys : List A) (i : ℕ) (x : A) → slice_get xs i ≡ Some x → slice_get (xs ++ ys) i ≡ Some x
in_front [] ys i x h = absurd cc
in_front (y ∷ xs) ys zero x h = h
in_front (y ∷ xs) ys (suc i) x h = in_front xs ys i x h

-- ---- the codes of a source

-- a reaction with its code alone, without what its acceptance added
abbrev bare : ReactionDraft Checked → ReactionDraft Code
bare r = record { class = r.class; clauses = r.clauses; code = r.code.code }

abbrev drafted : Option (ReactionDraft Checked) → Option (ReactionDraft Code)
drafted reaction = option_map bare reaction

abbrev draft_act : ActDraft Checked → ActDraft Code
draft_act (drafts.Do c) = drafts.Do c.code
draft_act drafts.Native = drafts.Native

module _ (s : Schema) where
  -- the classes of a draft, and those of its reactions
  pub record AreClasses {C : Type 0} (draft : SourceDraft C) (c : Classes) : Type 0 where
    pub own : class_named s draft.header.class ≡ Some c.own
    pub obviated : reaction_class s places.Obviate draft.parts.obviate ≡ Ok c.obviated
    pub retriggered : reaction_class s places.Retrigger draft.parts.retrigger ≡ Ok c.retriggered

  pub classes_are : {C : Type 0} (draft : SourceDraft C) (c : Classes) → classes_of s draft ≡ Ok c → AreClasses draft c
  unfolding classes_of
  classes_are draft c h =
      let obviate = reaction_class s places.Obviate draft.parts.obviate in
      let retrigger = reaction_class s places.Retrigger draft.parts.retrigger in
      let whole : ℕ → Option ℕ → Option ℕ → Classes = λ w o r. record { own = w; obviated = o; retriggered = r } in
      let one = bind_ok (class_of s places.Source draft.header.class) (λ w. obviate >>= λ o. retrigger >>= λ r. Ok (whole w o r)) c h in
      let two = bind_ok obviate (λ o. retrigger >>= λ r. Ok (whole one.0 o r)) c one.2 in
      let three = bind_ok retrigger (λ r. Ok (whole one.0 two.0 r)) c two.2 in
      subst (AreClasses draft) (same_ok (whole one.0 two.0 three.0) c three.2) (record {
        own = ok_or_ok (rules.Class places.Source) (class_named s draft.header.class) one.0 one.1;
        obviated = two.1;
        retriggered = three.1;
      })

  code_same : (part : Part) (code : Code) (c : Checked) → accepted_code s part code ≡ Ok c → c.code ≡ code
  unfolding checked
  code_same part code c h =
      let one = bind_ok (accepted s part code) (λ fs. Ok (record { code = code; part = part; frames = fs })) c (map_err_ok _ (checked s part code) c h) in
      ap (λ d. d.code) (sym (same_ok (record { code = code; part = part; frames = one.0 }) c one.2))

  part_same : (part : Part) (code : Option Code) (made : Option Checked) → accepted_part s part code ≡ Ok made → code_in made ≡ code
  part_same part None made h = ap code_in (sym (same_ok None made h))
  part_same part (Some code) made h =
      let one = bind_ok (accepted_code s part code) (λ d. Ok (Some d)) made h in
      ap code_in (sym (same_ok (Some one.0) made one.2)) ∙ ap (λ c. Some c) (code_same part code one.0 one.1)

  reaction_same : (place : ClassPlace) (part : ℕ → Part) (draft : Option (ReactionDraft Code)) (of : Option ℕ) (made : Option (ReactionDraft Checked)) → reaction_class s place draft ≡ Ok of → accepted_reaction s (option_map part of) draft ≡ Ok made → drafted made ≡ draft
  reaction_same place part None None made found h = ap drafted (sym (same_ok None made h))
  reaction_same place part None (Some class) made found h = absurd (let no : None ≡ Some class = same_ok None (Some class) found in cc)
  reaction_same place part (Some draft) None made found h =
      let one = bind_ok (class_of s place draft.class) (λ c. Ok (Some c)) None found in
      absurd (let no : Some one.0 ≡ None = same_ok (Some one.0) None one.2 in cc)
  reaction_same place part (Some draft) (Some class) made found h =
      let one = bind_ok (accepted_code s (part class) draft.code) (λ c. Ok (Some (record { class = draft.class; clauses = draft.clauses; code = c }))) made h in
      ap drafted (sym (same_ok (Some (record { class = draft.class; clauses = draft.clauses; code = one.0 })) made one.2))
      ∙ ap (λ (c : Code). Some (record { class = draft.class; clauses = draft.clauses; code = c })) (code_same (part class) draft.code one.0 one.1)

  act_same : (part : Part) (draft : ActDraft Code) (made : ActDraft Checked) → accepted_act s part draft ≡ Ok made → draft_act made ≡ draft
  act_same part (drafts.Do code) made h =
      let one = bind_ok (accepted_code s part code) (λ d. Ok (drafts.Do d)) made h in
      ap draft_act (sym (same_ok (drafts.Do one.0) made one.2)) ∙ ap drafts.Do (code_same part code one.0 one.1)
  act_same part drafts.Native made h = ap draft_act (sym (same_ok drafts.Native made h))

  -- a draft with its codes accepted has the codes of another
  record HasSame (draft : SourceDraft Code) (made : SourceDraft Checked) : Type 0 where
    header : made.header ≡ draft.header
    require : code_in made.parts.require ≡ draft.parts.require
    obviate : drafted made.parts.obviate ≡ draft.parts.obviate
    retrigger : drafted made.parts.retrigger ≡ draft.parts.retrigger
    revalidate : code_in made.parts.revalidate ≡ draft.parts.revalidate
    act : draft_act made.act ≡ draft.act

  draft_same : (c : Classes) (draft : SourceDraft Code) (made : SourceDraft Checked) → AreClasses draft c → accepted_draft s c draft ≡ Ok made → HasSame draft made
  unfolding accepted_draft accepted_parts
  draft_same c draft made classes h =
      let p = draft.parts in
      let require = accepted_part s (Require c.own) p.require in
      let obviate = accepted_reaction s (obviate_part c) p.obviate in
      let retrigger = accepted_reaction s (retrigger_part c) p.retrigger in
      let revalidate = accepted_part s (Revalidate c.own) p.revalidate in
      let parts : Option Checked → Option (ReactionDraft Checked) → Option (ReactionDraft Checked) → Option Checked → Parts Checked =
      λ r o t v. record { require = r; obviate = o; retrigger = t; revalidate = v } in
      let act = accepted_act s (Do c.own) draft.act in
      let whole : Parts Checked → ActDraft Checked → SourceDraft Checked = λ q a. record { header = draft.header; parts = q; act = a } in
      let one = bind_ok (accepted_parts s c p) (λ q. act >>= λ a. Ok (whole q a)) made h in
      let two = bind_ok act (λ a. Ok (whole one.0 a)) made one.2 in
      let first = bind_ok require (λ r. obviate >>= λ o. retrigger >>= λ t. revalidate >>= λ v. Ok (parts r o t v)) one.0 one.1 in
      let second = bind_ok obviate (λ o. retrigger >>= λ t. revalidate >>= λ v. Ok (parts first.0 o t v)) one.0 first.2 in
      let third = bind_ok retrigger (λ t. revalidate >>= λ v. Ok (parts first.0 second.0 t v)) one.0 second.2 in
      let fourth = bind_ok revalidate (λ v. Ok (parts first.0 second.0 third.0 v)) one.0 third.2 in
      let are : parts first.0 second.0 third.0 fourth.0 ≡ one.0 = same_ok (parts first.0 second.0 third.0 fourth.0) one.0 fourth.2 in
      subst (HasSame draft) (ap (λ q. whole q two.0) are ∙ same_ok (whole one.0 two.0) made two.2) (record {
        header = refl;
        require = part_same (Require c.own) p.require first.0 first.1;
        obviate = reaction_same places.Obviate (Obviate c.own) p.obviate c.obviated second.0 classes.obviated second.1;
        retrigger = reaction_same places.Retrigger (Retrigger c.own) p.retrigger c.retriggered third.0 classes.retriggered third.1;
        revalidate = part_same (Revalidate c.own) p.revalidate fourth.0 fourth.1;
        act = act_same (Do c.own) draft.act two.0 two.1;
      })

  source_same : (draft : SourceDraft Code) (made : SourceDraft Checked) → accepted_source s draft ≡ Ok made → HasSame draft made
  source_same draft made h =
      let one = bind_ok (map_err (inputs.Rule draft.header.name) (classes_of s draft)) (λ c. map_err (in_source draft.header.name) (accepted_draft s c draft)) made h in
      draft_same one.0 draft made (classes_are draft one.0 (map_err_ok (inputs.Rule draft.header.name) (classes_of s draft) one.0 one.1))
      (map_err_ok (in_source draft.header.name) (accepted_draft s one.0 draft) made one.2)

  -- ---- the source that is made of it

  reaction_made : (place : ClassPlace) (list : ClauseList) (draft : Option (ReactionDraft Checked)) (of : Option ℕ) (made : Option Reaction) → reaction_class s place draft ≡ Ok of → reaction_of s list of draft ≡ Ok made → HasReaction s (drafted draft) made
  reaction_made place list None None made found h = subst (HasReaction s None) (same_ok None made h) tt
  reaction_made place list None (Some class) made found h = absurd (let no : None ≡ Some class = same_ok None (Some class) found in cc)
  reaction_made place list (Some draft) None made found h =
      let one = bind_ok (class_of s place draft.class) (λ c. Ok (Some c)) None found in
      absurd (let no : Some one.0 ≡ None = same_ok (Some one.0) None one.2 in cc)
  reaction_made place list (Some draft) (Some class) made found h =
      let named = bind_ok (class_of s place draft.class) (λ c. Ok (Some c)) (Some class) found in
      let own : named.0 ≡ class = (let same : Some named.0 ≡ Some class = same_ok (Some named.0) (Some class) named.2 in cc) in
      let one = bind_ok (clauses_of s list class draft.clauses) (λ cs. Ok (Some (record { class = class; clauses = cs; code = draft.code }))) made h in
      subst (HasReaction s (Some (bare draft))) (same_ok (Some (record { class = class; clauses = one.0; code = draft.code })) made one.2) (record {
        class = ok_or_ok (rules.Class place) (class_named s draft.class) named.0 named.1 ∙ ap (λ c. Some c) own;
        clauses = clauses_are s list class draft.clauses one.0 one.1;
        code = refl;
      })

  act_made : (act : ActDraft Checked) → act_in (act_of act) ≡ draft_act act
  act_made (drafts.Do c) = refl
  act_made drafts.Native = refl

  made_same : (draft : SourceDraft Code) (accepted' : SourceDraft Checked) (source : Source) → HasSame draft accepted' → source_of s accepted' ≡ Ok source → HasCodes s draft source
  unfolding source_of
  made_same draft d source same h =
      let whole : Classes → List Clause → Option Reaction → Option Reaction → Source = made_of d in
      let one = bind_ok (classes_of s d) (λ c. parts_fit c d >>= λ _. clauses_of s lists.Triggers c.own d.header.triggers >>= λ ts. reaction_of s lists.Obviate c.obviated d.parts.obviate >>= λ o. reaction_of s lists.Retrigger c.retriggered d.parts.retrigger >>= λ t. Ok (whole c ts o t)) source h in
      let c = one.0 in
      let obviate = reaction_of s lists.Obviate c.obviated d.parts.obviate in
      let retrigger = reaction_of s lists.Retrigger c.retriggered d.parts.retrigger in
      let triggers = clauses_of s lists.Triggers c.own d.header.triggers in
      let two = bind_ok (parts_fit c d) (λ _. triggers >>= λ ts. obviate >>= λ o. retrigger >>= λ t. Ok (whole c ts o t)) source one.2 in
      let three = bind_ok triggers (λ ts. obviate >>= λ o. retrigger >>= λ t. Ok (whole c ts o t)) source two.2 in
      let four = bind_ok obviate (λ o. retrigger >>= λ t. Ok (whole c three.0 o t)) source three.2 in
      let five = bind_ok retrigger (λ t. Ok (whole c three.0 four.0 t)) source four.2 in
      let classes = classes_are d c one.1 in
      subst (HasCodes s draft) (same_ok (whole c three.0 four.0 five.0) source five.2) (record {
        name = ap (λ x. x.name) same.header;
        class = subst (λ x. class_named s x.class ≡ Some c.own) same.header classes.own;
        rate = ap (λ x. x.rate) same.header;
        triggers = subst (λ x. AllZip (IsClause s) x.triggers three.0) same.header (clauses_are s lists.Triggers c.own d.header.triggers three.0 three.1);
        require = same.require;
        obviate = subst (λ o. HasReaction s o four.0) same.obviate (reaction_made places.Obviate lists.Obviate d.parts.obviate c.obviated four.0 classes.obviated four.1);
        retrigger = subst (λ o. HasReaction s o five.0) same.retrigger (reaction_made places.Retrigger lists.Retrigger d.parts.retrigger c.retriggered five.0 classes.retriggered five.1);
        revalidate = same.revalidate;
        act = act_made d.act ∙ same.act;
      })

  -- ---- the sources of both texts

  source_for : (natives : List (List ℕ)) (codes : List (SourceDraft Code)) (made : List Source) (i : ℕ) (draft : SourceDraft Code) → sources_for natives s codes ≡ Ok made → slice_get codes i ≡ Some draft → (source : Source) × (slice_get made i ≡ Some source) × HasCodes s draft source
  unfolding sources_for
  source_for natives codes made i draft h at =
      let one = bind_ok (try_map (accepted_source s) codes) (λ ds. try_map (resolved_source s) ds >>= λ rs. map_err in_input (fitted natives rs)) made h in
      let two = bind_ok (try_map (resolved_source s) one.0) (λ rs. map_err in_input (fitted natives rs)) made one.2 in
      let fit : two.0 ≡ made = fitted_same natives two.0 made (map_err_ok in_input (fitted natives two.0) made two.2) in
      let d = try_map_to (accepted_source s) codes one.0 i draft one.1 at in
      let r = try_map_to (resolved_source s) one.0 two.0 i d.0 two.1 d.2 in
      (r.0, ap (λ l. slice_get l i) (sym fit) ∙ r.2, made_same draft d.0 r.0 (source_same draft d.0 d.1) (map_err_ok (inputs.Rule d.0.header.name) (source_of s d.0) r.0 r.1))

  -- the draft of a text, and the codes of an input with it in its place
  pub record IsGiven (sources bundle : List ℕ) (codes : List (SourceDraft Code)) : Type 0 where
    pub trees : List SourceText
    pub read : trees_of sources ≡ Ok trees
    pub compiled' : List (SourceDraft Code)
    pub each : try_map (compiled_source s) trees ≡ Ok compiled'
    pub bundled : List (SourceDraft Code)
    pub bundle_read : sources_of bundle ≡ Ok bundled
    pub all : compiled' ++ bundled ≡ codes

  pub codes_given : (sources bundle : List ℕ) (codes : List (SourceDraft Code)) → codes_in s sources bundle ≡ Ok codes → IsGiven sources bundle codes
  unfolding codes_in compiled_text
  codes_given sources bundle codes h =
      let one = bind_ok (compiled_text s sources) (λ cs. map_err inputs.Bundle (sources_of bundle) >>= λ bs. Ok (cs ++ bs)) codes h in
      let two = bind_ok (map_err inputs.Bundle (sources_of bundle)) (λ bs. Ok (one.0 ++ bs)) codes one.2 in
      let three = bind_ok (map_err inputs.Lang (trees_of sources)) (try_map (compiled_source s)) one.0 one.1 in
      record {
        trees = three.0;
        read = map_err_ok inputs.Lang (trees_of sources) three.0 three.1;
        compiled' = one.0;
        each = three.2;
        bundled = two.0;
        bundle_read = map_err_ok inputs.Bundle (sources_of bundle) two.0 two.1;
        all = same_ok (one.0 ++ two.0) codes two.2;
      }

-- each text runs as it says, where what is compiled means its text
pub runs_at : (s : Schema) (natives : List (List ℕ)) (sources bundle : List ℕ) (made : List Source) (trees : List SourceText) (i : ℕ) (text : SourceText)
    → ((t : SourceText) (draft : SourceDraft Code) → compiled s t ≡ Ok draft → AreMeant within_budget s t draft)
    → given natives s sources bundle ≡ Ok made → trees_of sources ≡ Ok trees → slice_get trees i ≡ Some text → RunsAt s made i text
unfolding given
runs_at s natives sources bundle made trees i text means h read at =
    let one = bind_ok (codes_in s sources bundle) (sources_for natives s) made h in
    let g = codes_given s sources bundle one.0 one.1 in
    let same : trees ≡ g.trees = same_ok trees g.trees (sym read ∙ g.read) in
    let d = try_map_to (compiled_source s) g.trees g.compiled' i text g.each (ap (λ l. slice_get l i) (sym same) ∙ at) in
    let there : slice_get one.0 i ≡ Some d.0 = ap (λ l. slice_get l i) (sym g.all) ∙ in_front g.compiled' g.bundled i d.0 d.2 in
    let source = source_for s natives one.0 made i d.0 one.2 there in
    record {
      source = source.0;
      there = source.1;
      written = record { draft = d.0; means = means text d.0 (map_err_ok (inputs.Compile text.header.name) (compiled s text) d.0 d.1); codes = source.2 };
    }
