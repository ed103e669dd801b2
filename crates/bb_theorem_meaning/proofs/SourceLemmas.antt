-- The codes of a source are accepted, and mean its text.
use Rattle.std.proofs.Common.{◌≡◌, ℕ, true, ◌&&◌, Option, Some, None, Ok, sym, subst, ap, ◌∙◌}
use Rattle.std.specs.Prelude.{IfSome}
use Rattle.bb_basis.proofs.BoolLemmas.{and_first, and_second}
use Rattle.bb_schema.specs.Schema.{Schema, class_named}
use Rattle.bb_schema.specs.Fits as schemas
use Rattle.bb_code.specs.Code.{Code}
use Rattle.bb_lang.specs.ActText.{ActText}
use Rattle.bb_lang.specs.ActText.TheVariants as acts
use Rattle.bb_lang.specs.Blocks.{BlockTree}
use Rattle.bb_lang.specs.PartText.{PartText}
use Rattle.bb_lang.specs.ReactionText.{ReactionText}
use Rattle.bb_lang.specs.SourceText.{SourceText}
use Rattle.bb_compile_scope.specs.Place.{Place}
use Rattle.bb_bundle.specs.declared.draft.ActDraft.{ActDraft}
use Rattle.bb_bundle.specs.declared.draft.ActDraft.TheVariants as drafts
use Rattle.bb_bundle.specs.declared.draft.Header.{Header}
use Rattle.bb_bundle.specs.declared.draft.ReactionDraft.{ReactionDraft}
use Rattle.bb_bundle.specs.declared.draft.SourceDraft.{SourceDraft}
use Rattle.bb_compile.specs.Compiled.{compiled}
use Rattle.bb_board.specs.Fits.{Fits}
use Rattle.bb_theorem_machine.specs.NeverWrong.{EntryFits}
use Rattle.bb_verify_effect.specs.declared.part.Part.{Part}
use Rattle.bb_verify_effect.specs.declared.part.Part.TheVariants.{Require, Obviate, Retrigger, Revalidate, Do}
use Rattle.bb_theorem_accepted.specs.Within.{is_within}
use Rattle.bb_compile.specs.Parts.{part_code}
use Rattle.bb_theorem_accepted.proofs.Laws.{class_there, part_laid, text_accepted}
use Rattle.bb_theorem_meaning.specs.Classes.{HasClass, HasClasses}
use Rattle.bb_theorem_meaning.specs.Loopless.{is_loopless}
use Rattle.bb_theorem_meaning.specs.Sources.{part_is_loopless, reaction_is_loopless, act_is_loopless, is_loopless_source, IsAccepted, IsAcceptedFor, IsAcceptedAct, AreAccepted, IsMeant, IsMeantIf, IsMeantReaction, IsMeantAct, AreMeant, once_each, within_budget}
use Rattle.bb_theorem_meaning.proofs.CodeLemmas.{within_code}
use Rattle.bb_theorem_meaning.proofs.MadeLemmas.{IsMade, IsMadeReaction, IsMadeAct, source_made}
use Rattle.bb_theorem_meaning.proofs.PartLemmas.{loopless_told, text_told}

-- ---- accepted

module _ (schema : Schema) (sf : schemas.Fits schema) where
  accepted_so : (part : Part) → HasClasses schema part → (place : Place) (block : BlockTree) (code : Code) → part_code schema part place block ≡ Ok code → IsAccepted schema part code
  accepted_so part classes place block code made = let it = text_accepted schema sf part classes place block code (part_laid schema part place block code made) in (it.0, it.1)

  part_ok : (part : Part) (o : Option PartText) (code : Option Code) → HasClasses schema part → IsMade schema part o code → IfSome code (IsAccepted schema part)
  part_ok part None None classes made = tt
  part_ok part None (Some code) classes made = absurd made
  part_ok part (Some text) None classes made = absurd made
  part_ok part (Some text) (Some code) classes made = accepted_so part classes text.place text.block code made

  reaction_ok : (part : (of : ℕ) → Part) (o : Option ReactionText) (r : Option (ReactionDraft Code)) → ((of : ℕ) → HasClass schema of → HasClasses schema (part of)) → IsMadeReaction schema part o r → IfSome r (IsAcceptedFor schema part)
  reaction_ok part None None classes made = tt
  reaction_ok part None (Some r) classes made = absurd made
  reaction_ok part (Some text) None classes made = absurd made
  reaction_ok part (Some text) (Some r) classes made =
      let there = classes made.of (class_there schema text.class made.of made.named) in
      (made.of, ap (class_named schema) made.class ∙ made.named, accepted_so (part made.of) there text.place text.block r.code made.code)

  act_ok : (class : ℕ) (text : ActText) (act : ActDraft Code) → HasClass schema class → IsMadeAct schema class text act → IsAcceptedAct schema class act
  act_ok class acts.Native drafts.Native there made = tt
  act_ok class acts.Native (drafts.Do code) there made = absurd made
  act_ok class (acts.Do text) drafts.Native there made = absurd made
  act_ok class (acts.Do text) (drafts.Do code) there made = accepted_so (Do class) there text.place text.block code made

  pub source_accepted : (text : SourceText) (draft : SourceDraft Code) → compiled schema text ≡ Ok draft → AreAccepted schema draft
  source_accepted text draft h =
      let m = source_made schema text draft h in
      let there : HasClass schema m.of = class_there schema text.header.class m.of m.named in
      record {
        class = m.of;
        named = ap (λ (x : Header). class_named schema x.class) m.header ∙ m.named;
        require = part_ok (Require m.of) text.parts.require draft.parts.require there m.require;
        obviate = reaction_ok (Obviate m.of) text.parts.obviate draft.parts.obviate (λ of other. (there, other)) m.obviate;
        retrigger = reaction_ok (Retrigger m.of) text.parts.retrigger draft.parts.retrigger (λ of other. (there, other)) m.retrigger;
        revalidate = part_ok (Revalidate m.of) text.parts.revalidate draft.parts.revalidate there m.revalidate;
        act = act_ok m.of text.act draft.act there m.act;
      }

-- ---- meant

-- what is laid out for a part is within the limits of codes
part_within : (schema : Schema) (part : Part) (place : Place) (block : BlockTree) (code : Code) → part_code schema part place block ≡ Ok code → is_within code ≡ true
part_within schema part place block code h = let laid = part_laid schema part place block code h in subst (λ c. is_within c ≡ true) laid.same laid.within

-- what holds of the block of each part that is there
abbrev OfPart : (BlockTree → Type 0) → Option PartText → Type 0
OfPart P None = Unit {0}
OfPart P (Some text) = P text.block

abbrev OfReaction : (BlockTree → Type 0) → Option ReactionText → Type 0
OfReaction P None = Unit {0}
OfReaction P (Some text) = P text.block

abbrev OfAct : (BlockTree → Type 0) → ActText → Type 0
OfAct P acts.Native = Unit {0}
OfAct P (acts.Do text) = P text.block

record OfEach (P : BlockTree → Type 0) (text : SourceText) : Type 0 where
  require : OfPart P text.parts.require
  obviate : OfReaction P text.parts.obviate
  retrigger : OfReaction P text.parts.retrigger
  revalidate : OfPart P text.parts.revalidate
  act : OfAct P text.act

-- the codes of blocks of which something holds mean them, in as many steps
module _ (schema : Schema) (steps : Code → ℕ) (P : BlockTree → Type 0)
    (meant : (part : Part) (place : Place) (block : BlockTree) (code : Code) → P block → HasClasses schema part → part_code schema part place block ≡ Ok code → IsMeant steps schema part block code) where
  part_meant : (part : Part) (o : Option PartText) (code : Option Code) → OfPart P o → HasClasses schema part → IsMade schema part o code → IsMeantIf steps schema part o code
  part_meant part None None holds classes made = tt
  part_meant part None (Some code) holds classes made = made
  part_meant part (Some text) None holds classes made = made
  part_meant part (Some text) (Some code) holds classes made = meant part text.place text.block code holds classes made

  reaction_meant : (part : (of : ℕ) → Part) (o : Option ReactionText) (r : Option (ReactionDraft Code)) → OfReaction P o → ((of : ℕ) → HasClass schema of → HasClasses schema (part of)) → IsMadeReaction schema part o r → IsMeantReaction steps schema part o r
  reaction_meant part None None holds classes made = tt
  reaction_meant part None (Some r) holds classes made = made
  reaction_meant part (Some text) None holds classes made = made
  reaction_meant part (Some text) (Some r) holds classes made =
      let there = classes made.of (class_there schema text.class made.of made.named) in
      record { of = made.of; named = made.named; class = made.class; clauses = made.clauses; code = meant (part made.of) text.place text.block r.code holds there made.code }

  act_meant : (class : ℕ) (text : ActText) (act : ActDraft Code) → OfAct P text → HasClass schema class → IsMadeAct schema class text act → IsMeantAct steps schema class text act
  act_meant class acts.Native drafts.Native holds there made = tt
  act_meant class acts.Native (drafts.Do code) holds there made = made
  act_meant class (acts.Do text) drafts.Native holds there made = made
  act_meant class (acts.Do text) (drafts.Do code) holds there made = meant (Do class) text.place text.block code holds there made

  each_meant : (text : SourceText) (draft : SourceDraft Code) → OfEach P text → compiled schema text ≡ Ok draft → AreMeant steps schema text draft
  each_meant text draft p h =
      let m = source_made schema text draft h in
      let there : HasClass schema m.of = class_there schema text.header.class m.of m.named in
      record {
        name = ap (λ (x : Header). x.name) m.header;
        class = ap (λ (x : Header). x.class) m.header;
        rate = ap (λ (x : Header). x.rate) m.header;
        triggers = ap (λ (x : Header). x.triggers) m.header;
        of = m.of;
        named = m.named;
        require = part_meant (Require m.of) text.parts.require draft.parts.require p.require there m.require;
        obviate = reaction_meant (Obviate m.of) text.parts.obviate draft.parts.obviate p.obviate (λ of other. (there, other)) m.obviate;
        retrigger = reaction_meant (Retrigger m.of) text.parts.retrigger draft.parts.retrigger p.retrigger (λ of other. (there, other)) m.retrigger;
        revalidate = part_meant (Revalidate m.of) text.parts.revalidate draft.parts.revalidate p.revalidate there m.revalidate;
        act = act_meant m.of text.act draft.act p.act there m.act;
      }

-- ---- all blocks, and those without `for`

abbrev Any : BlockTree → Type 0
Any block = Unit {0}

any_each : (text : SourceText) → OfEach Any text
any_each text = record { require = of_part text.parts.require; obviate = of_reaction text.parts.obviate; retrigger = of_reaction text.parts.retrigger; revalidate = of_part text.parts.revalidate; act = of_act text.act }
  where
    of_part : (o : Option PartText) → OfPart Any o
    of_part None = tt
    of_part (Some text) = tt

    of_reaction : (o : Option ReactionText) → OfReaction Any o
    of_reaction None = tt
    of_reaction (Some text) = tt

    of_act : (act : ActText) → OfAct Any act
    of_act acts.Native = tt
    of_act (acts.Do text) = tt

abbrev Loopless : BlockTree → Type 0
Loopless block = is_loopless block ≡ true

loopless_each : (text : SourceText) → is_loopless_source text ≡ true → OfEach Loopless text
loopless_each text loopless =
    let p = text.parts in
    let four = part_is_loopless p.revalidate && act_is_loopless text.act in
    let three = reaction_is_loopless p.retrigger && four in
    let two = reaction_is_loopless p.obviate && three in
    let behind_one = and_second (part_is_loopless p.require) two loopless in
    let behind_two = and_second (reaction_is_loopless p.obviate) three behind_one in
    let behind_three = and_second (reaction_is_loopless p.retrigger) four behind_two in
    record {
      require = of_part p.require (and_first (part_is_loopless p.require) two loopless);
      obviate = of_reaction p.obviate (and_first (reaction_is_loopless p.obviate) three behind_one);
      retrigger = of_reaction p.retrigger (and_first (reaction_is_loopless p.retrigger) four behind_two);
      revalidate = of_part p.revalidate (and_first (part_is_loopless p.revalidate) (act_is_loopless text.act) behind_three);
      act = of_act text.act (and_second (part_is_loopless p.revalidate) (act_is_loopless text.act) behind_three);
    }
  where
    of_part : (o : Option PartText) → part_is_loopless o ≡ true → OfPart Loopless o
    of_part None h = tt
    of_part (Some text) h = h

    of_reaction : (o : Option ReactionText) → reaction_is_loopless o ≡ true → OfReaction Loopless o
    of_reaction None h = tt
    of_reaction (Some text) h = h

    of_act : (act : ActText) → act_is_loopless act ≡ true → OfAct Loopless act
    of_act acts.Native h = tt
    of_act (acts.Do text) h = h

module _ (schema : Schema) (sf : schemas.Fits schema) where
  pub code_meant : (part : Part) (place : Place) (block : BlockTree) (code : Code) → Loopless block → HasClasses schema part → part_code schema part place block ≡ Ok code → IsMeant once_each schema part block code
  code_meant part place block code loopless classes made b entry limit same fits entry_fits enough =
      let has = sym same in
      loopless_told part code entry b (within_code code (part_within schema part place block code made)) (subst schemas.Fits has sf) (subst (λ s. Fits s b.world) has fits) place block limit loopless
      (subst (λ s. HasClasses s part) has classes) (subst (λ s. part_code s part place block ≡ Ok code) has made) (subst (λ s. EntryFits s b.world part entry) has entry_fits) enough

  pub text_meant : (part : Part) (place : Place) (block : BlockTree) (code : Code) → Any block → HasClasses schema part → part_code schema part place block ≡ Ok code → IsMeant within_budget schema part block code
  text_meant part place block code any classes made b entry limit same fits entry_fits enough =
      let has = sym same in
      text_told part code entry b (within_code code (part_within schema part place block code made)) (subst schemas.Fits has sf) (subst (λ s. Fits s b.world) has fits) place block limit
      (subst (λ s. HasClasses s part) has classes) (subst (λ s. part_code s part place block ≡ Ok code) has made) (subst (λ s. EntryFits s b.world part entry) has entry_fits) enough

  pub loopless_meant : (text : SourceText) (draft : SourceDraft Code) → is_loopless_source text ≡ true → compiled schema text ≡ Ok draft → AreMeant once_each schema text draft
  loopless_meant text draft loopless h = each_meant schema once_each Loopless code_meant text draft (loopless_each text loopless) h

  pub source_meant : (text : SourceText) (draft : SourceDraft Code) → compiled schema text ≡ Ok draft → AreMeant within_budget schema text draft
  source_meant text draft h = each_meant schema within_budget Any text_meant text draft (any_each text) h
