-- Each execution of a source that is what a text says ends as the text means.
use Rattle.std.proofs.Common.{◌≡◌, inl, inr, ℕ, List, Option, Some, None, slice_get, sym, ap, subst, ◌∙◌, arith}
use Rattle.std.specs.Prelude.{Contains}
use Rattle.std.proofs.lemmas.Option.{slice_get_within, get_or_from_slice_get}
use Rattle.bb_schema.specs.Schema.{class_named}
use Rattle.bb_schema_classes.proofs.Laws.{All-at}
use Rattle.bb_board.specs.Events.{unit_of}
use Rattle.bb_code.specs.Code.{Code}
use Rattle.bb_verify.specs.Accepted.{Checked}
use Rattle.bb_verify.specs.Budget.{budget}
use Rattle.bb_verify.specs.PartType.{Part}
use Rattle.bb_verify.specs.PartType.TheVariants.{Require, Obviate, Retrigger, Revalidate, Do}
use Rattle.bb_verify.specs.declared.checked.TheConstants.{FOUND_LIMIT}
use Rattle.bb_machine.specs.declared.outcome.Entry.{Entry}
use Rattle.bb_theorem_machine.specs.NeverWrong.{Begins, EntryFits}
use Rattle.bb_lang.specs.ActText.{ActText}
use Rattle.bb_lang.specs.ActText.TheVariants as texts
use Rattle.bb_lang.specs.Blocks.{BlockTree}
use Rattle.bb_lang.specs.PartText.{PartText}
use Rattle.bb_lang.specs.ReactionText.{ReactionText}
use Rattle.bb_lang.specs.SourceText.{SourceText}
use Rattle.bb_bundle.specs.declared.draft.ActDraft.{ActDraft}
use Rattle.bb_bundle.specs.declared.draft.ActDraft.TheVariants as drafts
use Rattle.bb_bundle.specs.declared.draft.ReactionDraft.{ReactionDraft}
use Rattle.bb_agenda.specs.declared.focusing.activation.Activation.{Activation}
use Rattle.bb_rules.specs.Law.{IsMade}
use Rattle.bb_rules.specs.Parts.{Source}
use Rattle.bb_rules.specs.declared.source.Reaction.{Reaction}
use Rattle.bb_run_plan.specs.Plan.{Plan}
use Rattle.bb_run.specs.Asking.{entry_of}
use Rattle.bb_run.specs.State.{State}
use Rattle.bb_run.specs.Unstuck.{BeginsEach, IsReady, IsWellMade}
use Rattle.bb_theorem_meaning.specs.Sources.{IsMeant, IsMeantIf, IsMeantReaction, IsMeantAct, within_budget}
use Rattle.bb_theorem_texts.specs.Executions.{IsToldBy, IsPartTold, IsActTold, IsReactionTold, IsPending, AreTold}
use Rattle.bb_theorem_texts.specs.Texts.{HasReaction, IsAsWritten, act_in, code_in}

contained : {X : Type 0} (xs : List X) (i : ℕ) (x : X) → slice_get xs i ≡ Some x → Contains xs x
contained xs i x at = (i, slice_get_within xs i x at, get_or_from_slice_get xs i x x at)

same_some : {X : Type 0} (x y : X) → Some x ≡ Some y → x ≡ y
same_some x y h = cc

-- ---- one execution

module _ (plan : Plan) (s : State) (ready : IsReady plan s) where
  abbrev Means : Part → BlockTree → Code → Type 0
  Means part block code = IsMeant within_budget plan.schema part block code

  abbrev Starts : Checked → Entry → Type 0
  Starts c entry = Begins c.part c.frames c.code entry s.board

  -- an entry that fits the part for which a code was accepted fits the part of the text
  entry_fits : (part : Part) (c : Checked) (entry : Entry) → c.part ≡ part → Starts c entry → EntryFits plan.schema s.board.world part entry
  entry_fits part c entry same begins =
      subst (λ p. EntryFits plan.schema s.board.world p entry) same (subst (λ q. EntryFits q s.board.world c.part entry) ready.board.schema begins.units)

  told : (part : Part) (block : BlockTree) (c : Checked) (entry : Entry) → Means part block c.code → c.part ≡ part → Starts c entry → IsToldBy part block c entry s.board
  told part block c entry means same begins =
      means s.board entry (budget c.code FOUND_LIMIT) ready.board.schema ready.board.world (entry_fits part c entry same begins) (omega arith)

  -- ---- the execution of a part, of an act and of a reaction

  part_told : (part : Part) (o : Option PartText) (d : Option Code) (c : Checked) (entry : Entry) → IsMeantIf within_budget plan.schema part o d → Some c.code ≡ d → c.part ≡ part → Starts c entry → IsPartTold part o c entry s.board
  part_told part None None c entry means is same begins = absurd cc
  part_told part None (Some code) c entry means is same begins = means
  part_told part (Some text) None c entry means is same begins = absurd means
  part_told part (Some text) (Some code) c entry means is same begins =
      told part text.block c entry (subst (λ x. Means part text.block x) (sym (same_some c.code code is)) means) same begins

  act_told : (class : ℕ) (text : ActText) (d : ActDraft Code) (c : Checked) (entry : Entry) → IsMeantAct within_budget plan.schema class text d → drafts.Do c.code ≡ d → c.part ≡ Do class → Starts c entry → IsActTold class text c entry s.board
  act_told class texts.Native drafts.Native c entry means is same begins = absurd cc
  act_told class texts.Native (drafts.Do code) c entry means is same begins = means
  act_told class (texts.Do text) drafts.Native c entry means is same begins = absurd means
  act_told class (texts.Do text) (drafts.Do code) c entry means is same begins =
      let code_is : c.code ≡ code = cc in
      told (Do class) text.block c entry (subst (λ x. Means (Do class) text.block x) (sym code_is) means) same begins

  reaction_told : (part : (of : ℕ) → Part) (o : Option ReactionText) (d : Option (ReactionDraft Code)) (r : Reaction) (entry : Entry) → IsMeantReaction within_budget plan.schema part o d → HasReaction plan.schema d (Some r) → r.code.part ≡ part r.class → Starts r.code entry
      → IsReactionTold plan.schema part o r entry s.board
  reaction_told part None None r entry means has same begins = has
  reaction_told part None (Some d) r entry means has same begins = means
  reaction_told part (Some text) None r entry means has same begins = absurd means
  reaction_told part (Some text) (Some d) r entry means has same begins =
      let named : class_named plan.schema text.class ≡ Some r.class = ap (class_named plan.schema) (sym means.class) ∙ has.class in
      let of : means.of ≡ r.class = same_some means.of r.class (sym means.named ∙ named) in
      let code : Means (part r.class) text.block r.code.code = subst (λ x. Means (part r.class) text.block x) (sym has.code) (subst (λ n. Means (part n) text.block d.code) of means.code) in
      (named, told (part r.class) text.block r.code entry code same begins)

  -- ---- all executions of a source

  pub all_told : (i : ℕ) (source : Source) (text : SourceText) → IsWellMade plan → BeginsEach plan s → slice_get plan.sources i ≡ Some source → IsAsWritten plan.schema text source → AreTold plan s i source text
  all_told i source text well begins at written =
      let m = written.means in
      let codes = written.codes in
      let law = (All-at (IsMade plan.schema) plan.sources i source at well.made).law in
      let class : class_named plan.schema text.header.class ≡ Some source.class = ap (class_named plan.schema) (sym m.class) ∙ codes.class in
      let own : m.of ≡ source.class = same_some m.of source.class (sym m.named ∙ class) in
      let here : (a : Activation) → IsPending s i a → slice_get plan.sources a.source ≡ Some source = λ a pending. ap (slice_get plan.sources) pending.1 ∙ at in
      record {
        class = class;
        act = λ a c pending is.
            act_told source.class text.act written.draft.act c (entry_of a.unit None)
            (subst (λ n. IsMeantAct within_budget plan.schema n text.act written.draft.act) own m.act) (ap act_in (sym is) ∙ codes.act) (law.act c is)
            (begins.act a pending.0 source c (here a pending) (inl is));
        revalidate = λ a c pending is.
            part_told (Revalidate source.class) text.parts.revalidate written.draft.parts.revalidate c (entry_of a.unit None)
            (subst (λ n. IsMeantIf within_budget plan.schema (Revalidate n) text.parts.revalidate written.draft.parts.revalidate) own m.revalidate) (ap code_in (sym is) ∙ codes.revalidate) (law.revalidate c is)
            (begins.act a pending.0 source c (here a pending) (inr is));
        require = λ event c of is matches.
            part_told (Require source.class) text.parts.require written.draft.parts.require c (entry_of (unit_of event) None)
            (subst (λ n. IsMeantIf within_budget plan.schema (Require n) text.parts.require written.draft.parts.require) own m.require) (ap code_in (sym is) ∙ codes.require) (law.require c is)
            (begins.require event source c of (contained plan.sources i source at) is matches);
        obviate = λ event a r of pending is matches.
            reaction_told (Obviate source.class) text.parts.obviate written.draft.parts.obviate r (entry_of a.unit (Some (unit_of event)))
            (subst (λ n. IsMeantReaction within_budget plan.schema (Obviate n) text.parts.obviate written.draft.parts.obviate) own m.obviate)
            (subst (HasReaction plan.schema written.draft.parts.obviate) is codes.obviate) (law.obviate.code r is)
            (begins.react event source r a of pending.0 (here a pending) (inl is) matches);
        retrigger = λ event a r of pending is matches.
            reaction_told (Retrigger source.class) text.parts.retrigger written.draft.parts.retrigger r (entry_of a.unit (Some (unit_of event)))
            (subst (λ n. IsMeantReaction within_budget plan.schema (Retrigger n) text.parts.retrigger written.draft.parts.retrigger) own m.retrigger)
            (subst (HasReaction plan.schema written.draft.parts.retrigger) is codes.retrigger) (law.retrigger.code r is)
            (begins.react event source r a of pending.0 (here a pending) (inr is) matches);
      }
