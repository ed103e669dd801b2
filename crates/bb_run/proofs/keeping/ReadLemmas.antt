-- What is asked leaves the blackboard as it was, where no code that is asked writes; and none does where the codes of
-- the sources are sound.
use Rattle.std.proofs.Common.{◌≡◌, inl, inr, true, List, [], ◌∷◌, length, Option, Some, None, option_map, refl, ap, subst, ◌∙◌, arith}
use Rattle.std.specs.Prelude.{All, Contains, not}
use Rattle.std.specs.List.{list_all}
use Rattle.std.proofs.lemmas.List.Elements.{All-contains}
use Rattle.bb_agenda.specs.declared.focusing.activation.Activation.{Activation}
use Rattle.bb_theorem_machine.proofs.Laws.{activation_reads, part_reads}
use Rattle.bb_machine.specs.Writes.{has_no_writes, is_write}
use Rattle.bb_code.specs.declared.op.Op.{Op}
use Rattle.bb_verify.specs.Accepted.{Checked}
use Rattle.bb_verify.proofs.Laws.{checked_facts}
use Rattle.bb_verify.specs.Budget.{budget}
use Rattle.bb_verify.specs.declared.checked.TheConstants.{FOUND_LIMIT}
use Rattle.bb_machine.specs.declared.outcome.Entry.{Entry}
use Rattle.bb_trace.specs.Board.{Board as Blackboard}
use Rattle.bb_trace.specs.Event.{Event}
use Rattle.bb_rules.specs.Law.{HasSoundCodes}
use Rattle.bb_rules.specs.Questions.{IsQuestion}
use Rattle.bb_rules.specs.declared.source.Reaction.{Reaction}
use Rattle.bb_rules.specs.Parts.{Source}
use Rattle.bb_trace.specs.End.{End}
use Rattle.bb_run_plan.specs.Plan.{Plan}
use Rattle.bb_run.specs.State.{State}
use Rattle.bb_run.specs.Emission.{Response, and_then_unless}
use Rattle.bb_run.specs.Asking.{attempt, entry_of}
use Rattle.bb_run.specs.Processing.{response}
use Rattle.bb_run.specs.Run.{validity}
use Rattle.bb_run.specs.Causes.{IsAsked, code_of}
use Rattle.bb_run.specs.Reads.{AsksByReading, ReadsOnly}
use Rattle.bb_run.proofs.rules.ResponseRule.{HoldsOfParts, OfPlan, holds}

-- no native answers to an event
module _ (plan : Plan) where
  abbrev SameNatives : State → Response → Type 0
  SameNatives s r = r.state.natives ≡ s.natives

  same_then : (s : State) (r : Response) (next : State → Response) (end : Option End) → SameNatives s r → SameNatives r.state (next r.state) → SameNatives s (and_then_unless end r next)
  same_then s r next (Some e) first rest = first
  same_then s r next None first rest = rest ∙ first

  native_parts : HoldsOfParts plan SameNatives
  native_parts = record {
    nothing = λ s. refl;
    full = λ s is. refl;
    stopped = λ s code entry stop of came. refl;
    went_on = λ s code entry r of same. same;
    triggered = λ s source unit base under room. refl;
    declined = λ s source unit. refl;
    obviated = λ s number. refl;
    rebased = λ s number base. refl;
    further = λ s r next first rest. same_then s r next r.end first rest;
  }

  pub same_natives : (event : Event) (s : State) → (response plan event s).state.natives ≡ s.natives
  same_natives event s = holds plan SameNatives native_parts event s

module _ (plan : Plan) (reading : AsksByReading plan) where
  -- a response leaves the blackboard as it was
  abbrev Leaves : State → Response → Type 0
  Leaves s r = r.state.board ≡ s.board

  asked_leaves : (code : Checked) (entry : Entry) (board : Blackboard) → OfPlan plan Leaves code → (attempt code.code entry board).1 ≡ board
  asked_leaves code entry board of = activation_reads (budget code.code FOUND_LIMIT) code.code entry board (reading of.0 code of.1 of.2)

  leaves_then : (s : State) (r : Response) (next : State → Response) (end : Option End) → Leaves s r → Leaves r.state (next r.state) → Leaves s (and_then_unless end r next)
  leaves_then s r next (Some e) first rest = first
  leaves_then s r next None first rest = rest ∙ first

  response_parts : HoldsOfParts plan Leaves
  response_parts = record {
    nothing = λ s. refl;
    full = λ s is. refl;
    stopped = λ s code entry stop of came. asked_leaves code entry s.board of;
    went_on = λ s code entry r of leaves. leaves ∙ asked_leaves code entry s.board of;
    triggered = λ s source unit base under room. refl;
    declined = λ s source unit. refl;
    obviated = λ s number. refl;
    rebased = λ s number base. refl;
    further = λ s r next first rest. leaves_then s r next r.end first rest;
  }

  validity_leaves : (source : Source) (code : Option Checked) (a : Activation) (board : Blackboard) → Contains plan.sources source → source.revalidate ≡ code → (validity code a board).1 ≡ board
  validity_leaves source None a board there is = refl
  validity_leaves source (Some code) a board there is = asked_leaves code (entry_of a.unit None) board (source, there, inr (inl is))

  -- what answers to an event, and what is asked about a choice, leaves the blackboard and the natives
  pub record LeavesBoard : Type 0 where
    pub events : (event : Event) (s : State) → (response plan event s).state.board ≡ s.board
    pub natives : (event : Event) (s : State) → (response plan event s).state.natives ≡ s.natives
    pub choices : (source : Source) (a : Activation) (board : Blackboard) → Contains plan.sources source → (validity source.revalidate a board).1 ≡ board

  pub run_reads : LeavesBoard
  run_reads = record {
    events = λ event s. holds plan Leaves response_parts event s;
    natives = same_natives plan;
    choices = λ source a board there. validity_leaves source source.revalidate a board there refl;
  }

-- ---- sources whose codes are sound

reads_by : (c : Checked) (ops : List Op) → c.code.ops ≡ ops → IsQuestion c → has_no_writes c.code ≡ true
unfolding has_no_writes
reads_by c [] none is = ap (list_all (λ op. not (is_write op))) none
reads_by c (op ∷ ops) some is =
    let s = is.sound.schema in
    let count : length c.code.ops ≡ length (op ∷ ops) = ap (λ l. length l) some in
    part_reads s c.part c.code c.frames is.reads (checked_facts s c.part c.code c is.sound.accepted (omega (arith, count)))

-- what is asked leaves the blackboard
pub asked_kept : (c : Checked) (entry : Entry) (b : Blackboard) → IsQuestion c → (attempt c.code entry b).1 ≡ b
asked_kept c entry b is = activation_reads (budget c.code FOUND_LIMIT) c.code entry b (reads_by c c.code.ops refl is)

reaction_reads : (reaction : Option Reaction) (code : Checked) → option_map code_of reaction ≡ Some code → ((r : Reaction) → reaction ≡ Some r → IsQuestion r.code) → has_no_writes code.code ≡ true
reaction_reads None code is each = absurd cc
reaction_reads (Some r) code is each = let same : r.code ≡ code = cc in subst (λ (c : Checked). has_no_writes c.code ≡ true) same (reads_by r.code r.code.code.ops refl (each r refl))

sound_reads : (source : Source) (code : Checked) → HasSoundCodes source → IsAsked source code → has_no_writes code.code ≡ true
sound_reads source code sound (inl is) = reads_by code code.code.ops refl (sound.require code is)
sound_reads source code sound (inr (inl is)) = reads_by code code.code.ops refl (sound.revalidate code is)
sound_reads source code sound (inr (inr (inl is))) = reaction_reads source.obviate code is sound.obviate
sound_reads source code sound (inr (inr (inr is))) = reaction_reads source.retrigger code is sound.retrigger

pub plan_reads : (plan : Plan) → All HasSoundCodes plan.sources → AsksByReading plan
plan_reads plan sound source code there asked = sound_reads source code (All-contains HasSoundCodes plan.sources source sound there) asked

pub plan_reads_only : (plan : Plan) → ReadsOnly plan
plan_reads_only plan = record {
  sound = plan_reads plan;
  events = λ event s reading. (run_reads plan reading).events event s;
  choices = λ source a board reading there. (run_reads plan reading).choices source a board there;
  natives = same_natives plan;
}
