-- Worked runs, computed on the definitions.
use Rattle.std.proofs.Common.{◌≡◌, ℕ, [], ◌∷◌, Option, None, Some, refl, codes, true, false}
use Rattle.std.specs.Prelude.{pos, ℤ, List}
use Rattle.bb_schema.specs.Schema.{Schema}
use Rattle.bb_schema_classes.specs.Inheritance.{climbs}
use Rattle.bb_schema.specs.declared.slot.Content.TheVariants.{Default}
use Rattle.bb_schema_classes.specs.declared.value.Value.TheVariants.{Int, Text, Bool}
use Rattle.bb_code.specs.declared.op.Op.{Op}
use Rattle.bb_code.specs.declared.op.Op.TheVariants.{PushText, PushBool, PushInt, Say, Done, Decline, Rate, Answer}
use Rattle.bb_trace.specs.Change.TheVariants.{Create}
use Rattle.bb_trace.specs.ChangeKind.TheVariants as kinds
use Rattle.bb_trace.specs.Event.TheVariants.{Change as happens}
use Rattle.bb_trace.specs.BoardNote.TheVariants as noted
use Rattle.bb_trace.specs.Said.TheVariants as saids
use Rattle.bb_trace.specs.Board.{Board as Blackboard, new_board, with_world}
use Rattle.bb_trace.specs.World.{after_create}
use Rattle.bb_agenda.specs.declared.focusing.activation.Activation.{Activation}
use Rattle.bb_basis.specs.Results.{try_map}
use Rattle.bb_machine.specs.Machine.{pop, pop_many, push, room}
use Rattle.bb_machine.specs.Reading.{push_text}
use Rattle.bb_machine.specs.Changing.{say}
use Rattle.bb_machine.specs.Jumping.{answer, rate}
use Rattle.bb_machine.specs.Step.{step}
use Rattle.bb_machine.specs.Activation.{steps_from}
use Rattle.bb_code.specs.declared.parts.CodeParts.{CodeParts}
use Rattle.bb_code.specs.declared.version.Version.TheVariants.{One}
use Rattle.bb_verify_effect.specs.declared.part.Part.{Part}
use Rattle.bb_verify_effect.specs.declared.part.Part.TheVariants.{Do, Require, Obviate, Retrigger, Revalidate}
use Rattle.bb_verify.specs.Accepted.{Checked}
use Rattle.bb_rules.specs.declared.clause.Clause.TheVariants as clause
use Rattle.bb_rules.specs.declared.source.Act.TheVariants.{Code}
use Rattle.bb_rules.specs.declared.source.Reaction.{Reaction}
use Rattle.bb_rules.specs.Parts.{Source}
use Rattle.bb_trace.specs.declared.note.Note.TheVariants.{Board, Triggered, Declined, Obviated, Retriggered, Chosen, Invalid, Ended}
use Rattle.bb_run_plan.specs.Plan.{Plan}
use Rattle.bb_run.specs.Processing.{reacting_to_each, response_by, processing_all}
use Rattle.bb_run.specs.Run.{rating, start, cycle}

note_schema : Schema
note_schema = record {
  label_sets = [];
  classes = record { name = codes "focus"; parent = None; slots = 0 ∷ 1 ∷ 2 ∷ 3 ∷ [] } ∷ record { name = codes "note"; parent = None; slots = [] } ∷ [];
  slots = record { name = codes "source"; owner = 0; content = Default (Text []) } ∷ record { name = codes "area"; owner = 0; content = Default (Text []) }
      ∷ record { name = codes "weight"; owner = 0; content = Default (Int (pos 0)) } ∷ record { name = codes "active"; owner = 0; content = Default (Bool true) } ∷ [];
  spaces = [];
}

hello : CodeParts
hello = record { version = One; locals = 1; texts = codes "hello" ∷ []; queries = []; frames = []; loops = []; ops = PushText 0 ∷ Say 1 ∷ Done ∷ [] }

hail : Source
hail = record {
  name = codes "hail";
  class = 1;
  rate = pos 100;
  triggers = clause.Change kinds.Create 1 ∷ [];
  require = None;
  obviate = None;
  retrigger = None;
  revalidate = None;
  act = Code (record { code = hello; part = Do 1; frames = [] });
}

plan : ℤ → Plan
plan floor = record { schema = note_schema; sources = hail ∷ []; floor = floor }

one_note : Blackboard
one_note = with_world (new_board note_schema) (after_create (new_board note_schema).world 1)

waiting : Activation
waiting = record { number = 1; source = 0; unit = 1; base = pos 100 }

-- what the run of one note begins with
begun : (start (plan (pos 0)) one_note []).emitted ≡ (Board (noted.Event (happens 1 1 Create)) ∷ []) ∷ (Triggered waiting ∷ []) ∷ []
unfolding plan hail hello note_schema one_note waiting climbs response_by processing_all
begun = refl

-- the cycle of that run, with the rating that the activation has then
first_cycle : let s = (start (plan (pos 0)) one_note []).state in
    (cycle (plan (pos 0)) 1 waiting s).emitted ≡
    (Chosen 1 waiting (rating (plan (pos 0)) s waiting) ∷ [])
    ∷ (Board (noted.Said (saids.Value (Text (codes "hello")) ∷ [])) ∷ Ended 3 0 3 ∷ []) ∷ []
unfolding plan hail hello note_schema one_note waiting climbs try_map room push push_text pop_many say step steps_from response_by processing_all
first_cycle = refl

-- a source that declines whatever triggers it
decline : CodeParts
decline = record { version = One; locals = 1; texts = []; queries = []; frames = []; loops = []; ops = Decline ∷ [] }

shy : Source
shy = record {
  name = codes "shy";
  class = 1;
  rate = pos 100;
  triggers = clause.Change kinds.Create 1 ∷ [];
  require = Some (record { code = decline; part = Require 1; frames = [] });
  obviate = None;
  retrigger = None;
  revalidate = None;
  act = Code (record { code = hello; part = Do 1; frames = [] });
}

two_sources : Plan
two_sources = record { schema = note_schema; sources = shy ∷ hail ∷ []; floor = pos 0 }

second : Activation
second = record { number = 1; source = 1; unit = 1; base = pos 100 }

declined_first : (start two_sources one_note []).emitted ≡ (Board (noted.Event (happens 1 1 Create)) ∷ []) ∷ (Declined 0 1 ∷ Triggered second ∷ []) ∷ []
unfolding two_sources shy decline hail hello note_schema one_note second climbs step steps_from response_by processing_all
declined_first = refl

-- ---- what is asked about activations

-- a code with `locals` locals and without tables, accepted for a part
asked : ℕ → List Op → Part → Checked
asked locals ops part = record {
  code = record { version = One; locals = locals; texts = []; queries = []; frames = []; loops = []; ops = ops };
  part = part;
  frames = [];
}

-- a reaction to each new note
upon_note : List Op → Part → Reaction
upon_note ops part = record { class = 1; clauses = clause.Change kinds.Create 1 ∷ []; code = asked 2 ops part }

-- the source that hails each new note, with these reactions and this revalidation
hailing : Option Reaction → Option Reaction → Option Checked → Plan
hailing obviate retrigger revalidate = record {
  schema = note_schema;
  sources = record {
    name = codes "hail";
    class = 1;
    rate = pos 100;
    triggers = clause.Change kinds.Create 1 ∷ [];
    require = None;
    obviate = obviate;
    retrigger = retrigger;
    revalidate = revalidate;
    act = Code (record { code = hello; part = Do 1; frames = [] });
  } ∷ [];
  floor = pos 0;
}

two_notes : Blackboard
two_notes = with_world one_note (after_create one_note.world 1)

-- the activation of the second note
later : Activation
later = record { number = 2; source = 0; unit = 2; base = pos 100 }

-- the second note obviates the activation of the first, before it triggers one
obviated_by_the_next : (start (hailing (Some (upon_note (PushBool true ∷ Answer ∷ []) (Obviate 1 1))) None None) two_notes []).emitted ≡
    (Board (noted.Event (happens 1 1 Create)) ∷ Board (noted.Event (happens 2 1 Create)) ∷ []) ∷ (Triggered waiting ∷ [])
    ∷ (Obviated 1 ∷ Triggered later ∷ []) ∷ []
unfolding hailing upon_note asked hello note_schema one_note two_notes waiting later climbs room push pop answer step steps_from reacting_to_each response_by processing_all
obviated_by_the_next = refl

-- the second note gives the activation of the first another base
retriggered_by_the_next : (start (hailing None (Some (upon_note (PushInt (pos 7) ∷ Rate ∷ []) (Retrigger 1 1))) None) two_notes []).emitted ≡
    (Board (noted.Event (happens 1 1 Create)) ∷ Board (noted.Event (happens 2 1 Create)) ∷ []) ∷ (Triggered waiting ∷ [])
    ∷ (Retriggered 1 (pos 7) ∷ Triggered later ∷ []) ∷ []
unfolding hailing upon_note asked hello note_schema one_note two_notes waiting later climbs room push pop rate step steps_from reacting_to_each response_by processing_all
retriggered_by_the_next = refl

-- an activation that is of no use any more is not executed
abbrev revalidated : Plan
revalidated = hailing None None (Some (asked 1 (PushBool false ∷ Answer ∷ []) (Revalidate 1)))

invalid_when_chosen : let s = (start revalidated one_note []).state in
    (cycle revalidated 1 waiting s).emitted ≡ (Chosen 1 waiting (rating revalidated s waiting) ∷ Invalid 1 ∷ []) ∷ []
unfolding hailing asked hello note_schema one_note waiting climbs room push pop answer step steps_from response_by processing_all
invalid_when_chosen = refl
