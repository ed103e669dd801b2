-- The foci that a blackboard has, and how the agenda learns of them (of this project; that control is data on the
-- blackboard is Hayes-Roth's idea, 1985).
use Rattle.std.specs.Prelude.{ℕ, ℤ, Bool, false, List, map, Option, Some, None, if◌then◌else◌}
use Rattle.std.specs.List.{fold, range_with_len}
use Rattle.std.specs.Option.{option_map_or}
use Rattle.std.specs.FinMap as fin
use Rattle.bb_schema_classes.specs.declared.value.Value.{Value}
use Rattle.bb_schema_classes.specs.declared.value.Value.TheVariants as values
use Rattle.bb_schema.specs.Schema.{Schema, descends}
use Rattle.bb_agenda.specs.declared.focusing.focus.Focus.{Focus}
use Rattle.bb_agenda.specs.declared.focusing.setting.RatedSource.{RatedSource}
use Rattle.bb_agenda.specs.focusing.Foci.{Foci, Setting}
use Rattle.bb_agenda.specs.Agenda.{Agenda, no_activations}
use Rattle.bb_board.specs.Board.{Board as Blackboard}
use Rattle.bb_board.specs.declared.note.Note.{Note as BoardNote}
use Rattle.bb_board.specs.declared.note.Note.TheVariants.{Event as happened, Said as said}
use Rattle.bb_board.specs.Events.{unit_of}
use Rattle.bb_board.specs.Units.{Units, class_of, value_of}
use Rattle.bb_rules.specs.Parts.{Source}
use Rattle.bb_run_plan.specs.Plan.{Plan}

-- ---- the foci of a blackboard

-- the text, number or truth value that a slot holds
abbrev pub text_in : Option Value → Option (List ℕ)
text_in (Some (values.Text text)) = Some text
text_in _ = None

abbrev pub number_in : Option Value → Option ℤ
number_in (Some (values.Int number)) = Some number
number_in _ = None

abbrev pub truth_in : Option Value → Option Bool
truth_in (Some (values.Bool truth)) = Some truth
truth_in _ = None

-- the focus with these values of its four slots
abbrev pub focus_from : Option (List ℕ) → Option (List ℕ) → Option ℤ → Option Bool → Option Focus
focus_from (Some source) (Some area) (Some weight) (Some active) =
    Some (record { source = source; area = area; weight = weight; active = active })
focus_from _ _ _ _ = None

-- the unit is live, and its class descends from the built-in class `focus`
abbrev pub is_focus : Schema → Units → ℕ → Bool
is_focus s u n = option_map_or (λ class. descends s class 0) (class_of u n) false

-- the focus that a unit is, by its slots from 0 to 3
unfoldable pub focus_of : Schema → Units → ℕ → Option Focus
focus_of s u n =
    if is_focus s u n
    then focus_from (text_in (value_of u n 0)) (text_in (value_of u n 1)) (number_in (value_of u n 2)) (truth_in (value_of u n 3))
    else None

-- foci after a unit was told: its focus is set under its number, or removed if it is not a focus
abbrev pub told_unit : Schema → Units → Foci → ℕ → Foci
told_unit s u foci n = option_map_or (λ focus. fin.insert foci n focus) (focus_of s u n) (fin.remove foci n)

-- all foci of a blackboard: of every live unit, the focus that it is, if it is one
abbrev pub foci_on : Blackboard → Foci
foci_on board = fold (told_unit board.schema board.world.units) fin.empty (fin.keys board.world.units.units)

-- ---- what the agenda is told

-- foci after the unit that a note names was told
abbrev pub told_note : Schema → Units → Foci → BoardNote → Foci
told_note s u foci (happened event) = told_unit s u foci (unit_of event)
told_note s u foci (said values) = foci

-- foci after the units that notes name were told, in order
abbrev pub told_notes : Schema → Units → List BoardNote → Foci → Foci
told_notes s u notes foci = fold (told_note s u) foci notes

-- foci after all numbers ever given out were told, and 0, which names no unit
abbrev pub told_all : Schema → Units → Foci → Foci
told_all s u foci = fold (told_unit s u) foci (range_with_len 0 u.next)

-- an agenda with these foci
abbrev pub with_foci : Agenda → Foci → Agenda
with_foci a foci = record a { foci = foci }

-- ---- the agenda that a run begins with

-- what foci are matched with in a source: its name and its class
abbrev pub rated_source : Source → RatedSource
rated_source source = record { name = source.name; class = source.class }

abbrev pub setting_of : Plan → Setting
setting_of plan = record { schema = plan.schema; sources = map rated_source plan.sources }

-- the agenda that a run begins with: nothing is pending, and it knows the foci of the blackboard
abbrev pub first_agenda : Plan → Blackboard → Agenda
first_agenda plan board =
    with_foci (no_activations (setting_of plan)) (told_all board.schema board.world.units fin.empty)
