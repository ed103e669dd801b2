-- What a run leaves on its blackboard, as a document of initial units.
use Rattle.std.specs.Prelude.{◌≡◌, ℕ, ℤ, List, Result, Some, IsSomeAnd}
use Rattle.bb_board_document.specs.Document.{units_text}
use Rattle.bb_board_document.specs.Loading.{LoadsAs}
use Rattle.bb_board_document.specs.Renumbered.{renumbered}
use Rattle.bb_run.specs.Finish.{end_of}
use Rattle.bb_run.specs.declared.finish.Finish.{Finish}
use Rattle.bb_shell.specs.Fitting.{native_names}
use Rattle.bb_refusal.specs.declared.input_fault.InputFault.{InputFault}
use Rattle.bb_shell.specs.Meaning.{Meaning, meaning}
use Rattle.bb_run.specs.Native.{Native}
use Rattle.bb_run.specs.Run.{run}
use Rattle.bb_run.specs.Sight.{Sight, sight_of}
use Rattle.bb_shell.specs.declared.texts.Texts.{Texts}

-- what texts mean, with these natives
abbrev pub meaning_of : List Native → Texts → (floor : ℤ) → Result Meaning InputFault
meaning_of natives t floor = meaning (native_names natives) t.schema.now t.units.now t.sources.now t.bundle.now floor

-- the contents of the blackboard that a run leaves
abbrev pub left_by : List Native → (limit : ℕ) → Meaning → Sight
left_by natives limit m = sight_of (run m.plan m.board natives limit).state.board

-- its document
abbrev pub left_text : List Native → (limit : ℕ) → Meaning → List ℕ
left_text natives limit m = units_text (left_by natives limit m)

-- the run ends with this finish, and was not cut short
abbrev pub EndsBy : List Native → (limit : ℕ) → Meaning → Finish → Type 0
EndsBy natives limit m f = IsSomeAnd (end_of f) (λ end. (run m.plan m.board natives limit).end ≡ Some end)

-- a text is a document of initial units without a fault, and a blackboard that loads it has the contents of the run's
-- final one, under numbers without gaps
abbrev pub LoadsAsLeft : List Native → (limit : ℕ) → Meaning → (text : List ℕ) → Type 0
LoadsAsLeft natives limit m text =
    let seen = left_by natives limit m in LoadsAs seen.schema text (renumbered seen)
