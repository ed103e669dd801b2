-- The meaning of a part's text.
use Rattle.std.specs.Prelude.{List, [], ◌∷◌, Some, None, Ok, Err, codes}
use Rattle.bb_lang.specs.Blocks.{BlockTree}
use Rattle.bb_verify_effect.specs.declared.part.Part.{Part}
use Rattle.bb_verify_effect.specs.declared.part.Part.TheVariants.{Do}
use Rattle.bb_board.specs.Board.{Board}
use Rattle.bb_machine.specs.declared.outcome.Answer.TheVariants.{Done}
use Rattle.bb_machine.specs.declared.outcome.Entry.{Entry}
use Rattle.bb_machine.specs.declared.value.Value.TheVariants.{Unit as One}
use Rattle.bb_theorem_meaning.specs.Meaning.{End, Meaning, Name, answered, meaningless}
use Rattle.bb_theorem_meaning.specs.Statements.{Scene, statements}

-- a part begins with names for the activation's unit and, if it responds to an event, for the event's unit
abbrev pub first_names : Entry → List Name
first_names entry =
    record { name = codes "it"; value = One entry.it }
    ∷ elim entry.ev [ None ↦ [] | Some n ↦ record { name = codes "ev"; value = One n } ∷ [] ]

abbrev pub first_scene : Entry → Board → Scene
first_scene entry b = record { names = first_names entry; board = b }

-- a `do` is done after its last statement; another part must end before
abbrev pub ended : Part → Meaning Scene → End
ended (Do class) (Ok s) = answered Done s.board
ended part (Ok s) = meaningless
ended part (Err end) = end

-- how the text of a part ends, for the units that it begins with, on a blackboard
abbrev pub meaning : Part → BlockTree → Entry → Board → End
meaning part block entry b = ended part (statements block (first_scene entry b))
