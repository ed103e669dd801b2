-- How an execution must end, according to the text.
use Rattle.std.specs.Prelude.{◌≡◌, Ok, Err}
use Rattle.bb_machine.specs.Activation.{Execution}
use Rattle.bb_machine.specs.declared.outcome.Stop.TheVariants.{Full, Stuck, Memory}
use Rattle.bb_theorem_meaning.specs.Meaning.{End, answered, full}

-- an execution ends with the answer that the text gives and leaves the text's blackboard, notes included; or it finds
-- no room for another unit, and the text finds none either; it never gets stuck
abbrev pub IsTold : End → Execution → Type 0
IsTold end (Ok outcome, b) = end ≡ answered outcome.answer b
IsTold end (Err (Full steps found), b) = end ≡ full b
IsTold end (Err (Stuck reason steps found), b) = ⊥
IsTold end (Err Memory, b) = ⊥
