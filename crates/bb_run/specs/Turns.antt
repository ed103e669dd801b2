-- What a host lets a run do between its start and its finish, besides cycles up to a limit.
use Rattle.std.specs.Prelude.{ℕ, ◌+◌, List, [], ◌∷◌, length, Option, Some, None}
use Rattle.bb_agenda.specs.declared.focusing.activation.Activation.{Activation}
use Rattle.bb_trace.specs.Ask.{Ask}
use Rattle.bb_trace.specs.End.{End}
use Rattle.bb_trace.specs.declared.note.Note.TheVariants.{NativeEnded, Posted, PostEnded}
use Rattle.bb_run_plan.specs.Plan.{Plan}
use Rattle.bb_run.specs.State.{State}
use Rattle.bb_run.specs.Emission.{Stretch, after_emitted, and_then, idle, over}
use Rattle.bb_run.specs.Processing.{reported}
use Rattle.bb_run.specs.Order.{chosen_in, notes_of}
use Rattle.bb_run.specs.Run.{asked, choice, cycle, cycles, if_chosen, quiet}

-- the number of choices that a stretch emits
abbrev pub choices_of : Stretch → ℕ
choices_of p = length (chosen_in (notes_of p))

-- quiescence is emitted; if nothing can be chosen afterwards either, the run ends there
abbrev pub rested : Plan → State → Stretch
rested plan s = and_then (quiet plan s) (λ t. if_chosen t (choice plan t) (λ a. idle t))

-- a cycle after `made` cycles, or quiescence if nothing can be chosen
abbrev pub turn_by : Plan → (made : ℕ) → State → Option Activation → Stretch
turn_by plan made s (Some a) = cycle plan (made + 1) a s
turn_by plan made s None = rested plan s

abbrev pub turn : Plan → (made : ℕ) → State → Stretch
turn plan made s = turn_by plan made s (choice plan s)

-- asks from outside are emitted as such and applied, and then their events are processed
abbrev pub posting : Plan → List Ask → State → Stretch
posting plan asks s = reported plan (after_emitted (Posted ∷ []) (asked PostEnded asks s))

-- the asks of a native that is due are applied, and then their events are processed
abbrev pub answering : Plan → List Ask → State → Stretch
answering plan asks s = reported plan (asked NativeEnded asks s)

-- a run that its host ends after `made` cycles: if it has no end, it first comes to rest, or to its limit
abbrev pub settled : Plan → (made : ℕ) → Option End → State → Stretch
settled plan made None s = cycles plan made 0 s
settled plan made (Some end) s = over end s
