-- What moves do to a run that a host in another language holds.
use Rattle.std.specs.Prelude.{◌≡◌, ◌++◌, ◌⊎◌, ◌&&◌, ℕ, Bool, true, false, if◌then◌else◌, not, List, [], take, is_some, Option, Some, None}
use Rattle.bb_shell.specs.Emitting.{WroteUntil}
use Rattle.bb_shell.specs.Emission.{Stretch}
use Rattle.bb_shell.specs.Plan.{Plan}
use Rattle.bb_shell.specs.TraceText.{trace_text}
use Rattle.bb_run_held.specs.Moves.{Move, answer, finished, is_due, moved, pause_by, post}
use Rattle.bb_run_held.specs.declared.running.Running.{Running}
use Rattle.bb_shell.specs.Ask.{Ask}
use Rattle.bb_shell.specs.Note.{Note}
use Rattle.bb_shell.specs.Halt.{Halt}
use Rattle.bb_c_run.specs.Sitting.{standing, stands_by}
use Rattle.bb_c_run.specs.declared.no_native.NoNative.{NoNative}
use Rattle.bb_c_run.specs.declared.stands.Stands.{Stands}
use Rattle.bb_c_run.specs.declared.stands.Stands.TheVariants as stand

-- memory ran out: either before, and nothing was written, or in these segments, of which a prefix was written
abbrev pub CutShort : Plan → List (List Note) → (was now : List ℕ) → Type 0
CutShort plan segments was now = (now ≡ was) ⊎ ((halt : Halt) × WroteUntil plan (Some was) (Some now) segments halt)

-- a move was made, and what it emits can be read
abbrev pub Goes : {b : _} → Move → (r t : Running NoNative b) → (was now : List ℕ) → Stands → Type 0
Goes m r t was now s =
    let p = moved r.plan m (standing r) in
    (standing t ≡ p.standing) × (now ≡ was ++ trace_text r.plan p.emitted) × (s ≡ stands_by p.standing.pause)

-- a move of a run: it was made, or cut short because memory ran out
abbrev pub Makes : {b : _} → Move → (r : Running NoNative b) → Option (Running NoNative b) → (was now : List ℕ) → Stands → Type 0
Makes m r None was now s = ⊥
Makes m r (Some t) was now s =
    (t.plan ≡ r.plan) × (Goes m r t was now s ⊎ ((s ≡ stand.Memory) × CutShort r.plan (moved r.plan m (standing r)).emitted was now))

-- a move of what is held: for a finished run nothing happens
abbrev pub Moves : {b : _} → Move → (old new : Option (Running NoNative b)) → (was now : List ℕ) → Stands → Type 0
Moves m None new was now s = (new ≡ None) × (now ≡ was) × (s ≡ stand.Finished)
Moves m (Some r) new was now s = Makes m r new was now s

-- a native is due, and no move of the run was cut short: the run can neither be posted to nor ended
abbrev pub must_go_on : {b : _} → Running NoNative b → Bool
must_go_on r = is_due r.pause && not (is_some r.cut)

-- no native is due, and no move of the run was cut short: nothing can be answered
abbrev pub owes_nothing : {b : _} → Running NoNative b → Bool
owes_nothing r = not (is_due r.pause) && not (is_some r.cut)

-- a move with asks; if it can't be made now, nothing happens
abbrev pub MakesUnless : {b : _} → (misused : Bool) → Move → (r : Running NoNative b) → Option (Running NoNative b) → (was now : List ℕ) → Stands → Type 0
MakesUnless true m r new was now s = (new ≡ Some r) × (now ≡ was) × (s ≡ stand.Misused)
MakesUnless false m r new was now s = Makes m r new was now s

-- a post to what is held: nothing happens while a native is due, and to a finished run
abbrev pub Posts : {b : _} → List Ask → (old new : Option (Running NoNative b)) → (was now : List ℕ) → Stands → Type 0
Posts asks None new was now s = (new ≡ None) × (now ≡ was) × (s ≡ stand.Finished)
Posts asks (Some r) new was now s = MakesUnless (must_go_on r) (post asks) r new was now s

-- an answer to what is held: nothing happens while no native is due, and to a finished run
abbrev pub Answers : {b : _} → List Ask → (old new : Option (Running NoNative b)) → (was now : List ℕ) → Stands → Type 0
Answers asks None new was now s = (new ≡ None) × (now ≡ was) × (s ≡ stand.Finished)
Answers asks (Some r) new was now s = MakesUnless (owes_nothing r) (answer asks) r new was now s

-- a call that leaves a run so did nothing
abbrev pub did_nothing : Stands → Bool
did_nothing stand.Finished = true
did_nothing stand.Misused = true
did_nothing s = false

-- the asks that are gathered after a post or an answer: all of them if it did nothing, else none
abbrev pub left_by : Stands → List Ask → List Ask
left_by s asks = if did_nothing s then asks else []

-- memory ran out: either before, and nothing was written; or at the end of a run, and its first segments, or a prefix
-- of its text, were written
abbrev pub EndsEarly : Plan → Stretch → (was now : List ℕ) → Type 0
EndsEarly plan p was now =
    (now ≡ was) ⊎ ((count : ℕ) × ((now ≡ was ++ trace_text plan (take count p.emitted)) ⊎ (now ≡ was ++ take count (trace_text plan p.emitted))))

-- a run was ended, and its end can be read; or memory ran out
abbrev pub Concludes : Plan → Stretch → (was now : List ℕ) → Stands → Type 0
Concludes plan p was now s =
    ((now ≡ was ++ trace_text plan p.emitted) × (s ≡ stands_by (pause_by p.end)))
    ⊎ ((s ≡ stand.Memory) × EndsEarly plan p was now)

-- a run was ended, and nothing is held any more; one that waits for its native's answer is unchanged
abbrev pub EndsUnless : {b : _} → (waiting : Bool) → (r : Running NoNative b) → (new : Option (Running NoNative b)) → (was now : List ℕ) → Stands → Type 0
EndsUnless true r new was now s = (new ≡ Some r) × (now ≡ was) × (s ≡ stand.Due)
EndsUnless false r new was now s = (new ≡ None) × Concludes r.plan (finished r.plan (standing r)) was now s

-- the end of what is held
abbrev pub Ends : {b : _} → (old new : Option (Running NoNative b)) → (was now : List ℕ) → Stands → Type 0
Ends None new was now s = (new ≡ None) × (now ≡ was) × (s ≡ stand.Finished)
Ends (Some r) new was now s = EndsUnless (must_go_on r) r new was now s
