-- What a call does to a held run.
use Rattle.std.specs.Str.Lines.{lines}
use Rattle.std.specs.Prelude.{◌≡◌, ◌⊎◌, ◌++◌, ◌∷◌, [], ◌≤◌, ℕ, ℤ, Bool, not, ◌==◌, IsSome, List, drop, length, min, take, Option, Some, None}
use Rattle.bb_c_run.specs.Ask.{Ask}
use Rattle.bb_c_run.specs.Ask.TheVariants.{Set}
use Rattle.bb_c_run.specs.Moves.{Move}
use Rattle.bb_c_run.specs.Moving.{Answers, Ends, Moves, Posts, left_by}
use Rattle.bb_c_run.specs.Opening.{Begins, meaning_of}
use Rattle.bb_c_run.specs.Sitting.{label_in, made_in, next_in, stands_now, unread}
use Rattle.bb_c_run.specs.declared.held.Held.{Held}
use Rattle.bb_c_run.specs.declared.stands.Stands.{Stands}
use Rattle.bb_c_run.specs.declared.stands.Stands.TheVariants as stand
use Rattle.bb_c_run.specs.Value.{Value}
use Rattle.bb_c_run.specs.Meaning.{Meaning}
use Rattle.bb_c.specs.declared.status.TheConstants.{OK, DUE, GOING, FULL, MEMORY, MISUSE, REFUSED}

-- the status that reports the state of a run
abbrev pub status_of : Stands → ℕ
status_of stand.Resting = OK
status_of stand.Going = GOING
status_of stand.Due = DUE
status_of stand.Full = FULL
status_of stand.Memory = MEMORY
status_of stand.Finished = MISUSE
status_of stand.Misused = MISUSE

-- the run of an input was begun, and the status is its state; or the input is refused, or memory ran out
abbrev pub Begun : (input natives : List ℕ) → (floor : ℤ) → Option Held → (status : ℕ) → Type 0
Begun input natives floor None status =
    ((status ≡ REFUSED) × (meaning_of input (lines natives) floor ≡ None)) ⊎ (status ≡ MEMORY)
Begun input natives floor (Some h) status =
    (m : Meaning) × (meaning_of input (lines natives) floor ≡ Some m) × Begins m h
    × (status ≡ status_of (stands_now h.running))

-- a handle that has a run keeps it
abbrev pub Opens : (old new : Option Held) → (input natives : List ℕ) → (floor : ℤ) → (status : ℕ) → Type 0
Opens (Some h) new input natives floor status = (new ≡ Some h) × (status ≡ MISUSE)
Opens None new input natives floor status = Begun input natives floor new status

-- the move was made, the status is the state of the run, and the gathered asks are unchanged
abbrev pub Turns : Move → Held → Option Held → (status : ℕ) → Type 0
Turns m h None status = ⊥
Turns m h (Some k) status =
    ((s : Stands) × (status ≡ status_of s) × Moves m h.running k.running (unread h.trace) (unread k.trace) s)
    × (k.asks ≡ h.asks)

-- a move of what the handle holds
abbrev pub Calls : Move → (old new : Option Held) → (status : ℕ) → Type 0
Calls m None new status = (new ≡ None) × (status ≡ MISUSE)
Calls m (Some h) new status = Turns m h new status

-- a post, and an answer, with the asks that were gathered
abbrev pub Posted : Held → Held → Stands → Type 0
Posted h k s = Posts h.asks.items h.running k.running (unread h.trace) (unread k.trace) s

abbrev pub Answered : Held → Held → Stands → Type 0
Answered h k s = Answers h.asks.items h.running k.running (unread h.trace) (unread k.trace) s

-- the gathered asks went into a post or an answer, and none are gathered any more; or it did nothing, and they stay
abbrev pub Tells : (Held → Held → Stands → Type 0) → Held → Option Held → (status : ℕ) → Type 0
Tells does h None status = ⊥
Tells does h (Some k) status =
    (s : Stands) × (status ≡ status_of s) × does h k s × (k.asks.items ≡ left_by s h.asks.items)

abbrev pub Applies : (Held → Held → Stands → Type 0) → (old new : Option Held) → (status : ℕ) → Type 0
Applies does None new status = (new ≡ None) × (status ≡ MISUSE)
Applies does (Some h) new status = Tells does h new status

-- the run was ended, the status tells how, and what it emitted can be read; or a native is due
abbrev pub Ended : Held → Option Held → (status : ℕ) → Type 0
Ended h None status = ⊥
Ended h (Some k) status =
    ((s : Stands) × (status ≡ status_of s) × Ends h.running k.running (unread h.trace) (unread k.trace) s)
    × (k.asks ≡ h.asks)

abbrev pub Finishes : (old new : Option Held) → (status : ℕ) → Type 0
Finishes None new status = (new ≡ None) × (status ≡ MISUSE)
Finishes (Some h) new status = Ended h new status

-- only the gathered asks changed, to these
abbrev pub HasAsks : List Ask → Held → Option Held → Type 0
HasAsks asks h None = ⊥
HasAsks asks h (Some k) = (k.asks.items ≡ asks) × (k.running ≡ h.running) × (k.trace ≡ h.trace)

-- an ask was gathered after the others; or none was, because memory ran out
abbrev pub Gathered : Ask → Held → Option Held → (status : ℕ) → Type 0
Gathered ask h new status =
    ((status ≡ OK) × HasAsks (h.asks.items ++ ask ∷ []) h new) ⊎ ((status ≡ MEMORY) × HasAsks h.asks.items h new)

abbrev pub Gathers : Ask → (old new : Option Held) → (status : ℕ) → Type 0
Gathers ask None new status = (new ≡ None) × (status ≡ MISUSE)
Gathers ask (Some h) new status = Gathered ask h new status

-- the status of a refusal, because what was passed is not right
abbrev pub IsRefused : (is_right : Type 0) → (status : ℕ) → Type 0
IsRefused is_right status = (status ≡ REFUSED) × ¬ is_right

-- an ask with these arguments: it is gathered; or nothing changed, because it is refused or memory ran out
abbrev pub Asks : (is_right : Type 0) → Ask → (old new : Option Held) → (status : ℕ) → Type 0
Asks is_right ask old new status =
    (is_right × Gathers ask old new status) ⊎ ((new ≡ old) × ((status ≡ MEMORY) ⊎ IsRefused is_right status))

-- a label by its names, if the handle's run has it
abbrev pub label_at : Option Held → (set label : List ℕ) → Option Value
label_at None set label = None
label_at (Some h) set label = label_in h.running set label

-- there is no such label, or no run
abbrev pub IsNoLabel : (is_right : Type 0) → Option Value → Option Held → (status : ℕ) → Type 0
IsNoLabel is_right label held status =
    IsRefused (is_right × IsSome label) status ⊎ ((status ≡ MISUSE) × (held ≡ None))

-- an ask to set a slot to a label
abbrev pub AsksLabel : (is_right : Type 0) → Option Value → (unit : ℕ) → (slot : List ℕ) → (old new : Option Held)
    → (status : ℕ) → Type 0
AsksLabel is_right (Some v) unit slot old new status = Asks is_right (Set unit slot v) old new status
AsksLabel is_right None unit slot old new status =
    (new ≡ old) × ((status ≡ REFUSED) ⊎ ((status ≡ MISUSE) × (old ≡ None)))

-- a number as a truth value
abbrev pub truth_of : ℕ → Bool
truth_of n = not (n == 0)

-- the gathered asks are discarded
abbrev pub Discards : (old new : Option Held) → (status : ℕ) → Type 0
Discards None new status = (new ≡ None) × (status ≡ MISUSE)
Discards (Some h) new status = HasAsks [] h new × (status ≡ OK)

-- a prefix of what was not read yet was read, as long as the buffer allows, and nothing else changed
abbrev pub Gives : Held → Option Held → (to given : List ℕ) → (len : ℕ) → Type 0
Gives h None to given len = ⊥
Gives h (Some k) to given len =
    (len ≡ min (length (unread h.trace)) (length to)) × (given ≡ take len (unread h.trace) ++ drop len to)
    × (unread k.trace ≡ drop len (unread h.trace)) × (k.running ≡ h.running) × (k.asks ≡ h.asks)

abbrev pub Reads : (old new : Option Held) → (to given : List ℕ) → (len status : ℕ) → Type 0
Reads None new to given len status = (new ≡ None) × (given ≡ to) × (len ≡ 0) × (status ≡ MISUSE)
Reads (Some h) new to given len status = Gives h new to given len × (status ≡ OK)

-- the unread trace was discarded, and nothing else changed
abbrev pub Skipped : Held → Option Held → Type 0
Skipped h None = ⊥
Skipped h (Some k) = (unread k.trace ≡ []) × (k.running ≡ h.running) × (k.asks ≡ h.asks)

abbrev pub Skips : (old new : Option Held) → (status : ℕ) → Type 0
Skips None new status = (new ≡ None) × (status ≡ MISUSE)
Skips (Some h) new status = Skipped h new × (status ≡ OK)

-- the number of the next new unit, or 0
abbrev pub next_of : Option Held → ℕ
next_of None = 0
next_of (Some h) = next_in h.running

-- the number of cycles that were made, or 0
abbrev pub made_of : Option Held → ℕ
made_of None = 0
made_of (Some h) = made_in h.running
