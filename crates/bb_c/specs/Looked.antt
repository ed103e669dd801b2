-- What a call that looks up something of a run returns.
use Rattle.std.specs.Prelude.{◌≡◌, ◌⊎◌, ℕ, Bool, List, length, Option, Some, None, option_and_then}
use Rattle.std.specs.Str.{IsUtf8}
use Rattle.bb_c_run.specs.Costs.{creates_in, most_steps_in}
use Rattle.bb_c_run.specs.Looking.{class_at, document_at, due_in, filled, kind_at, label_name_at, members_at, partners_at, units_at, value_at}
use Rattle.bb_c_run.specs.Value.{Value}
use Rattle.bb_c_run.specs.Waiting.{choice_in, pending_in, waits_in}
use Rattle.bb_c_run.specs.declared.agenda.Waits.{Waits}
use Rattle.bb_c_run.specs.declared.slot_kind.SlotKind.{SlotKind}
use Rattle.bb_c_run.specs.declared.slot_kind.SlotKind.TheVariants as kinds
use Rattle.bb_c_run.specs.declared.held.Held.{Held}
use Rattle.bb_c.specs.Called.{IsRefused}
use Rattle.bb_c.specs.declared.status.TheConstants.{OK, NONE, MISUSE, KIND_INT, KIND_TEXT, KIND_BOOL, KIND_LABEL, KIND_INTERVAL, KIND_LINK}

-- the item exists, and `came` holds of it; or it does not, and nothing was written
abbrev pub Comes : {X : Type 0} → Option X → (came : X → Type 0) → (same : Type 0) → (status : ℕ) → Type 0
Comes (Some x) came same status = came x × (status ≡ OK)
Comes None came same status = same × (status ≡ NONE)

-- a lookup in what a handle holds
abbrev pub Looks : {X : Type 0} → Option Held → (Held → Option X) → (came : X → Type 0) → (same : Type 0) → (status : ℕ) → Type 0
Looks None find came same status = same × (status ≡ MISUSE)
Looks (Some h) find came same status = Comes (find h) came same status

-- the name is UTF-8, and `came` holds; or it is refused, and nothing was written
abbrev pub IfText : (name : List ℕ) → (came same : Type 0) → (status : ℕ) → Type 0
IfText name came same status = (IsUtf8 name × came) ⊎ (same × IsRefused (IsUtf8 name) status)

-- what the value in a slot holds, if it is of a kind
abbrev pub of_value : {X : Type 0} → (Value → Option X) → (unit : ℕ) → (slot : List ℕ) → Held → Option X
of_value of unit slot h = option_and_then of (value_at h.running unit slot)

abbrev pub class_of : (unit : ℕ) → Held → Option (List ℕ)
class_of unit h = class_at h.running unit

abbrev pub label_name_of : (unit : ℕ) → (slot : List ℕ) → Held → Option (List ℕ)
label_name_of unit slot h = label_name_at h.running unit slot

abbrev pub partners_of : (unit : ℕ) → (slot : List ℕ) → Held → Option (List ℕ)
partners_of unit slot h = partners_at h.running unit slot

abbrev pub units_of : (class : List ℕ) → Held → Option (List ℕ)
units_of class h = units_at h.running class

abbrev pub members_of : (space : List ℕ) → Held → Option (List ℕ)
members_of space h = members_at h.running space

-- the number of a kind of slot
abbrev pub kind_number : SlotKind → ℕ
kind_number kinds.Int = KIND_INT
kind_number kinds.Text = KIND_TEXT
kind_number kinds.Bool = KIND_BOOL
kind_number kinds.Label = KIND_LABEL
kind_number kinds.Interval = KIND_INTERVAL
kind_number kinds.Link = KIND_LINK

abbrev pub kind_of : (unit : ℕ) → (slot : List ℕ) → Held → Option SlotKind
kind_of unit slot h = kind_at h.running unit slot

abbrev pub pending_of : Held → Option (List ℕ)
pending_of h = pending_in h.running

abbrev pub waits_of : (number : ℕ) → Held → Option (Waits × List ℕ)
waits_of number h = waits_in h.running number

abbrev pub choice_of : Held → Option ℕ
choice_of h = choice_in h.running

abbrev pub document_of : Held → Option (List ℕ)
document_of h = document_at h.running

abbrev pub due_of : Held → Option (ℕ × List ℕ)
due_of h = due_in h.running

abbrev pub most_steps_of : (found : ℕ) → Held → Option ℕ
most_steps_of found h = most_steps_in h.running found

abbrev pub creates_of : Held → Option Bool
creates_of h = creates_in h.running

-- as much of a list as the buffer has room for, and its length
abbrev pub Fills : (room filled' : List ℕ) → (len : ℕ) → List ℕ → Type 0
Fills room filled' len found = (filled' ≡ filled found room) × (len ≡ length found)
