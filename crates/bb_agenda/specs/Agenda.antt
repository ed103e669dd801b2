-- The agenda: all activations ever added, and which are pending (GBBopen Reference Manual, Agenda Shell), and the foci
-- that rate them (of this project).
use Rattle.std.specs.Prelude.{ℕ, zero, suc, ◌+◌, Bool, false, ◌||◌, ◌==◌, nat_le, List, [], map, filter, find, length, slice_get, Option, Some, None, option_map}
use Rattle.std.specs.List.{filter_map}
use Rattle.std.specs.FinMap as fin
use Rattle.bb_agenda.specs.declared.focusing.activation.Activation.{Activation}
use Rattle.bb_agenda.specs.declared.status.Status.{Status}
use Rattle.bb_agenda.specs.declared.status.Status.TheVariants as statuses
use Rattle.bb_agenda.specs.declared.agenda.TheConstants.{PENDING_LIMIT, NUMBER_LIMIT}
use Rattle.bb_agenda.specs.focusing.Foci.{Foci, Setting}

-- what became of an activation: it is pending, executed or obviated
pub data Entry : Type 0 where
  pending : Activation → Entry
  executed : Entry
  obviated : Entry

-- the activation, if it is pending
abbrev pub if_pending : Entry → Option Activation
if_pending (pending a) = Some a
if_pending executed = None
if_pending obviated = None

-- what became of an activation, as a status
abbrev pub status_of : Entry → Status
status_of (pending a) = statuses.Pending
status_of executed = statuses.Executed
status_of obviated = statuses.Obviated

pub record Agenda : Type 0 where
  -- all activations ever added, in ascending order of their numbers, from 1
  pub given : List Entry
  -- the foci that are set
  pub foci : Foci
  -- what the foci are matched with
  pub setting : Setting
  -- whether memory was refused to a change; once it was, every change is refused
  pub refused : Bool

-- an agenda without activations and foci
abbrev pub no_activations : Setting → Agenda
no_activations setting = record { given = []; foci = fin.empty; setting = setting; refused = false }

-- the pending activations, in ascending order of their numbers
abbrev pub pending_of : Agenda → List Activation
pending_of a = filter_map if_pending a.given

-- the number of an activation
abbrev pub number_of : Activation → ℕ
number_of a = a.number

-- the activation has this number
abbrev pub has_number : ℕ → Activation → Bool
has_number number a = a.number == number

-- the activation belongs to this source
abbrev pub is_of : ℕ → Activation → Bool
is_of source a = a.source == source

-- the activation is for this unit
abbrev pub is_on : ℕ → Activation → Bool
is_on unit a = a.unit == unit

-- the numbers of the pending activations
abbrev pub numbers_pending : Agenda → List ℕ
numbers_pending a = map number_of (pending_of a)

-- the pending activations of a source
abbrev pub pending_for : Agenda → ℕ → List Activation
pending_for a source = filter (is_of source) (pending_of a)

-- the numbers of the pending activations of a source
abbrev pub numbers_for : Agenda → ℕ → List ℕ
numbers_for a source = map number_of (pending_for a source)

-- the pending activations of a source for a unit
abbrev pub pending_on : Agenda → (source unit : ℕ) → List Activation
pending_on a source unit = filter (is_on unit) (pending_for a source)

-- the numbers of the pending activations of a source for a unit
abbrev pub numbers_on : Agenda → (source unit : ℕ) → List ℕ
numbers_on a source unit = map number_of (pending_on a source unit)

-- the pending activation with a number
abbrev pub pending_at : Agenda → ℕ → Option Activation
pending_at a number = find (has_number number) (pending_of a)

-- the entry of a number, if the number was given
abbrev pub entry_of : Agenda → ℕ → Option Entry
entry_of a zero = None
entry_of a (suc index) = slice_get a.given index

-- what became of the activation with a number, if the number was given
abbrev pub status : Agenda → ℕ → Option Status
status a number = option_map status_of (entry_of a number)

-- the number that the next activation gets
abbrev pub next_number : Agenda → ℕ
next_number a = length a.given + 1

-- no activation can be added: the maximum number are pending, or the last number was given
abbrev pub is_full : Agenda → Bool
is_full a = nat_le PENDING_LIMIT (length (pending_of a)) || nat_le NUMBER_LIMIT (length a.given)
