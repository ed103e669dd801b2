-- The changes of an agenda (GBBopen Reference Manual, Agenda Shell; those of foci are of this project).
use Rattle.std.specs.Prelude.{ℕ, ℤ, Bool, true, not, [], ◌∷◌, ◌++◌, map, Result, Ok, Err, if◌then◌else◌}
use Rattle.std.specs.FinMap as fin
use Rattle.bb_agenda.specs.declared.focusing.activation.Activation.{Activation}
use Rattle.bb_agenda.specs.declared.fault.AddFault.{AddFault}
use Rattle.bb_agenda.specs.declared.fault.AddFault.TheVariants as faults
use Rattle.bb_agenda.specs.declared.focusing.focus.Focus.{Focus}
use Rattle.bb_agenda.specs.Agenda.{Agenda, Entry, pending, executed, obviated, has_number, next_number, is_full}

-- the activation that is added next
abbrev pub new_activation : Agenda → ℕ → ℕ → ℤ → Activation
new_activation a source unit base = record { number = next_number a; source = source; unit = unit; base = base }

-- the agenda with another activation, which is pending
abbrev pub with_activation : Agenda → ℕ → ℕ → ℤ → Agenda
with_activation a source unit base =
    record a { given = a.given ++ pending (new_activation a source unit base) ∷ [] }

-- the number that a new activation gets, if there can be one
abbrev pub added_number : Agenda → Result ℕ AddFault
added_number a = if is_full a then Err faults.Full else Ok (next_number a)

-- an entry, after the pending activation with this number gets another entry
abbrev pub becoming : ℕ → (Activation → Entry) → Entry → Entry
becoming number new_entry (pending a) = if has_number number a then new_entry a else pending a
becoming number new_entry executed = executed
becoming number new_entry obviated = obviated

-- the agenda, after the pending activation with this number gets another entry; unchanged if there is none
abbrev pub with_entry : Agenda → ℕ → (Activation → Entry) → Agenda
with_entry a number new_entry = record a { given = map (becoming number new_entry) a.given }

-- the agenda after the pending activation with this number is obviated
abbrev pub with_obviated : Agenda → ℕ → Agenda
with_obviated a number = with_entry a number (λ _. obviated)

-- the agenda after the pending activation with this number is executed
abbrev pub with_executed : Agenda → ℕ → Agenda
with_executed a number = with_entry a number (λ _. executed)

-- an activation with another base
abbrev pub based_at : ℤ → Activation → Activation
based_at base a = record { number = a.number; source = a.source; unit = a.unit; base = base }

-- the agenda after the pending activation with this number gets another base
abbrev pub with_base : Agenda → ℕ → ℤ → Agenda
with_base a number base = with_entry a number (λ x. pending (based_at base x))

-- the agenda after the focus of a unit is set
abbrev pub with_focus : Agenda → ℕ → Focus → Agenda
with_focus a unit focus = record a { foci = fin.insert a.foci unit focus }

-- the agenda after the focus of a unit is removed, if it had one
abbrev pub without_focus : Agenda → ℕ → Agenda
without_focus a unit = record a { foci = fin.remove a.foci unit }

-- the agenda after memory was refused
abbrev pub when_refused : Agenda → Agenda
when_refused a = record a { refused = true }

-- the agenda after an activation could not be added
abbrev pub after_add_fault : Agenda → AddFault → Agenda
after_add_fault a faults.Full = a
after_add_fault a faults.Memory = when_refused a

-- ---- the effect of changes on pending activations

-- the activation has another number
abbrev pub other_than : ℕ → Activation → Bool
other_than number a = not (has_number number a)

-- the activation, with another base if it has this number
abbrev pub rebased : ℕ → ℤ → Activation → Activation
rebased number base a = based_at (if has_number number a then base else a.base) a
