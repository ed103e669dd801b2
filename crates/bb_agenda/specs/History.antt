-- Changes of an agenda in sequence.
use Rattle.std.specs.Prelude.{ℕ, ℤ, List}
use Rattle.std.specs.List.{fold}
use Rattle.bb_agenda.specs.declared.focusing.focus.Focus.{Focus}
use Rattle.bb_agenda.specs.Agenda.{Agenda}
use Rattle.bb_agenda.specs.Changes.{with_activation, with_obviated, with_executed, with_base, with_focus, without_focus}
use Rattle.bb_agenda.specs.Changes.{when_refused}

-- one change, or a refusal of memory to one
pub data Change : Type 0 where
  adding : (source unit : ℕ) (base : ℤ) → Change
  obviating : (number : ℕ) → Change
  executing : (number : ℕ) → Change
  rerating : (number : ℕ) (base : ℤ) → Change
  focusing : (unit : ℕ) (focus : Focus) → Change
  unfocusing : (unit : ℕ) → Change
  refusing : Change

-- the agenda after a change
abbrev pub changed : Agenda → Change → Agenda
changed a (adding source unit base) = with_activation a source unit base
changed a (obviating number) = with_obviated a number
changed a (executing number) = with_executed a number
changed a (rerating number base) = with_base a number base
changed a (focusing unit focus) = with_focus a unit focus
changed a (unfocusing unit) = without_focus a unit
changed a refusing = when_refused a

-- the agenda after changes, in order
abbrev pub after : List Change → Agenda → Agenda
after changes a = fold changed a changes
