-- The run that the bytes of an input begin, if the host answers for natives.
use Rattle.std.specs.Prelude.{◌≡◌, ℕ, ℤ, List, [], Option, Some, None, IsSomeAnd, Result, Ok, Err}
use Rattle.bb_main_input.specs.Input.{input_of}
use Rattle.bb_main_input.specs.Refusals.{section_line}
use Rattle.bb_main_input.specs.Sections.{Texts}
use Rattle.bb_main_input.specs.declared.section_fault.SectionFault.{SectionFault}
use Rattle.bb_shell.specs.InputFault.{InputFault}
use Rattle.bb_shell.specs.Refusals.{refusal_text}
use Rattle.bb_run_held.specs.Moves.{started}
use Rattle.bb_shell.specs.TraceText.{trace_text}
use Rattle.bb_shell.specs.Meaning.{Meaning, meaning}
use Rattle.bb_c_run.specs.Sitting.{standing, unread}
use Rattle.bb_c_run.specs.declared.held.Held.{Held}

abbrev pub unless_refused : Result Meaning InputFault → Option Meaning
unless_refused (Ok m) = Some m
unless_refused (Err fault) = None

abbrev pub in_sections : (natives : List (List ℕ)) → (floor : ℤ) → Result Texts SectionFault → Option Meaning
in_sections natives floor (Ok t) = unless_refused (meaning natives t.schema t.units t.sources t.bundle floor)
in_sections natives floor (Err fault) = None

-- what the bytes of an input mean, if the host answers for natives with these names; nothing if the input is refused
abbrev pub meaning_of : (input : List ℕ) → (natives : List (List ℕ)) → (floor : ℤ) → Option Meaning
meaning_of input natives floor = in_sections natives floor (input_of input)

abbrev pub line_unless_meant : Result Meaning InputFault → Option (List ℕ)
line_unless_meant (Ok m) = None
line_unless_meant (Err fault) = Some (refusal_text fault)

abbrev pub line_in_sections : (natives : List (List ℕ)) → (floor : ℤ) → Result Texts SectionFault → Option (List ℕ)
line_in_sections natives floor (Ok t) = line_unless_meant (meaning natives t.schema t.units t.sources t.bundle floor)
line_in_sections natives floor (Err fault) = Some (section_line fault)

-- the line by which an input is refused, if the host answers for natives with these names; nothing if it has a meaning
abbrev pub refusal_of : (input : List ℕ) → (natives : List (List ℕ)) → (floor : ℤ) → Option (List ℕ)
refusal_of input natives floor = line_in_sections natives floor (input_of input)

-- a run was begun with what an input means: its start can be read, and no asks are gathered
abbrev pub Begins : Meaning → Held → Type 0
Begins m h =
    let p = started m.plan m.board [] in
    IsSomeAnd h.running (λ r. (r.plan ≡ m.plan) × (standing r ≡ p.standing) × (r.cut ≡ None))
    × (unread h.trace ≡ trace_text m.plan p.emitted) × (h.asks.items ≡ [])
