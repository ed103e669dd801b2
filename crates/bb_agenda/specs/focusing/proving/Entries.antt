-- The foci in the entries that the code keeps. No public clause cites it.
use Rattle.std.specs.Prelude.{ℕ, List}
use Rattle.std.specs.FinMap as fin
use Rattle.bb_agenda.specs.declared.focusing.focus.Focus.{Focus}
use Rattle.bb_agenda.specs.focusing.Foci.{Foci}

-- the foci in some entries
abbrev pub foci_of : List (ℕ × Focus) → Foci
foci_of entries = fin.from_entries entries
