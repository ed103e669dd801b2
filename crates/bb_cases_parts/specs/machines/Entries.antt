-- Whether the units of an entry fit a part, as a test of this project.
use Rattle.std.specs.Prelude.{ℕ, Bool, false, ◌&&◌, Some, None}
use Rattle.bb_schema.specs.Schema.{Schema}
use Rattle.bb_board.specs.May.{was}
use Rattle.bb_board.specs.State.{World}
use Rattle.bb_machine.specs.declared.outcome.Entry.{Entry}
use Rattle.bb_verify.specs.PartType.{Part}
use Rattle.bb_verify.specs.PartType.TheVariants.{Require, Obviate, Retrigger, Revalidate, Do}

-- there is no event, and the unit had the class
abbrev pub fits_alone : Schema → World → (class : ℕ) → Entry → Bool
fits_alone s w class entry = elim entry.ev [ None ↦ was s w entry.it class | Some ev ↦ false ]

-- the unit had the class, and the event's unit had the other class
abbrev pub fits_event : Schema → World → (class of : ℕ) → Entry → Bool
fits_event s w class of entry = elim entry.ev [ None ↦ false | Some ev ↦ was s w entry.it class && was s w ev of ]

-- the units fit the part
abbrev pub entry_fits : Schema → World → Part → Entry → Bool
entry_fits s w (Require class) entry = fits_alone s w class entry
entry_fits s w (Obviate class of) entry = fits_event s w class of entry
entry_fits s w (Retrigger class of) entry = fits_event s w class of entry
entry_fits s w (Revalidate class) entry = fits_alone s w class entry
entry_fits s w (Do class) entry = fits_alone s w class entry
