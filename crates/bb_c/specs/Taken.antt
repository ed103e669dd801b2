-- What was taken out of a `Run`.
use Rattle.std.specs.Prelude.{Option, Some, None}
use Rattle.std.specs.declared.alloc.Global.{Global}
use Rattle.std.specs.declared.boxed.Box.{Box}
use Rattle.bb_c_run.specs.declared.held.Held.{Held}

abbrev pub in_box : Option (Box Held Global) → Option Held
in_box (Some b) = Some b.value
in_box None = None
