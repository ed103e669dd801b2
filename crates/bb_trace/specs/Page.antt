-- What writing a page does.
use Rattle.std.specs.Prelude.{◌≡◌, ℕ, Bool, true, false, List, [], Option, Result, Ok, Err, take}
use Rattle.std.specs.Io.KnownBytes.{Appends}
use Rattle.bb_trace.specs.declared.halt.Halt.{Halt}
use Rattle.bb_trace.specs.declared.halt.Halt.TheVariants as halts

-- the run is cut short because the output failed
abbrev pub halted_by_write : Halt → Bool
halted_by_write halts.Memory = false
halted_by_write halts.Write = true

-- the output failed
abbrev pub stopped_by_write : {X : Type 0} → Result X Halt → Bool
stopped_by_write (Ok x) = false
stopped_by_write (Err halt) = halted_by_write halt

-- the page was written and emptied, or a prefix of it was written before the output failed
abbrev pub Flushes : (taken given : Option (List ℕ)) (old new : List ℕ) → Result (Unit {0}) Halt → Type 0
Flushes taken given old new (Ok x) = Appends taken given old × (new ≡ [])
Flushes taken given old new (Err halts.Memory) = ⊥
Flushes taken given old new (Err halts.Write) = (count : ℕ) × Appends taken given (take count old)

-- the page was written, or left unchanged
pub data Spills (taken given : Option (List ℕ)) (old new : List ℕ) (result : Result (Unit {0}) Halt) : Type 0 where
  flushed : Flushes taken given old new result → Spills taken given old new result
  kept : given ≡ taken → new ≡ old → result ≡ Ok tt → Spills taken given old new result
