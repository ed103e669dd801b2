-- How many bytes are taken from a reader, and what reading a whole input returns.
use Rattle.std.specs.Prelude.{◌≡◌, ◌≤◌, ◌+◌, ℕ, Bool, true, false, List, length, Option, IfSome, IsSomeAnd, Result, Ok, Err, Vec}
use Rattle.std.specs.Io.KnownBytes.{Consumes}
use Rattle.std.specs.declared.alloc.Global.{Global}
use Rattle.bb_main_input.specs.declared.read.TheConstants.{INPUT_LIMIT}
use Rattle.bb_main_input.specs.declared.read.ReadFault.{ReadFault}
use Rattle.bb_main_input.specs.declared.read.ReadFault.TheVariants.{Read, Limit, Memory}

-- at most `most` bytes are taken, from the front
abbrev pub TakesAtMost : ℕ → Option (List ℕ) → Option (List ℕ) → Type 0
TakesAtMost most old new = (bytes : List ℕ) × Consumes old new bytes × (length bytes ≤ most)

-- the reader's bytes are known, and `n` fewer are left
abbrev pub HasTaken : ℕ → Option (List ℕ) → Option (List ℕ) → Type 0
HasTaken n old new = IsSomeAnd old (λ xs. IsSomeAnd new (λ ys. length xs ≡ n + length ys))

-- the reader failed
abbrev pub is_failure : {X : Type 0} → Result X ReadFault → Bool
is_failure (Ok x) = false
is_failure (Err Read) = true
is_failure (Err Limit) = false
is_failure (Err Memory) = false

-- at Ok, all bytes, within the limit; at Limit, and at no other result, one byte more than the limit was taken
abbrev pub Reads : Option (List ℕ) → Option (List ℕ) → Result (Vec ℕ Global) ReadFault → Type 0
Reads old new (Ok read) =
    IfSome old (λ xs. read.items ≡ xs) × Consumes old new read.items × (length read.items ≤ INPUT_LIMIT)
Reads old new (Err Limit) = (bytes : List ℕ) × Consumes old new bytes × (length bytes ≡ INPUT_LIMIT + 1)
Reads old new (Err Read) = TakesAtMost INPUT_LIMIT old new
Reads old new (Err Memory) = TakesAtMost INPUT_LIMIT old new
