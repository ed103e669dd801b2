-- The natives of the program. Each holds the number of its executions, and says it when it is closed.
use Rattle.std.specs.Prelude.{ℕ, ℤ, pos, ◌+ℤ◌, Bool, true, List, [], ◌∷◌, codes, slice_index_or}
use Rattle.std.specs.Int.{saturate_signed, w64}
use Rattle.bb_shell.specs.Ask.{Ask}
use Rattle.bb_shell.specs.Ask.TheVariants.{Set, Delete}
use Rattle.bb_shell.specs.Native.{Native}
use Rattle.bb_shell.specs.Value.TheVariants as values
use Rattle.bb_main.specs.declared.program_native.Trade.{Trade}
use Rattle.bb_main.specs.declared.program_native.Trade.TheVariants.{Tally, Reaper}

abbrev pub name_of : Trade → List ℕ
name_of Tally = codes "tally"
name_of Reaper = codes "reaper"

-- the asks of a native for a unit at execution number `count`: `tally` sets its `count` to that number, `reaper`
-- deletes it
abbrev pub asks_by : Trade → (unit : ℕ) → (count : ℤ) → List Ask
asks_by Tally unit count = Set unit (codes "count") (values.Int count) ∷ []
asks_by Reaper unit count = Delete unit ∷ []

-- the number of executions so far
abbrev pub count_in : List ℤ → ℤ
count_in held = slice_index_or held 0 (pos 0)

-- the number plus one, up to the maximum
abbrev pub counted : List ℤ → ℤ
counted held = saturate_signed w64 (count_in held +ℤ pos 1)

abbrev pub meant : Trade → (count : ℤ) → (is_open : Bool) → Native
meant trade count is_open = record {
  name = name_of trade;
  held = count ∷ [];
  is_open = is_open;
  asks = λ held unit seen. asks_by trade unit (counted held);
  next = λ held unit seen. counted held ∷ [];
  closing = count_in;
}

-- the natives, in the order in which the program hands them in
abbrev pub program_natives : List Native
program_natives = meant Tally (pos 0) true ∷ meant Reaper (pos 0) true ∷ []
