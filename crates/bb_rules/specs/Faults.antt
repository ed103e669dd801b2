-- The faults of a source: their numbers in refusal lines, and their places.
use Rattle.std.specs.Prelude.{ℕ}
use Rattle.bb_rules.specs.declared.fault.ClauseFlaw.{ClauseFlaw}
use Rattle.bb_rules.specs.declared.fault.ClauseFlaw.TheVariants as flaws
use Rattle.bb_rules.specs.declared.fault.RuleFault.{RuleFault}
use Rattle.bb_rules.specs.declared.fault.RuleFault.TheVariants.{Slot, Space, Part, Memory, Class, Twice, Limit, Native}
use Rattle.bb_rules.specs.declared.place.ClauseList.{ClauseList}
use Rattle.bb_rules.specs.declared.place.ClassPlace.TheVariants.{Clause}

abbrev pub fault_number : RuleFault → ℕ
fault_number (Slot place) = 1
fault_number (Space place) = 2
fault_number Part = 3
fault_number Memory = 4
fault_number (Class place) = 5
fault_number (Twice place) = 6
fault_number (Limit place) = 7
fault_number (Native place) = 8

-- the fault of the clause at this index of a list
abbrev pub at_clause : ClauseList → (index : ℕ) → ClauseFlaw → RuleFault
at_clause list index flaws.Slot = Slot (record { list = list; index = index })
at_clause list index flaws.Space = Space (record { list = list; index = index })
at_clause list index flaws.Class = Class (Clause (record { list = list; index = index }))
