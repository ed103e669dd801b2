-- The numbers of faults.
use Rattle.std.specs.Prelude.{ℕ}
use Rattle.bb_lang_tree.specs.declared.fault.LangFault.{LangFault}
use Rattle.bb_lang_tree.specs.declared.fault.LangFault.TheVariants.{Character, Token, Nesting, Twice, Limit, Memory}

abbrev pub fault_number : LangFault → ℕ
fault_number (Character place) = 1
fault_number (Token place) = 2
fault_number (Nesting place) = 3
fault_number (Twice place) = 4
fault_number (Limit place) = 5
fault_number Memory = 6
