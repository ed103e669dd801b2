-- The numbers of faults.
use Rattle.std.specs.Prelude.{ℕ}
use Rattle.bb_main_options.specs.declared.fault.OptionsFault.{OptionsFault}
use Rattle.bb_main_options.specs.declared.fault.OptionsFault.TheVariants.{Help, Words, Memory}

abbrev pub fault_number : OptionsFault → ℕ
fault_number (Help text) = 1
fault_number (Words text) = 2
fault_number Memory = 3
