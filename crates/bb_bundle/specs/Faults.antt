-- The numbers of the faults of bundles in refusal lines.
use Rattle.std.specs.Prelude.{ℕ}
use Rattle.bb_bundle.specs.declared.fault.BundleFault.{BundleFault}
use Rattle.bb_bundle.specs.declared.fault.BundleFault.TheVariants.{Line, Hex, Code, Memory}

abbrev pub fault_number : BundleFault → ℕ
fault_number (Line line) = 1
fault_number (Hex line) = 2
fault_number (Code line fault) = 3
fault_number Memory = 4
