-- For callers: what the kit shows of a held run as a value, for a crate that keeps one behind a pointer.
use denote.Param.Laws.{Laws}
use Rattle.bb_c_run.proofs.held.Held.TheLaws as generated
use Rattle.bb_c_run.specs.contracts.held.Held.{the_row}

abbrev pub held_laws : Laws the_row
held_laws = generated.the_row_laws
