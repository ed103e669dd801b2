use Rattle.std.proofs.Common.{◌≡◌, drop}
use Rattle.bb_verify.specs.Tables.{places_rise}
use Rattle.bb_verify.proofs.tables.places_rise.Given as goal

abbrev pub invariant-loop-frame : goal.invariant-loop-frame
invariant-loop-frame l = places_rise l.floor l.count (drop l.frame-index l.frames) ≡ places_rise 0 l.count l.frames
