use Rattle.std.proofs.Common.{map}
use Rattle.std.specs.Vec.Iter.{into_iter_items}
use Rattle.bb_native.specs.Roster.{closings_of}
use Rattle.bb_native.proofs.RosterLemmas.{Closes}
use Rattle.bb_native.proofs.roster.close_into.Given as goal

abbrev pub invariant-loop-native : goal.invariant-loop-native
invariant-loop-native g l =
    Closes g.N.NativeSource.meaning l.closings.items l.at (into_iter_items l.native-iterator) (closings_of (map g.N.NativeSource.meaning l.fn.natives.items))
