use Rattle.std.specs.Vec.Iter.{into_iter_items}
use Rattle.bb_native.proofs.RosterLemmas.{Sums}
use Rattle.bb_native.proofs.roster.close_each.Given as goal

abbrev pub invariant-loop-native : goal.invariant-loop-native
invariant-loop-native g l = Sums g.N.NativeSource.meaning l.sum (into_iter_items l.native-iterator) l.fn.natives.items
