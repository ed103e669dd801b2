use Rattle.std.proofs.Common.{◌≡◌, ◌++◌, map, drop}
use Rattle.bb_native.specs.Roster.{unclosed}
use Rattle.bb_native.proofs.roster.unclosed_all.Given as goal

abbrev pub invariant-loop-native : goal.invariant-loop-native
invariant-loop-native g l =
    l.closings.items ++ map unclosed (drop l.native-index (map g.N.NativeSource.meaning l.natives)) ≡ map unclosed (map g.N.NativeSource.meaning l.natives)
