use Rattle.std.proofs.Common.{map}
use Rattle.bb_native.specs.Roster.{unclosed}
use Rattle.bb_native.proofs.RosterLemmas.{named_next}
use Rattle.bb_native.proofs.roster.unclosed_all.Goals as goal

pub loop-native-preserved : goal.loop-native-preserved
loop-native-preserved g c =
    named_next g.N.NativeSource.meaning c.args.natives.now c.loop-native.native-index c.native-item.result c.loop-native.closings.items c.push.new.self.items (map unclosed (map g.N.NativeSource.meaning c.args.natives.now)) c.in_ok-unclosed.field-0
    c.loop-native-test.true c.native-item.is c.in_ok-unclosed.ensures c.in_ok-push.ensures.items c.loop-native.invariant
