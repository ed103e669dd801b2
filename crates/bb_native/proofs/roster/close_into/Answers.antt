use Rattle.std.proofs.Common.{rules, ◌≡◌, map, to_z, of_z, w64}
use Rattle.std.specs.Vec.Iter.{into_iter_items}
use Rattle.bb_native.specs.Native.{closing_of}
use Rattle.bb_native.specs.Roster.{closings_of}
use Rattle.bb_native.proofs.RosterLemmas.{close_next}
use Rattle.bb_native.proofs.roster.close_into.Goals as goal

pub loop-native-preserved : goal.loop-native-preserved
loop-native-preserved g c =
    let m = g.N.NativeSource.meaning in
    let says : to_z w64 (of_z w64 c.close.result) ≡ closing_of (m c.in-Some.native) = search rules in
    close_next m c.loop-native.closings.items c.loop-native.at (into_iter_items c.loop-native.native-iterator) (into_iter_items c.next.new.self) c.in-Some.native (closings_of (map m c.args.natives.items)) c.index_mut.result.now (to_z w64 (of_z w64 c.close.result))
    c.in-Some.ensures.steps.0 c.index_mut.ensures.value says c.loop-native.invariant
