use Rattle.std.proofs.Common.{◌≡◌, ◌+◌, length}
use Rattle.std.specs.BTreeMap.{values, btree_map_len}
use Rattle.bb_agenda.specs.focusing.Matching.{matches_at}
use Rattle.bb_agenda.proofs.focusing_lemmas.WeightLemmas.{sum_with, IsNear}
use Rattle.bb_agenda.proofs.focusing.foci.weighed.Given as goal

abbrev pub invariant-loop-focus : goal.invariant-loop-focus
invariant-loop-focus l = record {
  so_far : sum_with (matches_at l.setting.schema l.setting.sources l.place) l.sum l.focus-iterator
      ≡ sum_with (matches_at l.setting.schema l.setting.sources l.place) l.base (values l.foci);
  counted : length l.yielded + length l.focus-iterator ≡ btree_map_len l.foci;
  near : IsNear (length l.yielded + 1) l.sum;
}
