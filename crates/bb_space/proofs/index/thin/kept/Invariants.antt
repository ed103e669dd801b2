use Rattle.std.proofs.Common.{◌≡◌, ◌++◌, drop}
use Rattle.std.specs.Prelude.{filter}
use Rattle.bb_space.specs.index.proving.Marks.{is_kept}
use Rattle.bb_space.proofs.index.thin.kept.Given as goal

abbrev pub invariant-loop-unit : goal.invariant-loop-unit
invariant-loop-unit l =
    l.list.items ++ filter (is_kept l.first l.marks) (drop l.unit-index l.among) ≡ filter (is_kept l.first l.marks) l.among
