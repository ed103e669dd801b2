use Rattle.std.proofs.Common.{◌≡◌, []}
use Rattle.std.specs.Vec.Iter.{into_iter_items}
use Rattle.bb_basis.specs.Results.{try_fold}
use Rattle.bb_shell.specs.Fitting.{names_in, source_after}
use Rattle.bb_shell.proofs.fitting.fit_all.Given as goal

abbrev pub invariant-loop-source : goal.invariant-loop-source
invariant-loop-source l = try_fold (source_after (names_in l.natives)) l.source_set (into_iter_items l.source-iterator) ≡ try_fold (source_after (names_in l.natives)) [] l.fn.sources.items
