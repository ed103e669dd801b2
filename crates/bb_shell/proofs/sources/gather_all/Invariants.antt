use Rattle.std.proofs.Common.{◌≡◌}
use Rattle.std.specs.Vec.Iter.{into_iter_items}
use Rattle.bb_basis.specs.Results.{try_fold}
use Rattle.bb_shell.specs.Fitting.{names_in}
use Rattle.bb_shell.specs.proving.Gathering.{resolution_as, gathering, with_code}
use Rattle.bb_shell.proofs.sources.gather_all.Given as goal

abbrev pub invariant-loop-code : goal.invariant-loop-code
invariant-loop-code l = try_fold (with_code (names_in l.natives) l.schema) (resolution_as l.resolution) (into_iter_items l.code-iterator) ≡ gathering (names_in l.natives) l.schema l.fn.codes.items
