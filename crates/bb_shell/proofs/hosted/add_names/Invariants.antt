use Rattle.std.proofs.Common.{◌≡◌, ◌++◌}
use Rattle.std.specs.Vec.Iter.{into_iter_items}
use Rattle.bb_shell.specs.Fitting.{names_in}
use Rattle.bb_shell.proofs.hosted.add_names.Given as goal

abbrev pub invariant-loop-name : goal.invariant-loop-name
invariant-loop-name l = names_in l.known.items ++ into_iter_items l.name-iterator ≡ names_in l.fn.known.items ++ l.fn.names.items
