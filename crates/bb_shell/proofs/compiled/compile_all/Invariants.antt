use Rattle.std.proofs.Common.{◌≡◌, drop}
use Rattle.bb_basis.specs.Results.{try_map}
use Rattle.bb_basis.proofs.IntoMapLemmas.{joined}
use Rattle.bb_shell.specs.Sources.{compiled_source}
use Rattle.bb_shell.proofs.compiled.compile_all.Given as goal

abbrev pub invariant-loop-tree : goal.invariant-loop-tree
invariant-loop-tree l = joined l.codes.items (try_map (compiled_source l.schema) (drop l.tree-index l.trees)) ≡ try_map (compiled_source l.schema) l.trees
