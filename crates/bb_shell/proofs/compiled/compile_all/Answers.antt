use Rattle.std.proofs.lemmas.Result.{err_from_is_err_and}
use Rattle.bb_basis.proofs.IntoMapLemmas.{into_map_error, into_map_next, into_map_end, next_one, length_drop_all}
use Rattle.bb_shell.specs.Sources.{compiled_source}
use Rattle.bb_refusal.specs.declared.input_fault.InputFault.TheVariants.{Memory}
use Rattle.bb_shell.proofs.compiled.compile_all.Goals as goal

pub returns-in_err-compile_source : goal.returns-in_err-compile_source
returns-in_err-compile_source c =
    let p = err_from_is_err_and c.from_residual.result c.from_residual.ensures.1 in
    rw (p.1, p.2) (into_map_error Memory (compiled_source c.args.schema.now) c.loop-tree.codes.items _ _ c.tree-item.result c.in_err-compile_source.field-0.0 _
    (next_one c.args.trees.now c.loop-tree.tree-index c.tree-item.result c.loop-tree-test.true c.tree-item.is) c.in_err-compile_source.ensures c.loop-tree.invariant)

pub loop-tree-preserved : goal.loop-tree-preserved
loop-tree-preserved c =
    rw c.in_ok-push.ensures.items (into_map_next (compiled_source c.args.schema.now) c.loop-tree.codes.items _ _ c.tree-item.result c.in_ok-compile_source.field-0 _
    (next_one c.args.trees.now c.loop-tree.tree-index c.tree-item.result c.loop-tree-test.true c.tree-item.is) c.in_ok-compile_source.ensures c.loop-tree.invariant)

pub returns : goal.returns
returns c = into_map_end (compiled_source c.args.schema.now) c.loop-tree.codes.items _ _ (length_drop_all c.args.trees.now c.loop-tree.tree-index c.loop-tree-test.false) c.loop-tree.invariant
