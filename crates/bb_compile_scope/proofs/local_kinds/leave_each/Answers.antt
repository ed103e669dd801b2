use Rattle.std.proofs.Common.{get_or, sym, ◌∙◌, arith}
use Rattle.bb_code.specs.declared.frame.Kind.TheVariants.{Any}
use Rattle.bb_compile_scope.specs.LocalKinds.{left_kind}
use Rattle.bb_compile_scope.proofs.PairLemmas.{pair_next, pair_begin, pair_end}
use Rattle.bb_compile_scope.proofs.local_kinds.leave_each.Goals as goal

pub loop-i-init : goal.loop-i-init
loop-i-init c = pair_begin left_kind Any c.args.before.now c.args.kinds.now

pub loop-i-preserved : goal.loop-i-preserved
loop-i-preserved c = pair_next left_kind _ c.args.before.now c.args.kinds.now c.loop-i.kinds c.loop-i.i c.left_kind.result (omega (arith, c.requires, c.loop-i-test.true)) c.requires c.loop-i.invariant c.left_kind.ensures

pub returns : goal.returns
returns c = pair_end left_kind Any c.args.before.now c.args.kinds.now c.loop-i.kinds c.loop-i.i c.requires c.loop-i-test.false c.loop-i.invariant
