use Rattle.std.proofs.Common.{arith, ◌*◌, ◌+◌}
use Rattle.bb_lang_tree.proofs.LiteralLemmas.{too_large}
use Rattle.bb_lang_tree.proofs.literals.number_of.Goals as goal

pub returns-then-number-limit-clause-number : goal.returns-then-number-limit-clause-number
returns-then-number-limit-clause-number c =
    too_large c.args.digits.now c.loop-digit.digit-index c.loop-digit.number (c.loop-digit.number * 10 + c.from.result) c.args.limit _ c.loop-digit-test.true
    (omega (arith, c.from.ensures, c.saturating_sub.ensures)) (omega (arith, c.if-number-limit.true, c.from-limit.ensures)) c.loop-digit.invariant.same
