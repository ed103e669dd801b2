use Rattle.std.proofs.Common.{sym}
use Rattle.bb_schema_classes.proofs.SpanLemmas.{moved_up, moved_not}
use Rattle.bb_schema_classes.proofs.span.moved.Goals as goal

pub returns-then-number-at : goal.returns-then-number-at
returns-then-number-at c = sym (moved_not c.args.at c.args.number c.if-number-at.true)

pub returns : goal.returns
returns c = sym (moved_up c.args.at c.args.number c.if-number-at.false)
