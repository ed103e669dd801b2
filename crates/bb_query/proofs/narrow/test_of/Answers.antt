use Rattle.std.proofs.Common.{sym, ap, subst, ◌∙◌, slice_get}
use Rattle.std.proofs.lemmas.Option.{IfSome_then}
use Rattle.bb_pattern.specs.Holds.{ordered_holds, is_holds}
use Rattle.bb_pattern.specs.View.{tree_of}
use Rattle.bb_query.specs.proving.Tests.{Asks}
use Rattle.bb_query.proofs.NarrowLemmas.{ordered_asks, is_asks}
use Rattle.bb_query.proofs.narrow.test_of.Goals as goal

pub returns-in-Ordered : goal.returns-in-Ordered
returns-in-Ordered c =
    IfSome_then c.interval_test.result c.interval_test.ensures (λ test asks. ordered_asks c.args.operands.now c.args.pattern.now c.in-Ordered.relation c.in-Ordered.dim c.in-Ordered.operand test
    (sym (ap tree_of c.in-Ordered.is) ∙ c.node.ensures)
    (subst (λ o. Asks (λ values. ordered_holds c.in-Ordered.relation (slice_get values c.in-Ordered.dim) o) test) c.operand_at.ensures asks))

pub returns-in-Is : goal.returns-in-Is
returns-in-Is c =
    IfSome_then c.label_test.result c.label_test.ensures (λ test asks. is_asks c.args.operands.now c.args.pattern.now c.in-Is.dim c.in-Is.operand test
    (sym (ap tree_of c.in-Is.is) ∙ c.node.ensures)
    (subst (λ o. Asks (λ values. is_holds (slice_get values c.in-Is.dim) o) test) c.operand_at-in-Is.ensures asks))
