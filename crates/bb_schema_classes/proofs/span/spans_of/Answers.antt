use Rattle.std.proofs.Common.{◌≡◌, ◌+◌, Some, refl, sym, subst, List}
use Rattle.std.specs.Prelude.{slice_get}
use Rattle.std.proofs.lemmas.Option.{slice_get_read}
use Rattle.bb_schema_classes.specs.declared.span.Span.{Span}
use Rattle.bb_schema_classes.specs.proving.SpanWalk.{IsWalk}
use Rattle.bb_schema_classes.proofs.SpanLemmas.{one_class}
use Rattle.bb_schema_classes.proofs.span.spans_of.Goals as goal

pub loop-class-preserved : goal.loop-class-preserved
loop-class-preserved c =
    let here : slice_get c.args.classes.now c.loop-class.class-index ≡ Some c.class-item.result =
    slice_get_read c.args.classes.now _ c.loop-class.class-index c.class-item.result refl c.loop-class-test.true c.class-item.is in
    subst (λ (spans : List Span). IsWalk c.args.classes.now (c.loop-class.class-index + 1) spans) (sym c.in_ok-add_class.ensures)
    (one_class c.args.classes.now c.loop-class.spans.items c.loop-class.class-index c.class-item.result c.requires.parents here c.loop-class.invariant)
