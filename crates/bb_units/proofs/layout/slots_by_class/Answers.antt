use Rattle.std.proofs.Common.{◌∙◌, sym, ap, subst, ◌<◌, Some}
use Rattle.bb_schema_classes.specs.declared.class.Class.{Class}
use Rattle.std.proofs.lemmas.List.{map-append}
use Rattle.bb_units.proofs.LayoutLemmas.{made_one_more, list_there}
use Rattle.bb_units.proofs.layout.slots_by_class.Goals as goal

pub loop-class-preserved : goal.loop-class-preserved
loop-class-preserved c =
    let f = λ (k : Class). k.slots in
    let copied = c.in_ok-to_vec.ensures.items_if_clones_equal (λ x y e. e) ∙ c.slots.ensures in
    let there = list_there f c.args.schema.now.classes c.loop-class.class (subst (λ n. c.loop-class.class < n) c.class_count-class-end.ensures.count c.loop-class-test.true) in
    rw (c.in_ok-push.ensures.items, map-append)
    (made_one_more f c.args.schema.now.classes c.loop-class.class c.in_ok-to_vec.field-0.items _ (there ∙ ap (λ d. Some d) (sym copied)) c.loop-class.invariant)
