use Rattle.std.proofs.Common.{◌∙◌, sym, length}
use Rattle.std.proofs.lemmas.Option.{slice_get-map}
use Rattle.bb_schema_classes.specs.declared.label_set.LabelSet.{LabelSet}
use Rattle.bb_units.proofs.LayoutLemmas.{made_one_more}
use Rattle.bb_units.proofs.layout.label_counts.Goals as goal

pub loop-set-preserved : goal.loop-set-preserved
loop-set-preserved c =
    let f = λ (s : LabelSet). length s.values in
    rw c.in_ok-push.ensures.items (made_one_more f c.args.schema.now.label_sets c.loop-set.set c.label_count.result c.loop-set.counts.items (sym (slice_get-map f c.args.schema.now.label_sets c.loop-set.set) ∙ c.label_count.ensures) c.loop-set.invariant)
