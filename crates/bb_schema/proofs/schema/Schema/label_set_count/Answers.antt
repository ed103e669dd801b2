use Rattle.std.proofs.Common.{◌≤◌, sym, subst}
use Rattle.bb_schema_classes.specs.declared.read.labels.TheConstants.{LABEL_SET_LIMIT}
use Rattle.bb_schema.proofs.CountLemmas.{few_label_sets}
use Rattle.bb_schema.proofs.schema.Schema.label_set_count.Goals as goal

pub returns-clause-few : goal.returns-clause-few
returns-clause-few c = subst (λ n. n ≤ LABEL_SET_LIMIT) (sym c.len.ensures) (few_label_sets _ c.self.invariant.fits)
