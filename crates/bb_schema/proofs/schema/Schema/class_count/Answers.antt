use Rattle.std.proofs.Common.{◌≤◌, sym, subst}
use Rattle.bb_schema_classes.specs.declared.read.classes.TheConstants.{CLASS_LIMIT}
use Rattle.bb_schema.proofs.schema.Schema.class_count.Goals as goal

pub returns-clause-few : goal.returns-clause-few
returns-clause-few c = subst (λ n. n ≤ CLASS_LIMIT) (sym c.len.ensures) c.self.invariant.fits.few_classes
