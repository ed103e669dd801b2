use Rattle.std.proofs.Common.{◌≤◌, sym, subst}
use Rattle.bb_schema_classes.specs.declared.draft.TheConstants.{SLOT_LIMIT}
use Rattle.bb_schema.proofs.CountLemmas.{few_couples}
use Rattle.bb_schema.proofs.schema.Schema.couple_count.Goals as goal

pub returns-clause-few : goal.returns-clause-few
returns-clause-few c = subst (λ n. n ≤ SLOT_LIMIT) (sym c.self.invariant.all) (few_couples _ c.self.invariant.fits)
