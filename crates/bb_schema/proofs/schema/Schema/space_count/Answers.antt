use Rattle.std.proofs.Common.{◌≤◌, sym, subst}
use Rattle.bb_schema.specs.declared.read.spaces.TheConstants.{SPACE_LIMIT}
use Rattle.bb_schema.proofs.CountLemmas.{few_spaces}
use Rattle.bb_schema.proofs.schema.Schema.space_count.Goals as goal

pub returns-clause-few : goal.returns-clause-few
returns-clause-few c = subst (λ n. n ≤ SPACE_LIMIT) (sym c.len.ensures) (few_spaces _ c.self.invariant.fits)
