-- The number of the limit. Definitions and code go by the same constant, so here it is said once.
use Rattle.std.proofs.Common.{◌≡◌, refl}
use Rattle.bb_run_plan.specs.declared.plan.TheConstants.{SOURCE_LIMIT}

-- sources of a plan
pub source_limit : SOURCE_LIMIT ≡ 256
source_limit = refl
