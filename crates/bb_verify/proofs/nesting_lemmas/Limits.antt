-- The numbers of the limits. Definitions and code go by the same constants, so here each is said once.
use Rattle.std.proofs.Common.{◌≡◌, refl}
use Rattle.bb_verify.specs.declared.nesting.loops.TheConstants.{NESTING_LIMIT}

-- loops around a place
pub nesting_limit : NESTING_LIMIT ≡ 4
nesting_limit = refl
