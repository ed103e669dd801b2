-- The numbers of the limits. Definitions and code go by the same constants, so here each is said once.
use Rattle.std.proofs.Common.{◌≡◌, refl}
use Rattle.bb_pattern.specs.declared.fits.TheConstants.{NODE_LIMIT, OPERAND_LIMIT}

-- nodes of a pattern
pub node_limit : NODE_LIMIT ≡ 64
node_limit = refl

-- operands of a query
pub operand_limit : OPERAND_LIMIT ≡ 16
operand_limit = refl
