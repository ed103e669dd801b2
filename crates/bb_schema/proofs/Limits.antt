-- The numbers of the limits. Definitions and code go by the same constants, so here each is said once.
use Rattle.std.proofs.Common.{◌≡◌, refl}
use Rattle.bb_schema.specs.declared.read.spaces.TheConstants.{SPACE_LIMIT, DIM_LIMIT}

-- spaces of a schema
pub space_limit : SPACE_LIMIT ≡ 256
space_limit = refl

-- dimensions of a space
pub dim_limit : DIM_LIMIT ≡ 16
dim_limit = refl
