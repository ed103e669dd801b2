-- The numbers of the limits. Definitions and code go by the same constants, so here each is said once.
use Rattle.std.proofs.Common.{◌≡◌, refl}
use Rattle.bb_lang.specs.declared.sources.TheConstants.{BLOCK_NESTING, NESTING_LIMIT, SOURCE_LIMIT}

-- brackets in the one of a source, which is open
pub block_nesting : BLOCK_NESTING ≡ 63
block_nesting = refl

-- brackets
pub nesting_limit : NESTING_LIMIT ≡ 64
nesting_limit = refl

-- sources
pub source_limit : SOURCE_LIMIT ≡ 256
source_limit = refl
