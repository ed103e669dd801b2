-- The numbers of the limits. Definitions and code go by the same constants, so here each is said once.
use Rattle.std.proofs.Common.{◌≡◌, refl}
use Rattle.bb_main_input.specs.declared.input.TheConstants.{TRY_LIMIT}
use Rattle.bb_main_input.specs.declared.read.TheConstants.{INPUT_LIMIT}

-- bytes of an input
pub input_limit : INPUT_LIMIT ≡ 16777216
input_limit = refl

-- tries of a read that is interrupted
pub try_limit : TRY_LIMIT ≡ 64
try_limit = refl
