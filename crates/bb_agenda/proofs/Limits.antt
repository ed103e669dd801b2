-- The numbers of the limits. Definitions and code go by the same constants, so here each is said once.
use Rattle.std.proofs.Common.{◌≡◌, refl}
use Rattle.bb_agenda.specs.declared.agenda.TheConstants.{PENDING_LIMIT, NUMBER_LIMIT}

-- pending activations
pub pending_limit : PENDING_LIMIT ≡ 65536
pending_limit = refl

-- the last number of an activation
pub number_limit : NUMBER_LIMIT ≡ 9223372036854775807
number_limit = refl
