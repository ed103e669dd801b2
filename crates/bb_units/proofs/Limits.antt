-- The numbers of the limits. Definitions and code go by the same constants, so here each is said once.
use Rattle.std.proofs.Common.{◌≡◌, refl}
use Rattle.bb_units.specs.declared.units.TheConstants.{UNIT_LIMIT, NUMBER_LIMIT}

-- live units
pub unit_limit : UNIT_LIMIT ≡ 65536
unit_limit = refl

-- the last number of a unit
pub number_limit : NUMBER_LIMIT ≡ 9223372036854775807
number_limit = refl
