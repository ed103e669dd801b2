-- The numbers of the limits. Definitions and code go by the same constants, so here each is said once.
use Rattle.std.proofs.Common.{◌≡◌, refl}
use Rattle.bb_verify.specs.declared.checked.TheConstants.{FOUND_LIMIT}

-- units of a sequence that a budget counts
pub found_limit : FOUND_LIMIT ≡ 65536
found_limit = refl
