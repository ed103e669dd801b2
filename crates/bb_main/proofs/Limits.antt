-- The numbers of statuses. Definitions and code go by the same constants, so here each is said once.
use Rattle.std.proofs.Common.{◌≡◌, refl}
use Rattle.bb_main.specs.declared.serving.TheConstants.{REFUSED, LIMIT, MEMORY, WRITE}

-- the status of a refusal
pub refused : REFUSED ≡ 2
refused = refl

-- the status where a run reached its limit
pub limit : LIMIT ≡ 3
limit = refl

-- the status where memory ran out
pub memory : MEMORY ≡ 5
memory = refl

-- the status where a write failed
pub write : WRITE ≡ 6
write = refl
