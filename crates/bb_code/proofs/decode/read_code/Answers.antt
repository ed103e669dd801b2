use Rattle.std.proofs.Common.{arith}
use Rattle.bb_code.proofs.Codes.{all_takes}
use Rattle.bb_code.proofs.decode.read_code.Goals as goal

pub from_parts-requires : goal.from_parts-requires
from_parts-requires c = (all_takes c.args.bytes.now _ (λ i. omega (arith, c.type_inv.bytes i)) c.in_ok-parts.ensures).0
