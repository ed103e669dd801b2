-- The numbers of the limits. Definitions and code go by the same constants, so here each is said once.
use Rattle.std.proofs.Common.{◌≡◌, refl}
use Rattle.bb_code.specs.declared.parts.TheConstants.{LOCAL_LIMIT, TEXT_COUNT_LIMIT, TEXT_BYTES_LIMIT, QUERY_LIMIT, FRAME_LIMIT, LOOP_LIMIT, OP_LIMIT, SAID_LIMIT, STACK_LIMIT}

-- locals
pub local_limit : LOCAL_LIMIT ≡ 32
local_limit = refl

-- texts
pub text_count_limit : TEXT_COUNT_LIMIT ≡ 1024
text_count_limit = refl

-- bytes of a text
pub text_bytes_limit : TEXT_BYTES_LIMIT ≡ 65535
text_bytes_limit = refl

-- queries
pub query_limit : QUERY_LIMIT ≡ 256
query_limit = refl

-- declared frames
pub frame_limit : FRAME_LIMIT ≡ 4096
frame_limit = refl

-- loops
pub loop_limit : LOOP_LIMIT ≡ 1024
loop_limit = refl

-- ops
pub op_limit : OP_LIMIT ≡ 4096
op_limit = refl

-- values that one op says
pub said_limit : SAID_LIMIT ≡ 16
said_limit = refl

-- entries of the stack
pub stack_limit : STACK_LIMIT ≡ 64
stack_limit = refl
