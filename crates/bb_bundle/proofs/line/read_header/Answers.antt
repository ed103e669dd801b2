use Rattle.std.proofs.Common.{arith}
use Rattle.bb_bundle.proofs.LineLemmas.{header_of-other}
use Rattle.bb_bundle.proofs.line.read_header.Goals as goal
use Rattle.bb_bundle.proofs.line.read_header.Goals.{in_default-via-then-words-lt4, in_default-via-else-words-lt4+else-words-lt5}

pub returns-in_default : goal.returns-in_default
returns-in_default c = header_of-other c.args.words.now (λ e. elim c.in_default.branch [ in_default-via-then-words-lt4 w ↦ grind arith | in_default-via-else-words-lt4+else-words-lt5 w ↦ grind arith ])
