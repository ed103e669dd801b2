use Rattle.bb_code.proofs.Codes.{spelled_once}
use Rattle.bb_code.proofs.once.one_spelling.Goals as goal

pub returns : goal.returns
returns c = spelled_once
