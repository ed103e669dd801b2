use Rattle.std.proofs.Common.{lit<}
use Rattle.std.proofs.lemmas.Str.Pattern.{split_parts}
use Rattle.bb_moves.proofs.WordLemmas.{split_once_at}
use Rattle.bb_moves.proofs.words.split_at_colon.Goals as goal

pub returns : goal.returns
returns c = split_once_at 58 c.args.text.now c.split_once.result (split_parts 58 c.args.text.now c.split_once.result c.split_once.ensures.cases (lit< tt))
