use Rattle.std.proofs.Common.{sym, subst}
use Rattle.bb_query.specs.Knows.{Knows}
use Rattle.bb_board_tests.proofs.KnowsLemmas.{known_of_none}
use Rattle.bb_board_tests.proofs.query.no_members.Goals as goal

pub returns : goal.returns
returns c = subst (Knows c.args.schema.now c.args.units.now) (sym c.in_ok-new.ensures) (known_of_none c.args.schema.now c.args.units.now)
