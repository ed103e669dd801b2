use Rattle.std.proofs.Common.{◌≡◌, ◌≤◌, arith}
use Rattle.bb_verify.specs.Budget.{turns}
use Rattle.bb_verify.proofs.BudgetLemmas.{turns_small}
use Rattle.bb_verify.proofs.checked.turns.Goals as goal

pub pow-requires : goal.pow-requires
pow-requires c = let small = turns_small c.args.found c.args.loops c.requires.found c.requires.few in omega (arith, small)

pub returns-clause-small : goal.returns-clause-small
returns-clause-small c =
    let small : turns c.args.found c.args.loops ≤ 18447869999386460161 = turns_small c.args.found c.args.loops c.requires.found c.requires.few in
    let is : c.pow.result ≡ turns c.args.found c.args.loops = c.pow.ensures in
    omega (arith, small, is)
