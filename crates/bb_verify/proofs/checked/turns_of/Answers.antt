use Rattle.std.proofs.Common.{◌*◌, ◌≤◌, arith}
use Rattle.std.proofs.Math.Nat.{mul-le-mul}
use Rattle.bb_verify.proofs.checked.turns_of.Goals as goal

pub overflow_mul-result : goal.overflow_mul-result
overflow_mul-result c =
    let few : c.args.places ≤ 65535 = omega arith in
    let low : c.args.places * c.turns.result ≤ 65535 * 18447869999386460161 = mul-le-mul few c.turns.ensures.small in
    omega (arith, low)

pub returns-clause-small : goal.returns-clause-small
returns-clause-small c = let few : c.args.places ≤ 65535 = omega arith in mul-le-mul few c.turns.ensures.small
