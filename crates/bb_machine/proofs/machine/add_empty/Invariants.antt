use Rattle.std.proofs.Common.{◌≡◌, ◌++◌, None, replicate}
use Rattle.bb_machine.proofs.machine.add_empty.Given as goal

abbrev pub invariant-loop : goal.invariant-loop
invariant-loop l = l.locals.items ≡ l.fn.locals.items ++ replicate l.counter None
