use Rattle.std.proofs.Common.{◌≡◌, ℕ, ◌+◌, true}
use Rattle.bb_machine.specs.Activation.{activation, steps_from}
use Rattle.bb_machine.specs.Writes.{has_no_writes}
use Rattle.bb_machine.proofs.execution.execute.Given as goal

abbrev pub invariant-loop-steps : goal.invariant-loop-steps
invariant-loop-steps l = record {
  told : (n limit : ℕ) → limit ≡ l.steps + n → activation limit l.code l.fn.entry l.fn.board ≡ steps_from n l.steps l.code (l.machine, l.board);
  reads : has_no_writes l.code ≡ true → l.board ≡ l.fn.board;
}
