use Rattle.std.proofs.Common.{subst, sym}
use Rattle.bb_machine.specs.declared.outcome.Entry.{Entry}
use Rattle.bb_run.specs.Serving.{CanExecute}
use Rattle.bb_run.proofs.execution.validate.Goals as goal

pub ask-requires : goal.ask-requires
ask-requires c = record {
  begins = subst (λ (e : Entry). CanExecute c.in-Some.code.now e c.args.board.now) (sym c.entry_of.ensures) (c.requires.begins c.in-Some.code.now (rw c.in-Some.is));
}
