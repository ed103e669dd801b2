use Rattle.std.proofs.Common.{map}
use Rattle.bb_moves.specs.Meant.{meant}
use Rattle.bb_shell.specs.Meaning.{Meaning}
use Rattle.bb_c_run.proofs.HistoryLemmas.{moves_refused, moves_taken}
use Rattle.bb_c_run.proofs.held.history.resumed.Goals as goal

pub returns-in-Ok : goal.returns-in-Ok
returns-in-Ok c =
    let m : Meaning = record { plan = c.args.shell.plan; board = c.args.shell.board } in
    moves_taken m c.args.history.now (map meant c.in-Ok.moves.items) c.replayed.result c.in-Ok.ensures c.replayed.ensures.resumed c.replayed.ensures.err

pub returns-in-Err : goal.returns-in-Err
returns-in-Err c =
    let m : Meaning = record { plan = c.args.shell.plan; board = c.args.shell.board } in
    rw (c.refusal_by.ensures) (moves_refused m c.args.history.now c.in-Err.fault c.in-Err.ensures)
