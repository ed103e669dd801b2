use Rattle.std.proofs.Common.{subst}
use Rattle.bb_schema.specs.Fits as schemas
use Rattle.bb_theorem_machine.proofs.LeftBehind.{activation_answers, activation_found_few, activation_never_stuck, activation_reads_as, activation_stuck_below, activation_turns, activation_within_budget}
use Rattle.bb_theorem_machine.proofs.soundness.accepted_codes_never_go_wrong.Goals as goal

pub returns : goal.returns
returns c =
    let is = c.ops.ensures.fits in
    let code = c.args.code.now in
    let b = c.args.board.now in
    let sf = subst schemas.Fits c.schema.ensures c.fits.ensures in
    let fits = c.fits-2.ensures in
    record {
      answers = λ part frames entry limit begins. activation_answers part frames code entry b limit is sf fits begins;
      parts_read = λ part frames entry limit begins only. activation_reads_as part frames code entry b limit is sf fits begins only;
      turns = λ part frames entry limit begins. activation_turns part frames code entry b limit is sf fits begins;
      turns_low = λ part frames entry limit begins. activation_stuck_below part frames code entry b limit is sf fits begins;
      within_budget = λ part frames entry limit begins. activation_within_budget part frames code entry b limit is sf fits begins;
      all_few = λ part frames entry limit begins. activation_found_few part frames code entry b limit is sf fits begins;
      never_stuck = λ part frames entry limit begins enough. activation_never_stuck part frames code entry b limit is sf fits begins enough;
    }
