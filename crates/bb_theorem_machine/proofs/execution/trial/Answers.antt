use Rattle.std.proofs.Common.{subst}
use Rattle.bb_schema.specs.Fits as schemas
use Rattle.bb_theorem_machine.proofs.NeverWrong.{each_stands, stuck_by_turns, answers, never_stuck, within_budget, stuck_below, found_few, activation_after}
use Rattle.bb_theorem_machine.proofs.WriteLemmas.{only_part_reads}
use Rattle.bb_theorem_machine.proofs.changing.OutlivedSteps.{cut_lasts, cut_schema}
use Rattle.bb_theorem_machine.proofs.execution.trial.Goals as goal

pub returns-clause-schema : goal.returns-clause-schema
returns-clause-schema c =
    cut_schema c.args.code.now c.args.entry c.args.board.now c.execute.new.board c.execute.ensures.cut

pub returns-clause-outlives : goal.returns-clause-outlives
returns-clause-outlives c =
    cut_lasts c.args.code.now c.args.entry c.args.board.now c.execute.new.board c.execute.ensures.cut

pub returns-clause-suits : goal.returns-clause-suits
returns-clause-suits c = λ part frames n state begins.
    each_stands part frames c.args.code.now c.args.entry c.args.board.now c.args.limit c.ops.ensures.fits (subst schemas.Fits c.schema.ensures c.fits.ensures) c.fits-2.ensures begins n state

pub returns-clause-turns : goal.returns-clause-turns
returns-clause-turns c = λ part frames begins.
    stuck_by_turns part frames c.args.code.now c.args.entry c.args.board.now c.args.limit c.ops.ensures.fits (subst schemas.Fits c.schema.ensures c.fits.ensures) c.fits-2.ensures begins c.execute.result c.execute.ensures.outcome

pub returns-clause-answers : goal.returns-clause-answers
returns-clause-answers c = λ part frames begins.
    answers part frames c.args.code.now c.args.entry c.args.board.now c.args.limit c.ops.ensures.fits (subst schemas.Fits c.schema.ensures c.fits.ensures) c.fits-2.ensures begins c.execute.result c.execute.ensures.outcome

pub returns-clause-parts_read : goal.returns-clause-parts_read
returns-clause-parts_read c = λ part frames begins only.
    c.execute.ensures.reads_only (only_part_reads c.args.board.now.schema part c.args.code.now frames only begins.accepted)

pub returns-clause-never_stuck : goal.returns-clause-never_stuck
returns-clause-never_stuck c = λ part frames begins enough.
    never_stuck part frames c.args.code.now c.args.entry c.args.board.now c.args.limit c.ops.ensures.fits (subst schemas.Fits c.schema.ensures c.fits.ensures) c.fits-2.ensures begins c.execute.result c.execute.ensures.outcome enough

pub returns-clause-within_budget : goal.returns-clause-within_budget
returns-clause-within_budget c = λ part frames begins.
    within_budget part frames c.args.code.now c.args.entry c.args.board.now c.args.limit c.ops.ensures.fits (subst schemas.Fits c.schema.ensures c.fits.ensures) c.fits-2.ensures begins c.execute.result c.execute.ensures.outcome

pub returns-clause-turns_low : goal.returns-clause-turns_low
returns-clause-turns_low c = λ part frames begins.
    stuck_below part frames c.args.code.now c.args.entry c.args.board.now c.args.limit c.ops.ensures.fits (subst schemas.Fits c.schema.ensures c.fits.ensures) c.fits-2.ensures begins c.execute.result c.execute.ensures.outcome

pub returns-clause-all_few : goal.returns-clause-all_few
returns-clause-all_few c = λ part frames begins.
    found_few part frames c.args.code.now c.args.entry c.args.board.now c.args.limit c.ops.ensures.fits (subst schemas.Fits c.schema.ensures c.fits.ensures) c.fits-2.ensures begins c.execute.result c.execute.ensures.outcome

pub returns-clause-goes_on : goal.returns-clause-goes_on
returns-clause-goes_on c = λ part frames k n state begins.
    activation_after part frames c.args.code.now c.args.entry c.args.board.now c.args.limit c.ops.ensures.fits (subst schemas.Fits c.schema.ensures c.fits.ensures) c.fits-2.ensures begins k n state
