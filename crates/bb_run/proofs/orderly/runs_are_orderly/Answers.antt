use Rattle.bb_run.proofs.notes.OrderlyRuns.{run_finishes, run_keeps_limit, run_chooses}
use Rattle.bb_run.proofs.stretches.LimitLemmas.{run_extends}
use Rattle.bb_run.proofs.coming.ExecutedLemmas.{run_is_followed}
use Rattle.bb_run.proofs.phases.PhasedRuns.{run_goes_by_phases}
use Rattle.bb_run.proofs.natives.ClosedLemmas.{run_closes_each}
use Rattle.bb_run.proofs.natives.CauseLemmas.{run_has_cause}
use Rattle.bb_run.proofs.keeping.ReadLemmas.{plan_reads_only}
use Rattle.bb_run.proofs.serving.UnstuckRuns.{run_is_unstuck, run_ready, state_begins}
use Rattle.bb_run.proofs.keeping.WeighLemmas.{run_knows_foci}
use Rattle.bb_run.proofs.coming.RespondLemmas.{run_answers}
use Rattle.bb_run.proofs.coming.RestLemmas.{run_answers_first, run_answers_quiescence}
use Rattle.bb_run.proofs.coming.ContinueLemmas.{run_begins_with, run_continues}
use Rattle.bb_run.proofs.coming.ActLemmas.{act_is_done}
use Rattle.bb_run.proofs.keeping.FewLemmas.{run_has_few}
use Rattle.bb_run.proofs.orderly.runs_are_orderly.Goals as goal

pub returns : goal.returns
returns c = record {
  phases = run_goes_by_phases;
  choices = run_chooses;
  followed = run_is_followed;
  acts = act_is_done;
  responds = λ plan board natives limit reading. record {
    first = run_answers_first plan reading board natives limit;
    choices = run_answers plan reading board natives limit;
    quiet = λ before after here emitted. run_answers_quiescence plan reading board natives limit before after emitted here;
    begins = let left = run_begins_with plan reading board natives in record { board = left.board; natives = left.natives };
    lasts = λ before cycle a r source at is. run_continues plan reading board natives limit before cycle a r source is at;
  };
  reads = plan_reads_only;
  ends = λ plan board natives limit.
      let finished = run_finishes plan board natives limit in
      let closed = run_closes_each plan board natives limit in
      let kept = run_keeps_limit plan board natives limit in
      record {
        end = finished.end;
        end_is = finished.ends;
        cause = run_has_cause plan board natives limit;
        last = finished.last;
        once = finished.once;
        closings = closed.closings;
        natives_left = closed.left;
        within = kept.within;
        met = kept.met;
        left = kept.left;
        exhausted = kept.exhausted;
      };
  longer = λ plan board natives limit more. run_extends plan board natives limit more;
  leaves = λ plan board natives limit. record {
    few = run_has_few plan board natives limit;
    foci = λ reading given. run_knows_foci plan reading board natives limit given;
    ready = λ made fits. run_ready plan made natives board limit fits;
  };
  begins = λ plan s made ready. state_begins plan made s ready;
  unstuck = λ plan board natives limit made fits. run_is_unstuck plan made natives board limit fits;
}
