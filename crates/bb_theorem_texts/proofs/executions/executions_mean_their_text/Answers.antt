use Rattle.bb_run.specs.Run.{run}
use Rattle.bb_theorem_texts.proofs.ToldLemmas.{all_told}
use Rattle.bb_theorem_texts.proofs.executions.executions_mean_their_text.Goals as goal

pub returns : goal.returns
returns c =
    let law = c.runs_are_orderly.ensures in
    record {
      told = λ plan s i source text well ready at written. all_told plan s ready i source text well (law.begins plan s well ready) at written;
      at_choices = λ plan board natives limit i source text well fits at written.
          let s = (run plan board natives limit).state in
          let ready = (law.leaves plan board natives limit).ready well fits in
          all_told plan s ready i source text well (law.begins plan s well ready) at written;
    }
