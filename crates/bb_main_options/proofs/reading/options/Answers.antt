-- What is answered is what clap says of its command.
use Rattle.std.proofs.Common.{◌∙◌, ap}
use Rattle.clap.specs.declared.builder.value_parser.ValueParser.TheVariants.{Values}
use Rattle.bb_main_options.specs.CommandLine.{names_in}
use Rattle.bb_main_options.proofs.AnswerLemmas.{answers_error, answers_matches}
use Rattle.bb_main_options.proofs.reading.options.Goals as goal

pub returns-in-Ok : goal.returns-in-Ok
returns-in-Ok g c =
    let named = ap names_in c.as_slice.ensures ∙ c.mode_values-modes.ensures in (
      c.as_slice.result,
      named,
      answers_matches _ (Values c.as_slice.result) _ c.in_ok-command.ensures c.in-Ok.matches c.chosen.result
          c.in-Ok.ensures.matches c.in-Ok.ensures.kinds c.chosen.ensures,
    )

pub returns-in-Err : goal.returns-in-Err
returns-in-Err g c =
    let named = ap names_in c.as_slice.ensures ∙ c.mode_values-modes.ensures in (
      c.as_slice.result,
      named,
      answers_error _ (Values c.as_slice.result) _ c.in_ok-command.ensures c.in-Err.error c.refusal.result
          c.in-Err.ensures.passes c.in-Err.ensures.kinds c.refusal.ensures,
    )
