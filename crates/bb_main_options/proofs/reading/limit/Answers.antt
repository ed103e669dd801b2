-- The number of `limit` is that of its row's text.
use Rattle.std.proofs.Common.{◌∙◌, ap, codes}
use Rattle.std.specs.Prelude.{option_and_then, unwrap_or}
use Rattle.clap.specs.Matches.{found_of}
use Rattle.clap.proofs.WalkLemmas.{one_text-rows}
use Rattle.bb_main_options.specs.CommandLine.{limit_of}
use Rattle.bb_main_options.specs.declared.choice.TheConstants.{CYCLE_LIMIT}
use Rattle.bb_main_options.proofs.NumberLemmas.{limit_read}
use Rattle.bb_main_options.proofs.reading.limit.Goals as goal

pub returns : goal.returns
returns c =
    let read = limit_read _ c.get_one.result c.get_one.ensures.none c.get_one.ensures.value in
    c.unwrap_or.ensures ∙ ap (λ o. unwrap_or o CYCLE_LIMIT) read
    ∙ ap (λ o. unwrap_or (option_and_then limit_of o) CYCLE_LIMIT) (one_text-rows (found_of c.args.matches.now) (codes "limit"))
