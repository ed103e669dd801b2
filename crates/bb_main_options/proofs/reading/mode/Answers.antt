-- The text of `mode` is that of its row.
use Rattle.std.proofs.Common.{◌∙◌, ap, codes}
use Rattle.std.specs.Prelude.{unwrap_or}
use Rattle.clap.specs.Matches.{found_of}
use Rattle.clap.proofs.WalkLemmas.{first_value-rows}
use Rattle.bb_main_options.specs.CommandLine.{mode_of}
use Rattle.bb_main_options.proofs.CommandLemmas.{text_or}
use Rattle.bb_main_options.proofs.reading.mode.Goals as goal

pub returns : goal.returns
returns c =
    c.mode_of.ensures ∙ ap (λ s. mode_of s.now) c.unwrap_or.ensures ∙ ap mode_of (text_or c.get_str.result _)
    ∙ ap (λ o. mode_of (unwrap_or o (codes "run"))) (c.get_str.ensures ∙ first_value-rows (found_of c.args.matches.now) (codes "mode"))
