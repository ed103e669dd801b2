-- The number of `floor` is that of its row's text.
use Rattle.std.proofs.Common.{◌≡◌, ◌∙◌, ap, codes, sym, subst}
use Rattle.std.specs.Prelude.{FitsSigned, option_and_then, unwrap_or}
use Rattle.std.specs.Int.{w64}
use Rattle.std.proofs.lemmas.Int.{to_z-of_z}
use Rattle.clap.specs.Matches.{found_of}
use Rattle.clap.specs.Walk.{one_of, rows_of}
use Rattle.clap.proofs.WalkLemmas.{one_text-rows}
use Rattle.bb_main_options.specs.CommandLine.{floor_in, floor_of}
use Rattle.bb_main_options.specs.declared.choice.TheConstants.{FLOOR}
use Rattle.bb_main_options.proofs.NumberLemmas.{floor_fits, floor_read}
use Rattle.bb_main_options.proofs.reading.floor.Goals as goal

pub returns : goal.returns
returns c =
    let rows = rows_of (found_of c.args.matches.now) in
    let read = floor_read _ c.get_one.result c.get_one.ensures.none c.get_one.ensures.value in
    let is : c.unwrap_or.result ≡ floor_in rows = c.unwrap_or.ensures ∙ ap (λ o. unwrap_or o FLOOR) read
    ∙ ap (λ o. unwrap_or (option_and_then floor_of o) FLOOR) (one_text-rows (found_of c.args.matches.now) (codes "floor")) in
    to_z-of_z w64 c.unwrap_or.result (subst (FitsSigned w64) (sym is) (floor_fits (one_of (codes "floor") rows))) ∙ is
