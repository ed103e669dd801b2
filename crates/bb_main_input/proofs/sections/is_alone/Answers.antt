use Rattle.std.proofs.Common.{◌++◌, ap, sym, ◌∙◌}
use Rattle.bb_main_input.proofs.HeaderLemmas.{alone-after, alone-without}
use Rattle.bb_main_input.proofs.sections.is_alone.Goals as goal

pub returns-in-Some : goal.returns-in-Some
returns-in-Some c =
    let cut = c.in-Some.ensures.cases in
    c.is_end.ensures ∙ sym (alone-after c.args.word.now c.args.line.now c.in-Some.end.now (cut.1.1 ∙ ap (λ e. c.args.word.now ++ e) (sym cut.2)))

pub returns-in-None : goal.returns-in-None
returns-in-None c = alone-without c.args.word.now c.args.line.now c.in-None.ensures.cases
