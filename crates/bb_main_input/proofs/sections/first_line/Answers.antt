use Rattle.std.proofs.Common.{lit<}
use Rattle.std.proofs.lemmas.Str.Pattern.{find_char}
use Rattle.bb_main_input.proofs.LineLemmas.{lines-cut, lines-one}
use Rattle.bb_main_input.proofs.sections.first_line.Goals as goal

pub returns-in-Some-clause-first : goal.returns-in-Some-clause-first
returns-in-Some-clause-first c _ =
    let found = rw c.in-Some.is at (find_char 10 c.args.text.now c.find.result c.find.ensures.cases (lit< tt)) in
    rw (c.split_at.ensures.front, c.split_at.ensures.back) (lines-cut c.args.text.now c.in-Some.at found.0 found.1 found.2)

pub returns-in-None-clause-first : goal.returns-in-None-clause-first
returns-in-None-clause-first c some =
    let none = rw c.in-None.is at (find_char 10 c.args.text.now c.find.result c.find.ensures.cases (lit< tt)) in
    lines-one c.args.text.now some none
