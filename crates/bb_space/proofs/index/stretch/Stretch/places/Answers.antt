use Rattle.std.proofs.Common.{sym, ◌∙◌}
use Rattle.bb_space.proofs.index_lemmas.StretchLemmas.{nothing_either, is_less}
use Rattle.bb_space.proofs.index.stretch.Stretch.places.Goals as goal

pub returns-then-lt-clause-stand : goal.returns-then-lt-clause-stand
returns-then-lt-clause-stand c =
    let stretch = c.args.self in
    c.range.ensures.between tt ∙ nothing_either stretch (sym (is_less stretch.end stretch.first) ∙ (sym c.lt.ensures ∙ c.if-lt.true)) c.args.index.now
