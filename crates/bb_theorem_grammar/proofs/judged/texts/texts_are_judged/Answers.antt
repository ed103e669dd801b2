use Rattle.bb_theorem_grammar.proofs.judged_lemmas.within.WithinLists.{all_at}
use Rattle.bb_theorem_grammar.specs.judged.Held.{source_held}
use Rattle.bb_theorem_grammar.proofs.judged_lemmas.parsed.HeldSources.{sources_hold}
use Rattle.bb_theorem_grammar.proofs.judged_lemmas.parsed.SpelledSources.{sources_spelled}
use Rattle.bb_theorem_grammar.proofs.judged_lemmas.parsed.SmallParts.{judged_as_read}
use Rattle.bb_theorem_grammar.proofs.judged.texts.texts_are_judged.Goals as goal

pub returns : goal.returns
returns c =
    let schema = c.args.schema.now in
    let law = c.refusals_are_judged.ensures in
    let file = c.parsed_texts_are_in_the_grammar.ensures.grammatical in
    record {
      held = λ text trees read. sources_hold (file text trees read).sources;
      spelled = λ text trees read. sources_spelled (file text trees read).sources;
      judged = λ text trees i tree read at.
          let held = all_at source_held trees i tree (sources_hold (file text trees read).sources) at in
          judged_as_read schema c.fits.ensures tree held (law.sources tree) (law.whole tree) (λ draft made. law.fitting tree draft held made);
    }
