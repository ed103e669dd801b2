use Rattle.bb_theorem_grammar.proofs.GrammarLemmas.{trees_given, trees_refused}
use Rattle.bb_theorem_grammar.proofs.reading.parse_by_grammar.Goals as goal

pub returns : goal.returns
returns c = record {
  given = trees_given (λ v. v.items) c.args.text.now c.parse.result c.parse.ensures;
  refused = trees_refused (λ v. v.items) c.args.text.now c.parse.result c.parse.ensures;
}
