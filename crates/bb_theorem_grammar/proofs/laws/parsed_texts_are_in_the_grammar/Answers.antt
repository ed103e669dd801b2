use Rattle.bb_theorem_grammar.proofs.SourceLemmas.{file_read}
use Rattle.bb_theorem_grammar.proofs.laws.parsed_texts_are_in_the_grammar.Goals as goal

pub returns : goal.returns
returns c = record {
  whole = λ text trees is. (file_read text trees is).1;
  grammatical = λ text trees is. (file_read text trees is).0;
}
