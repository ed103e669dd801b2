use Rattle.std.proofs.Common.{sym, ◌∙◌}
use Rattle.bb_basis.proofs.ResultLemmas.{same_ok}
use Rattle.bb_lang_tree.specs.declared.fault.LangFault.{LangFault}
use Rattle.bb_theorem_grammar.proofs.FoundSources.{file_found}
use Rattle.bb_theorem_grammar.proofs.laws.texts_in_the_grammar_are_parsed.Goals as goal

pub returns : goal.returns
returns c = record {
  taken = λ text trees is. file_found text trees is;
  only = λ text trees others is are. same_ok {E = LangFault} trees others (sym (file_found text trees is) ∙ file_found text others are);
}
