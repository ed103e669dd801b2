use Rattle.std.proofs.lemmas.Result.{err_from_is_err_and}
use Rattle.bb_theorem_texts.proofs.CompiledLemmas.{has_fault, has_no_fault}
use Rattle.bb_theorem_texts.proofs.compiling.compile_by_meaning.Goals as goal

pub returns-in_err-source-clause-refused : goal.returns-in_err-source-clause-refused
returns-in_err-source-clause-refused c =
    let p = err_from_is_err_and c.from_residual.result c.from_residual.ensures.1 in
    rw (p.1, p.2) (has_fault c.args.schema.now c.args.text.now (c.refusals_are_judged.ensures.sources c.args.text.now) c.in_err-source.field-0.0 c.in_err-source.ensures)

pub returns : goal.returns
returns c = record {
  accepted = (
    has_no_fault c.args.schema.now c.args.text.now (c.refusals_are_judged.ensures.sources c.args.text.now) c.in_ok-source.source c.in_ok-source.ensures,
    c.compiled_source_is_accepted.ensures.accepted c.args.text.now c.in_ok-source.source c.in_ok-source.ensures,
  );
  means = c.compiled_source_means_its_text.ensures.means c.args.text.now c.in_ok-source.source c.in_ok-source.ensures;
  refused = tt;
}
