use Rattle.std.proofs.lemmas.Result.{err_from_is_err_and}
use Rattle.bb_rules.specs.proving.Steps.{source_with}
use Rattle.bb_rules.proofs.LawLemmas.{source_law, source_made_of}
use Rattle.bb_rules.proofs.StepLemmas.{found_fits, none_found, source_made}
use Rattle.bb_rules.proofs.source.Source.new.Goals as goal

pub returns-in_err-found-clause-made : goal.returns-in_err-found-clause-made
returns-in_err-found-clause-made c =
    let p = err_from_is_err_and c.from_residual.result c.from_residual.ensures.1 in
    rw (p.1, p.2) (none_found c.args.schema.now c.args.draft c.in_err-found.field-0.0 c.in_err-found.ensures)

pub source_with-requires : goal.source_with-requires
source_with-requires c = found_fits c.args.schema.now c.args.draft c.in_ok-found.found c.in_ok-found.ensures

pub returns-clause-made : goal.returns-clause-made
returns-clause-made c = rw c.source_with.ensures (source_made c.args.schema.now c.args.draft c.in_ok-found.found c.in_ok-found.ensures)

pub returns-clause-law : goal.returns-clause-law
returns-clause-law c =
    rw c.source_with.ensures (source_law c.args.schema.now c.args.draft (source_with c.in_ok-found.found c.args.draft) (source_made c.args.schema.now c.args.draft c.in_ok-found.found c.in_ok-found.ensures))

pub returns-clause-accepted : goal.returns-clause-accepted
returns-clause-accepted c are =
    rw c.source_with.ensures (source_made_of c.args.schema.now c.args.draft (source_with c.in_ok-found.found c.args.draft) (source_made c.args.schema.now c.args.draft c.in_ok-found.found c.in_ok-found.ensures) are)
