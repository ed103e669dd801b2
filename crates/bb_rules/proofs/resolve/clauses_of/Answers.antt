use Rattle.std.proofs.Common.{◌≡◌, ◌⊎◌, inr, sym, ap, ◌∙◌, subst, map, Err}
use Rattle.std.proofs.lemmas.List.{map-id}
use Rattle.std.proofs.lemmas.Result.{err_from_is_err_and}
use Rattle.bb_basis.specs.Results.{map_err, try_map_at}
use Rattle.bb_basis.proofs.MapAtLemmas.{map_at_error, map_at_next, map_at_end}
use Rattle.bb_rules.specs.Faults.{at_clause}
use Rattle.bb_rules.specs.Source.{clause_of}
use Rattle.bb_rules.specs.declared.fault.RuleFault.TheVariants.{Memory}
use Rattle.bb_rules.proofs.resolve.clauses_of.Goals as goal

pub returns-in_err-clause : goal.returns-in_err-clause
returns-in_err-clause c =
    let p = err_from_is_err_and c.from_residual.result c.from_residual.ensures.1 in
    let at = at_clause c.args.list in
    let each = clause_of c.args.schema.now c.args.within in
    let failed = sym (c.in_err-clause.ensures ∙ ap (map_err (at c.loop-index.index)) c.clause_of.ensures) in
    rw (p.1, p.2) (subst (λ ts. (c.in_err-clause.field-0.0 ≡ Memory) ⊎ (try_map_at at each 0 ts ≡ Err c.in_err-clause.field-0.0)) (map-id c.args.texts.now)
    (map_at_error Memory at each (λ t. t) c.loop-index.clauses c.args.texts.now c.loop-index.index c.index-texts-index.result c.in_err-clause.field-0.0 (try_map_at at each 0 (map (λ t. t) c.args.texts.now)) c.loop-index-test.true c.index-texts-index.is
    (inr failed) c.loop-index.invariant))

pub loop-index-preserved : goal.loop-index-preserved
loop-index-preserved c =
    let at = at_clause c.args.list in
    let each = clause_of c.args.schema.now c.args.within in
    let gives = sym (c.in_ok-clause.ensures ∙ ap (map_err (at c.loop-index.index)) c.clause_of.ensures) in
    rw c.in_ok-clauses.ensures (map_at_next at each (λ t. t) c.loop-index.clauses c.args.texts.now c.loop-index.index c.index-texts-index.result c.in_ok-clause.clause (try_map_at at each 0 (map (λ t. t) c.args.texts.now)) c.loop-index-test.true c.index-texts-index.is
    gives c.loop-index.invariant)

pub returns : goal.returns
returns c =
    let at = at_clause c.args.list in
    let each = clause_of c.args.schema.now c.args.within in
    ap (try_map_at at each 0) (sym (map-id c.args.texts.now))
    ∙ map_at_end at each (λ t. t) c.loop-index.clauses c.args.texts.now c.loop-index.index _ c.loop-index-test.false c.loop-index.invariant
