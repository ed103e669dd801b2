use Rattle.std.proofs.Common.{◌≡◌, ◌∙◌, ℕ, ap, arith, Bool, List, length}
use Rattle.bb_schema.specs.proving.Relation.{closed_by, passed}
use Rattle.bb_schema.proofs.RelationLemmas.{closed_none, closed_more}
use Rattle.bb_schema.proofs.relation.closed.Goals as goal

pub loop-number-init : goal.loop-number-init
loop-number-init c = closed_none c.args.rows.items

pub loop-number-preserved : goal.loop-number-preserved
loop-number-preserved c =
    c.in_ok-rows.ensures
    ∙ (ap (λ (rows : List (List Bool)). passed c.loop-number.number rows) (c.deref.ensures.value ∙ c.loop-number.invariant)
    ∙ closed_more c.loop-number.number c.args.rows.items)

pub returns : goal.returns
returns c =
    let last : c.loop-number.number ≡ length c.args.rows.items = omega (arith, c.loop-number-test.false, c.loop-number.auto.number-end, c.len-count.ensures, c.args.rows.ok.0) in
    c.loop-number.invariant ∙ ap (λ (n : ℕ). closed_by n c.args.rows.items) last
