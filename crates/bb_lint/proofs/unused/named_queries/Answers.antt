use Rattle.std.proofs.Common.{length, ap, subst, sym, ◌∙◌, List, Bool, false, replicate}
use Rattle.bb_lint.specs.Unused.{IsTold, all_named}
use Rattle.bb_lint.proofs.NamedLemmas.{all_told}
use Rattle.bb_lint.proofs.unused.named_queries.Goals as goal

pub returns : goal.returns
returns c =
    let of = c.args.code.now.ops in
    let count = length c.args.code.now.queries in
    let P : List Bool → Type 0 = λ table. IsTold of count table in
    subst P
    (sym (c.mark_all.ensures ∙ (ap (all_named c.in_ok-table.table.items) c.ops.ensures.value
    ∙ ap (λ table. all_named table of) (c.in_ok-table.ensures ∙ ap (λ qs. replicate (length qs) false) c.queries.ensures.value))))
    (all_told of count)
