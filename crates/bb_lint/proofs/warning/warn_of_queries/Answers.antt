use Rattle.std.proofs.Common.{◌≡◌, ◌<◌, true, false, not, length, ap, ◌∙◌, arith}
use Rattle.bb_lint.specs.declared.warning.Warning.TheVariants.{Unused}
use Rattle.bb_lint.specs.Unused.{is_named, is_unused}
use Rattle.bb_lint.proofs.ListLemmas.{put_passed, left_passed}
use Rattle.bb_lint.proofs.NamedLemmas.{told_at}
use Rattle.bb_lint.proofs.warning.warn_of_queries.Goals as goal

pub loop-query-preserved-then-named-query : goal.loop-query-preserved-then-named-query
loop-query-preserved-then-named-query c =
    let code = c.args.code.now in
    let query = c.loop-query.query in
    let lt : query < length code.queries = omega (arith, c.loop-query-test.true, ap (λ l. length l) c.queries.ensures.value) in
    let is : is_named code.ops query ≡ true = told_at code.ops (length code.queries) c.args.named.now c.requires query true lt c.if-named-query.true in
    left_passed Unused (is_unused code) c.loop-query.warnings.items c.args.warnings.now.items query (ap not is) c.loop-query.invariant

pub loop-query-preserved : goal.loop-query-preserved
loop-query-preserved c =
    let code = c.args.code.now in
    let query = c.loop-query.query in
    let lt : query < length code.queries = omega (arith, c.loop-query-test.true, ap (λ l. length l) c.queries.ensures.value) in
    let is : is_named code.ops query ≡ false = told_at code.ops (length code.queries) c.args.named.now c.requires query false lt c.if-named-query.false in
    c.in_ok-push.ensures.items
    ∙ put_passed Unused (is_unused code) c.loop-query.warnings.items c.args.warnings.now.items query (ap not is) c.loop-query.invariant
