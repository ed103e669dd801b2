use Rattle.std.proofs.Common.{◌∙◌, sym, rules}
use Rattle.std.proofs.lemmas.Result.{err_from_is_err_and}
use Rattle.bb_lang_tree.specs.declared.fault.LangFault.TheVariants.{Memory}
use Rattle.bb_lang.specs.Sources.{next_clause}
use Rattle.bb_lang.proofs.RepeatLemmas.{repeat_more, repeat_stop, repeat_error, repeat_end}
use Rattle.bb_lang.proofs.ClauseLemmas.{clauses_begin}
use Rattle.bb_lang.proofs.clauses.read_clauses.Goals as goal

pub returns-in_err-clause : goal.returns-in_err-clause
returns-in_err-clause c =
    let p = err_from_is_err_and c.from_residual-in_err-clause.result c.from_residual-in_err-clause.ensures.1 in
    let begun = clauses_begin c.args.parser.now.state c.read_clause.new.parser.state c.in_ok-read_clause.field-0 c.new-clauses.result.items c.push.new.self.items c.left-turn-end.result c.in_ok-read_clause.ensures c.new-clauses.ensures.items (search rules) c.left-turn-end.ensures in
    rw (p.1, p.2) (repeat_error next_clause Memory c.in_err-clause.field-0.0 c.loop-turn.clauses.items c.loop-turn._turn c.left-turn-end.result c.loop-turn.parser.state _ c.loop-turn-test.true c.in_err-clause.ensures (c.loop-turn.invariant ∙ sym begun))

pub returns-in_default : goal.returns-in_default
returns-in_default c =
    let begun = clauses_begin c.args.parser.now.state c.read_clause.new.parser.state c.in_ok-read_clause.field-0 c.new-clauses.result.items c.push.new.self.items c.left-turn-end.result c.in_ok-read_clause.ensures c.new-clauses.ensures.items (search rules) c.left-turn-end.ensures in
    repeat_stop next_clause c.loop-turn.clauses.items c.loop-turn._turn c.left-turn-end.result c.loop-turn.parser.state c.read_next_clause.new.parser.state _ c.loop-turn-test.true
    (rw c.in_default.is at c.in_ok-clause.ensures) (c.loop-turn.invariant ∙ sym begun)

pub loop-turn-preserved : goal.loop-turn-preserved
loop-turn-preserved c =
    repeat_more next_clause c.loop-turn.clauses.items c.push-in-loop-turn.new.self.items c.in-Some.clause c.loop-turn._turn c.left-turn-end.result c.loop-turn.parser.state c.read_next_clause.new.parser.state _ c.loop-turn-test.true
    (search rules) (rw c.in-Some.is at c.in_ok-clause.ensures) c.loop-turn.invariant

pub returns : goal.returns
returns c =
    let begun = clauses_begin c.args.parser.now.state c.read_clause.new.parser.state c.in_ok-read_clause.field-0 c.new-clauses.result.items c.push.new.self.items c.left-turn-end.result c.in_ok-read_clause.ensures c.new-clauses.ensures.items (search rules) c.left-turn-end.ensures in
    repeat_end next_clause c.loop-turn.clauses.items c.loop-turn._turn c.left-turn-end.result c.loop-turn.parser.state _ c.loop-turn-test.false (c.loop-turn.invariant ∙ sym begun)
