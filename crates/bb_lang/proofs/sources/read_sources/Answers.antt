use Rattle.std.proofs.Common.{rules}
use Rattle.std.proofs.lemmas.Result.{err_from_is_err_and}
use Rattle.bb_lang_tree.specs.declared.fault.LangFault.TheVariants.{Memory}
use Rattle.bb_lang.specs.Sources.{next_source}
use Rattle.bb_lang.proofs.RepeatLemmas.{repeat_more, repeat_stop, repeat_error, repeat_end}
use Rattle.bb_lang.proofs.sources.read_sources.Goals as goal

pub returns-in_err-source : goal.returns-in_err-source
returns-in_err-source c =
    let p = err_from_is_err_and c.from_residual.result c.from_residual.ensures.1 in
    rw (p.1, p.2) (repeat_error next_source Memory c.in_err-source.field-0.0 c.loop-turn.sources.items c.loop-turn._turn c.left-turn-end.result c.loop-turn.parser.state _ c.loop-turn-test.true c.in_err-source.ensures c.loop-turn.invariant)

pub returns-in_default : goal.returns-in_default
returns-in_default c =
    repeat_stop next_source c.loop-turn.sources.items c.loop-turn._turn c.left-turn-end.result c.loop-turn.parser.state c.read_next_source.new.parser.state _ c.loop-turn-test.true
    (rw c.in_default.is at c.in_ok-source.ensures) c.loop-turn.invariant

pub loop-turn-preserved : goal.loop-turn-preserved
loop-turn-preserved c =
    repeat_more next_source c.loop-turn.sources.items c.push.new.self.items c.in-Some.source c.loop-turn._turn c.left-turn-end.result c.loop-turn.parser.state c.read_next_source.new.parser.state _ c.loop-turn-test.true
    (search rules) (rw c.in-Some.is at c.in_ok-source.ensures) c.loop-turn.invariant

pub returns : goal.returns
returns c =
    repeat_end next_source c.loop-turn.sources.items c.loop-turn._turn c.left-turn-end.result c.loop-turn.parser.state _ c.loop-turn-test.false c.loop-turn.invariant
