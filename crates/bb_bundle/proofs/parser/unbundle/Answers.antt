use Rattle.std.proofs.Common.{◌≡◌, ◌∙◌, ap, inr, sym, ◌+◌, length, ◌++◌, ◌∷◌, [], length-append, Result, Ok, Err}
use Rattle.std.specs.Prelude.{MatchResult}
use Rattle.std.specs.Str.Lines.{lines}
use Rattle.std.proofs.lemmas.Result.{err_from_is_err_and}
use Rattle.std.proofs.lemmas.Iterator.Consumers.{YieldsList-turn, YieldsList-end}
use Rattle.std.proofs.lemmas.Iterator.Splits.{YieldsList-from_lines}
use Rattle.bb_bundle.proofs.ParserLemmas.{line_counts, lines_next, lines_error, lines_end}
use Rattle.bb_basis.specs.Results.{Gives}
use Rattle.bb_bundle.specs.declared.fault.BundleFault.TheVariants.{Memory}
use Rattle.bb_bundle.specs.Bundle.{at_end}
use Rattle.bb_bundle.proofs.parser.unbundle.Goals as goal

-- what is given exactly is given
given_exactly : {X Y E : Type 0} (memory : E) (view : X → Y) (r : Result X E) (given : Result Y E) → MatchResult r (λ x. given ≡ Ok (view x)) (λ e. given ≡ Err e) → Gives memory view r given
given_exactly memory view (Ok x) given h = h
given_exactly memory view (Err e) given h = inr h

pub returns-in_err-read_line : goal.returns-in_err-read_line
returns-in_err-read_line c =
    let p = err_from_is_err_and c.from_residual.result c.from_residual.ensures.1 in
    let turn = YieldsList-turn (YieldsList-from_lines c.args.text.now cc) c.loop-line.yielded _ c.loop-line.yielded_by _ _ c.in-Some.line c.in-Some.is c.next.ensures.steps in
    rw (p.1, p.2) (lines_error c.loop-line.parser c.args.text.now (length c.loop-line.yielded) c.in-Some.line.now c.in_err-read_line.field-0.0 turn.0 turn.1 c.in_err-read_line.ensures c.loop-line.invariant.same)

pub loop-line-preserved : goal.loop-line-preserved
loop-line-preserved c =
    let turn = YieldsList-turn (YieldsList-from_lines c.args.text.now cc) c.loop-line.yielded _ c.loop-line.yielded_by _ _ c.in-Some.line c.in-Some.is c.next.ensures.steps in
    let more : length (c.loop-line.yielded ++ c.in-Some.line ∷ []) ≡ length c.loop-line.yielded + 1 = length-append c.loop-line.yielded (c.in-Some.line ∷ []) in
    record {
      more = tt;
      finite = tt;
      counted = line_counts c.loop-line.parser c.read_line.new.self c.in-Some.line.now c.in_ok-read_line.ensures ∙ ap (λ n. n + 1) c.loop-line.invariant.counted ∙ sym more;
      same = lines_next c.loop-line.parser c.read_line.new.self (lines c.args.text.now) (length c.loop-line.yielded) _ c.in-Some.line.now _ turn.0 turn.1 more c.in_ok-read_line.ensures c.loop-line.invariant.same;
    }

pub returns : goal.returns
returns c =
    let end = YieldsList-end (YieldsList-from_lines c.args.text.now cc) c.loop-line.yielded _ c.loop-line.yielded_by _ _ c.in-None.is c.next.ensures.steps in
    let same = lines_end c.loop-line.parser c.args.text.now (length c.loop-line.yielded) end.1 c.loop-line.invariant.same in
    rw same (given_exactly Memory (λ v. v.items) c.finish.result (at_end c.loop-line.parser) c.finish.ensures)
