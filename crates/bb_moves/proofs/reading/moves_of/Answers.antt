use Rattle.std.proofs.Common.{◌≡◌, ◌∙◌, ap, sym, refl, subst, ◌+◌, ◌<◌, length, get_or, ◌++◌, ◌∷◌, [], length-append, arith}
use Rattle.std.specs.Str.Lines.{lines}
use Rattle.std.proofs.lemmas.Result.{err_from_is_err_and}
use Rattle.std.proofs.lemmas.Iterator.Consumers.{YieldsList-turn, YieldsList-end}
use Rattle.std.proofs.lemmas.Iterator.Splits.{YieldsList-from_lines}
use Rattle.bb_basis.proofs.PlacedLemmas.{placed_err, placed_ok}
use Rattle.bb_moves.proofs.LineLemmas.{line_next, line_error, lines_end}
use Rattle.bb_moves.specs.Faults.{fault_at}
use Rattle.bb_moves.specs.MovesText.{after_line}
use Rattle.bb_moves.specs.proving.Reading.{so_far}
use Rattle.bb_moves.specs.declared.fault.MovesFault.TheVariants.{Memory}
use Rattle.bb_moves.specs.declared.fault.Slip.TheVariants as slips
use Rattle.bb_moves.proofs.reading.moves_of.Goals as goal

pub returns-in_err-placed : goal.returns-in_err-placed
returns-in_err-placed c =
    let p = err_from_is_err_and c.from_residual.result c.from_residual.ensures.1 in
    let turn = YieldsList-turn (YieldsList-from_lines c.args.text.now cc) c.loop-line.yielded _ c.loop-line.yielded_by _ _ c.in-Some.line c.in-Some.is c.next.ensures.steps in
    let k = c.loop-line.lines in
    let line = c.in-Some.line.now in
    let so = so_far c.loop-line.reading in
    let counted = c.loop-line.invariant.counted in
    let lt : k < length (lines c.args.text.now) = omega (arith, turn.0, counted) in
    let is : line ≡ get_or (lines c.args.text.now) k line = subst (λ j. line ≡ get_or (lines c.args.text.now) j line) (sym counted) turn.1 in
    rw (p.1, p.2) (line_error c.args.schema.now c.args.text.now so k line lt is c.in_err-placed.field-0.0
    (placed_err slips.Memory Memory (fault_at k) (λ _. so_far c.read_line-answer.new.self) c.read_line-answer.result (after_line c.args.schema.now so line) c.in_err-placed.field-0.0 refl c.read_line-answer.ensures c.in_err-placed.ensures)
    c.loop-line.invariant.same)

pub loop-line-preserved : goal.loop-line-preserved
loop-line-preserved c =
    let turn = YieldsList-turn (YieldsList-from_lines c.args.text.now cc) c.loop-line.yielded _ c.loop-line.yielded_by _ _ c.in-Some.line c.in-Some.is c.next.ensures.steps in
    let k = c.loop-line.lines in
    let line = c.in-Some.line.now in
    let so = so_far c.loop-line.reading in
    let counted = c.loop-line.invariant.counted in
    let lt : k < length (lines c.args.text.now) = omega (arith, turn.0, counted) in
    let is : line ≡ get_or (lines c.args.text.now) k line = subst (λ j. line ≡ get_or (lines c.args.text.now) j line) (sym counted) turn.1 in
    let more : length (c.loop-line.yielded ++ c.in-Some.line ∷ []) ≡ length c.loop-line.yielded + 1 = length-append c.loop-line.yielded (c.in-Some.line ∷ []) in
    record {
      more = tt;
      finite = tt;
      counted = ap (λ n. n + 1) counted ∙ sym more;
      same = line_next c.args.schema.now c.args.text.now so k line lt is (so_far c.read_line-answer.new.self) (k + 1) refl
          (placed_ok slips.Memory (fault_at k) (λ _. so_far c.read_line-answer.new.self) c.read_line-answer.result (after_line c.args.schema.now so line) c.in_ok-placed.field-0 c.read_line-answer.ensures c.in_ok-placed.ensures)
          c.loop-line.invariant.same;
    }

pub returns : goal.returns
returns c =
    let end = YieldsList-end (YieldsList-from_lines c.args.text.now cc) c.loop-line.yielded _ c.loop-line.yielded_by _ _ c.in-None.is c.next.ensures.steps in
    let same = lines_end c.args.schema.now c.args.text.now (so_far c.loop-line.reading) c.loop-line.lines (c.loop-line.invariant.counted ∙ end.1) c.loop-line.invariant.same in
    rw same c.finish.ensures
