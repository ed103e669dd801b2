use Rattle.std.proofs.Common.{◌∙◌, ap, arith, length, ◌+◌}
use Rattle.std.specs.Prelude.{nat_lt, slice_index}
use Rattle.bb_verify.specs.nesting.Loops.{never}
use Rattle.bb_verify.proofs.nesting_lemmas.LoopInversion.{ahead_ok}
use Rattle.bb_verify.proofs.nesting_lemmas.LoopTableLemmas.{enters_by_head}
use Rattle.bb_verify.proofs.nesting.loop_ops.enters_at_heads.Goals as goal

pub bounds-as_slice-target : goal.bounds-as_slice-target
bounds-as_slice-target c =
    let inside = (ahead_ok (length c.args.code.now.ops) c.args.place c.args.target c.requires.ahead).1 in
    let long = c.requires.tables.heads.len in
    let same = ap (λ l. length l) c.as_slice.ensures in
    omega (arith, inside, long, same)

pub returns : goal.returns
returns c =
    c.never.ensures
    ∙ (ap (λ ds. never (nat_lt (c.args.place + 1) (slice_index ds (c.args.target + 1)))) c.as_slice.ensures
    ∙ enters_by_head (length c.args.code.now.ops) c.args.place c.args.target c.args.code.now.loops c.args.tables.now.deepest c.requires.tables.heads c.requires.ahead)
