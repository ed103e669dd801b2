use Rattle.std.proofs.Common.{ap, ◌∙◌, List, Bool, Option, ℕ}
use Rattle.std.specs.List.{fold}
use Rattle.bb_schema.specs.proving.Readings.{mark_first}
use Rattle.bb_schema.proofs.ReadingLemmas.{fold_next, fold_end}
use Rattle.bb_schema.proofs.readings.read_slots.Goals as goal

pub loop-firsts-init : goal.loop-firsts-init
loop-firsts-init c = ap (λ (row : List Bool). fold (fold mark_first) row c.args.dims.now) c.in_ok-read.ensures

pub loop-firsts-preserved : goal.loop-firsts-preserved
loop-firsts-preserved c =
    fold_next (fold mark_first) c.loop-firsts.read.items c.mark_dims.new.read.items c.args.dims.now c.loop-firsts.firsts-index c.firsts-item.result _ c.loop-firsts-test.true c.firsts-item.is
    (c.mark_dims.ensures ∙ ap (λ (dims : List (Option ℕ)). fold mark_first c.loop-firsts.read.items dims) c.as_slice.ensures) c.loop-firsts.invariant

pub returns : goal.returns
returns c = fold_end (fold mark_first) c.loop-firsts.read.items c.args.dims.now c.loop-firsts.firsts-index _ c.loop-firsts-test.false c.loop-firsts.invariant
