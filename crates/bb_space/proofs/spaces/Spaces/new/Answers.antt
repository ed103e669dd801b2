use Rattle.std.proofs.Common.{◌<◌, ◌≤◌, length, ap, arith}
use Rattle.bb_space.proofs.ListLemmas.{of_list, blank_none, blank_one, blank_all}
use Rattle.bb_space.specs.proving.Indexed.{seen}
use Rattle.bb_space.proofs.StandingLemmas.{standing_nowhere}
use Rattle.bb_space.proofs.spaces.Spaces.new.Goals as goal

pub loop-init : goal.loop-init
loop-init c = blank_none c.args.schema.now.spaces c.new-spaces.result.items c.new-spaces.ensures.items

pub loop-preserved : goal.loop-preserved
loop-preserved c =
    let lt : c.loop.counter < length c.args.schema.now.spaces = omega arith in
    blank_one c.loop.counter c.args.schema.now.spaces c.loop.spaces.items c.push.new.self.items c.new.result lt c.in_ok-push.ensures.items c.new.ensures.none c.new.ensures.indexed c.loop.invariant

pub invariant_of-result : goal.invariant_of-result
invariant_of-result c =
    let le : length c.args.schema.now.spaces ≤ c.loop.counter = omega arith in
    (c.loop.invariant.indexed, standing_nowhere c.args.schema.now.spaces (seen c.loop.spaces.items) c.new-2.result (ap of_list (blank_all c.loop.counter c.args.schema.now.spaces c.loop.spaces.items le c.loop.invariant)) c.new-2.ensures)

pub returns : goal.returns
returns c =
    let le : length c.args.schema.now.spaces ≤ c.loop.counter = omega arith in
    ap of_list (blank_all c.loop.counter c.args.schema.now.spaces c.loop.spaces.items le c.loop.invariant)
