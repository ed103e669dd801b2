use Rattle.std.proofs.Common.{◌≡◌, drop, map, max}
use Rattle.std.specs.List.{fold}
use Rattle.bb_rules.specs.Cost.{most_steps}
use Rattle.bb_c_run.specs.Costs.{most_steps_of}
use Rattle.bb_c_run.proofs.costs.most_of.Given as goal

abbrev pub invariant-loop-source : goal.invariant-loop-source
invariant-loop-source l =
    fold max l.most (map (λ s. most_steps s l.found) (drop l.source-index l.sources)) ≡ most_steps_of l.sources l.found
