use Rattle.std.proofs.Common.{drop}
use Rattle.bb_query.proofs.NearLemmas.{HasBut}
use Rattle.bb_query.proofs.near.+near.Given as goal

abbrev pub invariant-near_each-loop-pattern : goal.invariant-near_each-loop-pattern
invariant-near_each-loop-pattern l = Unit {0}

abbrev pub invariant-near_some-loop-pattern : goal.invariant-near_some-loop-pattern
invariant-near_some-loop-pattern l = HasBut l.search.spaces.now l.search.query.now.space l.search.operands.now l.patterns (drop l.pattern-index l.patterns) l.found.items
