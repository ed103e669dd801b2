use Rattle.std.proofs.Common.{◌≡◌, drop, map}
use Rattle.bb_basis.specs.Results.{try_map_at}
use Rattle.bb_basis.proofs.MapAtLemmas.{joined}
use Rattle.bb_rules.specs.Faults.{at_clause}
use Rattle.bb_rules.specs.Source.{clause_of}
use Rattle.bb_rules.proofs.resolve.clauses_of.Given as goal

abbrev pub invariant-loop-index : goal.invariant-loop-index
invariant-loop-index l =
    joined l.clauses (try_map_at (at_clause l.list) (clause_of l.schema l.within) l.index (drop l.index (map (λ t. t) l.texts)))
    ≡ try_map_at (at_clause l.list) (clause_of l.schema l.within) 0 (map (λ t. t) l.texts)
