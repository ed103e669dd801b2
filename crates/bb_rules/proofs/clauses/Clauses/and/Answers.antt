use Rattle.bb_rules.proofs.IndexLemmas.{change_indexed, quiescence_indexed}
use Rattle.bb_rules.proofs.clauses.Clauses.and.Goals.{in-Change+in_ok-add-in-Change, in-Quiescence}
use Rattle.bb_rules.proofs.clauses.Clauses.and.Goals as goal

pub invariant_of-result : goal.invariant_of-result
invariant_of-result c = elim c.match-clause.branch [
  | in-Change+in_ok-add-in-Change w ↦
      rw (c.in_ok-push.ensures.ok, w.clause-is, w.index-is, w.quiescence-is)
      (change_indexed c.self.inside.list c.self.inside.index w.add.new.self c.self.inside.quiescence w.in-Change.kind w.in-Change.class c.self.invariant w.in_ok-add-in-Change.ensures)
  | in-Quiescence w ↦
      rw (c.in_ok-push.ensures.ok, w.clause-is, w.index-is, w.quiescence-is, w.in-Quiescence.is)
      (quiescence_indexed c.self.inside.list c.self.inside.index c.self.inside.quiescence c.self.invariant)
]
