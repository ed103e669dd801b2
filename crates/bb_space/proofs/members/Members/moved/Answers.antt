use Rattle.std.proofs.Common.{◌∙◌, sym, false}
use Rattle.bb_space.proofs.LooseLemmas.{at_ok, put_ready, moved_indexed}
use Rattle.bb_space.proofs.members.Members.moved.Goals as goal

pub returns-clause-indexed : goal.returns-clause-indexed
returns-clause-indexed c =
    let all = put_ready c.args.unit c.as_slice.result.now (λ _. false) c.args.self.now c.prepare.new.self c.prepare.ensures.put (at_ok c.prepare.result (sym c.is_err.ensures.value ∙ c.if-is_err.false) c.prepare.ensures.all) c.requires in
    moved_indexed c.args.unit c.as_slice.result.now c.as_slice-2.result.now c.args.self.now c.prepare.new.self c.exchange.new.self c.settle-2.new.self
    c.prepare.ensures.same c.prepare.ensures.put all c.exchange.ensures.same (rw c.as_slice.ensures c.exchange.ensures.moved)
    (rw (c.as_slice.ensures, c.as_slice-2.ensures) c.exchange.ensures.had) c.settle-2.ensures.same c.settle-2.ensures.taken c.requires
