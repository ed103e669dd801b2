use Rattle.std.proofs.Common.{◌≡◌, ◌∙◌, sym, ap, refl, false}
use Rattle.std.specs.FinMap as fin
use Rattle.bb_space.specs.proving.Entries.{members_of_entries}
use Rattle.bb_space.specs.proving.Indexed.{membership}
use Rattle.bb_basis.proofs.EntryLemmas.{one_set}
use Rattle.bb_space.proofs.LooseLemmas.{at_ok, put_ready, entered_indexed}
use Rattle.bb_space.proofs.members.Members.enter.Goals as goal

pub returns-in-Ok-clause-entered : goal.returns-in-Ok-clause-entered
returns-in-Ok-clause-entered c =
    let new : fin.contains_key (membership c.args.self.now) c.args.unit ≡ false = sym c.contains.ensures ∙ c.if-contains.false in
    rw new (one_set c.prepare.new.self.values.entries c.insert.new.self.entries c.args.unit c.args.values c.in-Ok.ensures.updates.0 ∙ ap (λ v. fin.insert (members_of_entries v.entries) c.args.unit c.args.values) c.prepare.ensures.same)

pub returns-in-Ok-clause-indexed : goal.returns-in-Ok-clause-indexed
returns-in-Ok-clause-indexed c =
    let new : fin.contains_key (membership c.args.self.now) c.args.unit ≡ false = sym c.contains.ensures ∙ c.if-contains.false in
    let all = put_ready c.args.unit c.as_slice.result.now (λ _. false) c.args.self.now c.prepare.new.self c.prepare.ensures.put (at_ok c.prepare.result (sym c.is_err.ensures.value ∙ c.if-is_err.false) c.prepare.ensures.all) c.requires in
    entered_indexed c.args.unit c.as_slice.result.now c.args.self.now c.prepare.new.self _ c.prepare.ensures.same c.prepare.ensures.put all refl
    (one_set c.prepare.new.self.values.entries c.insert.new.self.entries c.args.unit c.as_slice.result.now (rw c.as_slice.ensures c.in-Ok.ensures.updates.0)) new c.requires
