use Rattle.std.proofs.Common.{◌≡◌, ◌∙◌, sym, ap, refl, Some, unwrap_or, []}
use Rattle.std.specs.Prelude.{is_some}
use Rattle.std.specs.FinMap as fin
use Rattle.bb_space.specs.proving.Indexed.{membership}
use Rattle.bb_basis.proofs.EntryLemmas.{get_is_lookup, one_gone}
use Rattle.bb_space.proofs.LooseLemmas.{left_none, left_indexed}
use Rattle.bb_space.proofs.members.Members.leave.Goals as goal

pub returns-in-None-clause-was : goal.returns-in-None-clause-was
returns-in-None-clause-was c = ap is_some (sym c.in-None.is ∙ (c.remove.ensures.value ∙ sym (get_is_lookup c.args.self.now.values.entries c.args.unit)))

pub returns-in-None-clause-left : goal.returns-in-None-clause-left
returns-in-None-clause-left c = one_gone c.args.self.now.values.entries c.remove.new.self.entries c.args.unit c.remove.ensures.updates.0

pub returns-in-None-clause-indexed : goal.returns-in-None-clause-indexed
returns-in-None-clause-indexed c =
    left_none c.args.unit c.args.self.now _ refl (one_gone c.args.self.now.values.entries c.remove.new.self.entries c.args.unit c.remove.ensures.updates.0)
    (get_is_lookup c.args.self.now.values.entries c.args.unit ∙ (sym c.remove.ensures.value ∙ c.in-None.is)) c.requires

pub returns-in-Some-clause-was : goal.returns-in-Some-clause-was
returns-in-Some-clause-was c = ap is_some (sym c.in-Some.is ∙ (c.remove.ensures.value ∙ sym (get_is_lookup c.args.self.now.values.entries c.args.unit)))

pub returns-in-Some-clause-left : goal.returns-in-Some-clause-left
returns-in-Some-clause-left c =
    ap (λ v. membership (record { values = v; places = c.settle.new.self.places })) c.settle.ensures.same
    ∙ one_gone c.args.self.now.values.entries c.remove.new.self.entries c.args.unit c.remove.ensures.updates.0

pub returns-in-Some-clause-indexed : goal.returns-in-Some-clause-indexed
returns-in-Some-clause-indexed c =
    let there : fin.get (membership c.args.self.now) c.args.unit ≡ Some c.in-Some.values = get_is_lookup c.args.self.now.values.entries c.args.unit ∙ (sym c.remove.ensures.value ∙ c.in-Some.is) in
    left_indexed c.args.unit c.as_slice.result.now c.args.self.now (record { values = c.remove.new.self; places = c.args.self.now.places }) c.settle.new.self refl
    (one_gone c.args.self.now.values.entries c.remove.new.self.entries c.args.unit c.remove.ensures.updates.0)
    (c.as_slice.ensures ∙ sym (ap (λ o. unwrap_or o []) there)) c.settle.ensures.same c.settle.ensures.taken c.requires
