use Rattle.std.proofs.Common.{◌≡◌, ◌∙◌, sym, ap, subst, Some, None, unwrap_or, []}
use Rattle.std.specs.Prelude.{option_map}
use Rattle.std.specs.FinMap as fin
use Rattle.std.proofs.lemmas.Result.{on_ok_weaker}
use Rattle.bb_space.specs.proving.Indexed.{membership}
use Rattle.bb_space.specs.index.proving.Places.{AreIn}
use Rattle.bb_basis.proofs.EntryLemmas.{get_is_lookup}
use Rattle.bb_space.proofs.members.Members.prepare.Goals as goal

pub returns-in-None-clause-all : goal.returns-in-None-clause-all
returns-in-None-clause-all c =
    let none : fin.get (membership c.args.self.now) c.args.unit ≡ None = get_is_lookup c.args.self.now.values.entries c.args.unit ∙ (sym c.get.ensures.value ∙ ap (option_map (λ x. x.now)) c.in-None.is) in
    on_ok_weaker c.put_all.result (subst (λ except. AreIn c.args.unit c.args.values.now except c.put_all.new.places) (ap (λ o. unwrap_or o []) (sym none))) c.put_all.ensures.all

pub returns-in-Some-clause-all : goal.returns-in-Some-clause-all
returns-in-Some-clause-all c =
    let there : fin.get (membership c.args.self.now) c.args.unit ≡ Some c.in-Some.present.now = get_is_lookup c.args.self.now.values.entries c.args.unit ∙ (sym c.get.ensures.value ∙ ap (option_map (λ x. x.now)) c.in-Some.is) in
    on_ok_weaker c.put_all-in-Some.result (subst (λ except. AreIn c.args.unit c.args.values.now except c.put_all-in-Some.new.places) (c.as_slice.ensures ∙ ap (λ o. unwrap_or o []) (sym there))) c.put_all-in-Some.ensures.all
