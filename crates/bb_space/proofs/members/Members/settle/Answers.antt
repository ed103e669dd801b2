use Rattle.std.proofs.Common.{◌≡◌, ◌∙◌, sym, ap, subst, Some, None, unwrap_or, []}
use Rattle.std.specs.Prelude.{option_map}
use Rattle.std.specs.FinMap as fin
use Rattle.bb_space.specs.proving.Indexed.{membership}
use Rattle.bb_space.specs.index.proving.Places.{AreTaken}
use Rattle.bb_basis.proofs.EntryLemmas.{get_is_lookup}
use Rattle.bb_space.proofs.members.Members.settle.Goals as goal

pub returns-in-None-clause-taken : goal.returns-in-None-clause-taken
returns-in-None-clause-taken c =
    let none : fin.get (membership c.args.self.now) c.args.unit ≡ None = get_is_lookup c.args.self.now.values.entries c.args.unit ∙ (sym c.get.ensures.value ∙ ap (option_map (λ x. x.now)) c.in-None.is) in
    subst (λ except. AreTaken c.args.unit c.args.values.now except c.args.self.now.places c.take_all.new.places) (ap (λ o. unwrap_or o []) (sym none)) c.take_all.ensures

pub returns-in-Some-clause-taken : goal.returns-in-Some-clause-taken
returns-in-Some-clause-taken c =
    let there : fin.get (membership c.args.self.now) c.args.unit ≡ Some c.in-Some.present.now = get_is_lookup c.args.self.now.values.entries c.args.unit ∙ (sym c.get.ensures.value ∙ ap (option_map (λ x. x.now)) c.in-Some.is) in
    subst (λ except. AreTaken c.args.unit c.args.values.now except c.args.self.now.places c.take_all-in-Some.new.places) (c.as_slice.ensures ∙ ap (λ o. unwrap_or o []) (sym there)) c.take_all-in-Some.ensures
