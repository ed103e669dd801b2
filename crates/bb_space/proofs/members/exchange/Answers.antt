use Rattle.std.proofs.Common.{◌≡◌, ◌∙◌, sym, ap, Some, None, List, refl}
use Rattle.std.specs.Prelude.{is_some, option_map}
use Rattle.std.specs.FinMap as fin
use Rattle.bb_pattern.specs.declared.value.DimValue.{DimValue}
use Rattle.bb_space.specs.proving.Entries.{members_of_entries}
use Rattle.bb_basis.proofs.EntryLemmas.{get_is_lookup, one_set}
use Rattle.bb_space.proofs.members.exchange.Goals as goal

pub returns-in-None-clause-moved : goal.returns-in-None-clause-moved
returns-in-None-clause-moved c =
    let gone : fin.get (members_of_entries c.args.values.now.entries) c.args.unit ≡ None = get_is_lookup c.args.values.now.entries c.args.unit ∙ (sym c.get_mut.ensures.value ∙ ap (option_map (λ x. x.now)) c.in-None.is) in
    rw (c.get_mut.follows.holds-at-none, gone) refl

pub returns-in-None-clause-had : goal.returns-in-None-clause-had
returns-in-None-clause-had c =
    let gone : fin.get (members_of_entries c.args.values.now.entries) c.args.unit ≡ None = get_is_lookup c.args.values.now.entries c.args.unit ∙ (sym c.get_mut.ensures.value ∙ ap (option_map (λ x. x.now)) c.in-None.is) in
    rw gone refl

pub returns-in-Some-clause-moved : goal.returns-in-Some-clause-moved
returns-in-Some-clause-moved c =
    let m = members_of_entries c.args.values.now.entries in
    let there : fin.get m c.args.unit ≡ Some c.in-Some.found.now = get_is_lookup c.args.values.now.entries c.args.unit ∙ (sym c.get_mut.ensures.value ∙ ap (option_map (λ x. x.now)) c.in-Some.is) in
    let new = c.swap.new.x in
    let wrote = c.get_mut.follows.holds new in
    let made = one_set c.args.values.now.entries (c.get_mut.follows.lender new).entries c.args.unit new ((wrote.3 (ap is_some (sym c.get_mut.ensures.value ∙ ap (option_map (λ x. x.now)) c.in-Some.is))).0) in
    rw there (made ∙ ap (λ (values : List DimValue). fin.insert m c.args.unit values) c.swap.ensures.x_after)

pub returns-in-Some-clause-had : goal.returns-in-Some-clause-had
returns-in-Some-clause-had c =
    let m = members_of_entries c.args.values.now.entries in
    let there : fin.get m c.args.unit ≡ Some c.in-Some.found.now = get_is_lookup c.args.values.now.entries c.args.unit ∙ (sym c.get_mut.ensures.value ∙ ap (option_map (λ x. x.now)) c.in-Some.is) in
    rw there c.swap.ensures.y_after
