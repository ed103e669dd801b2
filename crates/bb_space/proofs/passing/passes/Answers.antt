use Rattle.std.proofs.Common.{◌∙◌, sym, ap, false}
use Rattle.std.specs.Prelude.{option_map}
use Rattle.std.specs.Option.{option_map_or}
use Rattle.bb_space.specs.index.Leaf.{fit_each}
use Rattle.bb_basis.proofs.EntryLemmas.{get_is_lookup}
use Rattle.bb_space.proofs.passing.passes.Goals as goal

pub returns-in-None : goal.returns-in-None
returns-in-None c =
    sym (ap (λ o. option_map_or (fit_each c.args.tests.now) o false) (get_is_lookup c.args.values.now.entries c.args.unit ∙ (sym c.get.ensures.value ∙ ap (option_map (λ x. x.now)) c.in-None.is)))

pub returns-in-Some : goal.returns-in-Some
returns-in-Some c =
    c.fit_each.ensures ∙ (ap (fit_each c.args.tests.now) c.as_slice.ensures
    ∙ sym (ap (λ o. option_map_or (fit_each c.args.tests.now) o false) (get_is_lookup c.args.values.now.entries c.args.unit ∙ (sym c.get.ensures.value ∙ ap (option_map (λ x. x.now)) c.in-Some.is))))
