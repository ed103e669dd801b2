use Rattle.std.proofs.Common.{◌∙◌, sym, ap}
use Rattle.std.specs.Prelude.{option_map}
use Rattle.bb_basis.proofs.EntryLemmas.{get_is_lookup}
use Rattle.bb_space.proofs.members.Members.values.Goals as goal

pub returns-in-None : goal.returns-in-None
returns-in-None c =
    sym (get_is_lookup c.args.self.now.values.entries c.args.unit ∙ (sym c.get.ensures.value ∙ ap (option_map (λ x. x.now)) c.in-None.is))

pub returns-in-Some : goal.returns-in-Some
returns-in-Some c =
    rw c.as_slice.ensures (sym (get_is_lookup c.args.self.now.values.entries c.args.unit ∙ (sym c.get.ensures.value ∙ ap (option_map (λ x. x.now)) c.in-Some.is)))
