use Rattle.std.proofs.Common.{◌≡◌, ◌∙◌, Option, Some, None, ap}
use Rattle.std.specs.Prelude.{is_some, option_map}
use Rattle.bb_units.specs.Units.{Units, has_slot}
use Rattle.bb_units.proofs.FitsLemmas.{with_layout}
use Rattle.bb_units.proofs.HasLemmas.{has_its_slots}
use Rattle.bb_units.proofs.units.Units.has.Goals as goal

some_of : {X Y : Type 0} (f : X → Y) (o : Option X) (p : Option Y) → option_map f o ≡ p → is_some o ≡ is_some p
some_of f None p h = ap is_some h
some_of f (Some x) p h = ap is_some h

pub returns-clause-listed : goal.returns-clause-listed
returns-clause-listed c =
    let seen = with_layout c.self.inside.layout c.self.inside.units in
    c.is_some.ensures ∙ (some_of (λ v. v.now) c.value_in.result _ c.value_in.ensures
    ∙ (has_its_slots seen c.args.unit c.args.slot c.self.invariant ∙ ap (λ (u : Units). has_slot u c.args.unit c.args.slot) c.self.view_is))
