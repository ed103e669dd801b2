use Rattle.std.proofs.Common.{rules, ◌≡◌, ◌∙◌, ℕ, List, sym, subst}
use Rattle.std.specs.Prelude.{◌↔◌, IsTrue}
use Rattle.std.specs.List.{Any}
use Rattle.bb_schema_classes.specs.Inheritance.{Descends, ParentsAreEarlier}
use Rattle.bb_schema_classes.proofs.Laws.{any_decides}
use Rattle.bb_schema.specs.Schema.{Schema}
use Rattle.bb_schema.specs.Spaces.{classes_in}
use Rattle.bb_schema.proofs.schema.Schema.allowed.Goals as goal

pub returns-in-Some-clause-listed : goal.returns-in-Some-clause-listed
returns-in-Some-clause-listed c =
    let listed : classes_in c.args.self.now c.args.space ≡ c.in-Some.found.now.classes = search rules in
    let parents : ParentsAreEarlier c.args.self.now.classes = subst (λ (s : Schema). ParentsAreEarlier s.classes) c.self.view_is c.self.invariant.fits.parents in
    subst (λ (ds : List ℕ). IsTrue c.descends_from_any.result ↔ Any (Descends c.args.self.now.classes c.args.class) ds) (sym (listed ∙ sym c.as_slice.ensures))
    (any_decides c.args.self.now.classes c.args.class c.as_slice.result.now c.descends_from_any.result parents c.descends_from_any.ensures)
