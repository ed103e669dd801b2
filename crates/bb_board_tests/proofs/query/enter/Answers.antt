use Rattle.std.proofs.Common.{rules, ◌∙◌, sym, subst}
use Rattle.std.specs.Prelude.{IfSome, IsTrue}
use Rattle.bb_schema.specs.Spaces.{allowed}
use Rattle.bb_units.specs.Units.{class_of}
use Rattle.bb_query.specs.Knows.{Knows}
use Rattle.bb_board_tests.proofs.KnowsLemmas.{known_after_enter}
use Rattle.bb_board_tests.proofs.query.enter.Goals as goal

pub returns : goal.returns
returns c =
    let s = c.args.schema.now in
    let u = c.args.units.now in
    let admitted : IfSome (class_of u c.args.unit) (λ class. IsTrue (allowed s c.args.space class)) =
    subst (λ o. IfSome o (λ class. IsTrue (allowed s c.args.space class))) (sym c.class_of.ensures) (sym c.allowed.ensures.computed ∙ search rules) in
    subst (Knows s u) (sym c.in_ok-enter.ensures.entered) (known_after_enter s u _ c.args.space c.args.unit c.in_ok-values.values c.requires (search rules) admitted c.in_ok-values.ensures.present)
