use Rattle.std.proofs.Common.{◌≡◌, false, Some, None, refl, sym, ◌∙◌}
use Rattle.std.specs.Prelude.{◌==◌, slice_get}
use Rattle.bb_schema_classes.proofs.Laws.{alone, none_above, descends_told}
use Rattle.bb_schema.proofs.lineage.Lineage.descends.Goals as goal

pub returns-in_default-clause-computed : goal.returns-in_default-clause-computed
returns-in_default-clause-computed c =
    let none : slice_get c.self.inside.spans.now c.args.class ≡ None = sym c.span_at.ensures ∙ c.in_default.is in
    let is = alone c.self.inside.classes.now c.self.inside.spans.now c.args.class c.args.ancestor (c.args.class == c.args.ancestor) c.self.invariant.told none refl in
    rw (← c.self.view_is) (descends_told c.self.inside.classes.now c.args.class c.args.ancestor (c.args.class == c.args.ancestor) c.self.invariant.parents is)

pub returns-in_default-clause-least : goal.returns-in_default-clause-least
returns-in_default-clause-least c =
    let none : slice_get c.self.inside.spans.now c.args.class ≡ None = sym c.span_at.ensures ∙ c.in_default.is in
    rw (← c.self.view_is) (alone c.self.inside.classes.now c.self.inside.spans.now c.args.class c.args.ancestor (c.args.class == c.args.ancestor) c.self.invariant.told none refl)

pub returns-in-None-clause-computed : goal.returns-in-None-clause-computed
returns-in-None-clause-computed c =
    let own : slice_get c.self.inside.spans.now c.args.class ≡ Some c.in-Some.own = sym c.span_at.ensures ∙ c.in-Some.is in
    let none : slice_get c.self.inside.spans.now c.args.ancestor ≡ None = sym c.span_at-2.ensures ∙ c.in-None.is in
    rw (← c.self.view_is) (descends_told c.self.inside.classes.now c.args.class c.args.ancestor false c.self.invariant.parents
    (λ t. absurd (let e = t in cc), λ h. absurd (none_above c.self.inside.classes.now c.self.inside.spans.now c.args.class c.args.ancestor c.in-Some.own c.self.invariant.parents own none h)))

pub returns-in-None-clause-least : goal.returns-in-None-clause-least
returns-in-None-clause-least c =
    let own : slice_get c.self.inside.spans.now c.args.class ≡ Some c.in-Some.own = sym c.span_at.ensures ∙ c.in-Some.is in
    let none : slice_get c.self.inside.spans.now c.args.ancestor ≡ None = sym c.span_at-2.ensures ∙ c.in-None.is in
    rw (← c.self.view_is) (λ t. absurd (let e = t in cc), λ h. absurd (none_above c.self.inside.classes.now c.self.inside.spans.now c.args.class c.args.ancestor c.in-Some.own c.self.invariant.parents own none h))

pub returns-in-Some-span_at-clause-computed : goal.returns-in-Some-span_at-clause-computed
returns-in-Some-span_at-clause-computed c =
    let own : slice_get c.self.inside.spans.now c.args.class ≡ Some c.in-Some.own = sym c.span_at.ensures ∙ c.in-Some.is in
    let above : slice_get c.self.inside.spans.now c.args.ancestor ≡ Some c.in-Some-span_at.above = sym c.span_at-2.ensures ∙ c.in-Some-span_at.is in
    let tell = c.self.invariant.told.tell c.args.class c.args.ancestor c.in-Some.own c.in-Some-span_at.above own above in
    rw (← c.self.view_is) (descends_told c.self.inside.classes.now c.args.class c.args.ancestor c.holds.result c.self.invariant.parents (λ t. tell.1 (c.holds.ensures.0 t), λ h. c.holds.ensures.1 (tell.0 h)))

pub returns-in-Some-span_at-clause-least : goal.returns-in-Some-span_at-clause-least
returns-in-Some-span_at-clause-least c =
    let own : slice_get c.self.inside.spans.now c.args.class ≡ Some c.in-Some.own = sym c.span_at.ensures ∙ c.in-Some.is in
    let above : slice_get c.self.inside.spans.now c.args.ancestor ≡ Some c.in-Some-span_at.above = sym c.span_at-2.ensures ∙ c.in-Some-span_at.is in
    let tell = c.self.invariant.told.tell c.args.class c.args.ancestor c.in-Some.own c.in-Some-span_at.above own above in
    rw (← c.self.view_is) (λ t. tell.1 (c.holds.ensures.0 t), λ h. c.holds.ensures.1 (tell.0 h))
