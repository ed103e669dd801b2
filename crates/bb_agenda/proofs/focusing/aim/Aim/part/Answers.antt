use Rattle.std.proofs.Common.{◌≡◌, ◌∙◌, ◌||◌, ap, sym, rules, w64}
use mir.Val.{SFits}
use Rattle.std.proofs.lemmas.Int.{to_z-of_z}
use Rattle.bb_agenda.specs.focusing.Matching.{is_empty, is_area}
use Rattle.bb_agenda.specs.focusing.proving.Aims.{is_in}
use Rattle.bb_agenda.proofs.focusing_lemmas.AimLemmas.{area_is, inactive, of_other, elsewhere, met}
use Rattle.bb_agenda.proofs.focusing.aim.Aim.part.Goals as goal

pub returns-then-not-self : goal.returns-then-not-self
returns-then-not-self c = rw (← c.self.view_is) (inactive c.self.inside.setting.now.schema c.self.inside.setting.now.sources c.args.place c.self.inside.focus.now c.if-not-self.true)

pub returns-then-not-has_source : goal.returns-then-not-has_source
returns-then-not-has_source c =
    rw (← c.self.view_is) (of_other c.self.inside.setting.now.schema c.self.inside.setting.now.sources c.args.place c.self.inside.focus.now c.if-not-self.false
    (sym c.has_source.ensures ∙ c.if-not-has_source.true))

pub returns-then-not-is_in : goal.returns-then-not-is_in
returns-then-not-is_in c =
    let s = c.self.inside.setting.now in
    let f = c.self.inside.focus.now in
    let area : is_in s.schema s.sources c.args.place c.self.inside.area ≡ (is_empty f.area || is_area s.schema s.sources c.args.place f.area) =
    ap (is_in s.schema s.sources c.args.place) c.self.invariant ∙ area_is s.schema s.sources c.args.place f.area in
    rw (← c.self.view_is) (elsewhere s.schema s.sources c.args.place f c.if-not-self.false (sym c.has_source.ensures ∙ c.if-not-has_source.false)
    (sym area ∙ (sym c.is_in.ensures ∙ c.if-not-is_in.true)))

pub returns : goal.returns
returns c =
    let s = c.self.inside.setting.now in
    let f = c.self.inside.focus.now in
    let area : is_in s.schema s.sources c.args.place c.self.inside.area ≡ (is_empty f.area || is_area s.schema s.sources c.args.place f.area) =
    ap (is_in s.schema s.sources c.args.place) c.self.invariant ∙ area_is s.schema s.sources c.args.place f.area in
    let fits : SFits w64 f.weight = search rules in
    rw (← c.self.view_is) (to_z-of_z w64 f.weight fits ∙ met s.schema s.sources c.args.place f c.if-not-self.false (sym c.has_source.ensures ∙ c.if-not-has_source.false)
    (sym area ∙ (sym c.is_in.ensures ∙ c.if-not-is_in.false)))
