use Rattle.std.proofs.Common.{◌≡◌, ◌∙◌, ◌<◌, ap, sym, refl, length, Option, Some, None, [], ℕ, arith}
use Rattle.std.specs.Prelude.{slice_get}
use Rattle.std.specs.Option.{option_map_or}
use Rattle.std.proofs.lemmas.Option.{slice_get_read}
use Rattle.std.proofs.lemmas.Result.{IfOk-weaker}
use Rattle.bb_schema.specs.declared.couple.Side.{Side}
use Rattle.bb_links.specs.Links.{partners, ends}
use Rattle.bb_links.specs.Layout.{end_among}
use Rattle.bb_links.specs.Couples.{Couple, Couples, pairs_of}
use Rattle.bb_links.proofs.couples.Couples.ends.Goals as goal

pub index-requires : goal.index-requires
index-requires c =
    let end : end_among c.self.inside.ends.items c.args.slot ≡ Some (c.in-Some.couple, c.in-Some.side) = ap (λ es. end_among es c.args.slot) (sym c.deref.ensures.value) ∙ (sym c.end_at.ensures ∙ c.in-Some.is) in
    omega (arith, c.self.inside.couples.ok, c.self.invariant.fits.ends c.args.slot (c.in-Some.couple, c.in-Some.side) end)

pub returns-in-Some : goal.returns-in-Some
returns-in-Some c =
    let seen : Couples = record { couples = c.self.inside.couples.items; ends = c.self.inside.ends.items } in
    let end : end_among seen.ends c.args.slot ≡ Some (c.in-Some.couple, c.in-Some.side) = ap (λ es. end_among es c.args.slot) (sym c.deref.ensures.value) ∙ (sym c.end_at.ensures ∙ c.in-Some.is) in
    let lt : c.in-Some.couple < length seen.couples = c.self.invariant.fits.ends c.args.slot (c.in-Some.couple, c.in-Some.side) end in
    let there : slice_get seen.couples c.in-Some.couple ≡ Some c.index.result.now = slice_get_read seen.couples (length seen.couples) c.in-Some.couple c.index.result.now refl lt c.index.ensures in
    IfOk-weaker c.partners.result _ _ (λ list is. is
    ∙ (ap (λ (o : Option Couple). partners c.in-Some.side c.args.unit (option_map_or (λ (k : Couple). k.pairs) o [])) (sym there)
    ∙ (ap (λ (o : Option (ℕ × Side)). option_map_or (λ e. partners e.1 c.args.unit (pairs_of seen e.0)) o []) (sym end) ∙ ap (λ (u : Couples). ends u c.args.unit c.args.slot) c.self.view_is)))
    c.partners.ensures

pub returns-in-None : goal.returns-in-None
returns-in-None c =
    let seen : Couples = record { couples = c.self.inside.couples.items; ends = c.self.inside.ends.items } in
    let end : end_among seen.ends c.args.slot ≡ None = ap (λ es. end_among es c.args.slot) (sym c.deref.ensures.value) ∙ (sym c.end_at.ensures ∙ c.in-None.is) in
    c.new.ensures.items ∙ (ap (λ (o : Option (ℕ × Side)). option_map_or (λ e. partners e.1 c.args.unit (pairs_of seen e.0)) o []) (sym end) ∙ ap (λ (u : Couples). ends u c.args.unit c.args.slot) c.self.view_is)
