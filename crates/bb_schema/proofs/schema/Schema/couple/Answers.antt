use Rattle.std.proofs.Common.{List, Some, ap, min, sym, ℕ, ◌∙◌, ◌≡◌}
use Rattle.std.specs.Prelude.{slice_get, option_map}
use Rattle.bb_schema_classes.specs.declared.kind.Link.{Link}
use Rattle.bb_schema.specs.declared.couple.Side.{Side}
use Rattle.bb_schema.specs.Couples.{firsts, couple_end}
use Rattle.bb_schema.proofs.CoupleListLemmas.{couple_listed}
use Rattle.bb_schema.specs.declared.slot.Slot.{Slot}
use Rattle.bb_schema.specs.Slots.{link_of}
use Rattle.bb_schema.proofs.CoupleLemmas.{owned_within}
use Rattle.bb_schema.proofs.schema.Schema.couple.Goals as goal

pub couple_end-requires-clause-inverse : goal.couple_end-requires-clause-inverse
couple_end-requires-clause-inverse c =
    let is_link : link_of c.self.inside.slots.items c.args.slot ≡ Some c.in-Some.link = sym (ap (λ (ts : List Slot). link_of ts c.args.slot) c.deref.ensures.value) ∙ (sym c.link_at.ensures ∙ c.in-Some.is) in
    rw c.deref-in-Some.ensures.value (owned_within c.self.inside.slots.items c.in-Some.link.inverse c.in-Some.link.to (c.self.invariant.fits.coupled c.args.slot c.in-Some.link is_link).there)

pub returns-clause-listed : goal.returns-clause-listed
returns-clause-listed c =
    let is_link : link_of c.self.inside.slots.items c.args.slot ≡ Some c.in-Some.link = sym (ap (λ (ts : List Slot). link_of ts c.args.slot) c.deref.ensures.value) ∙ (sym c.link_at.ensures ∙ c.in-Some.is) in
    let number = ap (λ (e : ℕ × Side). e.0) (c.couple_end.ensures ∙ ap (λ (ts : List Slot). couple_end ts c.args.slot c.in-Some.link) c.deref-in-Some.ensures.value) in
    rw (← c.self.view_is) (ap (slice_get (firsts 0 c.self.inside.slots.items)) number ∙ (couple_listed c.self.inside.slots.items c.args.slot c.in-Some.link is_link (c.self.invariant.fits.coupled c.args.slot c.in-Some.link is_link)
    ∙ ap (option_map (λ (l : Link). min c.args.slot l.inverse)) (sym is_link)))
