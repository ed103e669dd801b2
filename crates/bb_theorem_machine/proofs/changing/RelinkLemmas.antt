-- Links that the verifier lets an op change: they may be changed, and the blackboard still fits its schema.
use Rattle.std.proofs.Common.{◌≡◌, ℕ, Bool, false, true, ◌&&◌, not, Option, Some, None, Result, Ok, Err, refl, ap, ◌∙◌}
use Rattle.std.specs.Prelude.{slice_get, if◌then◌else◌}
use Rattle.std.specs.Option.{option_map_or}
use Rattle.std.proofs.lemmas.Bool.{and_from}
use Rattle.bb_schema_classes.specs.declared.kind.Link.{Link}
use Rattle.bb_schema_classes.proofs.Laws.{All-at}
use Rattle.bb_schema.specs.declared.couple.Side.{Side}
use Rattle.bb_schema.specs.Schema.{Schema, descends}
use Rattle.bb_schema.specs.Couples.{couple_of, pair_of}
use Rattle.bb_schema.specs.Fits as schemas
use Rattle.bb_units.specs.Units.{is_live}
use Rattle.bb_links.specs.Couples.{Couple, Couples, with_couple, linked, unlinked}
use Rattle.bb_links.specs.Fits as links
use Rattle.bb_links.proofs.Laws.{set_fits, linked_fits, unlinked_fits}
use Rattle.bb_board.specs.Fits.{Fits}
use Rattle.bb_board.specs.May.{has_link, leads_to, may_link}
use Rattle.bb_board.specs.World.{class_at}
use Rattle.bb_board.specs.Links.{linked_at, unlinked_at}
use Rattle.bb_board.specs.declared.reason.Reason.{Reason}
use Rattle.bb_board.specs.declared.reason.Reason.TheVariants as reasons
use Rattle.bb_board.specs.State.{World}
use Rattle.bb_board.proofs.Laws.{may_link_facts, link_keeps, unlink_keeps}
use Rattle.bb_code.specs.declared.op.LinkChange.{LinkChange}
use Rattle.bb_code.specs.declared.op.LinkChange.TheVariants as relinks
use Rattle.bb_verify.specs.Due as dues
use Rattle.bb_machine.specs.Changing.{after_change}
use Rattle.bb_theorem_machine.specs.Kinds.{IsOf}
use Rattle.bb_theorem_machine.proofs.KindLemmas.{descends_on}
use Rattle.bb_theorem_machine.proofs.LiveLemmas.{is_live_of, class_at_of}
use Rattle.bb_theorem_machine.proofs.reading.SlotLemmas.{links_there}

-- ---- the blackboard after a change

changed_fit : (c : Couples) (change : Couple → Couple) (couple : ℕ) → ((k : Couple) → links.FitsCouple k → links.FitsCouple (change k)) → links.Fits c
    → (found : Option Couple) → slice_get c.couples couple ≡ found → links.Fits (option_map_or (λ k. with_couple c couple (change k)) found c)
changed_fit c change couple keeps fits None is = fits
changed_fit c change couple keeps fits (Some k) is = set_fits c couple (change k) fits (keeps k (All-at links.FitsCouple c.couples couple k is fits.couples))

module _ (s : Schema) (w : World) (n slot k : ℕ) where
  linked_fit : links.Fits w.links → (o : Option (ℕ × Side)) → links.Fits (option_map_or (linked_at s w n slot k) o w).links
  linked_fit fits None = fits
  linked_fit fits (Some e) =
      let p = pair_of e.1 n k in
      changed_fit w.links (linked p.0 p.1) e.0 (λ c one. linked_fits c one p.0 p.1) fits (slice_get w.links.couples e.0) refl

  unlinked_fit : links.Fits w.links → (o : Option (ℕ × Side)) → links.Fits (option_map_or (unlinked_at s w n slot k) o w).links
  unlinked_fit fits None = fits
  unlinked_fit fits (Some e) =
      let p = pair_of e.1 n k in
      changed_fit w.links (unlinked p.0 p.1) e.0 (λ c one. unlinked_fits c one p.0 p.1) fits (slice_get w.links.couples e.0) refl

  linked_units : (o : Option (ℕ × Side)) → (option_map_or (linked_at s w n slot k) o w).units ≡ w.units
  linked_units None = refl
  linked_units (Some e) = refl

  unlinked_units : (o : Option (ℕ × Side)) → (option_map_or (unlinked_at s w n slot k) o w).units ≡ w.units
  unlinked_units None = refl
  unlinked_units (Some e) = refl

  pub relinked_units : (change : LinkChange) → (after_change change s w n slot k).units ≡ w.units
  relinked_units relinks.Link = linked_units (couple_of s slot)
  relinked_units relinks.Unlink = unlinked_units (couple_of s slot)

  pub relinked_keeps : (change : LinkChange) → schemas.Fits s → Fits s w → may_link s w n slot k ≡ Ok tt → Fits s (after_change change s w n slot k)
  relinked_keeps relinks.Link sf fits asked = link_keeps s w sf fits n slot k (may_link_facts s w n slot k asked) (linked_fit fits.links (couple_of s slot))
  relinked_keeps relinks.Unlink sf fits asked = unlink_keeps s w sf fits n slot k (may_link_facts s w n slot k asked) (unlinked_fit fits.links (couple_of s slot))

-- ---- what the verifier asks

may_by : (a b c : Bool) (x y z : Reason) → a ≡ true → b ≡ true → c ≡ true → (let r : Result (Unit {0}) Reason = (if not a then Err x else if not b then Err y else if not c then Err z else Ok tt) in r) ≡ Ok tt
may_by a b c x y z one two three = rw (one, two, three) refl

-- units that the verifier lets be linked may be linked
pub may_on : (s : Schema) (w : World) (class other slot n k : ℕ) (link : Link) → schemas.Fits s → Fits s w → dues.link_slot s class slot ≡ Ok link → descends s other link.to ≡ true
    → IsOf s w class n → IsOf s w other k → may_link s w n slot k ≡ Ok tt
may_on s w class other slot n k link sf fits is up one two =
    let link_there = links_there s one.own class slot link sf one.under is in
    let to = descends_on s two.own other link.to sf two.under up in
    may_by (is_live w.units n && is_live w.units k) (has_link s (class_at w n) slot) (leads_to s slot (class_at w k)) reasons.Deleted reasons.Slot reasons.LinkClass
    (and_from (is_live w.units n) (is_live w.units k) (is_live_of s w fits.units class n one) (is_live_of s w fits.units other k two))
    (ap (λ (c : ℕ). has_link s c slot) (class_at_of s w fits.units class n one) ∙ link_there.1)
    (ap (λ (o : Option Link). option_map_or (λ l. descends s (class_at w k) l.to) o false) link_there.0
    ∙ (ap (λ (c : ℕ). descends s c link.to) (class_at_of s w fits.units other k two) ∙ to))
