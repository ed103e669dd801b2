-- What a blackboard is after an ask that is applied: it fits its schema still, its units outlive the ask, and what the
-- ask's notes name nowhere is as it was.
use Rattle.std.proofs.Common.{◌≡◌, ℕ, ◌<◌, ◌^◌, Bool, true, false, cond, not, List, [], ◌∷◌, length, Option, Some, None, option_map, Result, Ok, Err, refl, sym, ap, subst, ◌∙◌, arith}
use Rattle.std.specs.Prelude.{nat_le, is_some, slice_get, if◌then◌else◌}
use Rattle.std.specs.Option.{option_map_or}
use Rattle.std.specs.Ordering.{nat_cmp, eq_by_cmp}
use Rattle.std.specs.Cmp.{nat_cmp_total, Equal-is}
use Rattle.std.specs.FinMap.{get, len, get-insert, nat_cmp-IsAntisymmetric}
use Rattle.std.proofs.lemmas.Bool.{or_parts, leb-false}
use Rattle.std.proofs.lemmas.List.{length-map}
use Rattle.bb_basis.proofs.BoolLemmas.{and_second}
use Rattle.bb_schema_classes.specs.declared.class.Class.{Class}
use Rattle.bb_schema_classes.specs.declared.value.Value.{Value}
use Rattle.bb_schema_classes.specs.declared.value.Value.TheVariants as values
use Rattle.bb_schema_classes.proofs.Laws.{All-at}
use Rattle.bb_schema.specs.declared.couple.Side.{Side}
use Rattle.bb_schema.specs.Schema.{Schema}
use Rattle.bb_schema.specs.Couples.{couple_of, pair_of}
use Rattle.bb_schema.specs.Fits as schemas
use Rattle.bb_units.specs.declared.unit.Unit.{Unit as OneUnit}
use Rattle.bb_units.specs.declared.units.TheConstants.{UNIT_LIMIT}
use Rattle.bb_units.specs.Layout.{Layout}
use Rattle.bb_units.specs.Units.{Units, is_live, is_full, has_slot, value_of, takes, new_unit}
use Rattle.bb_units.specs.Units.{after_create as with_new_unit, after_set as with_value}
use Rattle.bb_units.proofs.Laws.{created_fit, updated_fit}
use Rattle.bb_links.specs.Couples.{Couple, Couples, with_couple, linked, unlinked}
use Rattle.bb_links.specs.Fits as links
use Rattle.bb_links.proofs.Laws.{set_fits, linked_fits, unlinked_fits}
use Rattle.bb_board.specs.declared.reason.Reason.{Reason}
use Rattle.bb_board.specs.declared.reason.Reason.TheVariants as reasons
use Rattle.bb_board.specs.declared.note.Said.{Said}
use Rattle.bb_board.specs.declared.note.Said.TheVariants as saids
use Rattle.bb_board.specs.declared.note.Note.TheVariants as notes
use Rattle.bb_board.specs.State.{World}
use Rattle.bb_board.specs.Board.{Board, with_world}
use Rattle.bb_board.specs.World.{after_create, after_set, after_say}
use Rattle.bb_board.specs.Links.{linked_at, unlinked_at, after_link, after_unlink}
use Rattle.bb_board.specs.Deletion.{after_delete}
use Rattle.bb_board.specs.May.{may_set}
use Rattle.bb_board.specs.Spaces.{after_enter, after_leave}
use Rattle.bb_board.specs.Fits.{Fits}
use Rattle.bb_board.specs.Outlives.{Outlives}
use Rattle.bb_board.specs.Named.{NotesChanges}
use Rattle.bb_board.proofs.Laws.{same_class_of, create_keeps, set_keeps, may_link_facts, link_keeps, unlink_keeps}
use Rattle.bb_board.proofs.Laws.{may_enter_facts, enter_keeps, leave_keeps, delete_keeps, delete_outlives, noted_more}
use Rattle.bb_board.proofs.Laws.{create_named, set_named, link_named, unlink_named, enter_named, leave_named, delete_named, say_named}
use Rattle.bb_native.specs.declared.ask.Ask.{Ask}
use Rattle.bb_native.specs.Applied.{applied}
use Rattle.bb_native.proofs.AppliedLemmas.{after_ok, Cases, applied_after}

-- ---- units outlive each change

same_outlives : (u v : Units) → v ≡ u → Outlives u v
same_outlives u v is = subst (λ (x : Units). Outlives u x) (sym is) (record { next = omega arith; classes = λ n c lt at. at })

created_by : (n next c : ℕ) (x : OneUnit) (b : Bool) (old : Option OneUnit) → eq_by_cmp nat_cmp n next ≡ b → n < next → option_map (λ y. y.class) (cond b (Some x) old) ≡ Some c → option_map (λ y. y.class) old ≡ Some c
created_by n next c x true old same lt is = absurd (let e = nat_cmp-IsAntisymmetric n next ((Equal-is (nat_cmp n next)).0 same) in omega (arith, e, lt))
created_by n next c x false old other lt is = is

created_outlives : (u : Units) (class : ℕ) → Outlives u (with_new_unit u class)
created_outlives u class = record {
  next = omega arith;
  classes = λ n c lt is.
      created_by n u.next c (new_unit u.layout class) (eq_by_cmp nat_cmp n u.next) (get u.units n) refl lt
      (sym (ap (option_map (λ y. y.class)) (get-insert nat_cmp_total u.units u.next (new_unit u.layout class) n)) ∙ is);
}

set_outlives : (u : Units) (n slot : ℕ) (value : Value) → Outlives u (with_value u n slot value)
set_outlives u n slot value = record { next = omega arith; classes = λ k c lt is. sym (same_class_of u n slot k value) ∙ is }

module _ (s : Schema) (w : World) (n slot m : ℕ) where
  linked_units : (o : Option (ℕ × Side)) → (option_map_or (linked_at s w n slot m) o w).units ≡ w.units
  linked_units None = refl
  linked_units (Some e) = refl

  unlinked_units : (o : Option (ℕ × Side)) → (option_map_or (unlinked_at s w n slot m) o w).units ≡ w.units
  unlinked_units None = refl
  unlinked_units (Some e) = refl

either_units : (b : Bool) (w v : World) → v.units ≡ w.units → (cond b w v).units ≡ w.units
either_units true w v is = refl
either_units false w v is = is

-- ---- what each change leaves

-- a blackboard before a change, and after it
pub record Leads (old new : Board) : Type 0 where
  pub schema : new.schema ≡ old.schema
  pub outlives : Outlives old.world.units new.world.units
  pub named : NotesChanges old.world new.world

leads : (b : Board) (w : World) → Outlives b.world.units w.units → NotesChanges b.world w → Leads b (with_world b w)
leads b w outlives named = record { schema = refl; outlives = outlives; named = named }

led : (b : Board) → Cases b (Leads b)
led b = let s = b.schema in let w = b.world in record {
  sets = λ n slot value may. leads b (after_set s w n slot value) (set_outlives w.units n slot value) (set_named s w n slot value);
  links = λ n slot m may.
      leads b (after_link s w n slot m) (same_outlives w.units (after_link s w n slot m).units (linked_units s w n slot m (couple_of s slot))) (link_named s w n slot m);
  unlinks = λ n slot m may.
      leads b (after_unlink s w n slot m) (same_outlives w.units (after_unlink s w n slot m).units (unlinked_units s w n slot m (couple_of s slot))) (unlink_named s w n slot m);
  enters = λ n space may.
      leads b (after_enter s w n space) (same_outlives w.units (after_enter s w n space).units (either_units _ w _ refl)) (enter_named w n space s);
  leaves = λ n space alive there.
      leads b (after_leave w n space) (same_outlives w.units (after_leave w n space).units (either_units _ w _ refl)) (leave_named w n space);
  creates = λ class there free. leads b (after_create w class) (created_outlives w.units class) (create_named w class);
  deletes = λ n alive. leads b (after_delete s w n) (delete_outlives s w n) (delete_named s w n);
  says = λ text.
      let said : List Said = saids.Value (values.Text text) ∷ [] in leads b (after_say w said) (same_outlives w.units (after_say w said).units refl) (say_named w said);
}

pub applied_leads : (ask : Ask) (b c : Board) → applied ask b ≡ Ok c → Leads b c
applied_leads ask b c is = after_ok (Leads b) (applied ask b) c (applied_after b (Leads b) (led b) ask) is

-- ---- each change leaves what fits the schema

may_set_by : (live has holds : Bool) → (let r : Result (Unit {0}) Reason = if not live then Err reasons.Deleted else if not has then Err reasons.Slot else if not holds then Err reasons.Kind else Ok tt in r) ≡ Ok tt
    → (live ≡ true) × (holds ≡ true)
may_set_by true true true h = (refl, refl)
may_set_by true true false h = absurd cc
may_set_by true false holds h = absurd cc
may_set_by false has holds h = absurd cc

changed_fit : (c : Couples) (change : Couple → Couple) (couple : ℕ) → ((k : Couple) → links.FitsCouple k → links.FitsCouple (change k)) → links.Fits c
    → (found : Option Couple) → slice_get c.couples couple ≡ found → links.Fits (option_map_or (λ k. with_couple c couple (change k)) found c)
changed_fit c change couple keeps fits None is = fits
changed_fit c change couple keeps fits (Some k) is = set_fits c couple (change k) fits (keeps k (All-at links.FitsCouple c.couples couple k is fits.couples))

module _ (s : Schema) (w : World) (sf : schemas.Fits s) (fits : Fits s w) where
  set_fit : (n slot : ℕ) (value : Value) → may_set w n slot value ≡ Ok tt → Fits s (after_set s w n slot value)
  set_fit n slot value may =
      let p = may_set_by (is_live w.units n) (has_slot w.units n slot) (takes w.units n slot value) may in
      set_keeps s w n slot value fits (updated_fit w.units fits.units n slot value (and_second (is_some (value_of w.units n slot)) _ p.1)) p.0 p.1

  linked_fit : (n slot m : ℕ) (o : Option (ℕ × Side)) → links.Fits (option_map_or (linked_at s w n slot m) o w).links
  linked_fit n slot m None = fits.links
  linked_fit n slot m (Some e) =
      let p = pair_of e.1 n m in
      changed_fit w.links (linked p.0 p.1) e.0 (λ c one. linked_fits c one p.0 p.1) fits.links (slice_get w.links.couples e.0) refl

  unlinked_fit : (n slot m : ℕ) (o : Option (ℕ × Side)) → links.Fits (option_map_or (unlinked_at s w n slot m) o w).links
  unlinked_fit n slot m None = fits.links
  unlinked_fit n slot m (Some e) =
      let p = pair_of e.1 n m in
      changed_fit w.links (unlinked p.0 p.1) e.0 (λ c one. unlinked_fits c one p.0 p.1) fits.links (slice_get w.links.couples e.0) refl

  create_fit : (class : ℕ) → class < length s.classes → is_full w.units ≡ false → Fits s (after_create w class)
  create_fit class there free =
      let count = ap (λ (l : Layout). length l.slots) fits.layout in
      let parts = or_parts (nat_le UNIT_LIMIT (len w.units.units)) (nat_le (2 ^ 63) w.units.next) free in
      create_keeps s w class fits (created_fit w.units fits.units class (omega (arith, there, count, length-map s.classes (λ (k : Class). k.slots))) (leb-false UNIT_LIMIT (len w.units.units) parts.0) (leb-false (2 ^ 63) w.units.next parts.1)) there

  say_fit : (text : List ℕ) → Fits s (after_say w (saids.Value (values.Text text) ∷ []))
  say_fit text = record {
    units = fits.units;
    layout = fits.layout;
    links = fits.links;
    ends = fits.ends;
    singular = fits.singular;
    pairs = fits.pairs;
    spaces = fits.spaces;
    notes = noted_more s w.units w.notes (notes.Said (saids.Value (values.Text text) ∷ [])) fits.notes refl;
  }

-- a blackboard that fits its schema
abbrev pub FitsItself : Board → Type 0
FitsItself b = Fits b.schema b.world

fitted : (b : Board) → schemas.Fits b.schema → Fits b.schema b.world → Cases b FitsItself
fitted b sf fits = let s = b.schema in let w = b.world in record {
  sets = λ n slot value may. set_fit s w sf fits n slot value may;
  links = λ n slot m may. link_keeps s w sf fits n slot m (may_link_facts s w n slot m may) (linked_fit s w sf fits n slot m (couple_of s slot));
  unlinks = λ n slot m may. unlink_keeps s w sf fits n slot m (may_link_facts s w n slot m may) (unlinked_fit s w sf fits n slot m (couple_of s slot));
  enters = λ n space may. enter_keeps s w fits n space (may_enter_facts s w n space may);
  leaves = λ n space alive there. leave_keeps s w fits n space alive there;
  creates = λ class there free. create_fit s w sf fits class there free;
  deletes = λ n alive. delete_keeps s w sf fits n;
  says = λ text. say_fit s w sf fits text;
}

pub applied_fits : (ask : Ask) (b c : Board) → schemas.Fits b.schema → Fits b.schema b.world → applied ask b ≡ Ok c → Fits c.schema c.world
applied_fits ask b c sf fits is = after_ok FitsItself (applied ask b) c (applied_after b FitsItself (fitted b sf fits) ask) is
