-- What holds of a blackboard holds after each change.
use Rattle.std.proofs.Common.{rules, ◌≡◌, ℕ, zero, suc, ◌<◌, Bool, true, false, cond, List, [], ◌∷◌, map, length, Option, Some, None, option_map, refl, sym, ap, subst, ◌∙◌, arith}
use Rattle.std.specs.Prelude.{slice_get, IsTrue, is_some, unwrap_or}
use Rattle.std.specs.List.{list_all}
use Rattle.std.specs.Option.{option_map_or}
use Rattle.std.proofs.lemmas.Bool.Decides.{nat_tests}
use Rattle.std.specs.Ordering.{nat_cmp, eq_by_cmp}
use Rattle.std.specs.Cmp.{nat_cmp_total, eq_by_cmp_equiv}
use Rattle.std.specs.FinMap.{get, get-insert, nat_cmp-IsAntisymmetric}
use Rattle.std.specs.Cmp.{Equal-is}
use Rattle.std.proofs.lemmas.Bool.{and_parts}
use Rattle.std.proofs.lemmas.List.{length-map}
use Rattle.bb_basis.proofs.NumberLemmas.{nat_lt_below}
use Rattle.bb_schema_classes.specs.declared.class.Class.{Class}
use Rattle.bb_schema_classes.specs.declared.value.Value.{Value}
use Rattle.bb_schema_classes.specs.Kinds.{kind_of_value}
use Rattle.bb_schema_classes.specs.Values.{value_fits}
use Rattle.bb_schema.specs.declared.slot.Slot.{Slot}
use Rattle.bb_schema.specs.Schema.{Schema}
use Rattle.bb_schema.specs.Slots.{default_in}
use Rattle.bb_schema.specs.Couples.{couple_of}
use Rattle.bb_units.specs.declared.unit.Unit.{Unit}
use Rattle.bb_units.specs.Layout.{Layout, layout_of, default_at, can_hold}
use Rattle.bb_units.specs.Units.{Units, no_units, is_live, class_of, value_of, takes, new_unit, after_create as with_new_unit, after_set as with_value}
use Rattle.bb_units.specs.Fits as units
use Rattle.bb_links.specs.declared.couple.Singular.{Singular}
use Rattle.bb_links.specs.Pairs.{near}
use Rattle.bb_links.specs.Layout.{singulars}
use Rattle.bb_links.specs.Couples.{Couples, no_pairs, no_links, pairs_of, end_of}
use Rattle.bb_links.specs.Fits as links
use Rattle.bb_query.specs.Knows.{Knows}
use Rattle.bb_board.specs.declared.event.Change.{Change}
use Rattle.bb_board.specs.declared.event.Change.TheVariants.{Create, Update}
use Rattle.bb_board.specs.State.{World}
use Rattle.bb_board.specs.World.{empty_world, event, class_at, after_create, after_set}
use Rattle.bb_board.specs.Fits.{names_slot_of, is_noted, is_of_if_live, is_of_owner, PairsFit, Fits}
use Rattle.bb_board.specs.May.{class_has}
use Rattle.bb_board.specs.Outlives.{Outlives}
use Rattle.bb_board.proofs.AllLemmas.{all_weaker}
use Rattle.bb_board.proofs.ClassLemmas.{same_class_of}
use Rattle.bb_board.proofs.KnowLemmas.{knows_none, knows_created, knows_set}
use Rattle.bb_board.proofs.OutliveLemmas.{created_outlives, set_outlives}
use Rattle.bb_board.proofs.NoteLemmas.{still, notes_kept, noted_more, event_of}

without_pairs : (xs : List Singular) → map (λ k. k.singular) (map no_pairs xs) ≡ xs
without_pairs [] = refl
without_pairs (x ∷ xs) = ap (λ ys. x ∷ ys) (without_pairs xs)

-- pairs of couples that have none
no_pairs_at : (test : ℕ × ℕ → Bool) (xs : List Singular) (i : ℕ) → list_all test (option_map_or (λ k. k.pairs) (slice_get (map no_pairs xs) i) []) ≡ true
no_pairs_at test [] i = refl
no_pairs_at test (x ∷ xs) zero = refl
no_pairs_at test (x ∷ xs) (suc i) = no_pairs_at test xs i

no_pairs_fit : (s : Schema) (u : Units) → PairsFit s u (no_links s)
no_pairs_fit s u slot e is = no_pairs_at (λ p. is_of_owner s u (near e.1 p) slot) (singulars s) e.0

-- a unit that is live stays so, with its class
abbrev pub Persists : (u v : Units) → Type 0
Persists u v = (n class : ℕ) → class_of u n ≡ Some class → class_of v n ≡ Some class

owner_by : (s : Schema) (slot : ℕ) (old new : Option ℕ) → ((c : ℕ) → old ≡ Some c → new ≡ Some c) → option_map_or (λ c. class_has s c slot) old false ≡ true → option_map_or (λ c. class_has s c slot) new false ≡ true
owner_by s slot None new from is = absurd cc
owner_by s slot (Some c) new from is = rw (from c refl) is

pub owner_kept : (s : Schema) (u v : Units) (n slot : ℕ) → ((c : ℕ) → class_of u n ≡ Some c → class_of v n ≡ Some c) → is_of_owner s u n slot ≡ true → is_of_owner s v n slot ≡ true
owner_kept s u v n slot from is = owner_by s slot (class_of u n) (class_of v n) from is

pairs_kept : (s : Schema) (u v : Units) (c : Couples) → Persists u v → PairsFit s u c → PairsFit s v c
pairs_kept s u v c persists fits slot e is =
    all_weaker (λ p. is_of_owner s u (near e.1 p) slot) (λ p. is_of_owner s v (near e.1 p) slot) (λ p. owner_kept s u v (near e.1 p) slot (persists (near e.1 p))) (pairs_of c e.0) (fits slot e is)

pub empty_fits : (s : Schema) (w : World) → w ≡ empty_world s → units.Fits w.units → links.Fits w.links → ((slot : ℕ) → end_of w.links slot ≡ couple_of s slot) → Fits s w
empty_fits s w is u l ends = record {
  units = u;
  layout = ap (λ (x : World). x.units.layout) is;
  links = l;
  ends = ends;
  singular = ap (λ (x : World). map (λ k. k.singular) x.links.couples) is ∙ without_pairs (singulars s);
  pairs = subst (λ (x : World). PairsFit s x.units x.links) (sym is) (no_pairs_fit s (no_units (layout_of s)));
  spaces = subst (λ (x : World). Knows s x.units x.spaces) (sym is) (knows_none s (empty_world s).units);
  notes = ap (λ (x : World). list_all (is_noted s x.units) x.notes) is;
}

live_of : (found : Option Unit) (c : ℕ) → option_map (λ y. y.class) found ≡ Some c → is_some found ≡ true
live_of None c is = absurd cc
live_of (Some x) c is = refl

created_persists_by : (u : Units) (n c : ℕ) (x : Unit) (b : Bool) → units.Fits u → eq_by_cmp nat_cmp n u.next ≡ b → class_of u n ≡ Some c → option_map (λ y. y.class) (cond b (Some x) (get u.units n)) ≡ Some c
created_persists_by u n c x true fits same is =
    let e = nat_cmp-IsAntisymmetric n u.next ((Equal-is (nat_cmp n u.next)).0 same) in
    absurd (omega (arith, e, (fits.numbers n (live_of (get u.units n) c is)).1))
created_persists_by u n c x false fits other is = is

created_persists : (u : Units) (class : ℕ) → units.Fits u → Persists u (with_new_unit u class)
created_persists u class fits n c is = ap (option_map (λ y. y.class)) (get-insert nat_cmp_total u.units u.next (new_unit u.layout class) n) ∙ created_persists_by u n c (new_unit u.layout class) (eq_by_cmp nat_cmp n u.next) fits refl is

of_if_live : (u : Units) (n class : ℕ) → class_of u n ≡ Some class → is_of_if_live u n class ≡ true
of_if_live u n class is = rw is (grind (arith, nat_tests))

at_next : (l : Layout) (class next : ℕ) (b : Bool) (old : Option Unit) → eq_by_cmp nat_cmp next next ≡ b → option_map (λ y. y.class) (cond b (Some (new_unit l class)) old) ≡ Some class
at_next l class next true old is = refl
at_next l class next false old is = absurd (let e : true ≡ false = sym ((eq_by_cmp_equiv nat_cmp_total).refl next) ∙ is in cc)

pub create_keeps : (s : Schema) (w : World) (class : ℕ) → Fits s w → units.Fits (with_new_unit w.units class) → class < length s.classes → Fits s (after_create w class)
create_keeps s w class fits u there = record {
  units = u;
  layout = fits.layout;
  links = fits.links;
  ends = fits.ends;
  singular = fits.singular;
  pairs = pairs_kept s w.units (with_new_unit w.units class) w.links (created_persists w.units class fits.units) fits.pairs;
  spaces = knows_created s w.units w.spaces fits.spaces class fits.units;
  notes = noted_more s (with_new_unit w.units class) w.notes (event w.units.next class Create)
      (notes_kept s w.units (with_new_unit w.units class) (created_outlives w.units class) w.notes fits.notes)
      (event_of s (with_new_unit w.units class) w.units.next class Create (omega arith)
      (of_if_live (with_new_unit w.units class) w.units.next class (ap (option_map (λ y. y.class)) (get-insert nat_cmp_total w.units.units w.units.next (new_unit w.units.layout class) w.units.next) ∙ at_next w.units.layout class w.units.next (eq_by_cmp nat_cmp w.units.next w.units.next) (get w.units.units w.units.next) refl)) there refl);
}

-- a slot that has a default is there
default_there : (defaults : List (Option Value)) (slot : ℕ) (test : Value → Bool) → option_map_or test (default_at defaults slot) false ≡ true → slot < length defaults
default_there [] slot test is = absurd cc
default_there (d ∷ ds) zero test is = omega arith
default_there (d ∷ ds) (suc slot) test is = let lt = default_there ds slot test is in omega arith

-- a live unit has a class, which is there
live_class : (l : Layout) (n : ℕ) (found : Option Unit) → is_some found ≡ true → ((x : Unit) → found ≡ Some x → units.IsUnitOf l x)
    → (option_map (λ y. y.class) found ≡ Some (unwrap_or (option_map (λ y. y.class) found) 0)) × (unwrap_or (option_map (λ y. y.class) found) 0 < length l.slots)
live_class l n None live of = absurd cc
live_class l n (Some x) live of = (refl, (of x refl).class)

-- a live unit's event is one of what there is, and stays one
pub event_of_live : (s : Schema) (w : World) (v : Units) (n : ℕ) (change : Change) → Fits s w → Outlives w.units v → is_live w.units n ≡ true → names_slot_of s change ≡ true
    → is_noted s v (event n (class_at w n) change) ≡ true
event_of_live s w v n change fits outlives live names =
    let found = live_class w.units.layout n (get w.units.units n) live (fits.units.units n) in
    let count = ap (λ (l : Layout). length l.slots) fits.layout in
    let given = (fits.units.numbers n live).1 in
    event_of s v n (class_at w n) change (omega (arith, given, outlives.next)) (still s w.units v outlives n (class_at w n) (nat_lt_below n w.units.next given) (of_if_live w.units n (class_at w n) found.0))
    (omega (arith, found.1, count, length-map s.classes (λ (k : Class). k.slots))) names

-- the class of a live unit is there
pub class_there : (s : Schema) (w : World) (n : ℕ) → Fits s w → is_live w.units n ≡ true → (class_of w.units n ≡ Some (class_at w n)) × (class_at w n < length s.classes)
class_there s w n fits live =
    let found = live_class w.units.layout n (get w.units.units n) live (fits.units.units n) in
    let count = ap (λ (l : Layout). length l.slots) fits.layout in
    (found.0, omega (arith, found.1, count, length-map s.classes (λ (k : Class). k.slots)))

-- a slot that takes a value is there
pub slot_within : (s : Schema) (w : World) (n slot : ℕ) (value : Value) → Fits s w → takes w.units n slot value ≡ true → slot < length s.slots
slot_within s w n slot value fits takes_it =
    let held = (and_parts (is_some (value_of w.units n slot)) (can_hold w.units.layout slot value) takes_it).1 in
    let there = default_there w.units.layout.defaults slot (λ d. value_fits w.units.layout.label_counts (kind_of_value d) value) held in
    let count = ap (λ (l : Layout). length l.defaults) fits.layout in
    omega (arith, there, count, length-map s.slots (λ (t : Slot). default_in t.content))

pub set_keeps : (s : Schema) (w : World) (n slot : ℕ) (value : Value) → Fits s w → units.Fits (with_value w.units n slot value) → IsTrue (is_live w.units n) → IsTrue (takes w.units n slot value)
    → Fits s (after_set s w n slot value)
set_keeps s w n slot value fits u live takes_it = record {
  units = u;
  layout = fits.layout;
  links = fits.links;
  ends = fits.ends;
  singular = fits.singular;
  pairs = pairs_kept s w.units (with_value w.units n slot value) w.links (λ k c is. same_class_of w.units n slot k value ∙ is) fits.pairs;
  spaces = knows_set s w.units w.spaces fits.spaces n slot value;
  notes =
      let takes_is : takes w.units n slot value ≡ true = search (rules, takes_it) in
      let within = slot_within s w n slot value fits takes_is in
      noted_more s (with_value w.units n slot value) w.notes (event n (class_at w n) (Update slot))
      (notes_kept s w.units (with_value w.units n slot value) (set_outlives w.units n slot value) w.notes fits.notes)
      (event_of_live s w (with_value w.units n slot value) n (Update slot) fits (set_outlives w.units n slot value) (search (rules, live)) (nat_lt_below slot (length s.slots) within));
}
