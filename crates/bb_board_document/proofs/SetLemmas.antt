-- A new unit, set to each of its values that isn't the default, in class order, is the unit.
use Rattle.std.proofs.Common.{◌≡◌, ℕ, zero, suc, ◌+◌, Bool, true, false, cond, ◌==◌, not, List, [], ◌∷◌, ◌++◌, map, Option, Some, None, Result, Ok, Err, refl, sym, ap, subst, ◌∙◌, eq-eqb}
use Rattle.std.specs.Prelude.{slice_get, option_and_then, is_some, filter, if◌then◌else◌}
use Rattle.std.specs.Option.{option_map_or}
use Rattle.std.specs.Ordering.{nat_cmp, eq_by_cmp}
use Rattle.std.specs.Cmp.{nat_cmp_total, unsigned_tied}
use Rattle.std.specs.FinMap.{FinMap, empty, get, insert, get-empty, get-insert, same_map, nat_cmp-IsAntisymmetric}
use Rattle.bb_schema_classes.specs.declared.class.Class.{Class}
use Rattle.bb_schema_classes.specs.declared.value.Value.{Value}
use Rattle.bb_schema_classes.specs.Inheritance.{is_among}
use Rattle.bb_schema_classes.specs.Kinds.{kind_of_value}
use Rattle.bb_schema_classes.specs.Values.{value_fits}
use Rattle.bb_schema.specs.declared.slot.Slot.{Slot}
use Rattle.bb_schema.specs.Slots.{default_in}
use Rattle.bb_schema.specs.Schema.{Schema, default_of, slots_of}
use Rattle.bb_units.specs.declared.unit.Unit.{Unit as OneUnit}
use Rattle.bb_units.specs.Values.{value_at, with_value as with_slot_value}
use Rattle.bb_units.specs.Layout.{layout_of, default_at, defaults_of, blank, slots_of as layout_slots}
use Rattle.bb_units.specs.Units.{Units, is_live, has_slot, takes, with_value_of, after_set as with_value}
use Rattle.bb_links.specs.Couples.{no_links}
use Rattle.bb_schema.specs.declared.space.Space.{Space}
use Rattle.bb_space.specs.Spaces.{Membership, Spaces, no_spaces, spaces_of, after_moves}
use Rattle.bb_board.specs.declared.reason.Reason.{Reason}
use Rattle.bb_board.specs.declared.reason.Reason.TheVariants.{Deleted, Slot as NoSlot, Kind as NoKind}
use Rattle.bb_board.specs.State.{World}
use Rattle.bb_board.specs.World.{after_set}
use Rattle.bb_board.specs.Told.{told_again}
use Rattle.bb_board.specs.May.{may_set}

abbrev pub Held : Type 0
Held = List (ℕ × Value)

-- ---- values of slots, one after another

pub lookup_after : (es fs : Held) (q : ℕ) → value_at es q ≡ None → value_at (es ++ fs) q ≡ value_at fs q
lookup_after [] fs q none = refl
lookup_after (e ∷ es) fs q none = by (e.0 == q) refl none (lookup_after es fs q)
  where
    by : (b : Bool) → (e.0 == q) ≡ b → cond b (Some e.1) (value_at es q) ≡ None → (value_at es q ≡ None → value_at (es ++ fs) q ≡ value_at fs q) → cond b (Some e.1) (value_at (es ++ fs) q) ≡ value_at fs q
    by true h is rest = absurd cc
    by false h is rest = rest is

pub set_after : (es : Held) (t : ℕ) (d v : Value) (rest : Held) → value_at es t ≡ None → with_slot_value (es ++ (t, d) ∷ rest) t v ≡ es ++ (t, v) ∷ rest
set_after [] t d v rest none = rw (eq-eqb t t refl) refl
set_after (e ∷ es) t d v rest none = by (e.0 == t) refl none (set_after es t d v rest)
  where
    by : (b : Bool) → (e.0 == t) ≡ b → cond b (Some e.1) (value_at es t) ≡ None → (value_at es t ≡ None → with_slot_value (es ++ (t, d) ∷ rest) t v ≡ es ++ (t, v) ∷ rest) → cond b ((e.0, v) ∷ (es ++ (t, d) ∷ rest)) (e ∷ with_slot_value (es ++ (t, d) ∷ rest) t v) ≡ e ∷ (es ++ (t, v) ∷ rest)
    by true h is more = absurd cc
    by false h is more = ap (λ fs. e ∷ fs) (more is)

-- ---- a map with one entry set twice

module _ {X : Type 0} (m : FinMap nat_cmp X) (k : ℕ) where
  pub at_key : (x : X) → get (insert m k x) k ≡ Some x
  at_key x = get-insert nat_cmp_total m k x k ∙ rw (unsigned_tied k k, eq-eqb k k refl) refl

  twice : (b : Bool) (x y : X) (o : Option X) → cond b (Some y) (cond b (Some x) o) ≡ cond b (Some y) o
  twice true x y o = refl
  twice false x y o = refl

  pub insert_twice : (x y : X) → insert (insert m k x) k y ≡ insert m k y
  insert_twice x y = same_map nat_cmp_total nat_cmp-IsAntisymmetric _ _ (λ q.
      get-insert nat_cmp_total (insert m k x) k y q
      ∙ (ap (cond (eq_by_cmp nat_cmp q k) (Some y)) (get-insert nat_cmp_total m k x q)
      ∙ (twice (eq_by_cmp nat_cmp q k) x y (get m q) ∙ sym (get-insert nat_cmp_total m k y q))))

-- ---- the layout of a schema

default_by : (slots : List Slot) (n : ℕ) → default_at (map (λ t. default_in t.content) slots) n ≡ option_and_then (λ t. default_in t.content) (slice_get slots n)
default_by [] n = refl
default_by (t ∷ ts) zero = refl
default_by (t ∷ ts) (suc n) = default_by ts n

pub default_is : (s : Schema) (n : ℕ) → default_at (layout_of s).defaults n ≡ default_of s n
default_is s n = default_by s.slots n

slots_by : (classes : List Class) (c : ℕ) → option_map_or (λ slots. slots) (slice_get (map (λ k. k.slots) classes) c) [] ≡ option_map_or (λ k. k.slots) (slice_get classes c) []
slots_by [] c = refl
slots_by (k ∷ ks) zero = refl
slots_by (k ∷ ks) (suc c) = slots_by ks c

pub slots_are : (s : Schema) (c : ℕ) → layout_slots (layout_of s) c ≡ slots_of s c
slots_are s c = slots_by s.classes c

blank_by : (defaults : List (Option Value)) (o : Option (List ℕ)) → option_map_or (defaults_of defaults) o [] ≡ defaults_of defaults (option_map_or (λ slots. slots) o [])
blank_by defaults None = refl
blank_by defaults (Some slots) = refl

pub blank_is : (s : Schema) (c : ℕ) → blank (layout_of s) c ≡ defaults_of (layout_of s).defaults (slots_of s c)
blank_is s c = blank_by (layout_of s).defaults (slice_get (layout_of s).slots c) ∙ ap (defaults_of (layout_of s).defaults) (slots_are s c)

-- ---- no unit is in a space

pub none_in : (spaces : List Space) (i m : ℕ) → option_map_or (λ (t : Membership). t) (slice_get (map (λ _. empty) spaces) i) empty ≡ (let t : Membership = empty in t)
none_in [] i m = refl
none_in (p ∷ ps) zero m = refl
none_in (p ∷ ps) (suc i) m = none_in ps i m

none_passes : (p : ℕ → Bool) (ns : List ℕ) → ((n : ℕ) → p n ≡ false) → filter p ns ≡ []
none_passes p [] none = refl
none_passes p (n ∷ ns) none = rw (none n) (none_passes p ns none)

pub in_none : (s : Schema) (n : ℕ) → spaces_of (no_spaces s) n ≡ []
in_none s n = none_passes _ _ (λ space. ap is_some (ap (λ (t : Membership). get t n) (none_in s.spaces space n) ∙ get-empty nat_cmp n))

told_none : (s : Schema) (u : Units) (t : Spaces) (n : ℕ) → t ≡ no_spaces s → told_again s u t n ≡ no_spaces s
unfolding after_moves
told_none s u t n is = ap (λ (x : Spaces). told_again s u x n) is ∙ rw (in_none s n) refl

-- ---- a slot is set

module _ (s : Schema) (c number : ℕ) (base : FinMap nat_cmp OneUnit) where
  abbrev pub one : Held → OneUnit
  one values = record { class = c; values = values }

  abbrev pub units_with : Held → Units
  units_with values = record { next = number + 1; units = insert base number (one values); layout = layout_of s }

  -- a new unit has these values, and nothing else is there
  pub record HasUnit (values : Held) (y : World) : Type 0 where
    pub units : y.units ≡ units_with values
    pub links : y.links ≡ no_links s
    pub spaces : y.spaces ≡ no_spaces s

  pub live_by : (t : ℕ) (v d : Value) (values : Held) → is_among (slots_of s c) t ≡ true → default_of s t ≡ Some d → value_at values t ≡ Some d → value_fits (layout_of s).label_counts (kind_of_value d) v ≡ true
      → (let r : Result (Unit {0}) Reason = if not (is_live (units_with values) number) then Err Deleted else (if not (has_slot (units_with values) number t) then Err NoSlot else (if not (takes (units_with values) number t v) then Err NoKind else Ok tt)) in r) ≡ Ok tt
  unfolding is_among
  live_by t v d values among default held fits =
      rw (at_key base number (one values), slots_are s c, among, default_is s t, default, held, fits) refl

  pub may_be_set : (y : World) (t : ℕ) (v d : Value) (values : Held) → HasUnit values y → is_among (slots_of s c) t ≡ true → default_of s t ≡ Some d → value_at values t ≡ Some d → value_fits (layout_of s).label_counts (kind_of_value d) v ≡ true
      → may_set y number t v ≡ Ok tt
  may_be_set y t v d values has among default held fits =
      subst (λ (u : Units). (let r : Result (Unit {0}) Reason = if not (is_live u number) then Err Deleted else (if not (has_slot u number t) then Err NoSlot else (if not (takes u number t v) then Err NoKind else Ok tt)) in r) ≡ Ok tt) (sym has.units)
      (live_by t v d values among default held fits)

  set_units : (t : ℕ) (v : Value) (values : Held) → with_value_of (insert base number (one values)) number t v ≡ insert base number (one (with_slot_value values t v))
  set_units t v values = rw (at_key base number (one values)) (insert_twice base number (one values) (one (with_slot_value values t v)))

  pub set_has : (y : World) (t : ℕ) (v : Value) (values : Held) → HasUnit values y → HasUnit (with_slot_value values t v) (after_set s y number t v)
  set_has y t v values has = record {
    units =
        ap (λ (u : Units). (let r : Units = record { next = u.next; units = with_value_of u.units number t v; layout = u.layout } in r)) has.units
        ∙ ap (λ (m : FinMap nat_cmp OneUnit). (let r : Units = record { next = number + 1; units = m; layout = layout_of s } in r)) (set_units t v values);
    links = has.links;
    spaces = told_none s (with_value y.units number t v) y.spaces number has.spaces;
  }
