-- Where a slot is set, the spaces that read it are told the new value, and the others have what they should.
use Rattle.std.proofs.Common.{◌≡◌, ℕ, zero, suc, ◌<◌, true, false, List, [], ◌∷◌, map, length, Option, Some, None, option_map, refl, sym, ap, subst, ◌∙◌, arith}
use Rattle.std.specs.Prelude.{is_some, option_and_then, slice_get, slice_set, position, IfSome, IsTrue}
use Rattle.std.specs.List.{filter_map, range_with_len, IsDistinct}
use Rattle.std.specs.Option.{option_map_or}
use Rattle.std.specs.FinMap.{get}
use Rattle.std.specs.Str.{bytes_eq}
use Rattle.std.proofs.lemmas.Bool.{and_parts}
use Rattle.std.proofs.lemmas.List.{length-map}
use Rattle.std.proofs.lemmas.Slice.Eq.{bytes_eq-Decides}
use Rattle.bb_schema_classes.proofs.Laws.{All-at}
use Rattle.bb_schema_classes.specs.declared.value.Value.{Value}
use Rattle.bb_schema_classes.specs.Inheritance.{is_among}
use Rattle.bb_schema.specs.declared.slot.Slot.{Slot}
use Rattle.bb_schema.specs.declared.space.Dim.{Dim}
use Rattle.bb_schema.specs.declared.space.Space.{Space}
use Rattle.bb_schema.specs.Schema.{Schema, slot_named, slots_of, dims_of}
use Rattle.bb_schema.specs.Spaces.{allowed}
use Rattle.bb_schema.specs.Fits as schemas
use Rattle.bb_units.specs.declared.unit.Unit.{Unit as OneUnit}
use Rattle.bb_units.specs.Layout.{can_hold}
use Rattle.bb_units.specs.Units.{Units, is_live, class_of, value_of, takes, after_set}
use Rattle.bb_units.specs.Fits as units
use Rattle.bb_units.proofs.Laws.{has_its_slots, updated_fit}
use Rattle.bb_pattern.specs.declared.value.DimValue.{DimValue}
use Rattle.bb_pattern.specs.Values.{dim_value_of, kind_of_operand}
use Rattle.bb_space.specs.Spaces.{values_in, is_member, after_moves}
use Rattle.bb_query.specs.PresentValues.{value_on, values_on, present_values}
use Rattle.bb_query.specs.Whole.{Admits, kind_on}
use Rattle.bb_query.proofs.Laws.{present_kinds}
use Rattle.bb_board.specs.State.{World}
use Rattle.bb_board.specs.World.{class_at}
use Rattle.bb_board.specs.Fits.{Fits}
use Rattle.bb_board.specs.Told.{told_again}
use Rattle.bb_query.specs.Moves.{reading, values_anew, moves_for}
use Rattle.bb_board.proofs.ClassLemmas.{same_class_of}
use Rattle.bb_board.proofs.DimLemmas.{IsWhole, IsAnew, same_values, anew}
use Rattle.bb_board.proofs.KeepLemmas.{class_there, slot_within}
use Rattle.bb_board.proofs.QuietLemmas.{same_told}
use Rattle.bb_board.proofs.SettingLemmas.{on_the_slot, on_another}
use Rattle.bb_board.proofs.SlotLemmas.{has_among, own_name, name_of_named}

slot_there : (slots : List Slot) (i : ℕ) → i < length slots → (t : Slot) × (slice_get slots i ≡ Some t)
slot_there [] i lt = absurd (omega (arith, lt))
slot_there (t ∷ ts) zero lt = (t, refl)
slot_there (t ∷ ts) (suc i) lt = slot_there ts i (omega (arith, lt))

-- as many values as dimensions, where there is one of each kind
as_many : (vs : List DimValue) (ds : List Dim) → map kind_of_operand vs ≡ map kind_on ds → length vs ≡ length ds
as_many vs ds same = sym (length-map vs kind_of_operand) ∙ (ap length same ∙ length-map ds kind_on)

distinct_dims : (s : Schema) (q : ℕ) (o : Option Space) → schemas.Fits s → slice_get s.spaces q ≡ o → IsDistinct bytes_eq (map (λ d. d.name) (option_map_or (λ p. p.dims) o []))
unfolding IsDistinct
distinct_dims s q None sf is = tt
distinct_dims s q (Some p) sf is = (All-at (schemas.IsSpace s) s.spaces q p is sf.spaces.each).named.distinct

some_class : (o : Option OneUnit) → is_some (option_map (λ x. x.class) o) ≡ is_some o
some_class None = refl
some_class (Some x) = refl

module _ (s : Schema) (w : World) (sf : schemas.Fits s) (fits : Fits s w) (n slot : ℕ) (value : Value) (live : is_live w.units n ≡ true) (takes_it : takes w.units n slot value ≡ true) where
  abbrev later : Units
  later = after_set w.units n slot value

  abbrev class : ℕ
  class = class_at w n

  has : is_some (value_of w.units n slot) ≡ true
  has = (and_parts (is_some (value_of w.units n slot)) (can_hold w.units.layout slot value) takes_it).0

  later_fits : units.Fits later
  later_fits = updated_fit w.units fits.units n slot value (and_parts (is_some (value_of w.units n slot)) (can_hold w.units.layout slot value) takes_it).1

  of_class : class_of w.units n ≡ Some class
  of_class = (class_there s w n fits live).0

  later_class : class_of later n ≡ Some class
  later_class = same_class_of w.units n slot n value ∙ of_class

  later_live : is_live later n ≡ true
  later_live = sym (some_class (get later.units n)) ∙ ap is_some later_class

  among : is_among (slots_of s class) slot ≡ true
  among = has_among s w fits n slot (sym (has_its_slots w.units n slot fits.units) ∙ has)

  abbrev Found : Type 0
  Found = (t : Slot) × (slice_get s.slots slot ≡ Some t)

  slot_found : Found
  slot_found = slot_there s.slots slot (slot_within s w n slot value fits takes_it)

  abbrev name : List ℕ
  name = slot_found.0.name

  -- ---- a dimension

  abbrev before : Dim → Option DimValue
  before d = value_on s w.units n class d

  abbrev now : Dim → Option DimValue
  now d = value_on s later n class d

  read_by : (d : Dim) (o : Option ℕ) → slot_named s class d.name ≡ o → bytes_eq d.name name ≡ false → now d ≡ before d
  read_by d None is apart = ap (option_and_then (λ m. option_and_then dim_value_of (value_of later n m))) is ∙ sym (ap (option_and_then (λ m. option_and_then dim_value_of (value_of w.units n m))) is)
  read_by d (Some read) is apart =
      on_another slot value w.units n s class d read is (λ e.
      absurd (let same = name_of_named s class slot slot_found.0 d.name (is ∙ ap (λ m. Some m) e) slot_found.1 in
      let f : true ≡ false = sym ((bytes_eq-Decides d.name name).1 same) ∙ apart in cc))
      ∙ sym (ap (option_and_then (λ m. option_and_then dim_value_of (value_of w.units n m))) is)

  -- one of another name reads what it read
  other : (d : Dim) → bytes_eq d.name name ≡ false → now d ≡ before d
  other d apart = read_by d (slot_named s class d.name) refl apart

  -- one of the slot's name reads it
  own : (d : Dim) → bytes_eq d.name name ≡ true → now d ≡ dim_value_of value
  own d same =
      on_the_slot slot value w.units n s class d slot
      (ap (slot_named s class) ((bytes_eq-Decides d.name name).0 same) ∙ own_name s class slot slot_found.0 sf (class_there s w n fits live).1 among slot_found.1) refl has

  -- ---- a space

  module _ (q : ℕ) (told : List DimValue) (is : values_in w.spaces q n ≡ Some told) where
    abbrev dims : List Dim
    dims = dims_of s q

    admits_now : Admits s w.units n q
    admits_now = record { layout = fits.layout; allowed = fits.spaces.admitted q n told is }

    admits_later : Admits s later n q
    admits_later = record {
      layout = fits.layout;
      allowed = subst (λ o. IfSome o (λ c. IsTrue (allowed s q c))) (sym (same_class_of w.units n slot n value)) (fits.spaces.admitted q n told is);
    }

    told_is : told ≡ filter_map before dims
    told_is = fits.spaces.told q n told is ∙ ap (λ o. option_map_or (λ c. values_on s w.units n c dims) o []) of_class

    present_is : present_values s later n q ≡ filter_map now dims
    present_is = ap (λ o. option_map_or (λ c. values_on s later n c dims) o []) later_class

    whole_before : IsWhole before dims
    whole_before = as_many (filter_map before dims) dims (ap (map kind_of_operand) (sym told_is ∙ fits.spaces.told q n told is) ∙ present_kinds s sf w.units n q fits.units live admits_now)

    whole_now : IsWhole now dims
    whole_now = as_many (filter_map now dims) dims (ap (map kind_of_operand) (sym present_is) ∙ present_kinds s sf later n q later_fits later_live admits_later)

    reading_is : reading s slot q ≡ position (λ d. bytes_eq d.name name) dims
    reading_is = ap (λ o. option_and_then (λ text. position (λ d. bytes_eq d.name text) dims) (option_map (λ t. t.name) o)) slot_found.1

    -- one that does not read the slot has what it should
    quiet_here : reading s slot q ≡ None → told ≡ present_values s later n q
    quiet_here none = told_is ∙ (sym (same_values name before now (dim_value_of value) other own dims (sym reading_is ∙ none)) ∙ sym present_is)

    anew_here : (place : ℕ) → reading s slot q ≡ Some place → IsAnew name before now (dim_value_of value) other own 0 place dims
    anew_here place at = anew name before now (dim_value_of value) other own dims place (distinct_dims s q (slice_get s.spaces q) sf refl) whole_before whole_now (sym reading_is ∙ at)

    -- one that reads it has the new value
    one_by : (place : ℕ) (values : List DimValue) (o : Option DimValue) → reading s slot q ≡ Some place → dim_value_of value ≡ o → option_map (slice_set told place) o ≡ Some values → values ≡ present_values s later n q
    one_by place values None at new made = absurd cc
    one_by place values (Some v) at new made =
        let a = anew_here place at in
        let same_value : v ≡ a.value = let e : Some v ≡ Some a.value = sym new ∙ a.is in cc in
        let same_place : place ≡ a.place = let e = a.at in omega (arith, e) in
        let made_of : values ≡ slice_set told place v = cc in
        made_of ∙ (ap (λ k. slice_set told k v) same_place ∙ (ap (slice_set told a.place) same_value ∙ (ap (λ vs. slice_set vs a.place a.value) told_is ∙ (sym a.same ∙ sym present_is))))

    one_at : (values : List DimValue) (r : Option ℕ) → reading s slot q ≡ r → option_and_then (λ place. option_map (slice_set told place) (dim_value_of value)) r ≡ Some values → values ≡ present_values s later n q
    one_at values None at made = absurd cc
    one_at values (Some place) at made = one_by place values (dim_value_of value) at refl made

    none_by : (place : ℕ) (o : Option DimValue) → reading s slot q ≡ Some place → dim_value_of value ≡ o → option_map (slice_set told place) o ≡ None → told ≡ present_values s later n q
    none_by place None at new none = let a = anew_here place at in absurd (let e : None ≡ Some a.value = sym new ∙ a.is in cc)
    none_by place (Some v) at new none = absurd cc

    none_at : (r : Option ℕ) → reading s slot q ≡ r → option_and_then (λ place. option_map (slice_set told place) (dim_value_of value)) r ≡ None → told ≡ present_values s later n q
    none_at None at none = quiet_here at
    none_at (Some place) at none = none_by place (dim_value_of value) at refl none

  -- ---- all spaces

  abbrev given : Option (List DimValue) → ℕ → Option (List DimValue)
  given o q = option_and_then (λ told. option_and_then (λ place. option_map (slice_set told place) (dim_value_of value)) (reading s slot q)) o

  present_by : (q : ℕ) (values : List DimValue) (o : Option (List DimValue)) → values_in w.spaces q n ≡ o → given o q ≡ Some values → (is_member w.spaces q n ≡ true) × (values ≡ present_values s later n q)
  present_by q values None is made = absurd cc
  present_by q values (Some told) is made = (ap is_some is, one_at q told is values (reading s slot q) refl made)

  quiet_by : (q : ℕ) (o : Option (List DimValue)) → values_in w.spaces q n ≡ o → given o q ≡ None → is_member w.spaces q n ≡ true → values_in w.spaces q n ≡ Some (present_values s later n q)
  quiet_by q None is none member = absurd (let e : false ≡ true = sym (ap is_some is) ∙ member in cc)
  quiet_by q (Some told) is none member = is ∙ ap (λ vs. Some vs) (none_at q told is (reading s slot q) refl none)

  -- what the spaces that read the slot are told is all that any is to be told
  pub told_enough : after_moves w.spaces n (moves_for s w.spaces n slot value) ≡ told_again s later w.spaces n
  told_enough =
      same_told n (values_anew s w.spaces n slot value) (λ q. present_values s later n q) (λ q. is_member w.spaces q n)
      (λ q values made. present_by q values (values_in w.spaces q n) refl made) (range_with_len 0 (length w.spaces.spaces)) w.spaces
      (λ q none member. quiet_by q (values_in w.spaces q n) refl none member)
