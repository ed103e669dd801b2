-- A unit has a value on each dimension of a space that admits it.
use Rattle.std.proofs.Common.{◌≡◌, ℕ, suc, ◌||◌, ◌==◌, Bool, true, false, List, [], ◌∷◌, ◌++◌, map, Option, Some, None, refl, sym, ap, ◌∙◌, arith}
use Rattle.std.specs.Prelude.{slice_get, slice_index_or, is_some, option_map, option_and_then, find, IfSome, All, cond}
use Rattle.std.specs.List.{list_any, list_all}
use Rattle.std.specs.Option.{option_map_or, option_or}
use Rattle.std.specs.FinMap as fin
use Rattle.std.proofs.lemmas.Bool.{and_parts, eqb-true}
use Rattle.std.proofs.lemmas.List.Folds.{find-append}
use Rattle.std.proofs.lemmas.Option.{slice_get-map}
use Rattle.std.proofs.lemmas.Bool.Decides.{Decides-eqb}
use Rattle.bb_basis.proofs.ListLemmas.{option_and_then-map, option_map_or-map}
use Rattle.bb_schema_classes.proofs.Laws.{All-at, climbs_sound}
use Rattle.bb_schema_classes.specs.declared.kind.Kind.{Kind}
use Rattle.bb_schema_classes.specs.declared.kind.Kind.TheVariants as kinds
use Rattle.bb_schema_classes.specs.declared.value.Value.{Value}
use Rattle.bb_schema_classes.specs.declared.value.Value.TheVariants as slot_values
use Rattle.bb_schema_classes.specs.Kinds.{kind_of_value}
use Rattle.bb_schema_classes.specs.Values.{value_fits, is_label}
use Rattle.bb_schema_classes.specs.Inheritance.{Descends, itself, through_parent, descends_in}
use Rattle.bb_schema.specs.declared.slot.Slot.{Slot}
use Rattle.bb_schema.specs.declared.slot.Content.{Content}
use Rattle.bb_schema.specs.declared.slot.Content.TheVariants as contents
use Rattle.bb_schema.specs.declared.space.Dim.{Dim}
use Rattle.bb_schema.specs.declared.space.Space.{Space}
use Rattle.bb_schema.specs.Kinds.{kind_of}
use Rattle.bb_schema.specs.Schema.{Schema, slots_of, slot_named, kind_of_slot, default_of, dims_of}
use Rattle.bb_schema.specs.Slots.{has_name, default_in}
use Rattle.bb_schema.specs.Spaces.{allowed}
use Rattle.bb_schema.specs.SpaceReading.{suits, has_slot_for}
use Rattle.bb_schema.specs.Fits as schema_laws
use Rattle.bb_units.proofs.Laws.{has_its_slots}
use Rattle.bb_units.specs.Layout as layouts
use Rattle.bb_units.specs.declared.unit.Unit.{Unit}
use Rattle.bb_units.specs.Units.{Units, is_live, value_of, has_slot}
use Rattle.bb_units.specs.Values.{value_at}
use Rattle.bb_units.specs.Fits as unit_laws
use Rattle.bb_pattern.specs.declared.value.DimValue.{DimValue}
use Rattle.bb_pattern.specs.declared.value.DimValue.TheVariants as dim_values
use Rattle.bb_pattern.specs.declared.value.OperandKind.TheVariants.{Interval, Label}
use Rattle.bb_pattern.specs.Values.{dim_value_of, kind_of_operand}
use Rattle.bb_query.specs.PresentValues.{value_on, values_on, present_values}
use Rattle.bb_query.specs.Whole.{Admits, kind_on}

-- one that passes both tests
pub record PassesBoth {X : Type 0} (f g : X → Bool) : Type 0 where
  pub item : X
  pub first : f item ≡ true
  pub second : g item ≡ true

passes_by : {X : Type 0} (f g : X → Bool) (x : X) (xs : List X) (b : Bool) → f x ≡ b → list_any f (x ∷ xs) ≡ true → list_all g (x ∷ xs) ≡ true → (list_any f xs ≡ true → list_all g xs ≡ true → PassesBoth f g) → PassesBoth f g
passes_by f g x xs true is any_of all_of later = record { item = x; first = is; second = (and_parts (g x) (list_all g xs) all_of).0 }
passes_by f g x xs false is any_of all_of later = later (later_any (list_any f xs) is any_of) (and_parts (g x) (list_all g xs) all_of).1
  where
    later_any : (rest : Bool) → f x ≡ false → (f x || rest) ≡ true → rest ≡ true
    later_any rest fails some = ap (λ b. b || rest) (sym fails) ∙ some

pub passes_both : {X : Type 0} (f g : X → Bool) (xs : List X) → list_any f xs ≡ true → list_all g xs ≡ true → PassesBoth f g
passes_both f g [] any_of all_of = absurd cc
passes_both f g (x ∷ xs) any_of all_of = passes_by f g x xs (f x) refl any_of all_of (passes_both f g xs)

module _ (s : Schema) (fits : schema_laws.Fits s) where
  found_before : (test : ℕ → Bool) (front rest : List ℕ) (m : ℕ) → find test front ≡ Some m → find test (front ++ rest) ≡ Some m
  found_before test front rest m is = find-append test front rest ∙ ap (λ o. option_or o (find test rest)) is

  -- a name means the same slot in a class and in one below it
  pub inherited : (name : List ℕ) (m c k : ℕ) → Descends s.classes c k → slot_named s k name ≡ Some m → slot_named s c name ≡ Some m
  inherited name m c _ (itself _) is = is
  inherited name m c k (through_parent _ p _ up rest) is =
      let start = fits.heirs c p up in
      ap (find (has_name s.slots name)) start.1 ∙ found_before (has_name s.slots name) (slots_of s p) start.0 m (inherited name m p k rest is)

-- a slot that suits a dimension
record Suits (s : Schema) (c : ℕ) (d : Dim) : Type 0 where
  slot : ℕ
  kind : Kind
  named : slot_named s c d.name ≡ Some slot
  is : kind_of_slot s slot ≡ Some kind
  fit : suits d.set kind ≡ true

suits_by : (s : Schema) (k : ℕ) (d : Dim) (o : Option ℕ) → slot_named s k d.name ≡ o → option_map_or (λ n. option_map_or (suits d.set) (kind_of_slot s n) false) o false ≡ true → Suits s k d
suits_by s k d None named is = absurd cc
suits_by s k d (Some n) named is = at_kind (kind_of_slot s n) refl is
  where
    at_kind : (o : Option Kind) → kind_of_slot s n ≡ o → option_map_or (suits d.set) o false ≡ true → Suits s k d
    at_kind None there fit = absurd cc
    at_kind (Some kind) there fit = record { slot = n; kind = kind; named = named; is = there; fit = fit }

suits_there : (s : Schema) (k : ℕ) (d : Dim) → has_slot_for s d.name d.set k ≡ true → Suits s k d
unfolding has_slot_for
suits_there s k d is = suits_by s k d (slot_named s k d.name) refl is

-- a value that fits a kind that suits a dimension is of the dimension's sort
record IsOfSort (set : Option ℕ) (v : Value) : Type 0 where
  dim_value : DimValue
  is : dim_value_of v ≡ Some dim_value
  kind : kind_of_operand dim_value ≡ option_map_or Label set Interval

sort_of : (counts : List ℕ) (set : Option ℕ) (k : Kind) (v : Value) → suits set k ≡ true → value_fits counts k v ≡ true → IsOfSort set v
unfolding value_fits
sort_of counts None kinds.Int (slot_values.Int z) suit fit = record { dim_value = dim_values.Interval z z; is = refl; kind = refl }
sort_of counts None kinds.Interval (slot_values.Interval low high) suit fit = record { dim_value = dim_values.Interval low high; is = refl; kind = refl }
sort_of counts (Some set) (kinds.Label other) (slot_values.Label of label) suit fit =
    let same = eqb-true of other (and_parts (of == other) (is_label counts other label) fit).0 ∙ eqb-true other set suit in
    record { dim_value = dim_values.Label of label; is = refl; kind = ap Label same }
sort_of counts _ _ _ suit fit = absurd cc

-- the default of a slot that suits a dimension
record HasDefault (s : Schema) (n : ℕ) (kind : Kind) : Type 0 where
  value : Value
  is : default_of s n ≡ Some value
  of_kind : kind_of_value value ≡ kind

default_by : (s : Schema) (n : ℕ) (set : Option ℕ) (kind : Kind) (content : Content) → suits set kind ≡ true → kind_of content ≡ kind → option_and_then (λ t. default_in t.content) (slice_get s.slots n) ≡ default_in content → HasDefault s n kind
default_by s n set kind (contents.Default v) fit is there = record { value = v; is = there; of_kind = is }
default_by s n None kind (contents.Link l) fit is there = absurd (let e : suits None (kinds.Link l) ≡ true = ap (suits None) is ∙ fit in cc)
default_by s n (Some set) kind (contents.Link l) fit is there = absurd (let e : suits (Some set) (kinds.Link l) ≡ true = ap (suits (Some set)) is ∙ fit in cc)

default_there : (s : Schema) (n : ℕ) (set : Option ℕ) (kind : Kind) → suits set kind ≡ true → kind_of_slot s n ≡ Some kind → HasDefault s n kind
default_there s n set kind fit is = at_slot (slice_get s.slots n) refl is
  where
    at_slot : (o : Option Slot) → slice_get s.slots n ≡ o → option_map (λ t. kind_of t.content) o ≡ Some kind → HasDefault s n kind
    at_slot None there same = absurd cc
    at_slot (Some t) there same = default_by s n set kind t.content fit (let e : kind_of t.content ≡ kind = cc in e) (ap (option_and_then (λ t. default_in t.content)) there)

default_kept : (s : Schema) (n : ℕ) → layouts.default_at (layouts.layout_of s).defaults n ≡ default_of s n
default_kept s n = ap (option_and_then (λ d. d)) (slice_get-map (λ (t : Slot). default_in t.content) s.slots n) ∙ option_and_then-map (λ (t : Slot). default_in t.content) (slice_get s.slots n)

slots_kept : (s : Schema) (c : ℕ) → layouts.slots_of (layouts.layout_of s) c ≡ slots_of s c
slots_kept s c = ap (λ (o : Option (List ℕ)). option_map_or (λ l. l) o []) (slice_get-map (λ k. k.slots) s.classes c) ∙ option_map_or-map (λ k. k.slots) (slice_get s.classes c)

found_listed : (test : ℕ → Bool) (xs : List ℕ) (m : ℕ) → find test xs ≡ Some m → list_any (λ n. n == m) xs ≡ true
found_listed test [] m is = absurd cc
found_listed test (x ∷ xs) m is = at_first (test x) is (found_listed test xs m)
  where
    or_true : (b : Bool) → (b || true) ≡ true
    or_true true = refl
    or_true false = refl

    at_first : (b : Bool) → cond b (Some x) (find test xs) ≡ Some m → (find test xs ≡ Some m → list_any (λ n. n == m) xs ≡ true) → ((x == m) || list_any (λ n. n == m) xs) ≡ true
    at_first true here later = let e : x ≡ m = cc in rw (e, (Decides-eqb m m).1 refl) refl
    at_first false here later = rw (later here) (or_true (x == m))

-- what the unit has on a dimension
record HasOn (s : Schema) (u : Units) (n c : ℕ) (d : Dim) : Type 0 where
  value : DimValue
  is : value_on s u n c d ≡ Some value
  kind : kind_of_operand value ≡ kind_on d

module _ (s : Schema) (u : Units) (fits : unit_laws.Fits u) (same : u.layout ≡ layouts.layout_of s) where
  unit_has : (n slot : ℕ) (x : Unit) (v : Value) → fin.get u.units n ≡ Some x → list_any (λ m. m == slot) (slots_of s x.class) ≡ true → default_of s slot ≡ Some v → has_slot u n slot ≡ true
  unit_has n slot x v there listed default = rw (there, same, slots_kept s x.class, listed, default_kept s slot, default) refl

  value_of_kind : (n slot : ℕ) (x : Unit) (v value : Value) (kind : Kind) → fin.get u.units n ≡ Some x → value_of u n slot ≡ Some value → default_of s slot ≡ Some v → kind_of_value v ≡ kind → value_fits u.layout.label_counts kind value ≡ true
  value_of_kind n slot x v value kind there is default of_kind =
      let at : value_at x.values slot ≡ Some value = sym (ap (option_and_then (λ (x : Unit). value_at x.values slot)) there) ∙ is in
      let known : layouts.default_at u.layout.defaults slot ≡ Some v = ap (λ (l : layouts.Layout). layouts.default_at l.defaults slot) same ∙ (default_kept s slot ∙ default) in
      let holds : layouts.can_hold u.layout slot value ≡ true = (fits.units n x there).values slot value at in
      sym (ap (λ k. value_fits u.layout.label_counts k value) of_kind)
      ∙ (sym (ap (λ o. option_map_or (λ default. value_fits u.layout.label_counts (kind_of_value default) value) o false) known) ∙ holds)

  on_by : (n c : ℕ) (d : Dim) (x : Unit) (suit : Suits s c d) (default : HasDefault s suit.slot suit.kind) (o : Option Value) → fin.get u.units n ≡ Some x → value_of u n suit.slot ≡ o → is_some o ≡ true → HasOn s u n c d
  on_by n c d x suit default None there is some = absurd cc
  on_by n c d x suit default (Some value) there is some =
      let sort = sort_of u.layout.label_counts d.set suit.kind value suit.fit (value_of_kind n suit.slot x default.value value suit.kind there is default.is default.of_kind) in
      record { value = sort.dim_value; is = rw (suit.named, is) sort.is; kind = sort.kind }

  has_on : (n : ℕ) (d : Dim) (x : Unit) → fin.get u.units n ≡ Some x → Suits s x.class d → HasOn s u n x.class d
  has_on n d x there suit =
      let default = default_there s suit.slot d.set suit.kind suit.fit suit.is in
      let listed = found_listed (has_name s.slots d.name) (slots_of s x.class) suit.slot suit.named in
      on_by n x.class d x suit default (value_of u n suit.slot) there refl (has_its_slots u n suit.slot fits ∙ unit_has n suit.slot x default.value there listed default.is)

  whole_on : (n : ℕ) (x : Unit) (dims : List Dim) → fin.get u.units n ≡ Some x → All (Suits s x.class) dims → map kind_of_operand (values_on s u n x.class dims) ≡ map kind_on dims
  whole_on n x [] there suit = refl
  whole_on n x (d ∷ ds) there suit =
      let on = has_on n d x there (suit 0 d (omega arith)) in
      rw (on.is, on.kind, whole_on n x ds there (λ k e lt. suit (suc k) e (omega (arith, lt)))) refl

module _ (s : Schema) (fits : schema_laws.Fits s) where
  suits_below : (c k : ℕ) (d : Dim) → Descends s.classes c k → Suits s k d → Suits s c d
  suits_below c k d up suit = record { slot = suit.slot; kind = suit.kind; named = inherited s fits d.name suit.slot c k up suit.named; is = suit.is; fit = suit.fit }

  each_suits : (p : Space) (c : ℕ) → schema_laws.IsSpace s p → list_any (λ k. descends_in s.classes c k) p.classes ≡ true → All (Suits s c) p.dims
  each_suits p c space admits = λ i d lt.
      let dim = slice_index_or p.dims i d in
      let both = passes_both (λ k. descends_in s.classes c k) (has_slot_for s dim.name dim.set) p.classes admits (space.slots i d lt) in
      suits_below c both.item dim (climbs_sound s.classes both.item c c both.first) (suits_there s both.item dim both.second)

  each_in : (w c : ℕ) (o : Option Space) → slice_get s.spaces w ≡ o → list_any (λ k. descends_in s.classes c k) (option_map_or (λ p. p.classes) o []) ≡ true → All (Suits s c) (option_map_or (λ p. p.dims) o [])
  each_in w c None there admits = absurd cc
  each_in w c (Some p) there admits = each_suits p c (All-at (schema_laws.IsSpace s) s.spaces w p there fits.spaces.each) admits

  whole_by : (u : Units) (n w : ℕ) (o : Option Unit) → unit_laws.Fits u → u.layout ≡ layouts.layout_of s → fin.get u.units n ≡ o → is_some o ≡ true
      → IfSome (option_map (λ (x : Unit). x.class) o) (λ class. allowed s w class ≡ true)
      → map kind_of_operand (option_map_or (λ class. values_on s u n class (dims_of s w)) (option_map (λ (x : Unit). x.class) o) []) ≡ map kind_on (dims_of s w)
  whole_by u n w None units same there live admits = absurd cc
  whole_by u n w (Some x) units same there live admits = whole_on s u units same n x (dims_of s w) there (each_in w x.class (slice_get s.spaces w) refl admits)

  pub present_kinds : (u : Units) (n w : ℕ) → unit_laws.Fits u → is_live u n ≡ true → Admits s u n w → map kind_of_operand (present_values s u n w) ≡ map kind_on (dims_of s w)
  present_kinds u n w units live admits = whole_by u n w (fin.get u.units n) units admits.layout refl live admits.allowed
