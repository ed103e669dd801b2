-- The kept tables tell what dimensions read: the first slot with a name stands for the name.
use Rattle.std.proofs.Common.{◌≡◌, ℕ, zero, suc, ◌<◌, ◌≤◌, ◌||◌, Bool, true, false, cond, List, [], ◌∷◌, map, length, get_or, drop, ◌+◌, Bor, Option, Some, None, refl, sym, ap, subst, ◌∙◌, arith}
use Rattle.std.specs.Prelude.{◌==◌, All, nat_le, slice_get, set, find, position, is_some, option_map, option_and_then, if◌then◌else◌}
use Rattle.std.specs.List.{fold, list_any, list_all, range_with_len}
use Rattle.std.specs.Option.{option_map_or}
use Rattle.std.specs.Str.{bytes_eq}
use Rattle.std.specs.Cmp.Lexicographic.{bytes_decides}
use Rattle.std.proofs.lemmas.Bool.{eq-eqb, eqb-true, or_parts, leb-true}
use Rattle.std.proofs.Math.Bool.{or_assoc}
use Rattle.std.proofs.lemmas.List.{length-map, length-set, drop_all, get_or_default}
use Rattle.std.proofs.lemmas.List.Elements.{All-head, All-tail}
use Rattle.std.proofs.lemmas.List.FromFn.{length-map-range_with_len}
use Rattle.std.proofs.lemmas.List.Quantifiers.{position-Some}
use Rattle.std.proofs.lemmas.Option.{slice_get-map}
use Rattle.bb_basis.proofs.BoolLemmas.{or_false, same_truth}
use Rattle.bb_basis.proofs.IntoMapLemmas.{next_one}
use Rattle.bb_basis.proofs.ListLemmas.{list_any-map, list_all_same, position-map, all_any}
use Rattle.bb_basis.proofs.PositionLemmas.{position_within, position_spot, spot, spot_none}
use Rattle.bb_basis.proofs.SearchLemmas.{find_same, any_same}
use Rattle.bb_schema_classes.proofs.Laws.{any_spot}
use Rattle.bb_schema_classes.specs.proving.Entries.{indexed_place, IsIndex}
use Rattle.std.specs.BTreeMap.{BTreeMap}
use Rattle.bb_schema.specs.declared.slot.Slot.{Slot}
use Rattle.bb_schema.specs.declared.space.Dim.{Dim}
use Rattle.bb_schema.specs.declared.space.Space.{Space}
use Rattle.bb_schema.specs.declared.readings.Readings.{Readings}
use Rattle.bb_schema.specs.declared.read.spaces.TheConstants.{DIM_LIMIT}
use Rattle.bb_schema.specs.Schema.{Schema, slots_of, slot_named, kind_of_slot}
use Rattle.bb_schema.specs.Slots.{has_name}
use Rattle.bb_schema.specs.SpaceReading.{suits, has_slot_for}
use Rattle.bb_schema.specs.Fits.{IsSpace, AreSpaces}
use Rattle.bb_schema.specs.Readings.{places_named, unless_empty, readings_of, slot_read}
use Rattle.bb_schema.specs.proving.Relation.{row_has}
use Rattle.bb_schema_classes.specs.Firsts.{is_at, has_first, place_in, row_if}
use Rattle.bb_schema.specs.proving.Readings.{names_of, first_named, firsts_of, dim_firsts, slot_with, has_slot_at, mark_first, read_slots, rows_of, kept_row, kept_first, AreReadings}
use Rattle.bb_schema.proofs.Limits.{dim_limit}
use Rattle.bb_schema.proofs.RelationLemmas.{made_at, made_row_of, marked_by}

-- ---- names by their first slots

-- what is at a place passes no test that nothing passes
none_at : {X : Type 0} (p : X → Bool) (xs : List X) (n : ℕ) (x : X) → list_any p xs ≡ false → slice_get xs n ≡ Some x → p x ≡ false
none_at p [] n x none at = absurd cc
none_at p (y ∷ ys) zero x none at = let e : y ≡ x = cc in ap p (sym e) ∙ (or_parts (p y) (list_any p ys) none).0
none_at p (y ∷ ys) (suc n) x none at = none_at p ys n x (or_parts (p y) (list_any p ys) none).1 at

none_found : {X : Type 0} (p : X → Bool) → ((x : X) → p x ≡ false) → (xs : List X) → find p xs ≡ None
none_found p h [] = refl
none_found p h (x ∷ xs) = ap (λ b. cond b (Some x) (find p xs)) (h x) ∙ none_found p h xs

same_place : (texts : List (List ℕ)) (x name : List ℕ) (j k : ℕ) → position (bytes_eq name) texts ≡ Some k → position (bytes_eq x) texts ≡ Some j → j ≡ k → name ≡ x
same_place texts x name j k of_name of_x same =
    let a = position-Some (bytes_eq name) texts k [] of_name in
    let b = position-Some (bytes_eq x) texts j [] of_x in
    (bytes_decides name (get_or texts k [])).0 a.1 ∙ (ap (λ i. get_or texts i []) (sym same) ∙ sym ((bytes_decides x (get_or texts j [])).0 b.1))

-- two names have one first place exactly if they are equal
apart : (texts : List (List ℕ)) (x name : List ℕ) (j k : ℕ) (b : Bool) → (j == k) ≡ b → bytes_eq name x ≡ false → position (bytes_eq name) texts ≡ Some k → position (bytes_eq x) texts ≡ Some j → b ≡ false
apart texts x name j k false same other of_name of_x = refl
apart texts x name j k true same other of_name of_x =
    absurd (let e : bytes_eq name x ≡ true = (bytes_decides name x).1 (same_place texts x name j k of_name of_x (eqb-true j k same)) in let f : true ≡ false = sym e ∙ other in cc)

at_by : (texts : List (List ℕ)) (x name : List ℕ) (k : ℕ) → position (bytes_eq name) texts ≡ Some k → (b : Bool) → bytes_eq name x ≡ b → (o : Option ℕ) → position (bytes_eq x) texts ≡ o → is_at k o ≡ b
at_by texts x name k at true same o is =
    let e : o ≡ Some k = sym is ∙ (ap (λ (n : List ℕ). position (bytes_eq n) texts) (sym ((bytes_decides name x).0 same)) ∙ at) in
    ap (is_at k) e ∙ eq-eqb k k refl
at_by texts x name k at false other None is = refl
at_by texts x name k at false other (Some j) is = apart texts x name j k (j == k) refl other at is

at_first : (texts : List (List ℕ)) (x name : List ℕ) (k : ℕ) → position (bytes_eq name) texts ≡ Some k → is_at k (position (bytes_eq x) texts) ≡ bytes_eq name x
at_first texts x name k at = at_by texts x name k at (bytes_eq name x) refl (position (bytes_eq x) texts) refl

first_or_name : (slots : List Slot) (name : List ℕ) (k : ℕ) → first_named slots name ≡ Some k → (o : Option Slot) → option_map_or (is_at k) (option_map (λ t. first_named slots t.name) o) false ≡ option_map_or (λ t. bytes_eq name t.name) o false
first_or_name slots name k at None = refl
first_or_name slots name k at (Some t) = at_first (names_of slots) t.name name k at

has_first_is : (slots : List Slot) (name : List ℕ) (k n : ℕ) → first_named slots name ≡ Some k → has_first (firsts_of slots) k n ≡ has_name slots name n
unfolding has_name
has_first_is slots name k n at =
    ap (λ (o : Option (Option ℕ)). option_map_or (is_at k) o false) (slice_get-map (λ (t : Slot). first_named slots t.name) slots n)
    ∙ first_or_name slots name k at (slice_get slots n)

no_place : (slots : List Slot) (name : List ℕ) → first_named slots name ≡ None → (n : ℕ) (t : Slot) → slice_get slots n ≡ Some t → bytes_eq name t.name ≡ false
no_place slots name none n t at =
    none_at (bytes_eq name) (names_of slots) n t.name (spot_none (bytes_eq name) (names_of slots) (sym (position_spot (bytes_eq name) (names_of slots)) ∙ none))
    (slice_get-map (λ (u : Slot). u.name) slots n ∙ ap (option_map (λ (u : Slot). u.name)) at)

unnamed_by : (slots : List Slot) (name : List ℕ) (n : ℕ) → first_named slots name ≡ None → (o : Option Slot) → slice_get slots n ≡ o → option_map_or (λ t. bytes_eq name t.name) o false ≡ false
unnamed_by slots name n none None at = refl
unnamed_by slots name n none (Some t) at = no_place slots name none n t at

unnamed : (slots : List Slot) (name : List ℕ) → first_named slots name ≡ None → (n : ℕ) → has_name slots name n ≡ false
unfolding has_name
unnamed slots name none n = unnamed_by slots name n none (slice_get slots n) refl

found_by : (slots : List Slot) (numbers : List ℕ) (name : List ℕ) (o : Option ℕ) → first_named slots name ≡ o → slot_with (firsts_of slots) numbers o ≡ find (has_name slots name) numbers
found_by slots numbers name (Some k) at = find_same (has_first (firsts_of slots) k) (has_name slots name) (λ _. Unit {0}) numbers (all_any numbers) (λ n _. has_first_is slots name k n at)
found_by slots numbers name None at = sym (none_found (has_name slots name) (unnamed slots name at) numbers)

-- the slot with a name's first slot is the one with the name
pub found_first : (slots : List Slot) (numbers : List ℕ) (name : List ℕ) → slot_with (firsts_of slots) numbers (first_named slots name) ≡ find (has_name slots name) numbers
found_first slots numbers name = found_by slots numbers name (first_named slots name) refl

has_slot_first : (s : Schema) (name : List ℕ) (set : Option ℕ) (c : ℕ) → has_slot_at s (first_named s.slots name) set c ≡ has_slot_for s name set c
unfolding has_slot_at has_slot_for
has_slot_first s name set c = ap (λ (o : Option ℕ). option_map_or (λ n. option_map_or (suits set) (kind_of_slot s n) false) o false) (found_first s.slots (slots_of s c) name)

pub have_slots_first : (s : Schema) (name : List ℕ) (set : Option ℕ) (listed : List ℕ) → list_all (has_slot_at s (first_named s.slots name) set) listed ≡ list_all (has_slot_for s name set) listed
have_slots_first s name set listed = list_all_same (has_slot_at s (first_named s.slots name) set) (has_slot_for s name set) (has_slot_first s name set) listed

map_same : {X Y : Type 0} (f g : X → Y) → ((x : X) → f x ≡ g x) → (xs : List X) → map f xs ≡ map g xs
map_same f g h [] = refl
map_same f g h (x ∷ xs) = ap (λ y. y ∷ map f xs) (h x) ∙ ap (λ ys. g x ∷ ys) (map_same f g h xs)

-- the first slots, by an index of the names
pub firsts_indexed : (slots : List Slot) (places : BTreeMap (Bor (List ℕ)) ℕ) → IsIndex places (names_of slots) → map (λ t. indexed_place places t.name) slots ≡ firsts_of slots
firsts_indexed slots places index = map_same (λ t. indexed_place places t.name) (λ t. first_named slots t.name) (λ t. index.first t.name) slots

-- ---- the slots that are read

module _ (k : ℕ) where
  -- a row in which slots of a space are marked
  record IsMarked (row new : List Bool) (marks : Bool) : Type 0 where
    wide : length new ≡ length row
    tell : row_has new k ≡ (row_has row k || marks)

  marks_dims : (row : List Bool) (dims : List (Option ℕ)) → k < length row → IsMarked row (fold mark_first row dims) (list_any (is_at k) dims)
  marks_dims row [] lt = record { wide = refl; tell = sym (or_false (row_has row k)) }
  marks_dims row (None ∷ ds) lt = let more = marks_dims row ds lt in record { wide = more.wide; tell = more.tell }
  marks_dims row (Some m ∷ ds) lt =
      let more = marks_dims (set row m true) ds (omega (arith, lt, length-set row m true)) in
      record {
        wide = more.wide ∙ length-set row m true;
        tell = more.tell ∙ (ap (λ b. b || list_any (is_at k) ds) (marked_by row m k (m == k) lt refl) ∙ or_assoc (row_has row k) (m == k) (list_any (is_at k) ds));
      }

  marks_all : (row : List Bool) (dims : List (List (Option ℕ))) → k < length row → IsMarked row (fold (fold mark_first) row dims) (list_any (list_any (is_at k)) dims)
  marks_all row [] lt = record { wide = refl; tell = sym (or_false (row_has row k)) }
  marks_all row (ds ∷ rest) lt =
      let one = marks_dims row ds lt in
      let more = marks_all (fold mark_first row ds) rest (omega (arith, lt, one.wide)) in
      record {
        wide = more.wide ∙ one.wide;
        tell = more.tell ∙ (ap (λ b. b || list_any (list_any (is_at k)) rest) one.tell ∙ or_assoc (row_has row k) (list_any (is_at k) ds) (list_any (list_any (is_at k)) rest));
      }

  -- a slot is marked exactly if a dimension reads it
  read_is : (count : ℕ) (dims : List (List (Option ℕ))) → k < count → row_has (read_slots count dims) k ≡ list_any (list_any (is_at k)) dims
  read_is count dims lt =
      let none = made_row_of count (λ _. false) in
      let marks = marks_all (map (λ _. false) (range_with_len 0 count)) dims (omega (arith, lt, length-map-range_with_len (λ _. false) 0 count)) in
      marks.tell ∙ ap (λ b. b || list_any (list_any (is_at k)) dims) (none.tell k lt)

-- all rows are as many as slots
dims_wide : (row : List Bool) (dims : List (Option ℕ)) → length (fold mark_first row dims) ≡ length row
dims_wide row [] = refl
dims_wide row (None ∷ ds) = dims_wide row ds
dims_wide row (Some m ∷ ds) = dims_wide (set row m true) ds ∙ length-set row m true

all_wide : (row : List Bool) (dims : List (List (Option ℕ))) → length (fold (fold mark_first) row dims) ≡ length row
all_wide row [] = refl
all_wide row (ds ∷ rest) = all_wide (fold mark_first row ds) rest ∙ dims_wide row ds

read_wide : (count : ℕ) (dims : List (List (Option ℕ))) → length (read_slots count dims) ≡ count
read_wide count dims = all_wide (map (λ _. false) (range_with_len 0 count)) dims ∙ length-map-range_with_len (λ _. false) 0 count

-- ---- the dimensions that read a slot

spot_same : {X : Type 0} (p q : X → Bool) → ((x : X) → p x ≡ q x) → (xs : List X) → spot p xs ≡ spot q xs
spot_same p q h [] = refl
spot_same p q h (x ∷ xs) = ap (λ b. cond b (Some 0) (option_map suc (spot p xs))) (h x) ∙ ap (λ o. cond (q x) (Some 0) (option_map suc o)) (spot_same p q h xs)

position_same : {X : Type 0} (p q : X → Bool) → ((x : X) → p x ≡ q x) → (xs : List X) → position p xs ≡ position q xs
position_same p q h xs = position_spot p xs ∙ (spot_same p q h xs ∙ sym (position_spot q xs))

turned : (x y : List ℕ) → bytes_eq x y ≡ bytes_eq y x
turned x y = same_truth (bytes_eq x y) (bytes_eq y x) (λ h. (bytes_decides y x).1 (sym ((bytes_decides x y).0 h))) (λ h. (bytes_decides x y).1 (sym ((bytes_decides y x).0 h)))

uncut_by : (limit p : ℕ) (b : Bool) → nat_le limit p ≡ b → p < limit → cond b None (Some p) ≡ Some p
uncut_by limit p true over lt = absurd (let le = leb-true limit p over in omega (arith, le, lt))
uncut_by limit p false over lt = refl

uncut : (limit : ℕ) (o : Option ℕ) → ((p : ℕ) → o ≡ Some p → p < limit) → option_and_then (λ p. if nat_le limit p then None else Some p) o ≡ o
uncut limit None within = refl
uncut limit (Some p) within = uncut_by limit p (nat_le limit p) refl (within p refl)

module _ (slots : List Slot) (name : List ℕ) (k : ℕ) (at : first_named slots name ≡ Some k) where
  reads : (d : Dim) → is_at k (first_named slots d.name) ≡ bytes_eq d.name name
  reads d = at_first (names_of slots) d.name name k at ∙ turned name d.name

  place_is : (dims : List Dim) → length dims ≤ DIM_LIMIT → place_in k (map (λ d. first_named slots d.name) dims) ≡ position (λ d. bytes_eq d.name name) dims
  place_is dims few =
      let same = position-map (is_at k) (λ (d : Dim). first_named slots d.name) dims ∙ position_same (λ d. is_at k (first_named slots d.name)) (λ d. bytes_eq d.name name) reads dims in
      ap (option_and_then (λ p. if nat_le 256 p then None else Some p)) same
      ∙ uncut 256 (position (λ d. bytes_eq d.name name) dims) (λ p is. let within = position_within (λ (d : Dim). bytes_eq d.name name) dims p is in omega (arith, within, few, dim_limit))

  any_is : (dims : List Dim) → list_any (is_at k) (map (λ d. first_named slots d.name) dims) ≡ is_some (position (λ d. bytes_eq d.name name) dims)
  any_is dims =
      list_any-map (is_at k) (λ (d : Dim). first_named slots d.name) dims
      ∙ (any_same (λ d. is_at k (first_named slots d.name)) (λ d. bytes_eq d.name name) (λ _. Unit {0}) dims (all_any dims) (λ d _. reads d)
      ∙ (sym (any_spot (λ d. bytes_eq d.name name) dims) ∙ ap is_some (sym (position_spot (λ d. bytes_eq d.name name) dims))))

  places_are : (s : Schema) (spaces : List Space) → All (IsSpace s) spaces → map (place_in k) (dim_firsts slots spaces) ≡ places_named spaces name
  places_are s [] all = refl
  places_are s (p ∷ ps) all =
      let own = All-head (IsSpace s) p ps all in
      let few : length p.dims ≤ DIM_LIMIT = subst (λ n. n ≤ DIM_LIMIT) (length-map p.dims (λ (d : Dim). d.name)) own.named.few in
      ap (λ (o : Option ℕ). o ∷ map (place_in k) (dim_firsts slots ps)) (place_is p.dims few)
      ∙ ap (λ (os : List (Option ℕ)). position (λ d. bytes_eq d.name name) p.dims ∷ os) (places_are s ps (All-tail (IsSpace s) p ps all))

  any_are : (spaces : List Space) → list_any (list_any (is_at k)) (dim_firsts slots spaces) ≡ list_any is_some (places_named spaces name)
  any_are [] = refl
  any_are (p ∷ ps) =
      ap (λ b. b || list_any (list_any (is_at k)) (dim_firsts slots ps)) (any_is p.dims)
      ∙ ap (λ b. is_some (position (λ d. bytes_eq d.name name) p.dims) || b) (any_are ps)

-- ---- the tables

abbrev pub made_of : List Slot → List Space → Readings
made_of slots spaces = record {
  firsts = firsts_of slots;
  dims = dim_firsts slots spaces;
  rows = rows_of (read_slots (length slots) (dim_firsts slots spaces)) (dim_firsts slots spaces);
}

abbrev row_by : Readings → Option (Option ℕ) → List (Option ℕ)
row_by r o = option_map_or (λ found. option_map_or (λ first. option_map_or (λ row. row) (slice_get r.rows first) []) found []) o []

named_row : (s : Schema) (spaces : List Space) → AreSpaces s spaces → (slot : ℕ) (t : Slot) → slice_get s.slots slot ≡ Some t → (o : Option ℕ) → first_named s.slots t.name ≡ o → row_by (made_of s.slots spaces) (Some o) ≡ unless_empty (places_named spaces t.name)
named_row s spaces all slot t is None none =
    absurd (let f : bytes_eq t.name t.name ≡ false = no_place s.slots t.name none slot t is in let e : true ≡ false = sym ((bytes_decides t.name t.name).1 refl) ∙ f in cc)
named_row s spaces all slot t is (Some k) at =
    let dims = dim_firsts s.slots spaces in
    let read = read_slots (length s.slots) dims in
    let within = position_within (bytes_eq t.name) (names_of s.slots) k at in
    let lt : k < length s.slots = omega (arith, within, length-map s.slots (λ (u : Slot). u.name)) in
    let row_is = made_at (λ first. row_if (row_has read first) dims first) (length read) k (omega (arith, lt, read_wide (length s.slots) dims)) in
    ap (λ (o : Option (List (Option ℕ))). option_map_or (λ row. row) o []) row_is
    ∙ (ap (λ b. if b then map (place_in k) dims else []) (read_is k (length s.slots) dims lt ∙ any_are s.slots t.name k at spaces)
    ∙ ap (λ (row : List (Option ℕ)). if list_any is_some (places_named spaces t.name) then row else []) (places_are s.slots t.name k at s spaces all.each))

rows_by : (s : Schema) (spaces : List Space) → AreSpaces s spaces → (slot : ℕ) (o : Option Slot) → slice_get s.slots slot ≡ o
    → row_by (made_of s.slots spaces) (option_map (λ t. first_named s.slots t.name) o) ≡ option_map_or (λ t. unless_empty (places_named spaces t.name)) o []
rows_by s spaces all slot None is = refl
rows_by s spaces all slot (Some t) is = named_row s spaces all slot t is (first_named s.slots t.name) refl

rows_are : (s : Schema) (spaces : List Space) → AreSpaces s spaces → (slot : ℕ) → kept_row (made_of s.slots spaces) slot ≡ readings_of (record s { spaces = spaces }) slot
rows_are s spaces all slot =
    ap (row_by (made_of s.slots spaces)) (slice_get-map (λ (t : Slot). first_named s.slots t.name) s.slots slot)
    ∙ rows_by s spaces all slot (slice_get s.slots slot) refl

-- the slot of a class that a dimension reads
module _ (s : Schema) (spaces : List Space) (class : ℕ) where
  abbrev by_first : Option ℕ → Option ℕ
  by_first = slot_with (firsts_of s.slots) (slots_of s class)

  abbrev by_name : Dim → Option ℕ
  by_name d = slot_named (record s { spaces = spaces }) class d.name

  dim_by : (o : Option Dim) → by_first (option_and_then (λ found. found) (option_map (λ d. first_named s.slots d.name) o)) ≡ option_and_then by_name o
  dim_by None = refl
  dim_by (Some d) = found_first s.slots (slots_of s class) d.name

  space_by : (dim : ℕ) (o : Option Space) → by_first (option_and_then (λ found. found) (option_and_then (λ firsts. slice_get firsts dim) (option_map (λ p. map (λ d. first_named s.slots d.name) p.dims) o)))
      ≡ option_and_then by_name (slice_get (option_map_or (λ p. p.dims) o []) dim)
  space_by dim None = refl
  space_by dim (Some p) = ap (λ (o : Option (Option ℕ)). by_first (option_and_then (λ found. found) o)) (slice_get-map (λ (d : Dim). first_named s.slots d.name) p.dims dim) ∙ dim_by (slice_get p.dims dim)

  slots_are : (space dim : ℕ) → by_first (kept_first (made_of s.slots spaces) space dim) ≡ slot_read (record s { spaces = spaces }) class space dim
  slots_are space dim =
      ap (λ (o : Option (List (Option ℕ))). by_first (option_and_then (λ found. found) (option_and_then (λ firsts. slice_get firsts dim) o))) (slice_get-map (λ (p : Space). map (λ (d : Dim). first_named s.slots d.name) p.dims) spaces space)
      ∙ space_by dim (slice_get spaces space)

pub readings_are : (s : Schema) (spaces : List Space) → AreSpaces s spaces → AreReadings (record s { spaces = spaces }) (made_of s.slots spaces)
readings_are s spaces all = record { rows = rows_are s spaces all; slots = λ class space dim. slots_are s spaces class space dim }

abbrev tables : List (Option ℕ) → List (List (Option ℕ)) → List (List (Option ℕ)) → Readings
tables firsts dims rows = record { firsts = firsts; dims = dims; rows = rows }

same_tables : (f g : List (Option ℕ)) (d e r t : List (List (Option ℕ))) → f ≡ g → d ≡ e → r ≡ t → tables f d r ≡ tables g e t
same_tables f g d e r t p q u = λ i. record { firsts = p i; dims = q i; rows = u i }

-- the tables as they are made
pub made_as : (s : Schema) (spaces : List Space) (firsts : List (Option ℕ)) (dims : List (List (Option ℕ))) (count : ℕ) (read : List Bool) (rows : List (List (Option ℕ))) → AreSpaces s spaces → firsts ≡ firsts_of s.slots → dims ≡ dim_firsts s.slots spaces
    → count ≡ length firsts → read ≡ read_slots count dims → rows ≡ rows_of read dims → AreReadings (record s { spaces = spaces }) (tables firsts dims rows)
made_as s spaces firsts dims count read rows all firsts_is dims_is count_is read_is rows_is =
    let many : count ≡ length s.slots = count_is ∙ (ap length firsts_is ∙ length-map s.slots (λ (t : Slot). first_named s.slots t.name)) in
    let marks : read ≡ read_slots (length s.slots) (dim_firsts s.slots spaces) = read_is ∙ (ap (λ (n : ℕ). read_slots n dims) many ∙ ap (read_slots (length s.slots)) dims_is) in
    let all_rows : rows ≡ rows_of (read_slots (length s.slots) (dim_firsts s.slots spaces)) (dim_firsts s.slots spaces) = rows_is ∙ (ap (λ (row : List Bool). rows_of row dims) marks ∙ ap (rows_of (read_slots (length s.slots) (dim_firsts s.slots spaces))) dims_is) in
    subst (AreReadings (record s { spaces = spaces })) (sym (same_tables firsts (firsts_of s.slots) dims (dim_firsts s.slots spaces) rows _ firsts_is dims_is all_rows)) (readings_are s spaces all)

-- without spaces nothing is read
bare_row : (o : Option Slot) → [] ≡ option_map_or (λ t. unless_empty (places_named [] t.name)) o []
bare_row None = refl
bare_row (Some t) = refl

pub nothing_read : (s : Schema) → AreReadings (record s { spaces = [] }) (record { firsts = []; dims = []; rows = [] })
nothing_read s = record { rows = λ slot. bare_row (slice_get s.slots slot); slots = λ class space dim. refl }

-- ---- folds in loops

pub fold_next : {A R : Type 0} (f : R → A → R) (row new : R) (all : List A) (i : ℕ) (a : A) (total : R) → i < length all → a ≡ get_or all i a → new ≡ f row a → fold f row (drop i all) ≡ total → fold f new (drop (i + 1) all) ≡ total
fold_next f row new all i a total lt is noted so_far =
    ap (λ r. fold f r (drop (i + 1) all)) noted ∙ (sym (ap (fold f row) (next_one all i a lt is)) ∙ so_far)

-- the same, of items that are copied
pub fold_next_or : {A R : Type 0} (f : R → A → R) (row new : R) (all : List A) (i : ℕ) (d : A) (total : R) → i < length all → new ≡ f row (get_or all i d) → fold f row (drop i all) ≡ total → fold f new (drop (i + 1) all) ≡ total
fold_next_or f row new all i d total lt noted so_far = let a = get_or all i d in fold_next f row new all i a total lt (get_or_default all i d a lt) noted so_far

pub fold_end : {A R : Type 0} (f : R → A → R) (row : R) (all : List A) (i : ℕ) (total : R) → length all ≤ i → fold f row (drop i all) ≡ total → row ≡ total
fold_end f row all i total le so_far = sym (ap (fold f row) (drop_all i all le)) ∙ so_far
