-- The document has no float, and nests no deeper than its text may.
use Rattle.std.proofs.Common.{◌≡◌, ℕ, ◌+◌, ◌≤◌, Bool, true, false, ◌||◌, List, [], ◌∷◌, ◌++◌, map, codes, Option, Some, None, Ordering, Less, Equal, Greater, refl, arith}
use Rattle.std.specs.Prelude.{ℤ, pos, negsuc}
use Rattle.std.specs.List.{AllByRecursion, flat_map, fold}
use Rattle.std.specs.Option.{option_map_or}
use Rattle.std.specs.Cmp.Lexicographic.{slice_cmp}
use Rattle.std.specs.Ordering.{nat_cmp, match_ordering}
use Rattle.std.proofs.lemmas.Bool.{or_from}
use Rattle.serde_json.specs.Data.{Data, number, Members, no_members, member, put, depth, items_depth, members_depth}
use Rattle.serde_json.specs.Find.{of_integer}
use Rattle.serde_json.specs.View.{items_of}
use Rattle.serde_json.specs.Written.{has_float, items_have_float, members_have_float}
use Rattle.bb_schema_classes.specs.declared.value.Value.{Value}
use Rattle.bb_schema_classes.specs.declared.value.Value.TheVariants as values
use Rattle.bb_schema.specs.Schema.{Schema, slots_of}
use Rattle.bb_schema.specs.Couples.{couples}
use Rattle.bb_units.specs.Units.{live_units}
use Rattle.bb_links.specs.Links.{pairs_by}
use Rattle.bb_space.specs.Spaces.{spaces_of}
use Rattle.bb_native.specs.Sight.{Sight}
use Rattle.bb_board_document.specs.Values.{list_data, value_data}
use Rattle.bb_board_document.specs.Document.{changed_value, with_given, given_data, unit_data, link_data, links_by, member_data, members_of, units_data}

-- no float, and no deeper than that
pub record IsShallow (limit : ℕ) (d : Data) : Type 0 where
  pub flat : has_float d ≡ false
  pub low : depth d ≤ limit

record AreShallow (limit : ℕ) (ms : Members) : Type 0 where
  flat : members_have_float ms ≡ false
  low : members_depth ms ≤ limit

-- ---- lists

items_flat : (limit : ℕ) (ds : List Data) → AllByRecursion (IsShallow limit) ds → (items_have_float (items_of ds) ≡ false) × (items_depth (items_of ds) ≤ limit)
items_flat limit [] all = (refl, omega arith)
items_flat limit (d ∷ ds) all =
    let rest = items_flat limit ds all.1 in
    let low = all.0.low in
    let lower = rest.1 in
    (or_from _ _ all.0.flat rest.0, omega (arith, low, lower))

list_shallow : (limit : ℕ) (ds : List Data) → AllByRecursion (IsShallow limit) ds → IsShallow (limit + 1) (list_data ds)
list_shallow limit ds all =
    let items = items_flat limit ds all in
    let low = items.1 in
    record { flat = items.0; low = omega (arith, low) }

each_map : {A : Type 0} (P : Data → Type 0) (f : A → Data) (xs : List A) → ((x : A) → P (f x)) → AllByRecursion P (map f xs)
each_map P f [] each = tt
each_map P f (x ∷ xs) each = (each x, each_map P f xs each)

each_append : (P : Data → Type 0) (ds es : List Data) → AllByRecursion P ds → AllByRecursion P es → AllByRecursion P (ds ++ es)
each_append P [] es all more = more
each_append P (d ∷ ds) es all more = (all.0, each_append P ds es all.1 more)

each_flat_map : {A : Type 0} (P : Data → Type 0) (f : A → List Data) (xs : List A) → ((x : A) → AllByRecursion P (f x)) → AllByRecursion P (flat_map f xs)
each_flat_map P f [] each = tt
each_flat_map P f (x ∷ xs) each = each_append P (f x) (flat_map f xs) (each x) (each_flat_map P f xs each)

-- ---- members

one_member : (limit : ℕ) (k : List ℕ) (d : Data) (ms : Members) → IsShallow limit d → AreShallow limit ms → AreShallow limit (member k d ms)
one_member limit k d ms one rest =
    let low = one.low in
    let lower = rest.low in
    record { flat = or_from _ _ one.flat rest.flat; low = omega (arith, low, lower) }

first_of : (limit : ℕ) (k : List ℕ) (d : Data) (ms : Members) → AreShallow limit (member k d ms) → IsShallow limit d × AreShallow limit ms
first_of limit k d ms all =
    let low = all.low in
    (record { flat = (none _ _ all.flat).0; low = omega (arith, low) }, record { flat = (none _ _ all.flat).1; low = omega (arith, low) })
  where
    none : (a b : Bool) → (a || b) ≡ false → (a ≡ false) × (b ≡ false)
    none true b h = absurd cc
    none false b h = (refl, h)

put_shallow : (limit : ℕ) (k : List ℕ) (d : Data) (ms : Members) → IsShallow limit d → AreShallow limit ms → AreShallow limit (put k d ms)
put_shallow limit k d no_members one all = one_member limit k d no_members one all
put_shallow limit k d (member l e ms) one all = by (slice_cmp nat_cmp k l) (put_shallow limit k d ms one (first_of limit l e ms all).1)
  where
    parts : IsShallow limit e × AreShallow limit ms
    parts = first_of limit l e ms all

    by : (o : Ordering) → AreShallow limit (put k d ms) → AreShallow limit (match_ordering o (member k d (member l e ms)) (member l d ms) (member l e (put k d ms)))
    by Less rest = one_member limit k d (member l e ms) one all
    by Equal rest = one_member limit l d ms one parts.1
    by Greater rest = one_member limit l e (put k d ms) parts.0 rest

-- ---- the entries

integer_flat : (z : ℤ) → IsShallow 0 (number (of_integer z))
integer_flat (pos n) = record { flat = refl; low = omega arith }
integer_flat (negsuc n) = record { flat = refl; low = omega arith }

deeper : (a b : ℕ) (d : Data) → a ≤ b → IsShallow a d → IsShallow b d
deeper a b d le one = let low = one.low in record { flat = one.flat; low = omega (arith, low, le) }

value_shallow : (s : Schema) (v : Value) → IsShallow 1 (value_data s v)
value_shallow s (values.Int z) = deeper 0 1 (number (of_integer z)) (omega arith) (integer_flat z)
value_shallow s (values.Text t) = record { flat = refl; low = omega arith }
value_shallow s (values.Bool b) = record { flat = refl; low = omega arith }
value_shallow s (values.Label set label) = record { flat = refl; low = omega arith }
value_shallow s (values.Interval low high) = list_shallow 0 (number (of_integer low) ∷ number (of_integer high) ∷ []) (integer_flat low, (integer_flat high, tt))

module _ (seen : Sight) where
  given_by : (n slot : ℕ) (o : Option Value) (k : List ℕ) (ms : Members) → AreShallow 1 ms → AreShallow 1 (option_map_or (λ value. put k (value_data seen.schema value) ms) o ms)
  given_by n slot None k ms all = all
  given_by n slot (Some v) k ms all = put_shallow 1 k (value_data seen.schema v) ms (value_shallow seen.schema v) all

  all_given : (n : ℕ) (slots : List ℕ) (ms : Members) → AreShallow 1 ms → AreShallow 1 (fold (with_given seen n) ms slots)
  all_given n [] ms all = all
  all_given n (slot ∷ slots) ms all = all_given n slots (with_given seen n ms slot) (given_by n slot (changed_value seen n slot) _ ms all)

  given_shallow : (n class : ℕ) → IsShallow 2 (given_data seen n class)
  given_shallow n class =
      let all = all_given n (slots_of seen.schema class) no_members (record { flat = refl; low = omega arith }) in
      let low = all.low in
      record { flat = all.flat; low = omega (arith, low) }

  unit_shallow : (n : ℕ) → IsShallow 3 (unit_data seen n)
  unit_shallow n =
      let slots = given_shallow n _ in
      let low = slots.low in
      record { flat = or_from _ _ slots.flat refl; low = omega (arith, low) }

  link_shallow : (slot : ℕ) (p : ℕ × ℕ) → IsShallow 3 (link_data seen slot p)
  link_shallow slot p = record { flat = refl; low = omega arith }

  member_shallow : (n space : ℕ) → IsShallow 3 (member_data seen n space)
  member_shallow n space = record { flat = refl; low = omega arith }

  abbrev live : List ℕ
  live = live_units seen.world.units

  links_shallow : IsShallow 4 (list_data (flat_map (links_by seen) (couples seen.schema)))
  links_shallow = list_shallow 3 (flat_map (links_by seen) (couples seen.schema)) (each_flat_map (IsShallow 3) (links_by seen) (couples seen.schema) (λ slot. each_map (IsShallow 3) (link_data seen slot) (pairs_by seen.world.links slot) (link_shallow slot)))

  spaces_shallow : IsShallow 4 (list_data (flat_map (members_of seen) live))
  spaces_shallow = list_shallow 3 (flat_map (members_of seen) live) (each_flat_map (IsShallow 3) (members_of seen) live (λ n. each_map (IsShallow 3) (member_data seen n) (spaces_of seen.world.spaces n) (member_shallow n)))

  units_shallow : IsShallow 4 (list_data (map (unit_data seen) live))
  units_shallow = list_shallow 3 (map (unit_data seen) live) (each_map (IsShallow 3) (unit_data seen) live unit_shallow)

  pub data_shallow : IsShallow 5 (units_data seen)
  data_shallow =
      let none : AreShallow 4 no_members = record { flat = refl; low = omega arith } in
      let units = one_member 4 (codes "units") (list_data (map (unit_data seen) live)) no_members units_shallow none in
      let spaces = one_member 4 (codes "spaces") (list_data (flat_map (members_of seen) live)) _ spaces_shallow units in
      let all = one_member 4 (codes "links") (list_data (flat_map (links_by seen) (couples seen.schema))) _ links_shallow spaces in
      let low = all.low in
      record { flat = all.flat; low = omega (arith, low) }
