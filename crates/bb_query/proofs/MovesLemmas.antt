-- What a unit's spaces are told when a slot of it is set is what all spaces are: the others are told nothing.
use Rattle.std.proofs.Common.{◌≡◌, ℕ, ◌+◌, ◌<◌, zero, suc, Bool, true, false, cond, List, [], ◌∷◌, length, get_or, Option, Some, None, option_map, refl, sym, ap, ◌∙◌, arith}
use Rattle.std.specs.Prelude.{is_some, option_and_then, slice_get, slice_set, position, if◌then◌else◌}
use Rattle.std.specs.List.{filter, filter_map, cons_option, list_any, range_with_len}
use Rattle.std.specs.Option.{option_map_or}
use Rattle.std.specs.Str.{bytes_eq}
use Rattle.std.proofs.lemmas.Option.{slice_get-map}
use Rattle.bb_schema_classes.specs.declared.value.Value.{Value}
use Rattle.bb_schema.specs.declared.slot.Slot.{Slot}
use Rattle.bb_schema.specs.declared.space.Space.{Space}
use Rattle.bb_schema.specs.Schema.{Schema, dims_of}
use Rattle.bb_schema.specs.Readings.{places_named, unless_empty, readings_of}
use Rattle.bb_pattern.specs.declared.value.DimValue.{DimValue}
use Rattle.bb_pattern.specs.Values.{dim_value_of}
use Rattle.bb_space.specs.Spaces.{Spaces, is_member, values_in, spaces_of}
use Rattle.bb_query.specs.Moves.{reading, values_anew, moves_for}

-- items of which nothing is told can be left out
module _ {X : Type 0} (f : ℕ → Option X) where
  pub told_few : (p : ℕ → Bool) → ((q : ℕ) → p q ≡ false → f q ≡ None) → (xs : List ℕ) → filter_map f (filter p xs) ≡ filter_map f xs
  told_few p out [] = refl
  told_few p out (x ∷ xs) = by (p x) refl (told_few p out xs)
    where
      by : (b : Bool) → p x ≡ b → filter_map f (filter p xs) ≡ filter_map f xs → filter_map f (cond b (x ∷ filter p xs) (filter p xs)) ≡ cons_option (f x) (filter_map f xs)
      by true is rest = ap (cons_option (f x)) rest
      by false is rest = rest ∙ sym (ap (λ o. cons_option o (filter_map f xs)) (out x is))

-- a space that a unit is in is there
in_range : (p : ℕ → Bool) (n a k d : ℕ) → k < length (filter p (range_with_len a n)) → get_or (filter p (range_with_len a n)) k d < a + n
in_range p zero a k d lt = absurd (omega (arith, lt))
in_range p (suc n) a k d lt = by (p a) k lt (λ j at. let rest = in_range p n (a + 1) j d at in omega (arith, rest))
  where
    by : (b : Bool) (k : ℕ) → k < length (cond b (a ∷ filter p (range_with_len (a + 1) n)) (filter p (range_with_len (a + 1) n)))
        → ((j : ℕ) → j < length (filter p (range_with_len (a + 1) n)) → get_or (filter p (range_with_len (a + 1) n)) j d < a + suc n)
        → get_or (cond b (a ∷ filter p (range_with_len (a + 1) n)) (filter p (range_with_len (a + 1) n))) k d < a + suc n
    by true zero lt rest = omega arith
    by true (suc j) lt rest = rest j (omega (arith, lt))
    by false k lt rest = rest k lt

pub space_within : (t : Spaces) (n k d : ℕ) → k < length (spaces_of t n) → get_or (spaces_of t n) k d < length t.spaces
space_within t n k d lt = let within = in_range (λ q. is_member t q n) (length t.spaces) 0 k d lt in omega (arith, within)

-- a space that a unit is not in is told nothing
untold : (o : Option (List DimValue)) (f : List DimValue → Option (List DimValue)) → is_some o ≡ false → option_and_then f o ≡ None
untold None f is = refl
untold (Some v) f is = absurd cc

pub own_moves : (s : Schema) (t : Spaces) (n slot : ℕ) (value : Value) → filter_map (λ space. option_map (λ values. (space, values)) (values_anew s t n slot value space)) (spaces_of t n) ≡ moves_for s t n slot value
own_moves s t n slot value =
    told_few (λ space. option_map (λ values. (space, values)) (values_anew s t n slot value space)) (λ q. is_member t q n)
    (λ q out. ap (option_map (λ (values : List DimValue). (q, values))) (untold (values_in t q n) (λ told. option_and_then (λ place. option_map (slice_set told place) (dim_value_of value)) (reading s slot q)) out))
    (range_with_len 0 (length t.spaces))

-- ---- what the schema's table tells

-- a table that is left out where nothing is in it has the same places
kept_by : (row : List (Option ℕ)) (b : Bool) → list_any is_some row ≡ b → (space : ℕ) → option_and_then (λ place. place) (slice_get (if b then row else []) space) ≡ option_and_then (λ place. place) (slice_get row space)
kept_by row true any space = refl
kept_by row false none space = sym (nothing row space none)
  where
    nothing : (row : List (Option ℕ)) (space : ℕ) → list_any is_some row ≡ false → option_and_then (λ place. place) (slice_get row space) ≡ None
    nothing [] space none = refl
    nothing (None ∷ os) zero none = refl
    nothing (Some p ∷ os) zero none = absurd cc
    nothing (None ∷ os) (suc k) none = nothing os k none
    nothing (Some p ∷ os) (suc k) none = absurd cc

place_by : (name : List ℕ) (o : Option Space) → option_and_then (λ place. place) (option_map (λ p. position (λ d. bytes_eq d.name name) p.dims) o) ≡ position (λ d. bytes_eq d.name name) (option_map_or (λ p. p.dims) o [])
place_by name None = refl
place_by name (Some p) = refl

named_place : (s : Schema) (name : List ℕ) (space : ℕ) → option_and_then (λ place. place) (slice_get (unless_empty (places_named s.spaces name)) space) ≡ position (λ d. bytes_eq d.name name) (dims_of s space)
named_place s name space =
    kept_by (places_named s.spaces name) (list_any is_some (places_named s.spaces name)) refl space
    ∙ (ap (option_and_then (λ place. place)) (slice_get-map (λ (p : Space). position (λ d. bytes_eq d.name name) p.dims) s.spaces space)
    ∙ place_by name (slice_get s.spaces space))

slot_place : (s : Schema) (space : ℕ) (o : Option Slot) → option_and_then (λ place. place) (slice_get (option_map_or (λ t. unless_empty (places_named s.spaces t.name)) o []) space)
    ≡ option_and_then (λ name. position (λ d. bytes_eq d.name name) (dims_of s space)) (option_map (λ t. t.name) o)
slot_place s space None = refl
slot_place s space (Some t) = named_place s t.name space

-- the table of a slot has its reading in each space
reading_at : (s : Schema) (slot space : ℕ) → option_and_then (λ place. place) (slice_get (readings_of s slot) space) ≡ reading s slot space
reading_at s slot space = slot_place s space (slice_get s.slots slot)

pub reading_by : (s : Schema) (slot space : ℕ) (row : List (Option ℕ)) (o : Option (Option ℕ)) → row ≡ readings_of s slot → slice_get row space ≡ o → option_and_then (λ place. place) o ≡ reading s slot space
reading_by s slot space row o is got =
    ap (option_and_then (λ place. place)) (sym got) ∙ (ap (λ (r : List (Option ℕ)). option_and_then (λ place. place) (slice_get r space)) is ∙ reading_at s slot space)

-- what a space does not read changes no values, whoever is in it
unread_by : (o : Option (List DimValue)) (r : Option ℕ) (value : Value) → r ≡ None → option_and_then (λ told. option_and_then (λ place. option_map (slice_set told place) (dim_value_of value)) r) o ≡ None
unread_by None r value none = refl
unread_by (Some told) r value none = ap (option_and_then (λ place. option_map (slice_set told place) (dim_value_of value))) none

unread : (s : Schema) (t : Spaces) (n slot : ℕ) (value : Value) (space : ℕ) → reading s slot space ≡ None → values_anew s t n slot value space ≡ None
unread s t n slot value space none = unread_by (values_in t space n) (reading s slot space) value none

nothing_told : {X : Type 0} (f : ℕ → Option X) → ((q : ℕ) → f q ≡ None) → (xs : List ℕ) → filter_map f xs ≡ []
nothing_told f none [] = refl
nothing_told f none (x ∷ xs) = ap (λ o. cons_option o (filter_map f xs)) (none x) ∙ nothing_told f none xs

-- where no space reads the slot, no values change
pub no_moves : (s : Schema) (t : Spaces) (n slot : ℕ) (value : Value) → readings_of s slot ≡ [] → [] ≡ moves_for s t n slot value
no_moves s t n slot value none =
    sym (nothing_told (λ space. option_map (λ values. (space, values)) (values_anew s t n slot value space)) (λ q. ap (option_map (λ (values : List DimValue). (q, values)))
    (unread s t n slot value q (sym (reading_at s slot q) ∙ ap (λ (row : List (Option ℕ)). option_and_then (λ place. place) (slice_get row q)) none))) (range_with_len 0 (length t.spaces)))
