-- The form of a JSON document, piece by piece.
use Rattle.std.specs.Prelude.{ℕ, ℤ, Bool, false, List, [], ◌∷◌, Option, Some, None, option_and_then, option_map}
use Rattle.std.specs.Prelude.{if◌then◌else◌}
use Rattle.std.specs.List.{list_all, list_any}
use Rattle.std.specs.Option.{option_map_or}
use Rattle.std.specs.Str.{bytes_eq}
use Rattle.bb_schema_form.specs.Numbers.{is_i64}
use Rattle.serde_json.specs.Data.{Data, Items, no_items, item, Members, no_members, member}
use Rattle.serde_json.specs.Find.{get, as_bool, as_number, as_i64, as_str, as_array, as_object}

abbrev pub list_of : Items → List Data
list_of no_items = []
list_of (item d ds) = d ∷ list_of ds

abbrev pub keys_of : Members → List (List ℕ)
keys_of no_members = []
keys_of (member k d ms) = k ∷ keys_of ms

-- whether the value is an object with no keys except these
abbrev pub is_object_with : List (List ℕ) → Data → Bool
is_object_with keys d =
    option_map_or (λ ms. list_all (λ k. list_any (bytes_eq k) keys) (keys_of ms)) (as_object d) false

-- the number, if it is an i64
abbrev pub as_whole : Data → Option ℤ
as_whole d = option_and_then (λ z. if is_i64 z then Some z else None) (option_and_then as_i64 (as_number d))

-- the entries of an array
abbrev pub as_list : Data → Option (List Data)
as_list d = option_map list_of (as_array d)

-- the text under a key
abbrev pub text_at : List ℕ → Data → Option (List ℕ)
text_at key d = option_and_then as_str (get key d)

-- the truth value under a key
abbrev pub bool_at : List ℕ → Data → Option Bool
bool_at key d = option_and_then as_bool (get key d)

-- the truth value under a key; an absent one is false
abbrev pub optional_bool_at : List ℕ → Data → Option Bool
optional_bool_at key d = option_map_or as_bool (get key d) (Some false)

-- the list under a key
abbrev pub required_list_at : List ℕ → Data → Option (List Data)
required_list_at key d = option_and_then as_list (get key d)

-- the list under a key; an absent one is empty
abbrev pub list_at : List ℕ → Data → Option (List Data)
list_at key d = option_map_or as_list (get key d) (Some [])

-- the text under a key; an absent one is Some None
abbrev pub optional_text_at : List ℕ → Data → Option (Option (List ℕ))
optional_text_at key d = option_map_or (λ found. option_map (λ t. Some t) (as_str found)) (get key d) (Some None)
