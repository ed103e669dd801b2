-- The quick way to the document of first units gives what `serde_json` and the form of the document give.
use Rattle.std.proofs.Common.{◌≡◌, ℕ, suc, ◌+◌, ◌<◌, ◌≤◌, true, false, List, [], ◌∷◌, length, get_or, drop, map, Option, Some, Result, Ok, String, string_bytes, string_cmp, Vec, refl, sym, ap, ◌∙◌}
use Rattle.std.specs.declared.alloc.Global.{Global}
use denote.Ref.{Bor}
use Rattle.std.specs.BTreeMap.{insert_entry}
use Rattle.std.specs.Str.{bytes_eq}
use Rattle.std.proofs.lemmas.List.{nil_from_length}
use Rattle.json.specs.Json as json
use Rattle.json.specs.Value as borrowed
use Rattle.json.specs.declared.value.Value.{Value as Borrowed, Array as borrowed-array}
use Rattle.json.proofs.Trees.{view-Array as borrowed-Array}
use Rattle.serde_json.specs.Data.{Data, Items, item, Members, put}
use Rattle.serde_json.specs.Read.{of_json, of_items, of_members}
use Rattle.serde_json.specs.View.{view, items_view, items_of, members_view}
use Rattle.serde_json.specs.declared.value.Value.{Value, Array}
use Rattle.serde_json.proofs.Views.{view-Array, members_view-insert_entry}
use Rattle.bb_basis.proofs.IntoMapLemmas.{next_one, length_drop_all}
use Rattle.bb_basis.specs.Results.{ok_or, try_map_at}
use Rattle.bb_basis.proofs.ResultLemmas.{bind_ok, ok_or_ok}
use Rattle.bb_schema_form.specs.declared.fault.DocumentFault.{DocumentFault}
use Rattle.bb_schema_form.specs.declared.fault.DocumentFault.TheVariants as faults
use Rattle.bb_schema_form.specs.declared.place.ListKey.{ListKey}
use Rattle.bb_schema_form.specs.Faults.{inside}
use Rattle.bb_schema_form.specs.Quick.{read_of, seen, entry_of, entries_of, listed}
use Rattle.bb_schema_form.proofs.ShapeLemmas.{list_of-items_of}

abbrev Member : Type 0
Member = Bor (List ℕ) × Borrowed Global

-- ---- the items of an array, the members of an object

items_made : (vs : List (Borrowed Global)) (made : List Value) → map read_of vs ≡ map seen made → of_items (borrowed.items_view vs) ≡ Some (items_view made)
items_made [] [] h = refl
items_made [] (w ∷ more) h = absurd cc
items_made (v ∷ vs) [] h = absurd cc
items_made (v ∷ vs) (w ∷ more) h =
    let first : of_json (borrowed.value_view v) ≡ Some (view w) = cc in
    let others : map read_of vs ≡ map seen more = cc in
    rw (first, items_made vs more others)

pub array_made : (vs : Vec (Borrowed Global) Global) (items : Vec Value Global) → map read_of vs.items ≡ map seen items.items → of_json (borrowed.value_view (borrowed-array vs)) ≡ Some (view (Array items))
array_made vs items h = rw (borrowed-Array vs, items_made vs.items items.items h, view-Array items)

-- one member more
pub member_made : (ms : List Member) (made : List (String Global × Value)) (i : ℕ) (m : Member) (k : String Global) (v : Value) (all : Option Members)
    → i < length ms → m ≡ get_or ms i m → string_bytes k ≡ m.0.now → of_json (borrowed.value_view m.1) ≡ Some (view v)
    → of_members (borrowed.members_view (drop i ms)) (members_view made) ≡ all
    → of_members (borrowed.members_view (drop (i + 1) ms)) (members_view (insert_entry string_cmp made k v)) ≡ all
member_made ms made i m k v all lt is named read so_far =
    let next : drop i ms ≡ m ∷ drop (i + 1) ms = next_one ms i m lt is in
    let one : of_members (borrowed.members_view (drop i ms)) (members_view made) ≡ of_members (borrowed.members_view (drop (i + 1) ms)) (put m.0.now (view v) (members_view made)) = rw (next, read) in
    ap (of_members (borrowed.members_view (drop (i + 1) ms))) (members_view-insert_entry made k v ∙ ap (λ name. put name (view v) (members_view made)) named) ∙ sym one ∙ so_far

-- ---- the entries of an array

one_item : (j : json.Json) (js : json.Items) (d : Data) (ds : Items) → of_json j ≡ Some d → of_items js ≡ Some ds → of_items (json.item j js) ≡ Some (item d ds)
one_item j js d ds first others = rw (first, others)

module _ {X E : Type 0} (form : Data → Result X DocumentFault) (declared : E → X) (at : ℕ → DocumentFault → DocumentFault) where
  one_entry : (n : ℕ) (d : Data) (ds : List Data) (y : X) (ys : List X) → form d ≡ Ok y → try_map_at at form (suc n) ds ≡ Ok ys → try_map_at at form n (d ∷ ds) ≡ Ok (y ∷ ys)
  unfolding try_map_at
  one_entry n d ds y ys first others = rw (first, others)

  each_made : (n : ℕ) (vs : List (Borrowed Global)) (es : List E) → map (entry_of form) vs ≡ map (λ e. Ok (declared e)) es
      → (ds : List Data) × (of_items (borrowed.items_view vs) ≡ Some (items_of ds)) × (try_map_at at form n ds ≡ Ok (map declared es))
  unfolding try_map_at
  each_made n [] [] h = ([], refl, refl)
  each_made n [] (e ∷ es) h = absurd cc
  each_made n (v ∷ vs) [] h = absurd cc
  each_made n (v ∷ vs) (e ∷ es) h =
      let first : entry_of form v ≡ Ok (declared e) = cc in
      let others : map (entry_of form) vs ≡ map (λ e. Ok (declared e)) es = cc in
      let one = bind_ok (ok_or (read_of v) faults.Json) form (declared e) first in
      let read : of_json (borrowed.value_view v) ≡ Some one.0 = ok_or_ok faults.Json (read_of v) one.0 one.1 in
      let rest = each_made (suc n) vs es others in
      (one.0 ∷ rest.0, one_item (borrowed.value_view v) (borrowed.items_view vs) one.0 (items_of rest.0) read rest.1, one_entry n one.0 rest.0 (declared e) (map declared es) one.2 rest.2)

pub entries_made : {X E : Type 0} (list : ListKey) (form : Data → Result X DocumentFault) (declared : E → X) (vs : Vec (Borrowed Global) Global) (es : List E) → map (entry_of form) vs.items ≡ map (λ e. Ok (declared e)) es
    → entries_of list form (borrowed.value_view (borrowed-array vs)) ≡ Ok (map declared es)
entries_made list form declared vs es h =
    let made = each_made form declared (inside list) 0 vs.items es h in
    rw (borrowed-Array vs, made.1, list_of-items_of made.0) made.2

-- ---- the lists of a document

-- a member with another key
pub listed_past : {X : Type 0} (key : List ℕ) (gives : json.Json → Result X DocumentFault) (found : X) (ms : List Member) (i : ℕ) (m : Member) (all : Result X DocumentFault) → i < length ms → m ≡ get_or ms i m → bytes_eq m.0.now key ≡ false
    → listed key gives found (borrowed.members_view (drop i ms)) ≡ all → listed key gives found (borrowed.members_view (drop (i + 1) ms)) ≡ all
unfolding listed
listed_past key gives found ms i m all lt is other so_far =
    let next : drop i ms ≡ m ∷ drop (i + 1) ms = next_one ms i m lt is in
    let one : listed key gives found (borrowed.members_view (drop i ms)) ≡ listed key gives found (borrowed.members_view (drop (i + 1) ms)) = rw (next, other) in
    sym one ∙ so_far

-- a member with the key
pub listed_next : {X : Type 0} (key : List ℕ) (gives : json.Json → Result X DocumentFault) (found more : X) (ms : List Member) (i : ℕ) (m : Member) (all : Result X DocumentFault) → i < length ms → m ≡ get_or ms i m → bytes_eq m.0.now key ≡ true
    → gives (borrowed.value_view m.1) ≡ Ok more
    → listed key gives found (borrowed.members_view (drop i ms)) ≡ all → listed key gives more (borrowed.members_view (drop (i + 1) ms)) ≡ all
unfolding listed
listed_next key gives found more ms i m all lt is same read so_far =
    let next : drop i ms ≡ m ∷ drop (i + 1) ms = next_one ms i m lt is in
    let one : listed key gives found (borrowed.members_view (drop i ms)) ≡ listed key gives more (borrowed.members_view (drop (i + 1) ms)) = rw (next, same, read) in
    sym one ∙ so_far

pub listed_end : {X : Type 0} (key : List ℕ) (gives : json.Json → Result X DocumentFault) (found : X) (ms : List Member) (i : ℕ) (all : Result X DocumentFault) → length ms ≤ i
    → listed key gives found (borrowed.members_view (drop i ms)) ≡ all → all ≡ Ok found
unfolding listed
listed_end key gives found ms i all le so_far =
    let none : drop i ms ≡ [] = nil_from_length (drop i ms) (length_drop_all ms i le) in
    let over : listed key gives found (borrowed.members_view (drop i ms)) ≡ Ok found = rw none in
    sym so_far ∙ over
