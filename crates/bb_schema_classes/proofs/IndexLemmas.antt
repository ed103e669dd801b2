-- An index of texts by name, a text at a time, and what is found by it.
use Rattle.std.proofs.Common.{◌≡◌, ℕ, zero, suc, ◌+◌, ◌<◌, ◌≤◌, ◌||◌, Bool, true, false, cond, List, [], ◌∷◌, ◌++◌, length, map, Option, Some, None, Bor, refl, ap, sym, subst, ◌∙◌, arith, get_or, take}
use Rattle.std.specs.Prelude.{slice_get, option_map, option_and_then, is_some, find}
use Rattle.std.specs.BTreeMap.{BTreeMap, UpdatesBy}
use Rattle.std.specs.Cmp.Lexicographic.{slice_cmp, bytes_decides}
use Rattle.std.specs.Ordering.{nat_cmp}
use Rattle.std.specs.List.{list_any}
use Rattle.std.specs.Str.{bytes_eq}
use Rattle.std.proofs.lemmas.Bool.{false_from_ne_true}
use Rattle.std.proofs.lemmas.List.{take_more, length-take-le}
use Rattle.std.proofs.lemmas.Map.Text.{btree_map_updates_str}
use Rattle.bb_schema_classes.specs.LinkReading.{first_named}
use Rattle.bb_schema_classes.specs.proving.Entries.{indexed_place, IsIndex}
use Rattle.bb_basis.proofs.PositionLemmas.{spot, position_spot, or_last, spot_snoc}

at_twice : (texts : List (List ℕ)) (q x : List ℕ) (o : Option ℕ) → spot (bytes_eq q) texts ≡ o
    → (spot (bytes_eq x) texts ≡ None → ⊥) → o ≡ or_last o (bytes_eq q x) (length texts)
at_twice texts q x (Some n) at there = refl
at_twice texts q x None at there =
    let other : bytes_eq q x ≡ false = false_from_ne_true (bytes_eq q x) (λ same. there (ap (λ n. spot (bytes_eq n) texts) (sym ((bytes_decides q x).0 same)) ∙ at)) in
    rw other refl

is_there : {X : Type 0} (o : Option X) → is_some o ≡ true → o ≡ None → ⊥
is_there None there none = absurd cc
is_there (Some x) there none = absurd cc

is_absent : {X : Type 0} (o : Option X) → is_some o ≡ false → o ≡ None
is_absent None gone = refl
is_absent (Some x) gone = absurd cc

-- a name that is there is not kept again
pub indexed_twice : (places : BTreeMap (Bor (List ℕ)) ℕ) (texts : List (List ℕ)) (x : List ℕ)
    → is_some (indexed_place places x) ≡ true → IsIndex places texts → IsIndex places (texts ++ x ∷ [])
indexed_twice places texts x there index = record {
  first = λ q. index.first q ∙ (position_spot (bytes_eq q) texts
      ∙ (at_twice texts q x (spot (bytes_eq q) texts) refl (λ none. is_there (indexed_place places x) there (index.first x ∙ (position_spot (bytes_eq x) texts ∙ none)))
      ∙ (sym (spot_snoc (bytes_eq q) texts x) ∙ sym (position_spot (bytes_eq q) (texts ++ x ∷ [])))));
}

at_new : (texts : List (List ℕ)) (q x : List ℕ) (i : ℕ) (b : Bool) → bytes_eq x q ≡ b → i ≡ length texts
    → spot (bytes_eq x) texts ≡ None → cond b (Some i) (spot (bytes_eq q) texts) ≡ or_last (spot (bytes_eq q) texts)
    (bytes_eq q x) (length texts)
at_new texts q x i true same end gone =
    let e : x ≡ q = (bytes_decides x q).0 same in
    subst (λ y. cond true (Some i) (spot (bytes_eq y) texts) ≡ or_last (spot (bytes_eq y) texts) (bytes_eq y x) (length texts)) e
    (rw (gone, (bytes_decides x x).1 refl, end) refl)
at_new texts q x i false other end gone =
    let back : bytes_eq q x ≡ false = false_from_ne_true (bytes_eq q x) (λ same. let f : bytes_eq x q ≡ true = (bytes_decides x q).1 (sym ((bytes_decides q x).0 same)) in absurd cc) in
    rw back (stays (spot (bytes_eq q) texts) (length texts))
  where
    stays : (o : Option ℕ) (n : ℕ) → o ≡ or_last o false n
    stays None n = refl
    stays (Some k) n = refl

-- a new name is kept with its place
pub indexed_new : (old new : BTreeMap (Bor (List ℕ)) ℕ) (texts : List (List ℕ)) (i : ℕ) (x : List ℕ)
    → UpdatesBy (λ a b. slice_cmp nat_cmp a.now b.now) (λ k. slice_cmp nat_cmp x k.now) old new (Some i)
    → is_some (indexed_place old x) ≡ false → i ≡ length texts → IsIndex old texts → IsIndex new (texts ++ x ∷ [])
indexed_new old new texts i x updates gone end index = record {
  first = λ q. btree_map_updates_str x old new (Some i) updates q
      ∙ (ap (cond (bytes_eq x q) (Some i)) (index.first q ∙ position_spot (bytes_eq q) texts)
      ∙ (at_new texts q x i (bytes_eq x q) refl end (sym (position_spot (bytes_eq x) texts) ∙ (sym (index.first x) ∙ is_absent (indexed_place old x) gone))
      ∙ (sym (spot_snoc (bytes_eq q) texts x) ∙ sym (position_spot (bytes_eq q) (texts ++ x ∷ [])))));
}

-- a turn of the loop that makes the index
pub index_next : (old new : BTreeMap (Bor (List ℕ)) ℕ) (texts : List (List ℕ)) (i : ℕ) (x : List ℕ) → i < length texts
    → get_or texts i x ≡ x
    → ((some : List (List ℕ)) → i ≡ length some → IsIndex old some → IsIndex new (some ++ x ∷ []))
    → IsIndex old (take i texts) → IsIndex new (take (i + 1) texts)
index_next old new texts i x lt at keeps index =
    let long : i ≡ length (take i texts) = sym (length-take-le i texts (let le : i ≤ length texts = omega arith in le)) in
    subst (IsIndex new) (sym (take_more texts i x lt ∙ ap (λ t. take i texts ++ t ∷ []) at)) (keeps (take i texts) long index)

-- the first of a name is at the first place of the name
at_front : {X : Type 0} (x : X) (xs : List X) (b : Bool) (o : Option ℕ) (rest : Option X)
    → rest ≡ option_and_then (slice_get xs) o → cond b (Some x) rest ≡ option_and_then (slice_get (x ∷ xs))
    (cond b (Some 0) (option_map suc o))
at_front x xs true o rest h = refl
at_front x xs false None rest h = h
at_front x xs false (Some i) rest h = h

pub named_at : {X : Type 0} (name_of : X → List ℕ) (name : List ℕ) (xs : List X)
    → first_named name_of name xs ≡ option_and_then (slice_get xs) (spot (bytes_eq name) (map name_of xs))
unfolding first_named
named_at name_of name [] = refl
named_at name_of name (x ∷ xs) = at_front x xs (bytes_eq name (name_of x)) (spot (bytes_eq name) (map name_of xs)) (find (λ y. bytes_eq name (name_of y)) xs) (named_at name_of name xs)

slice_get-seen : {X Y : Type 0} (view : X → Y) (xs : List X) (i : ℕ)
    → slice_get (map view xs) i ≡ option_map view (slice_get xs i)
slice_get-seen view [] i = refl
slice_get-seen view (x ∷ xs) zero = refl
slice_get-seen view (x ∷ xs) (suc i) = slice_get-seen view xs i

seen_at : {X Y : Type 0} (view : X → Y) (xs : List X) (o : Option ℕ)
    → option_and_then (slice_get (map view xs)) o ≡ option_map view (option_and_then (slice_get xs) o)
seen_at view xs None = refl
seen_at view xs (Some i) = slice_get-seen view xs i

-- the first of a name, by the index
pub named_by : {X Y : Type 0} (view : X → Y) (name_of : Y → List ℕ) (xs : List X) (places : BTreeMap (Bor (List ℕ)) ℕ)
    (name : List ℕ) (o : Option ℕ) → IsIndex places (map name_of (map view xs)) → o ≡ indexed_place places name
    → option_map view (option_and_then (slice_get xs) o) ≡ first_named name_of name (map view xs)
named_by view name_of xs places name o index at =
    let place : o ≡ spot (bytes_eq name) (map name_of (map view xs)) = at ∙ (index.first name ∙ position_spot (bytes_eq name) (map name_of (map view xs))) in
    sym (seen_at view xs o) ∙ (ap (option_and_then (slice_get (map view xs))) place ∙ sym (named_at name_of name (map view xs)))

-- the first of a name, by the index, where the items are seen as they are
pub named_in : {X : Type 0} (name_of : X → List ℕ) (xs : List X) (places : BTreeMap (Bor (List ℕ)) ℕ) (name : List ℕ)
    (o : Option ℕ) → IsIndex places (map name_of xs) → o ≡ indexed_place places name
    → option_and_then (slice_get xs) o ≡ first_named name_of name xs
named_in name_of xs places name o index at =
    ap (option_and_then (slice_get xs)) (at ∙ (index.first name ∙ position_spot (bytes_eq name) (map name_of xs))) ∙ sym (named_at name_of name xs)

any_below : (t : Bool) (o : Option ℕ) (b : Bool) → is_some o ≡ b
    → is_some (cond t (Some 0) (option_map suc o)) ≡ (t || b)
any_below true o b h = refl
any_below false None b h = h
any_below false (Some i) b h = h

pub any_spot : {X : Type 0} (p : X → Bool) (xs : List X) → is_some (spot p xs) ≡ list_any p xs
any_spot p [] = refl
any_spot p (x ∷ xs) = any_below (p x) (spot p xs) (list_any p xs) (any_spot p xs)

-- whether a name is there, by the index
pub indexed_any : (places : BTreeMap (Bor (List ℕ)) ℕ) (texts : List (List ℕ)) (name : List ℕ) → IsIndex places texts
    → is_some (indexed_place places name) ≡ list_any (bytes_eq name) texts
indexed_any places texts name index = ap is_some (index.first name ∙ position_spot (bytes_eq name) texts) ∙ any_spot (bytes_eq name) texts

-- what is behind a reference, and what that declares
pub seen_through : {R X Y : Type 0} (now : R → X) (view : X → Y) (o : Option R)
    → option_map (λ r. view (now r)) o ≡ option_map view (option_map now o)
seen_through now view None = refl
seen_through now view (Some r) = refl
