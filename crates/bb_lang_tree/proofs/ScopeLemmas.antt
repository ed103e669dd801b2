-- The names in scope, as the code keeps them.
use Rattle.std.proofs.Common.{◌≡◌, ℕ, zero, suc, ◌≤◌, Bool, true, false, cond, List, [], ◌∷◌, ◌++◌, take, map, refl, sym, ap, subst, ◌∙◌, arith}
use Rattle.std.specs.Prelude.{◌||◌, String, string_bytes}
use Rattle.std.specs.List.{list_any}
use Rattle.std.specs.Str.{bytes_eq}
use Rattle.std.specs.Ordering.{nat_cmp}
use Rattle.std.specs.Cmp.Lexicographic.{slice_cmp}
use Rattle.std.specs.String.{string_cmp}
use Rattle.std.specs.BTreeSet.{BTreeSet, UpdatesBy}
use Rattle.std.proofs.lemmas.Cmp.{nat_list_eq_equiv}
use Rattle.std.proofs.lemmas.List.{map-append}
use Rattle.std.proofs.lemmas.List.Folds.{list_any-append}
use Rattle.std.proofs.lemmas.Map.Text.{btree_set_updates_text}
use Rattle.std.proofs.lemmas.Slice.Eq.{bytes_eq-Decides}
use Rattle.bb_lang_tree.specs.proving.Scopes.{AreDistinct, IsScope}

or_no : (a b : Bool) → (a || b) ≡ false → (a ≡ false) × (b ≡ false)
or_no true b h = absurd cc
or_no false b h = (refl, h)

or_last : (a b : Bool) → (a || (b || false)) ≡ (a || b)
or_last true b = refl
or_last false true = refl
or_last false false = refl

same_sym : (a b : List ℕ) → bytes_eq a b ≡ bytes_eq b a
same_sym a b = nat_list_eq_equiv.symm a b

any_last : (q : List ℕ) (names : List (List ℕ)) (name : List ℕ) → list_any (bytes_eq q) (names ++ name ∷ []) ≡ (list_any (bytes_eq q) names || bytes_eq q name)
any_last q names name = list_any-append (bytes_eq q) names (name ∷ []) ∙ or_last (list_any (bytes_eq q) names) (bytes_eq q name)

pub distinct_more : (names : List (List ℕ)) (name : List ℕ) → AreDistinct names → list_any (bytes_eq name) names ≡ false → AreDistinct (names ++ name ∷ [])
distinct_more [] name d fresh = (refl, tt)
distinct_more (x ∷ names) name d fresh =
    let parts = or_no (bytes_eq name x) (list_any (bytes_eq name) names) fresh in
    (any_last x names name ∙ ap (λ b. b || bytes_eq x name) d.0 ∙ same_sym x name ∙ parts.0, distinct_more names name d.1 parts.1)

pub distinct_less : (names : List (List ℕ)) (name : List ℕ) → AreDistinct (names ++ name ∷ []) → AreDistinct names × (list_any (bytes_eq name) names ≡ false)
distinct_less [] name d = (tt, refl)
distinct_less (x ∷ names) name d =
    let rest = distinct_less names name d.1 in
    let parts = or_no (list_any (bytes_eq x) names) (bytes_eq x name) (sym (any_last x names name) ∙ d.0) in
    ((parts.0, rest.0), ap (λ b. b || list_any (bytes_eq name) names) (same_sym name x ∙ parts.1) ∙ rest.1)

found_more : (a b : Bool) → cond b true a ≡ (a || b)
found_more true true = refl
found_more true false = refl
found_more false true = refl
found_more false false = refl

-- with one more name
pub declared : {Y : Type 0} (names : List (List ℕ)) (name : List ℕ) (found new : BTreeSet (String Y)) → IsScope names found → list_any (bytes_eq name) names ≡ false
    → UpdatesBy string_cmp (λ k. slice_cmp nat_cmp name (string_bytes k)) found new true → IsScope (names ++ name ∷ []) new
declared names name found new scope fresh updates = record {
  same = λ q. btree_set_updates_text name found new true updates q
      ∙ ap (λ a. cond (bytes_eq name q) true a) (scope.same q)
      ∙ found_more (list_any (bytes_eq q) names) (bytes_eq name q)
      ∙ ap (λ b. list_any (bytes_eq q) names || b) (same_sym name q)
      ∙ sym (any_last q names name);
  distinct = distinct_more names name scope.distinct fresh;
}

found_less : (names : List (List ℕ)) (name q : List ℕ) → list_any (bytes_eq name) names ≡ false → (b : Bool) → bytes_eq name q ≡ b → cond b false (list_any (bytes_eq q) names || b) ≡ list_any (bytes_eq q) names
found_less names name q fresh true same = sym (subst (λ n. list_any (bytes_eq n) names ≡ false) ((bytes_eq-Decides name q).0 same) fresh)
found_less names name q fresh false other = or_none (list_any (bytes_eq q) names)
  where
    or_none : (a : Bool) → (a || false) ≡ a
    or_none true = refl
    or_none false = refl

-- without the last name
pub forgotten : {Y : Type 0} (names : List (List ℕ)) (name : List ℕ) (found new : BTreeSet (String Y)) → IsScope (names ++ name ∷ []) found
    → UpdatesBy string_cmp (λ k. slice_cmp nat_cmp name (string_bytes k)) found new false → IsScope names new
forgotten names name found new scope updates =
    let rest = distinct_less names name scope.distinct in
    record {
      same = λ q. btree_set_updates_text name found new false updates q
          ∙ ap (λ a. cond (bytes_eq name q) false a) (scope.same q ∙ any_last q names name ∙ ap (λ b. list_any (bytes_eq q) names || b) (same_sym q name))
          ∙ found_less names name q rest.1 (bytes_eq name q) refl;
      distinct = rest.0;
    }

-- with one more name, of the strings that the code keeps
pub declared_strings : {Y : Type 0} (items new_items : List (String Y)) (listed key : String Y) (name : List ℕ) (found new : BTreeSet (String Y)) → IsScope (map string_bytes items) found → list_any (bytes_eq name) (map string_bytes items) ≡ false
    → string_bytes listed ≡ name → string_bytes key ≡ name → new_items ≡ items ++ listed ∷ [] → UpdatesBy string_cmp (λ k. slice_cmp nat_cmp (string_bytes key) (string_bytes k)) found new true → IsScope (map string_bytes new_items) new
declared_strings items new_items listed key name found new scope fresh said keyed more updates =
    let names : map string_bytes new_items ≡ map string_bytes items ++ name ∷ [] = ap (map string_bytes) more ∙ map-append string_bytes items (listed ∷ []) ∙ ap (λ (n : List ℕ). map string_bytes items ++ n ∷ []) said in
    subst (λ ns. IsScope ns new) (sym names)
    (declared (map string_bytes items) name found new scope fresh (subst (λ (n : List ℕ). UpdatesBy string_cmp (λ k. slice_cmp nat_cmp n (string_bytes k)) found new true) keyed updates))

pub forgotten_strings : {Y : Type 0} (items new_items : List (String Y)) (name : String Y) (bytes : List ℕ) (found new : BTreeSet (String Y)) → IsScope (map string_bytes items) found → items ≡ new_items ++ name ∷ [] → bytes ≡ string_bytes name
    → UpdatesBy string_cmp (λ k. slice_cmp nat_cmp bytes (string_bytes k)) found new false → IsScope (map string_bytes new_items) new
forgotten_strings items new_items name bytes found new scope less same updates =
    let names : map string_bytes items ≡ map string_bytes new_items ++ bytes ∷ [] = ap (map string_bytes) less ∙ map-append string_bytes new_items (name ∷ []) ∙ ap (λ (n : List ℕ). map string_bytes new_items ++ n ∷ []) (sym same) in
    forgotten (map string_bytes new_items) bytes found new (subst (λ ns. IsScope ns found) names scope) updates
