-- What spaces know of units stays true with each change.
use Rattle.std.proofs.Common.{rules, ◌≡◌, ℕ, ◌<◌, ◌⊎◌, inl, inr, Bool, true, false, cond, List, [], length, Option, Some, None, option_map, refl, sym, ap, subst, ◌∙◌, arith}
use Rattle.std.specs.Prelude.{eqb, is_some, option_and_then, slice_get, unwrap_or, IfSome, IsTrue}
use Rattle.std.specs.List.{filter_map, list_any, range_with_len}
use Rattle.std.specs.Option.{option_map_or}
use Rattle.std.specs.Ordering.{nat_cmp, eq_by_cmp}
use Rattle.std.specs.Cmp.{nat_cmp_total}
use Rattle.std.specs.FinMap.{empty, get, insert, get-empty, get-insert, get-remove}
use Rattle.std.proofs.lemmas.List.{length-map}
use Rattle.std.proofs.lemmas.Option.{slice_get-map}
use Rattle.bb_basis.proofs.NumberLemmas.{eq_by_cmp_same}
use Rattle.bb_schema_classes.specs.declared.value.Value.{Value}
use Rattle.bb_schema.specs.declared.space.Space.{Space}
use Rattle.bb_schema.specs.Schema.{Schema, slot_named, dims_of}
use Rattle.bb_schema.specs.Spaces.{allowed}
use Rattle.bb_units.specs.declared.unit.Unit.{Unit}
use Rattle.bb_units.specs.Fits as units
use Rattle.bb_units.specs.Values.{value_at}
use Rattle.bb_units.specs.Units.{Units, is_live, class_of, new_unit, with_slot, after_create, after_delete, after_set}
use Rattle.bb_pattern.specs.declared.value.DimValue.{DimValue}
use Rattle.bb_pattern.specs.Values.{dim_value_of}
use Rattle.bb_space.specs.Spaces.{Membership, Spaces, values_in, is_member, no_spaces, entered, left, after_enter, after_leave, after_forget}
use Rattle.bb_query.specs.PresentValues.{present_values}
use Rattle.bb_query.specs.Knows.{Knows}
use Rattle.bb_space.specs.Spaces.{spaces_of}
use Rattle.bb_board.specs.Told.{values_for, told_again}
use Rattle.bb_board.proofs.ClassLemmas.{same_class_of}
use Rattle.bb_board.proofs.MemberLemmas.{changed_length, from_enter, from_leave, from_forget, moves_length, moves_other, moves_none, moves_told, among_filter, among_range, member_within}

abbrev held : Option Membership → Membership
held o = option_map_or (λ m. m) o empty

-- without members there is nothing to know
no_member_by : (o : Option Space) (n : ℕ) → get (held (option_map (λ _. empty) o)) n ≡ None
no_member_by None n = get-empty {X = List DimValue} nat_cmp n
no_member_by (Some p) n = get-empty {X = List DimValue} nat_cmp n

no_member : (s : Schema) (q n : ℕ) (v : List DimValue) → values_in (no_spaces s) q n ≡ Some v → None ≡ Some v
no_member s q n v is = sym (ap (λ o. get (held o) n) (slice_get-map (λ (p : Space). empty) s.spaces q) ∙ no_member_by (slice_get s.spaces q) n) ∙ is

pub knows_none : (s : Schema) (u : Units) → Knows s u (no_spaces s)
knows_none s u = record {
  spaces = length-map s.spaces (λ (p : Space). empty);
  live = λ q n v is. absurd (let e = no_member s q n v is in cc);
  admitted = λ q n v is. absurd (let e = no_member s q n v is in cc);
  told = λ q n v is. absurd (let e = no_member s q n v is in cc);
}

abbrev IsAdmitted : Schema → ℕ → Option ℕ → Type 0
IsAdmitted s q class = IfSome class (λ c. IsTrue (allowed s q c))

module _ (s : Schema) (u : Units) (t : Spaces) (knows : Knows s u t) where
  -- what a unit has on the dimensions of a space
  abbrev values_by : Option Unit → ℕ → ℕ → List DimValue
  values_by o q n = option_map_or (λ class. filter_map (λ d. option_and_then (λ slot. option_and_then dim_value_of (option_and_then (λ y. value_at y.values slot) o)) (slot_named s class d.name)) (dims_of s q)) (option_map (λ y. y.class) o) []

  -- members that were members, and whose units are as they were
  knows_same : (v : Units) (x : Spaces) → length x.spaces ≡ length t.spaces
      → ((q n : ℕ) (values : List DimValue) → values_in x q n ≡ Some values → (values_in t q n ≡ Some values) × (get v.units n ≡ get u.units n)) → Knows s v x
  knows_same v x long was = record {
    spaces = long ∙ knows.spaces;
    live = λ q n values is. let p = was q n values is in ap is_some p.1 ∙ knows.live q n values p.0;
    admitted = λ q n values is. let p = was q n values is in subst (λ o. IsAdmitted s q (option_map (λ (y : Unit). y.class) o)) (sym p.1) (knows.admitted q n values p.0);
    told = λ q n values is. let p = was q n values is in knows.told q n values p.0 ∙ ap (λ o. values_by o q n) (sym p.1);
  }

  -- a unit more
  other_number : (n k : ℕ) (b : Bool) → eq_by_cmp nat_cmp n k ≡ b → n < k → b ≡ false
  other_number n k true same lt = absurd (let e = eq_by_cmp_same n k same in omega (arith, e, lt))
  other_number n k false other lt = refl

  pub knows_created : (class : ℕ) → units.Fits u → Knows s (after_create u class) t
  knows_created class fits = knows_same (after_create u class) t refl (λ q n values is. (
    is,
    get-insert nat_cmp_total u.units u.next (new_unit u.layout class) n
        ∙ ap (λ b. cond b (Some (new_unit u.layout class)) (get u.units n)) (other_number n u.next (eq_by_cmp nat_cmp n u.next) refl (fits.numbers n (knows.live q n values is)).1),
  ))

  -- a unit less, and out of all spaces
  pub knows_deleted : (n : ℕ) → Knows s (after_delete u n) (after_forget t n)
  knows_deleted n = knows_same (after_delete u n) (after_forget t n) (length-map t.spaces (left n)) (λ q k values is.
      let p = from_forget n t q k values is in (p.0, get-remove nat_cmp_total u.units n k ∙ ap (λ b. cond b None (get u.units k)) p.1))

  -- a unit out of a space
  pub knows_left : (n space : ℕ) → Knows s u (after_leave t space n)
  knows_left n space = knows_same u (after_leave t space n) (changed_length (left n) t space) (λ q k values is. (from_leave n t space q k values is, refl))

  -- a unit in a space that admits it
  admitted_at : (space : ℕ) (class : Option ℕ) → allowed s space (unwrap_or class 0) ≡ true → IsAdmitted s space class
  admitted_at space None may = tt
  admitted_at space (Some c) may = search (rules, may)

  module _ (n space : ℕ) (live : is_live u n ≡ true) (may : allowed s space (unwrap_or (class_of u n) 0) ≡ true) where
    abbrev new : List DimValue
    new = present_values s u n space

    abbrev Came : ℕ → ℕ → List DimValue → Type 0
    Came q k v = (values_in t q k ≡ Some v) ⊎ ((q ≡ space) × (k ≡ n) × (new ≡ v))

    live_by : (q k : ℕ) (v : List DimValue) → Came q k v → is_live u k ≡ true
    live_by q k v (inl was) = knows.live q k v was
    live_by q k v (inr e) = ap (is_live u) e.1 ∙ live

    admitted_by : (q k : ℕ) (v : List DimValue) → Came q k v → IsAdmitted s q (class_of u k)
    admitted_by q k v (inl was) = knows.admitted q k v was
    admitted_by q k v (inr e) = subst (λ y. IsAdmitted s y (class_of u k)) (sym e.0) (subst (λ y. IsAdmitted s space (class_of u y)) (sym e.1) (admitted_at space (class_of u n) may))

    told_by : (q k : ℕ) (v : List DimValue) → Came q k v → v ≡ present_values s u k q
    told_by q k v (inl was) = knows.told q k v was
    told_by q k v (inr e) = sym e.2 ∙ (ap (λ y. present_values s u n y) (sym e.0) ∙ ap (λ y. present_values s u y q) (sym e.1))

    pub knows_entered : Knows s u (after_enter t space n new)
    knows_entered = record {
      spaces = changed_length (entered n new) t space ∙ knows.spaces;
      live = λ q k v is. live_by q k v (from_enter n new t space q k v is);
      admitted = λ q k v is. admitted_by q k v (from_enter n new t space q k v is);
      told = λ q k v is. told_by q k v (from_enter n new t space q k v is);
    }

  -- a unit that has another value, and was told again
  some_class : (o : Option Unit) → is_some (option_map (λ y. y.class) o) ≡ is_some o
  some_class None = refl
  some_class (Some y) = refl

  module _ (n slot : ℕ) (value : Value) where
    abbrev set : Units
    set = after_set u n slot value

    other_by : (k : ℕ) (o : Option Unit) → eq_by_cmp nat_cmp k n ≡ false → get (option_map_or (λ y. insert u.units n (with_slot y slot value)) o u.units) k ≡ get u.units k
    other_by k None other = refl
    other_by k (Some y) other = get-insert nat_cmp_total u.units n (with_slot y slot value) k ∙ ap (λ b. cond b (Some (with_slot y slot value)) (get u.units k)) other

    other_same : (k : ℕ) → eq_by_cmp nat_cmp k n ≡ false → get set.units k ≡ get u.units k
    other_same k other = other_by k (get u.units n) other

    live_set : (k : ℕ) → is_live u k ≡ true → is_live set k ≡ true
    live_set k live = sym (some_class (get set.units k)) ∙ (ap is_some (same_class_of u n slot k value) ∙ (some_class (get u.units k) ∙ live))

    abbrev again : Spaces
    again = told_again s set t n

    among : (q : ℕ) (v : List DimValue) → values_in t q n ≡ Some v → list_any (λ y. eqb y q) (spaces_of t n) ≡ true
    among q v there = among_filter (λ space. is_member t space n) q (range_with_len 0 (length t.spaces)) (ap is_some there) (among_range (length t.spaces) 0 q (omega arith) (omega (arith, member_within t q n v there)))

    -- of the unit itself
    own_by : (q : ℕ) (v : List DimValue) (o : Option (List DimValue)) → values_in t q n ≡ o → values_in again q n ≡ Some v → (is_some o ≡ true) × (v ≡ present_values s set n q)
    own_by q v None was is = absurd (let e : None ≡ Some v = sym (moves_none n (values_for s set n (spaces_of t n)) t q was) ∙ is in cc)
    own_by q v (Some old) was is =
        let e : Some v ≡ Some (present_values s set n q) = sym is ∙ moves_told n (λ space. present_values s set n space) (spaces_of t n) q t old was (inl (among q old was)) in
        (refl, (let same : v ≡ present_values s set n q = cc in same))

    own : (q : ℕ) (v : List DimValue) → values_in again q n ≡ Some v → (is_some (values_in t q n) ≡ true) × (v ≡ present_values s set n q)
    own q v is = own_by q v (values_in t q n) refl is

    -- who is a member was one, and has what it should
    abbrev Stays : ℕ → ℕ → List DimValue → Type 0
    Stays q k v = (old : List DimValue) × (values_in t q k ≡ Some old) × (v ≡ present_values s set k q)

    some_old : (q k : ℕ) (v : List DimValue) (o : Option (List DimValue)) → values_in t q k ≡ o → is_some o ≡ true → v ≡ present_values s set k q → Stays q k v
    some_old q k v None was there is = absurd cc
    some_old q k v (Some old) was there is = (old, was, is)

    stays_by : (q k : ℕ) (v : List DimValue) (b : Bool) → eq_by_cmp nat_cmp k n ≡ b → values_in again q k ≡ Some v → Stays q k v
    stays_by q k v true same is =
        let e = eq_by_cmp_same k n same in
        subst (λ y. values_in again q y ≡ Some v → Stays q y v) (sym e) (λ here. some_old q n v (values_in t q n) refl (own q v here).0 (own q v here).1) is
    stays_by q k v false other is =
        let was = sym (moves_other n (values_for s set n (spaces_of t n)) t q k other) ∙ is in
        (v, was, knows.told q k v was ∙ ap (λ o. values_by o q k) (sym (other_same k other)))

    values_stay : (q k : ℕ) (v : List DimValue) → values_in again q k ≡ Some v → Stays q k v
    values_stay q k v is = stays_by q k v (eq_by_cmp nat_cmp k n) refl is

    pub knows_set : Knows s set again
    knows_set = record {
      spaces = moves_length n (values_for s set n (spaces_of t n)) t ∙ knows.spaces;
      live = λ q k v is. let p = values_stay q k v is in live_set k (knows.live q k p.0 p.1);
      admitted = λ q k v is. let p = values_stay q k v is in subst (λ o. IsAdmitted s q o) (sym (same_class_of u n slot k value)) (knows.admitted q k p.0 p.1);
      told = λ q k v is. (values_stay q k v is).2;
    }
