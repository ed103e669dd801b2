-- The table that is made tells what a delete strikes.
use Rattle.std.proofs.Common.{◌≡◌, ◌⊎◌, inl, inr, ℕ, ◌<◌, ◌≤◌, ◌&&◌, ◌||◌, Bool, true, false, List, length, Option, Some, None, refl, sym, ap, subst, ◌∙◌, arith}
use Rattle.std.specs.Prelude.{◌==◌, slice_get, option_map, option_and_then, is_some, unwrap_or, if◌then◌else◌}
use Rattle.std.specs.List.{list_any, range_with_len}
use Rattle.std.proofs.lemmas.Bool.{or_left, or_right, eq-eqb, eqb-true, cases_lt}
use Rattle.std.proofs.lemmas.Option.{slice_get-map, slice_get_past}
use Rattle.std.proofs.lemmas.List.FromFn.{length-map-range_with_len}
use Rattle.bb_basis.proofs.BoolLemmas.{and_first, and_second, same_truth}
use Rattle.bb_basis.proofs.ClosureLemmas.{has, has_filter}
use Rattle.bb_schema_classes.specs.declared.class.Class.{Class}
use Rattle.bb_schema_classes.specs.Inheritance.{is_among}
use Rattle.bb_schema.specs.declared.slot.Slot.{Slot}
use Rattle.bb_schema.specs.Heirs.{is_owning, related_in, owned_classes, heirs_in, strikes_in}
use Rattle.bb_schema.specs.proving.Relation.{row_has, row_at, closed_by}
use Rattle.bb_schema.specs.proving.Struck.{own_row, first_row, first_rows, members, struck_row, struck_rows, struck_table, struck_at}
use Rattle.bb_schema.proofs.RelationLemmas.{IsTable, IsRow, ways, made_at, row_there, made_row_of, marked_row, made_table, closed_table, ways_begin, ways_join, ways_lead}
use Rattle.bb_schema.proofs.HeirLemmas.{AreSound, has_below, below_has, leads_within, heirs_first, heirs_closed, heirs_least, heirs_of_heir}
use Rattle.bb_schema.proofs.StrikeLemmas.{any_is_found, passes, struck_by, struck_as, strikes_related, strikes_outside, strikes_no_class}

and_both : (a b : Bool) → a ≡ true → b ≡ true → (a && b) ≡ true
and_both true b e f = f
and_both false b e f = absurd cc

either : (a b : Bool) → (a || b) ≡ true → (a ≡ true) ⊎ (b ≡ true)
either true b h = inl refl
either false b h = inr h

module _ (classes : List Class) (slots : List Slot) (sound : AreSound classes slots) where
  abbrev count : ℕ
  count = length classes

  -- a class leads to itself, and to where owning slots lead
  abbrev first : ℕ → ℕ → Bool
  first c e = (e == c) || is_among (owned_classes classes slots c) e

  -- ways are to heirs
  way_heir : (k d h : ℕ) → ways first k d h ≡ true → has (heirs_in classes slots d) h ≡ true
  way_heir k d h way =
      ways_lead first (λ m n. has (heirs_in classes slots m) n ≡ true) (λ m n step. elim (either (n == m) (is_among (owned_classes classes slots m) n) step) [
        | inl same ↦ subst (λ i. has (heirs_in classes slots m) i ≡ true) (sym (eqb-true n m same)) (heirs_first classes slots sound m)
        | inr led ↦ heirs_closed classes slots sound m m n (heirs_first classes slots sound m) led
      ]) (λ m j n to on. heirs_of_heir classes slots sound m j n to on) k d h way

  record IsWay (d h : ℕ) : Type 0 where
    pub within : h < count
    pub way : ways first count d h ≡ true

  -- and heirs have ways
  heir_way : (d h : ℕ) → d < count → has (heirs_in classes slots d) h ≡ true → IsWay d h
  heir_way d h lt there =
      heirs_least classes slots sound d (IsWay d) (record { within = lt; way = ways_begin first count d d (or_left (d == d) (is_among (owned_classes classes slots d) d) (eq-eqb d d refl)) }) (λ m e way led. record {
        within = leads_within classes slots sound m e led;
        way = ways_join first count d m e way.within way.way (ways_begin first count m e (or_right (e == m) (is_among (owned_classes classes slots m) e) led));
      }) h there

  first_is : (c : ℕ) → IsRow count (first c) (first_row count (owned_classes classes slots c) c)
  unfolding is_among
  first_is c = marked_row count (λ e. e == c) (own_row count c) (owned_classes classes slots c) (made_row_of count (λ e. e == c))

  abbrev closed : List (List Bool)
  closed = closed_by (length (first_rows classes slots)) (first_rows classes slots)

  closed_is : IsTable count (ways first count) closed
  closed_is =
      let made = made_table count first (λ c. first_row count (owned_classes classes slots c) c) first_is in
      subst (λ n. IsTable count (ways first count) (closed_by n (first_rows classes slots))) (sym made.long) (closed_table count count first (first_rows classes slots) (omega arith) made)

  abbrev heirs_of : ℕ → List ℕ
  heirs_of d = members count (row_at closed d)

  member_heir : (d h : ℕ) → d < count → has (heirs_of d) h ≡ true → has (heirs_in classes slots d) h ≡ true
  member_heir d h lt there =
      let parts = sym (has_filter (row_has (row_at closed d)) (range_with_len 0 count) h) ∙ there in
      let within = below_has count h (and_second (row_has (row_at closed d) h) (has (range_with_len 0 count) h) parts) in
      way_heir count d h (sym (closed_is.tell d h lt within) ∙ and_first (row_has (row_at closed d) h) (has (range_with_len 0 count) h) parts)

  heir_member : (d h : ℕ) → d < count → has (heirs_in classes slots d) h ≡ true → has (heirs_of d) h ≡ true
  heir_member d h lt there =
      let way = heir_way d h lt there in
      has_filter (row_has (row_at closed d)) (range_with_len 0 count) h
      ∙ and_both (row_has (row_at closed d) h) (has (range_with_len 0 count) h) (closed_is.tell d h lt way.within ∙ way.way) (has_below count h way.within)

  strikes_is_any : (d c : ℕ) → d < count → strikes_in classes slots d c ≡ list_any (related_in classes c) (heirs_of d)
  strikes_is_any d c lt =
      same_truth (strikes_in classes slots d c) (list_any (related_in classes c) (heirs_of d))
      (λ h. let f = struck_as classes slots sound d c h in passes (related_in classes c) (heirs_of d) f.one (heir_member d f.one lt f.there) f.passes)
      (λ h. let f = any_is_found (related_in classes c) (heirs_of d) h in struck_by classes slots sound d f.one c (member_heir d f.one lt f.there) f.passes)

  abbrev rows : List (List Bool)
  rows = struck_rows classes closed

  row_is : (d : ℕ) → d < count → slice_get rows d ≡ Some (struck_row classes (heirs_of d))
  row_is d lt =
      slice_get-map (λ row. struck_row classes (members count row)) closed d
      ∙ ap (option_map (λ row. struck_row classes (members count row))) (row_there closed d (omega (arith, lt, closed_is.long)))

  inside : (d c : ℕ) → d < count → c < count → struck_at (Some rows) d c ≡ Some (strikes_in classes slots d c)
  inside d c lt lt_c =
      ap (option_and_then (λ (row : List Bool). slice_get row c)) (row_is d lt)
      ∙ (made_at (λ k. list_any (related_in classes k) (heirs_of d)) count c lt_c ∙ ap (λ (b : Bool). Some b) (sym (strikes_is_any d c lt)))

  no_row : (d c : ℕ) → count ≤ d → struck_at (Some rows) d c ≡ None
  no_row d c le =
      ap (option_and_then (λ (row : List Bool). slice_get row c)) (slice_get-map (λ row. struck_row classes (members count row)) closed d
      ∙ ap (option_map (λ row. struck_row classes (members count row))) (slice_get_past closed d (omega (arith, le, closed_is.long))))

  no_number : (d c : ℕ) → d < count → count ≤ c → struck_at (Some rows) d c ≡ None
  no_number d c lt le =
      ap (option_and_then (λ (row : List Bool). slice_get row c)) (row_is d lt)
      ∙ slice_get_past (struck_row classes (heirs_of d)) c (omega (arith, le, length-map-range_with_len (λ k. list_any (related_in classes k) (heirs_of d)) 0 count))

  -- where the table has nothing, two classes strike each other if they are related
  rows_tell : (d c : ℕ) → strikes_in classes slots d c ≡ unwrap_or (struck_at (Some rows) d c) (related_in classes d c)
  rows_tell d c = elim (cases_lt d count) [
    | inl lt ↦ elim (cases_lt c count) [
      | inl lt_c ↦ sym (ap (λ (o : Option Bool). unwrap_or o (related_in classes d c)) (inside d c lt lt_c))
      | inr le ↦ strikes_no_class classes slots sound d c lt le ∙ sym (ap (λ (o : Option Bool). unwrap_or o (related_in classes d c)) (no_number d c lt le))
    ]
    | inr le ↦ strikes_outside classes slots sound d c le ∙ sym (ap (λ (o : Option Bool). unwrap_or o (related_in classes d c)) (no_row d c le))
  ]

  -- what is made tells it
  pub record IsTold (table : Option (List (List Bool))) : Type 0 where
    pub owning : is_some table ≡ list_any is_owning slots
    pub tell : (d c : ℕ) → strikes_in classes slots d c ≡ unwrap_or (struck_at table d c) (related_in classes d c)

  told_by : (b : Bool) → list_any is_owning slots ≡ b → IsTold (if b then Some rows else None)
  told_by true is = record { owning = sym is; tell = rows_tell }
  told_by false is = record { owning = sym is; tell = strikes_related classes slots sound is }

  pub table_told : IsTold (struck_table classes slots)
  unfolding struck_table
  table_told = told_by (list_any is_owning slots) refl

-- where no slot owns there is no table
pub no_table : (classes : List Class) (slots : List Slot) → list_any is_owning slots ≡ false → None ≡ struck_table classes slots
unfolding struck_table
no_table classes slots none = rw none refl

pub one_table : (classes : List Class) (slots : List Slot) (first : List (List Bool)) → list_any is_owning slots ≡ true → first ≡ first_rows classes slots
    → Some (struck_rows classes (closed_by (length first) first)) ≡ struck_table classes slots
unfolding struck_table
one_table classes slots first some is = ap (λ (rows : List (List Bool)). Some (struck_rows classes (closed_by (length rows) rows))) is ∙ rw some refl
