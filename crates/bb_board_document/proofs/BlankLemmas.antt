-- The values that a unit's entry gives, set in class order, make a new unit the unit that was written.
use Rattle.std.proofs.Common.{◌≡◌, ℕ, Bool, true, false, cond, ◌==◌, List, [], ◌∷◌, ◌++◌, Option, Some, None, option_map, Result, Ok, refl, sym, ap, subst, ◌∙◌, append_assoc, eq-eqb, rules}
use Rattle.std.specs.Prelude.{slice_get, option_and_then, nat_eq, IsTrue}
use Rattle.std.specs.List.{AllByRecursion, IsDistinct}
use Rattle.std.specs.Map.{keys_of}
use Rattle.std.specs.Option.{option_map_or}
use Rattle.std.specs.Ordering.{nat_cmp}
use Rattle.std.specs.FinMap.{FinMap}
use Rattle.std.proofs.lemmas.Bool.{eqb-true, eqb-false}
use Rattle.bb_basis.specs.Results.{◌>>=◌, try_fold}
use Rattle.bb_schema_form.specs.UnitsDocument.{GivenDeclaration, given_value_of, givens_of}
use Rattle.bb_schema_classes.specs.declared.class.Class.{Class}
use Rattle.bb_schema_classes.specs.declared.value.Value.{Value}
use Rattle.bb_schema_classes.specs.Inheritance.{is_among}
use Rattle.bb_schema_classes.specs.Kinds.{kind_of_value}
use Rattle.bb_schema_classes.specs.Values.{value_fits}
use Rattle.bb_schema.specs.Schema.{default_of}
use Rattle.bb_schema.specs.Fits as schemas
use Rattle.bb_units.specs.declared.unit.Unit.{Unit as OneUnit}
use Rattle.bb_units.specs.Values.{value_at}
use Rattle.bb_units.specs.Layout.{layout_of, default_at, can_hold, defaults_of}
use Rattle.bb_units.specs.Units.{value_of}
use Rattle.bb_board.specs.declared.units_fault.UnitsFault.{UnitsFault}
use Rattle.bb_board.specs.Load.{if_given, with_value, slot_after}
use Rattle.bb_board.specs.State.{World}
use Rattle.bb_board.specs.World.{after_set}
use Rattle.bb_native.specs.Sight.{Sight}
use Rattle.bb_board_document.specs.Values.{same_value, unless_same, value_data}
use Rattle.bb_board_document.specs.Document.{changed_value}
use Rattle.bb_board_document.proofs.NameLemmas.{among_tail}
use Rattle.bb_board_document.proofs.ValueLemmas.{same_decides}
use Rattle.bb_board_document.proofs.FormLemmas.{given_members}
use Rattle.bb_board_document.proofs.GivenLemmas.{all_among, among_head, class_slots, given_is}
use Rattle.bb_board_document.proofs.BackLemmas.{value_back}
use Rattle.bb_board_document.proofs.SetLemmas.{Held, lookup_after, set_after, default_is, one, HasUnit, may_be_set, set_has}

-- ---- lists of values

no_values : (vs : Held) → keys_of vs ≡ [] → vs ≡ []
no_values [] h = refl
no_values (v ∷ vs) h = absurd cc

-- values whose first key is this one
record Begins (t : ℕ) (ks : List ℕ) (vs : Held) : Type 0 where
  value : Value
  rest : Held
  is : vs ≡ (t, value) ∷ rest
  keys : keys_of rest ≡ ks

begins_with_key : (t : ℕ) (ks : List ℕ) (vs : Held) → keys_of vs ≡ t ∷ ks → Begins t ks vs
begins_with_key t ks [] h = absurd cc
begins_with_key t ks (v ∷ vs) h = let e : v.0 ≡ t = cc in record { value = v.1; rest = vs; is = ap (λ u. (u, v.1) ∷ vs) e; keys = cc }

one_held : (t : ℕ) (v : Value) (q : ℕ) → (t ≡ q → ⊥) → value_at ((t, v) ∷ []) q ≡ None
one_held t v q other = by (t == q) refl
  where
    by : (b : Bool) → (t == q) ≡ b → cond b (Some v) None ≡ None
    by true h = absurd (other (eqb-true t q h))
    by false h = refl

first_held : (t : ℕ) (v : Value) (rest : Held) → value_at ((t, v) ∷ rest) t ≡ Some v
first_held t v rest = rw (eq-eqb t t refl) refl

not_among : (t q : ℕ) (ns : List ℕ) → AllByRecursion (λ m. nat_eq t m ≡ false) ns → is_among ns q ≡ true → t ≡ q → ⊥
not_among t q ns apart among same = let e : nat_eq t q ≡ false = all_among (λ m. nat_eq t m ≡ false) ns q apart among in eqb-false t q e same

module _ (seen : Sight) (fits : schemas.Fits seen.schema) (n : ℕ) (x : OneUnit) (k : Class) (at : slice_get seen.schema.classes x.class ≡ Some k)
    (is : (slot : ℕ) → value_of seen.world.units n slot ≡ value_at x.values slot) (holds : (slot : ℕ) (value : Value) → value_at x.values slot ≡ Some value → IsTrue (can_hold (layout_of seen.schema) slot value))
    (number : ℕ) (base : FinMap nat_cmp OneUnit) where
  abbrev pub givens : List GivenDeclaration
  givens = givens_of (given_members seen n x.class)

  abbrev step : World → ℕ → Result World UnitsFault
  step = slot_after seen.schema number givens

  abbrev Has : Held → World → Type 0
  Has values y = HasUnit seen.schema x.class number base values y

  -- what is left unset of the class's slots
  abbrev unset : List ℕ → Held
  unset ss = defaults_of (layout_of seen.schema).defaults ss

  changed_none : (t : ℕ) → default_of seen.schema t ≡ None → changed_value seen n t ≡ None
  changed_none t h = ap (option_and_then (λ d. option_and_then (unless_same d) (value_of seen.world.units n t))) h

  changed_is : (t : ℕ) (d v : Value) → default_of seen.schema t ≡ Some d → value_at x.values t ≡ Some v → changed_value seen n t ≡ cond (same_value v d) None (Some v)
  changed_is t d v h held = ap (option_and_then (λ e. option_and_then (unless_same e) (value_of seen.world.units n t))) h ∙ ap (option_and_then (unless_same d)) (is t ∙ held)

  fits_default : (t : ℕ) (d v : Value) → default_of seen.schema t ≡ Some d → value_at x.values t ≡ Some v → value_fits (layout_of seen.schema).label_counts (kind_of_value d) v ≡ true
  fits_default t d v h held =
      let can = holds t v held in
      let e : can_hold (layout_of seen.schema) t v ≡ true = search (rules, can) in
      sym (ap (λ o. option_map_or (λ default. value_fits (layout_of seen.schema).label_counts (kind_of_value default) v) o false) (default_is seen.schema t ∙ h)) ∙ e

  given_step : (t : ℕ) (y : World) (o : Option Value) → is_among k.slots t ≡ true → changed_value seen n t ≡ o → step y t ≡ if_given seen.schema number y t (option_map (λ v. given_value_of (value_data seen.schema v)) o)
  unfolding slot_after
  given_step t y o among changed = ap (if_given seen.schema number y t) (given_is seen fits n x.class k at t among ∙ ap (option_map (λ v. given_value_of (value_data seen.schema v))) changed)

  set_step : (t : ℕ) (d v : Value) (values : Held) (y : World) → is_among k.slots t ≡ true → default_of seen.schema t ≡ Some d → value_at x.values t ≡ Some v → value_at values t ≡ Some d → Has values y
      → with_value seen.schema number y t (given_value_of (value_data seen.schema v)) ≡ Ok (after_set seen.schema y number t v)
  unfolding with_value
  set_step t d v values y among h held now has =
      rw (
        value_back seen.schema fits t d v h (fits_default t d v h held),
        may_be_set seen.schema x.class number base y t v d values has (ap (λ ns. is_among ns t) (class_slots seen fits n x.class k at) ∙ among) h now (fits_default t d v h held),
      ) refl

  -- one slot
  one_step : (t : ℕ) (d v : Value) (done rest : Held) (y : World) → is_among k.slots t ≡ true → default_of seen.schema t ≡ Some d → value_at x.values t ≡ Some v → value_at done t ≡ None → Has (done ++ (t, d) ∷ rest) y
      → (z : World) × (step y t ≡ Ok z) × Has (done ++ (t, v) ∷ rest) z
  one_step t d v done rest y among h held none has = by (same_value v d) refl
    where
      by : (b : Bool) → same_value v d ≡ b → (z : World) × (step y t ≡ Ok z) × Has (done ++ (t, v) ∷ rest) z
      by true same = (
        y,
        given_step t y None among (changed_is t d v h held ∙ rw same refl),
        subst (λ e. Has (done ++ (t, e) ∷ rest) y) (sym ((same_decides v d).0 same)) has,
      )
      by false other =
          let now : value_at (done ++ (t, d) ∷ rest) t ≡ Some d = lookup_after done ((t, d) ∷ rest) t none ∙ first_held t d rest in (
            after_set seen.schema y number t v,
            given_step t y (Some v) among (changed_is t d v h held ∙ rw other refl) ∙ set_step t d v (done ++ (t, d) ∷ rest) y among h held now has,
            subst (λ values. Has values (after_set seen.schema y number t v)) (set_after done t d v rest none) (set_has seen.schema x.class number base y t v (done ++ (t, d) ∷ rest) has),
          )

  abbrev Sub : List ℕ → Type 0
  Sub ss = (u : ℕ) → is_among ss u ≡ true → is_among k.slots u ≡ true

  abbrev NoneOf : List ℕ → Held → Type 0
  NoneOf ss done = (u : ℕ) → is_among ss u ≡ true → value_at done u ≡ None

  -- the rest of the walk leaves all values
  abbrev Sets : List ℕ → World → Type 0
  Sets ss y = (z : World) × (try_fold step y ss ≡ Ok z) × Has x.values z

  -- what the walk does from here on, if it may
  abbrev Rest : List ℕ → Type 0
  Rest ss = (done vs : Held) (y : World) → done ++ vs ≡ x.values → keys_of vs ≡ keys_of (unset ss) → IsDistinct nat_eq ss → NoneOf ss done → Sub ss → Has (done ++ unset ss) y → Sets ss y

  sets_with_one : (t : ℕ) (ss : List ℕ) (y y' : World) → step y t ≡ Ok y' → Sets ss y' → Sets (t ∷ ss) y
  unfolding try_fold
  sets_with_one t ss y y' one rest = (rest.0, ap (λ r. r >>= λ next. try_fold step next ss) one ∙ rest.1, rest.2)

  with_one : (t : ℕ) (ss : List ℕ) (done : Held) (v : Value) → AllByRecursion (λ m. nat_eq t m ≡ false) ss → NoneOf (t ∷ ss) done → NoneOf ss (done ++ (t, v) ∷ [])
  with_one t ss done v apart none u h = lookup_after done ((t, v) ∷ []) u (none u (among_tail t u ss h)) ∙ one_held t v u (not_among t u ss apart h)

  no_default : (t : ℕ) (ss : List ℕ) (done vs : Held) (y : World) → default_at (layout_of seen.schema).defaults t ≡ None → Rest ss → done ++ vs ≡ x.values → keys_of vs ≡ keys_of (unset (t ∷ ss)) → IsDistinct nat_eq ss → NoneOf (t ∷ ss) done → Sub (t ∷ ss) → Has (done ++ unset (t ∷ ss)) y → Sets (t ∷ ss) y
  no_default t ss done vs y h rest whole keys distinct none sub has =
      let same : unset (t ∷ ss) ≡ unset ss = rw h refl in
      sets_with_one t ss y y (given_step t y None (sub t (among_head t ss)) (changed_none t (sym (default_is seen.schema t) ∙ h)))
      (rest done vs y whole (keys ∙ ap keys_of same) distinct (λ u m. none u (among_tail t u ss m)) (λ u m. sub u (among_tail t u ss m)) (subst (λ e. Has (done ++ e) y) same has))

  a_default : (t : ℕ) (ss : List ℕ) (done vs : Held) (y : World) (d : Value) → default_at (layout_of seen.schema).defaults t ≡ Some d → Rest ss → done ++ vs ≡ x.values → keys_of vs ≡ keys_of (unset (t ∷ ss)) → AllByRecursion (λ m. nat_eq t m ≡ false) ss → IsDistinct nat_eq ss → NoneOf (t ∷ ss) done → Sub (t ∷ ss) → Has (done ++ unset (t ∷ ss)) y → Sets (t ∷ ss) y
  a_default t ss done vs y d h rest whole keys apart distinct none sub has =
      let same : unset (t ∷ ss) ≡ (t, d) ∷ unset ss = rw h refl in
      let among : is_among k.slots t ≡ true = sub t (among_head t ss) in
      let absent : value_at done t ≡ None = none t (among_head t ss) in
      let first : keys_of vs ≡ t ∷ keys_of (unset ss) = keys ∙ ap (λ (e : Held). keys_of e) same in
      let b = begins_with_key t (keys_of (unset ss)) vs first in
      let all : done ++ (t, b.value) ∷ b.rest ≡ x.values = ap (λ e. done ++ e) (sym b.is) ∙ whole in
      let held : value_at x.values t ≡ Some b.value = ap (λ e. value_at e t) (sym all) ∙ (lookup_after done ((t, b.value) ∷ b.rest) t absent ∙ first_held t b.value b.rest) in
      let z = one_step t d b.value done (unset ss) y among (sym (default_is seen.schema t) ∙ h) held absent (subst (λ e. Has (done ++ e) y) same has) in
      sets_with_one t ss y z.0 z.1
      (rest (done ++ (t, b.value) ∷ []) b.rest z.0 (append_assoc done ((t, b.value) ∷ []) b.rest ∙ all) b.keys distinct (with_one t ss done b.value apart none) (λ u m. sub u (among_tail t u ss m))
      (subst (λ e. Has e z.0) (sym (append_assoc done ((t, b.value) ∷ []) (unset ss))) z.2))

  by_default : (t : ℕ) (ss : List ℕ) (done vs : Held) (y : World) (o : Option Value) → default_at (layout_of seen.schema).defaults t ≡ o → Rest ss → done ++ vs ≡ x.values → keys_of vs ≡ keys_of (unset (t ∷ ss)) → AllByRecursion (λ m. nat_eq t m ≡ false) ss → IsDistinct nat_eq ss → NoneOf (t ∷ ss) done → Sub (t ∷ ss) → Has (done ++ unset (t ∷ ss)) y → Sets (t ∷ ss) y
  by_default t ss done vs y None h rest whole keys apart distinct none sub has = no_default t ss done vs y h rest whole keys distinct none sub has
  by_default t ss done vs y (Some d) h rest whole keys apart distinct none sub has = a_default t ss done vs y d h rest whole keys apart distinct none sub has

  -- all slots that are left
  pub set_back : (ss : List ℕ) → Rest ss
  unfolding try_fold IsDistinct
  set_back [] done vs y whole keys distinct none sub has =
      (y, refl, subst (λ values. Has values y) (ap (λ e. done ++ e) (sym (no_values vs keys)) ∙ whole) has)
  set_back (t ∷ ss) done vs y whole keys distinct none sub has =
      by_default t ss done vs y (default_at (layout_of seen.schema).defaults t) refl (set_back ss) whole keys distinct.0 distinct.1 none sub has
