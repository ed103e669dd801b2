-- What a unit's entry gives for its slots: for each slot of its class the value, if it isn't the default.
use Rattle.std.proofs.Common.{◌≡◌, ℕ, zero, suc, ◌<◌, ◌⊎◌, inl, inr, Bool, true, false, cond, ◌||◌, ◌==◌, List, [], ◌∷◌, Option, Some, None, option_map, Ordering, Less, Equal, Greater, length, refl, sym, ap, subst, ◌∙◌, arith, eq-eqb}
use Rattle.std.specs.Prelude.{find, slice_get, option_and_then, unwrap_or, is_some}
use Rattle.std.specs.List.{AllByRecursion, fold, list_all, list_any}
use Rattle.std.specs.Option.{option_map_or}
use Rattle.std.specs.Ordering.{nat_cmp, match_ordering, is_eq}
use Rattle.std.specs.Cmp.Lexicographic.{slice_cmp}
use Rattle.std.specs.Str.{bytes_eq}
use Rattle.std.proofs.lemmas.Bool.{and_from, and_parts, eqb-true, eqb-false, or_left}
use Rattle.std.proofs.lemmas.List.Elements.{recursion_from_All}
use Rattle.std.proofs.lemmas.Option.{slice_get_within}
use Rattle.std.proofs.lemmas.Map.Text.{is_eq-slice_cmp}
use Rattle.serde_json.specs.Data.{Data, Members, no_members, member, put}
use Rattle.serde_json.specs.Find.{get_member}
use Rattle.serde_json.proofs.Views.{get_member-put, get_member-put_other}
use Rattle.bb_schema_form.specs.UnitsDocument.{GivenDeclaration, given_value_of, givens_of}
use Rattle.bb_schema_classes.specs.declared.value.Value.{Value}
use Rattle.bb_schema_classes.specs.declared.class.Class.{Class}
use Rattle.bb_schema_classes.specs.Fits.{IsClass}
use Rattle.bb_schema_classes.specs.Inheritance.{is_among}
use Rattle.bb_schema.specs.declared.slot.Slot.{Slot}
use Rattle.bb_schema.specs.Schema.{slots_of, slot_named, name_of_slot, default_of}
use Rattle.bb_schema.specs.Fits as schemas
use Rattle.bb_board.specs.Load.{is_ordinary_in, are_slots, given_for, given_at}
use Rattle.bb_native.specs.Sight.{Sight}
use Rattle.bb_board_document.specs.Values.{value_data}
use Rattle.bb_board_document.specs.Document.{changed_value, with_given}
use Rattle.bb_board_document.proofs.NameLemmas.{all_at, among_tail, slot_back}
use Rattle.bb_board_document.proofs.FormLemmas.{given_members}

-- ---- a member by its key, and what it is given for

found_by : (o : Ordering) (b : Bool) (d : Data) (rest : Option Data) (seen : Option GivenDeclaration) (k : List ℕ) → is_eq o ≡ b → option_map (λ g. g.value) seen ≡ option_map given_value_of rest
    → option_map (λ (g : GivenDeclaration). g.value) (cond b (Some (record { slot = k; value = given_value_of d })) seen) ≡ option_map given_value_of (match_ordering o rest (Some d) rest)
found_by Less false d rest seen k is same = same
found_by Less true d rest seen k is same = absurd cc
found_by Equal true d rest seen k is same = refl
found_by Equal false d rest seen k is same = absurd cc
found_by Greater false d rest seen k is same = same
found_by Greater true d rest seen k is same = absurd cc

given_member : (name : List ℕ) (ms : Members) → given_for name (givens_of ms) ≡ option_map given_value_of (get_member name ms)
unfolding given_for
given_member name no_members = refl
given_member name (member k d ms) =
    found_by (slice_cmp nat_cmp name k) (bytes_eq name k) d (get_member name ms) (find (λ g. bytes_eq name g.slot) (givens_of ms)) k (is_eq-slice_cmp name k) (given_member name ms)

-- ---- a test that all keys pass

abbrev each_key : (List ℕ → Bool) → Members → Bool
each_key p ms = list_all (λ (g : GivenDeclaration). p g.slot) (givens_of ms)

put_keys : (p : List ℕ → Bool) (k : List ℕ) (d : Data) (ms : Members) → p k ≡ true → each_key p ms ≡ true → each_key p (put k d ms) ≡ true
put_keys p k d no_members one all = and_from (p k) true one refl
put_keys p k d (member l e ms) one all = by (slice_cmp nat_cmp k l) (put_keys p k d ms one (and_parts (p l) (each_key p ms) all).1)
  where
    parts : (p l ≡ true) × (each_key p ms ≡ true)
    parts = and_parts (p l) (each_key p ms) all

    by : (o : Ordering) → each_key p (put k d ms) ≡ true → each_key p (match_ordering o (member k d (member l e ms)) (member l d ms) (member l e (put k d ms))) ≡ true
    by Less rest = and_from (p k) (each_key p (member l e ms)) one all
    by Equal rest = all
    by Greater rest = and_from (p l) (each_key p (put k d ms)) parts.0 rest

-- ---- slots of a class

among_none : (n : ℕ) → is_among [] n ≡ true → ⊥
unfolding is_among
among_none n is = absurd cc

pub among_head : (n : ℕ) (ns : List ℕ) → is_among (n ∷ ns) n ≡ true
unfolding is_among
among_head n ns = or_left (n == n) (list_any (λ d. d == n) ns) (eq-eqb n n refl)

among_cases : (n m : ℕ) (ns : List ℕ) → is_among (n ∷ ns) m ≡ true → (n ≡ m) ⊎ (is_among ns m ≡ true)
unfolding is_among
among_cases n m ns is = by (n == m) refl is
  where
    by : (b : Bool) → (n == m) ≡ b → (b || list_any (λ d. d == m) ns) ≡ true → (n ≡ m) ⊎ (list_any (λ d. d == m) ns ≡ true)
    by true h there = inl (eqb-true n m h)
    by false h there = inr there

pub at_within : {X : Type 0} (xs : List X) (i : ℕ) → i < length xs → (x : X) × (slice_get xs i ≡ Some x)
at_within [] i lt = absurd (omega (arith, lt))
at_within (x ∷ xs) zero lt = (x, refl)
at_within (x ∷ xs) (suc i) lt = at_within xs i (omega (arith, lt))

pub all_among : (P : ℕ → Type 0) (ns : List ℕ) (n : ℕ) → AllByRecursion P ns → is_among ns n ≡ true → P n
all_among P [] n all is = absurd (among_none n is)
all_among P (m ∷ ms) n all is = elim (among_cases m n ms is) [
  | inl same ↦ subst P same all.0
  | inr more ↦ all_among P ms n all.1 more
]

module _ (seen : Sight) (fits : schemas.Fits seen.schema) (n c : ℕ) (k : Class) (at : slice_get seen.schema.classes c ≡ Some k) where
  pub class_slots : slots_of seen.schema c ≡ k.slots
  class_slots = ap (λ o. option_map_or (λ (x : Class). x.slots) o []) at

  pub fits_class : IsClass (length seen.schema.slots) k
  fits_class = all_at (IsClass (length seen.schema.slots)) seen.schema.classes c k (recursion_from_All (IsClass (length seen.schema.slots)) seen.schema.classes fits.classes) at

  -- each slot of the class is there
  pub slot_there : (slot : ℕ) → is_among k.slots slot ≡ true → (t : Slot) × (slice_get seen.schema.slots slot ≡ Some t)
  slot_there slot among = at_within seen.schema.slots slot (all_among (λ m. m < length seen.schema.slots) k.slots slot (recursion_from_All (λ m. m < length seen.schema.slots) k.slots fits_class.slots) among)

  class_within : c < length seen.schema.classes
  class_within = slice_get_within seen.schema.classes c k at

  abbrev name_at : (slot : ℕ) → List ℕ
  name_at slot = unwrap_or (name_of_slot seen.schema slot) []

  name_is : (slot : ℕ) (t : Slot) → slice_get seen.schema.slots slot ≡ Some t → name_at slot ≡ t.name
  name_is slot t there = ap (λ o. unwrap_or (option_map (λ (x : Slot). x.name) o) []) there

  slot_of_its_name : (slot : ℕ) → is_among k.slots slot ≡ true → slot_named seen.schema c (name_at slot) ≡ Some slot
  slot_of_its_name slot among =
      let t = slot_there slot among in
      ap (slot_named seen.schema c) (name_is slot t.0 t.1)
      ∙ slot_back seen.schema fits c slot t.0 class_within (ap (λ ns. is_among ns slot) class_slots ∙ among) t.1

  -- two slots of the class with one name are one
  same_name : (u slot : ℕ) → is_among k.slots u ≡ true → is_among k.slots slot ≡ true → name_at slot ≡ name_at u → u ≡ slot
  same_name u slot one other same =
      let e : Some u ≡ Some slot = sym (slot_of_its_name u one) ∙ (ap (slot_named seen.schema c) (sym same) ∙ slot_of_its_name slot other) in cc

  -- ---- each value is for an ordinary slot

  default_there : (o : Option Value) (f : Value → Option Value) (v : Value) → option_and_then f o ≡ Some v → is_some o ≡ true
  default_there None f v is = absurd cc
  default_there (Some d) f v is = refl

  ordinary_by : (u : ℕ) (ms : Members) (o : Option Value) → is_among k.slots u ≡ true → changed_value seen n u ≡ o → each_key (is_ordinary_in seen.schema c) ms ≡ true
      → each_key (is_ordinary_in seen.schema c) (option_map_or (λ value. put (name_at u) (value_data seen.schema value) ms) o ms) ≡ true
  ordinary_by u ms None among is all = all
  ordinary_by u ms (Some v) among is all =
      put_keys (is_ordinary_in seen.schema c) (name_at u) (value_data seen.schema v) ms
      (ap (λ o. option_map_or (λ slot. is_some (default_of seen.schema slot)) o false) (slot_of_its_name u among) ∙ default_there (default_of seen.schema u) _ v is) all

  all_ordinary : (us : List ℕ) (ms : Members) → ((u : ℕ) → is_among us u ≡ true → is_among k.slots u ≡ true) → each_key (is_ordinary_in seen.schema c) ms ≡ true → each_key (is_ordinary_in seen.schema c) (fold (with_given seen n) ms us) ≡ true
  all_ordinary [] ms sub all = all
  all_ordinary (u ∷ us) ms sub all =
      all_ordinary us (with_given seen n ms u) (λ m is. sub m (among_tail u m us is)) (ordinary_by u ms (changed_value seen n u) (sub u (among_head u us)) refl all)

  pub given_slots : are_slots seen.schema c (givens_of (given_members seen n c)) ≡ true
  given_slots = all_ordinary (slots_of seen.schema c) no_members (λ u is. ap (λ ns. is_among ns u) (sym class_slots) ∙ is) refl

  -- ---- what is given for a slot

  module _ (slot : ℕ) (among : is_among k.slots slot ≡ true) where
    abbrev due : Option Data
    due = option_map (value_data seen.schema) (changed_value seen n slot)

    at_slot : (ms : Members) (o : Option Value) → get_member (name_at slot) ms ≡ None → get_member (name_at slot) (option_map_or (λ value. put (name_at slot) (value_data seen.schema value) ms) o ms) ≡ option_map (value_data seen.schema) o
    at_slot ms None is = is
    at_slot ms (Some v) is = get_member-put (name_at slot) (value_data seen.schema v) ms

    at_other : (u : ℕ) (ms : Members) (o : Option Value) → is_among k.slots u ≡ true → (u ≡ slot → ⊥) → get_member (name_at slot) (option_map_or (λ value. put (name_at u) (value_data seen.schema value) ms) o ms) ≡ get_member (name_at slot) ms
    at_other u ms None one other = refl
    at_other u ms (Some v) one other = get_member-put_other (name_at slot) (name_at u) (value_data seen.schema v) ms (λ same. other (same_name u slot one among same))

    again : (ms : Members) (o : Option Value) → get_member (name_at slot) ms ≡ option_map (value_data seen.schema) o → get_member (name_at slot) (option_map_or (λ value. put (name_at slot) (value_data seen.schema value) ms) o ms) ≡ option_map (value_data seen.schema) o
    again ms None is = is
    again ms (Some v) is = get_member-put (name_at slot) (value_data seen.schema v) ms

    keeps : (u : ℕ) (ms : Members) (b : Bool) → (u == slot) ≡ b → is_among k.slots u ≡ true → get_member (name_at slot) ms ≡ due → get_member (name_at slot) (with_given seen n ms u) ≡ due
    keeps u ms true same one is = subst (λ m. get_member (name_at slot) (with_given seen n ms m) ≡ due) (sym (eqb-true u slot same)) (again ms (changed_value seen n slot) is)
    keeps u ms false other one is = at_other u ms (changed_value seen n u) one (eqb-false u slot other) ∙ is

    all_keep : (us : List ℕ) (ms : Members) → ((u : ℕ) → is_among us u ≡ true → is_among k.slots u ≡ true) → get_member (name_at slot) ms ≡ due → get_member (name_at slot) (fold (with_given seen n) ms us) ≡ due
    all_keep [] ms sub is = is
    all_keep (u ∷ us) ms sub is = all_keep us (with_given seen n ms u) (λ m h. sub m (among_tail u m us h)) (keeps u ms (u == slot) refl (sub u (among_head u us)) is)

    found_at : (u : ℕ) (us : List ℕ) (ms : Members) (b : Bool) → (u == slot) ≡ b → ((m : ℕ) → is_among us m ≡ true → is_among k.slots m ≡ true) → is_among k.slots u ≡ true → is_among (u ∷ us) slot ≡ true → get_member (name_at slot) ms ≡ None
        → (is_among us slot ≡ true → get_member (name_at slot) (with_given seen n ms u) ≡ None → get_member (name_at slot) (fold (with_given seen n) (with_given seen n ms u) us) ≡ due)
        → get_member (name_at slot) (fold (with_given seen n) (with_given seen n ms u) us) ≡ due
    found_at u us ms true same sub one is none rest = all_keep us (with_given seen n ms u) sub (subst (λ m. get_member (name_at slot) (with_given seen n ms m) ≡ due) (sym (eqb-true u slot same)) (at_slot ms (changed_value seen n slot) none))
    found_at u us ms false other sub one is none rest = elim (among_cases u slot us is) [
      | inl same ↦ absurd (eqb-false u slot other same)
      | inr more ↦ rest more (at_other u ms (changed_value seen n u) one (eqb-false u slot other) ∙ none)
    ]

    finds : (us : List ℕ) (ms : Members) → ((u : ℕ) → is_among us u ≡ true → is_among k.slots u ≡ true) → is_among us slot ≡ true → get_member (name_at slot) ms ≡ None → get_member (name_at slot) (fold (with_given seen n) ms us) ≡ due
    finds [] ms sub is none = absurd (among_none slot is)
    finds (u ∷ us) ms sub is none =
        found_at u us ms (u == slot) refl (λ m h. sub m (among_tail u m us h)) (sub u (among_head u us)) is none (finds us (with_given seen n ms u) (λ m h. sub m (among_tail u m us h)))

    composed : (o : Option Value) → option_map given_value_of (option_map (value_data seen.schema) o) ≡ option_map (λ v. given_value_of (value_data seen.schema v)) o
    composed None = refl
    composed (Some v) = refl

    pub given_is : given_at seen.schema (givens_of (given_members seen n c)) slot ≡ option_map (λ v. given_value_of (value_data seen.schema v)) (changed_value seen n slot)
    given_is =
        let t = slot_there slot among in
        let ms = given_members seen n c in
        ap (λ o. option_and_then (λ name. given_for name (givens_of ms)) (option_map (λ (x : Slot). x.name) o)) t.1
        ∙ (ap (λ name. given_for name (givens_of ms)) (sym (name_is slot t.0 t.1))
        ∙ (given_member (name_at slot) ms
        ∙ (ap (option_map given_value_of) (finds (slots_of seen.schema c) no_members (λ u is. ap (λ ns. is_among ns u) (sym class_slots) ∙ is) (ap (λ ns. is_among ns slot) class_slots ∙ among) refl)
        ∙ composed (changed_value seen n slot))))
