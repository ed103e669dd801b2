-- The slots of a unit's class, and the one that a name means there.
use Rattle.std.proofs.Common.{◌≡◌, ℕ, Bool, true, false, ◌&&◌, ◌||◌, ◌<◌, cond, List, [], ◌∷◌, length, Option, Some, None, refl, sym, ap, ◌∙◌}
use Rattle.std.specs.Prelude.{slice_get, find, is_some, option_map, unwrap_or, ◌==◌}
use Rattle.std.specs.List.{list_any}
use Rattle.std.specs.Option.{option_map_or}
use Rattle.std.specs.FinMap.{get}
use Rattle.std.specs.Str.{bytes_eq}
use Rattle.std.proofs.lemmas.Bool.{eqb-true, eq-eqb}
use Rattle.std.proofs.lemmas.Option.{slice_get-map}
use Rattle.std.proofs.lemmas.Slice.Eq.{bytes_eq-Decides}
use Rattle.bb_basis.proofs.BoolLemmas.{and_first}
use Rattle.bb_schema_classes.specs.declared.class.Class.{Class}
use Rattle.bb_schema_classes.specs.Inheritance.{is_among}
use Rattle.bb_schema.specs.declared.slot.Slot.{Slot}
use Rattle.bb_schema.specs.Schema.{Schema, slot_named, slots_of}
use Rattle.bb_schema.specs.Slots.{has_name}
use Rattle.bb_schema.specs.Fits as schemas
use Rattle.bb_units.specs.declared.unit.Unit.{Unit}
use Rattle.bb_units.specs.Layout.{Layout, default_at}
use Rattle.bb_units.specs.Layout as layouts
use Rattle.bb_units.specs.Units.{has_slot}
use Rattle.bb_board.specs.State.{World}
use Rattle.bb_board.specs.World.{class_at}
use Rattle.bb_board.specs.Fits.{Fits}

module _ (p : ℕ → Bool) where
  sound_by : (x : ℕ) (xs : List ℕ) (n : ℕ) (b : Bool) → p x ≡ b → (find p xs ≡ Some n → (p n ≡ true) × (is_among xs n ≡ true)) → cond b (Some x) (find p xs) ≡ Some n → (p n ≡ true) × (is_among (x ∷ xs) n ≡ true)
  unfolding is_among
  sound_by x xs n true is rest h = let e : x ≡ n = cc in (ap p (sym e) ∙ is, ap (λ b. b || list_any (λ d. d == n) xs) (eq-eqb x n e))
  sound_by x xs n false is rest h = let r = rest h in (r.0, by_tail (x == n) r.1)
    where
      by_tail : (b : Bool) → list_any (λ d. d == n) xs ≡ true → (b || list_any (λ d. d == n) xs) ≡ true
      by_tail true h = refl
      by_tail false h = h

  -- what is found passes, and is one of them
  find_sound : (xs : List ℕ) (n : ℕ) → find p xs ≡ Some n → (p n ≡ true) × (is_among xs n ≡ true)
  find_sound [] n h = absurd cc
  find_sound (x ∷ xs) n h = sound_by x xs n (p x) refl (find_sound xs n) h

  here_by : (x : ℕ) (xs : List ℕ) (n : ℕ) (b c : Bool) → p x ≡ b → (x == n) ≡ c → p n ≡ true → (is_among xs n ≡ true → (m : ℕ) × (find p xs ≡ Some m)) → (c || is_among xs n) ≡ true → (m : ℕ) × (cond b (Some x) (find p xs) ≡ Some m)
  here_by x xs n true c is same passes rest h = (x, refl)
  here_by x xs n false true is same passes rest h = absurd (let e : p n ≡ false = ap p (sym (eqb-true x n same)) ∙ is in cc)
  here_by x xs n false false is same passes rest h = rest h

  -- where one of them passes, one is found
  pub find_here : (xs : List ℕ) (n : ℕ) → p n ≡ true → is_among xs n ≡ true → (m : ℕ) × (find p xs ≡ Some m)
  unfolding is_among
  find_here [] n passes h = absurd cc
  find_here (x ∷ xs) n passes h = here_by x xs n (p x) (x == n) refl refl passes (find_here xs n passes) h

-- the slot of a number that has a name
pub named_slot : (slots : List Slot) (name : List ℕ) (n : ℕ) → has_name slots name n ≡ true → (t : Slot) × (slice_get slots n ≡ Some t) × (name ≡ t.name)
unfolding has_name
named_slot slots name n h = by_slot (slice_get slots n) refl h
  where
    by_slot : (o : Option Slot) → slice_get slots n ≡ o → option_map_or (λ t. bytes_eq name t.name) o false ≡ true → (t : Slot) × (slice_get slots n ≡ Some t) × (name ≡ t.name)
    by_slot None is h = absurd cc
    by_slot (Some t) is h = (t, is, (bytes_eq-Decides name t.name).0 h)

has_its_name : (slots : List Slot) (n : ℕ) (t : Slot) → slice_get slots n ≡ Some t → has_name slots t.name n ≡ true
unfolding has_name
has_its_name slots n t is = ap (λ o. option_map_or (λ u. bytes_eq t.name u.name) o false) is ∙ (bytes_eq-Decides t.name t.name).1 refl

-- a slot of a class is what its name means there
pub own_name : (s : Schema) (c slot : ℕ) (t : Slot) → schemas.Fits s → c < length s.classes → is_among (slots_of s c) slot ≡ true → slice_get s.slots slot ≡ Some t → slot_named s c t.name ≡ Some slot
own_name s c slot t sf lt among is =
    let p = has_name s.slots t.name in
    let found = find_here p (slots_of s c) slot (has_its_name s.slots slot t is) among in
    let other = find_sound p (slots_of s c) found.0 found.1 in
    let u = named_slot s.slots t.name found.0 other.0 in
    let same : found.0 ≡ slot = sf.slot_names c found.0 slot u.0 t lt other.1 among u.1 is (sym u.2) in
    found.1 ∙ ap (λ n. Some n) same

-- what a name means has the name
pub name_of_named : (s : Schema) (c slot : ℕ) (t : Slot) (name : List ℕ) → slot_named s c name ≡ Some slot → slice_get s.slots slot ≡ Some t → name ≡ t.name
name_of_named s c slot t name is there =
    let u = named_slot s.slots name slot (find_sound (has_name s.slots name) (slots_of s c) slot is).0 in
    let same : u.0 ≡ t = let e : Some u.0 ≡ Some t = sym u.1 ∙ there in cc in
    u.2 ∙ ap (λ (v : Slot). v.name) same

-- ---- the slots of a unit's class

module _ (s : Schema) (w : World) (fits : Fits s w) (n slot : ℕ) where
  same_slots : (c : ℕ) → layouts.slots_of w.units.layout c ≡ slots_of s c
  same_slots c = ap (λ (l : Layout). layouts.slots_of l c) fits.layout ∙ ap (λ o. option_map_or (λ slots. slots) o []) (slice_get-map (λ (k : Class). k.slots) s.classes c) ∙ by_class (slice_get s.classes c)
    where
      by_class : (o : Option Class) → option_map_or (λ slots. slots) (option_map (λ (k : Class). k.slots) o) [] ≡ option_map_or (λ k. k.slots) o []
      by_class None = refl
      by_class (Some k) = refl

  has_by : (o : Option Unit) → option_map_or (λ x. list_any (λ t. t == slot) (layouts.slots_of w.units.layout x.class) && is_some (default_at w.units.layout.defaults slot)) o false ≡ true
      → list_any (λ t. t == slot) (layouts.slots_of w.units.layout (unwrap_or (option_map (λ x. x.class) o) 0)) ≡ true
  has_by None h = absurd cc
  has_by (Some x) h = and_first _ _ h

  -- a unit that has a slot is of a class that has it
  pub has_among : has_slot w.units n slot ≡ true → is_among (slots_of s (class_at w n)) slot ≡ true
  unfolding is_among
  has_among h = ap (list_any (λ t. t == slot)) (sym (same_slots (class_at w n))) ∙ has_by (get w.units.units n) h
