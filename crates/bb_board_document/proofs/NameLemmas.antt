-- Names lead back to the numbers that have them.
use Rattle.std.proofs.Common.{◌≡◌, ℕ, zero, suc, ◌+◌, ◌<◌, Bool, true, false, cond, ◌||◌, ◌==◌, List, [], ◌∷◌, map, length, Option, Some, None, refl, sym, ap, subst, ◌∙◌, arith, eq-eqb}
use Rattle.std.specs.Prelude.{position, find, slice_get, option_and_then, All}
use Rattle.std.specs.List.{AllByRecursion, IsDistinct, position_from, list_any}
use Rattle.std.specs.Option.{option_map_or}
use Rattle.std.specs.Str.{bytes_eq}
use Rattle.std.specs.Cmp.Lexicographic.{bytes_decides}
use Rattle.std.proofs.lemmas.Bool.{or_left, or_right, eqb-true}
use Rattle.std.proofs.lemmas.Iterator.Adapters.{position_from-zero}
use Rattle.std.proofs.lemmas.List.Elements.{recursion_from_All}
use Rattle.bb_schema_classes.specs.declared.class.Class.{Class}
use Rattle.bb_schema_classes.specs.declared.label_set.LabelSet.{LabelSet}
use Rattle.bb_schema_classes.specs.Naming.{AreNames}
use Rattle.bb_schema_classes.specs.Inheritance.{is_among}
use Rattle.bb_schema.specs.declared.slot.Slot.{Slot}
use Rattle.bb_schema.specs.Slots.{has_name}
use Rattle.bb_schema.specs.declared.space.Space.{Space}
use Rattle.bb_schema.specs.Schema.{Schema, class_named, space_named, label_named, slot_named, slots_of}
use Rattle.bb_schema.specs.Fits as schemas

-- ---- texts

pub eq_itself : (name : List ℕ) → bytes_eq name name ≡ true
eq_itself name = (bytes_decides name name).1 refl

eq_flips : (x y : List ℕ) → bytes_eq x y ≡ false → bytes_eq y x ≡ false
eq_flips x y apart = by (bytes_eq y x) refl
  where
    by : (b : Bool) → bytes_eq y x ≡ b → b ≡ false
    by false h = refl
    by true h = let same : y ≡ x = (bytes_decides y x).0 h in let e : true ≡ false = sym ((bytes_decides x y).1 (sym same)) ∙ apart in cc

-- ---- the place of a name among names that differ

pub all_at : {X : Type 0} (P : X → Type 0) (xs : List X) (i : ℕ) (x : X) → AllByRecursion P xs → slice_get xs i ≡ Some x → P x
all_at P [] i x all at = absurd cc
all_at P (y ∷ ys) zero x all at = let e : y ≡ x = cc in subst P e all.0
all_at P (y ∷ ys) (suc i) x all at = all_at P ys i x all.1 at

named_from : (names : List (List ℕ)) (i m : ℕ) (name : List ℕ) → IsDistinct bytes_eq names → slice_get names i ≡ Some name → position_from (bytes_eq name) m names ≡ Some (m + i)
unfolding IsDistinct
named_from [] i m name differ at = absurd cc
named_from (x ∷ xs) zero m name differ at = let e : x ≡ name = cc in rw (e, eq_itself name) (ap Some (omega arith))
named_from (x ∷ xs) (suc i) m name differ at =
    rw (eq_flips x name (all_at (λ y. bytes_eq x y ≡ false) xs i name differ.0 at)) (named_from xs i (m + 1) name differ.1 at ∙ ap Some (omega arith))

pub named_at : (names : List (List ℕ)) (i : ℕ) (name : List ℕ) → IsDistinct bytes_eq names → slice_get names i ≡ Some name → position (bytes_eq name) names ≡ Some i
named_at names i name differ at = position_from-zero (bytes_eq name) names ∙ (named_from names i 0 name differ at ∙ ap Some (omega arith))

at_map : {X Y : Type 0} (f : X → Y) (xs : List X) (i : ℕ) (x : X) → slice_get xs i ≡ Some x → slice_get (map f xs) i ≡ Some (f x)
at_map f [] i x at = absurd cc
at_map f (y ∷ ys) zero x at = let e : y ≡ x = cc in ap (λ z. Some (f z)) e
at_map f (y ∷ ys) (suc i) x at = at_map f ys i x at

-- ---- the first number that passes, where no other does

pub among_tail : (n m : ℕ) (ns : List ℕ) → is_among ns m ≡ true → is_among (n ∷ ns) m ≡ true
unfolding is_among
among_tail n m ns is = or_right (n == m) (list_any (λ d. d == m) ns) is

find_only : (p : ℕ → Bool) (ns : List ℕ) (n : ℕ) → is_among ns n ≡ true → p n ≡ true → ((m : ℕ) → is_among ns m ≡ true → p m ≡ true → m ≡ n) → find p ns ≡ Some n
unfolding is_among
find_only p [] n is passes only = absurd cc
find_only p (m ∷ ms) n is passes only = by (p m) refl (m == n) refl is (λ there. find_only p ms n there passes (λ k among pass. only k (among_tail m k ms among) pass))
  where
    by : (b : Bool) → p m ≡ b → (c : Bool) → (m == n) ≡ c → (c || list_any (λ d. d == n) ms) ≡ true → (list_any (λ d. d == n) ms ≡ true → find p ms ≡ Some n) → cond b (Some m) (find p ms) ≡ Some n
    by true h c g there rest = ap Some (only m (or_left (m == m) (list_any (λ d. d == m) ms) (eq-eqb m m refl)) h)
    by false h true g there rest = absurd (let e : true ≡ false = sym passes ∙ (ap p (sym (eqb-true m n g)) ∙ h) in cc)
    by false h false g there rest = rest there

-- ---- the names of a schema

labels_differ : (limit : ℕ) (sets : List LabelSet) (set : ℕ) (l : LabelSet) → All (λ x. AreNames limit x.values) sets → slice_get sets set ≡ Some l → IsDistinct bytes_eq l.values
labels_differ limit sets set l all at =
    let named = all_at (λ (x : LabelSet). AreNames limit x.values) sets set l (recursion_from_All (λ (x : LabelSet). AreNames limit x.values) sets all) at in
    named.distinct

module _ (s : Schema) (fits : schemas.Fits s) where
  pub class_back : (c : ℕ) (k : Class) → slice_get s.classes c ≡ Some k → class_named s k.name ≡ Some c
  class_back c k at = named_at (map (λ (x : Class). x.name) s.classes) c k.name fits.class_names.distinct (at_map (λ (x : Class). x.name) s.classes c k at)

  pub space_back : (w : ℕ) (p : Space) → slice_get s.spaces w ≡ Some p → space_named s p.name ≡ Some w
  space_back w p at = named_at (map (λ (x : Space). x.name) s.spaces) w p.name fits.spaces.named.distinct (at_map (λ (x : Space). x.name) s.spaces w p at)

  pub label_back : (set label : ℕ) (l : LabelSet) (name : List ℕ) → slice_get s.label_sets set ≡ Some l → slice_get l.values label ≡ Some name → label_named s set name ≡ Some label
  label_back set label l name at there =
      ap (option_and_then (λ (x : LabelSet). position (bytes_eq name) x.values)) at
      ∙ named_at l.values label name (labels_differ _ s.label_sets set l fits.label_sets.labels at) there

  pub slot_back : (c n : ℕ) (t : Slot) → c < length s.classes → is_among (slots_of s c) n ≡ true → slice_get s.slots n ≡ Some t → slot_named s c t.name ≡ Some n
  unfolding has_name
  slot_back c n t there among at =
      find_only (has_name s.slots t.name) (slots_of s c) n among (rw at (eq_itself t.name)) (λ m also passes. only m (slice_get s.slots m) refl also passes)
    where
      only : (m : ℕ) (o : Option Slot) → slice_get s.slots m ≡ o → is_among (slots_of s c) m ≡ true → option_map_or (λ u. bytes_eq t.name u.name) o false ≡ true → m ≡ n
      only m None h also passes = absurd cc
      only m (Some u) h also passes = fits.slot_names c m n u t there also among h at (sym ((bytes_decides t.name u.name).0 passes))
