-- The couples of a blackboard that fits its schema: each pair joins live units of classes that have the couple's slots.
use Rattle.std.proofs.Common.{◌≡◌, ℕ, ◌<◌, Bool, true, false, ◌&&◌, List, [], ◌∷◌, ◌++◌, map, length, Option, Some, None, option_map, refl, sym, ap, subst, ◌∙◌, arith}
use Rattle.std.specs.Prelude.{slice_get, slice_set, is_some, unwrap_or}
use Rattle.std.specs.List.{list_all}
use Rattle.std.specs.Option.{option_map_or}
use Rattle.std.specs.FinMap as fin
use Rattle.std.proofs.lemmas.Bool.{and_parts, and_from}
use Rattle.std.proofs.lemmas.List.{length-map}
use Rattle.std.proofs.lemmas.List.Elements.{recursion_from_All}
use Rattle.bb_schema_classes.specs.declared.class.Class.{Class}
use Rattle.bb_schema.specs.declared.slot.Slot.{Slot}
use Rattle.bb_schema.specs.declared.couple.Side.{Side}
use Rattle.bb_schema.specs.declared.couple.Side.TheVariants.{A, B}
use Rattle.bb_schema.specs.Schema.{Schema, slot_named, descends}
use Rattle.bb_schema.specs.Couples.{couples, couple_of, couple_end}
use Rattle.bb_schema.specs.Fits as schemas
use Rattle.bb_units.specs.declared.unit.Unit.{Unit as OneUnit}
use Rattle.bb_units.specs.Layout.{Layout}
use Rattle.bb_units.specs.Units.{is_live}
use Rattle.bb_units.specs.Fits.{IsUnitOf}
use Rattle.bb_links.specs.Layout.{singular_of}
use Rattle.bb_links.specs.Couples.{Couple, pairs_of}
use Rattle.bb_links.specs.Links.{pairs_by}
use Rattle.bb_links.specs.Fits.{FitsCouple}
use Rattle.bb_links.specs.proving.Partners.{opposite}
use Rattle.bb_board.proofs.Laws.{inverse_end}
use Rattle.bb_board.specs.World.{class_at}
use Rattle.bb_board.specs.May.{class_has}
use Rattle.bb_board.specs.Fits.{is_of_owner, Fits}
use Rattle.bb_native.specs.Sight.{Sight}
use Rattle.bb_board_document.proofs.NameLemmas.{all_at, slot_back}
use Rattle.bb_board_document.proofs.PlaceLemmas.{Lives, lives}
use Rattle.bb_board_document.proofs.CoupleLemmas.{IsCouple, couple_at}

-- ---- the middle of a list

pub get_middle : {X : Type 0} (pre : List X) (x : X) (post : List X) → slice_get (pre ++ x ∷ post) (length pre) ≡ Some x
get_middle [] x post = refl
get_middle (p ∷ pre) x post = get_middle pre x post

pub set_middle : {X : Type 0} (pre : List X) (x y : X) (post : List X) → slice_set (pre ++ x ∷ post) (length pre) y ≡ pre ++ y ∷ post
set_middle [] x y post = refl
set_middle (p ∷ pre) x y post = ap (λ zs. p ∷ zs) (set_middle pre x y post)

same_middle : {X Y Z : Type 0} (f : X → Z) (g : Y → Z) (xs : List X) (x : X) (more : List X) (ys : List Y) (y : Y) (others : List Y) → length xs ≡ length ys → map f (xs ++ x ∷ more) ≡ map g (ys ++ y ∷ others) → f x ≡ g y
same_middle f g [] x more [] y others long same = cc
same_middle f g [] x more (z ∷ ys) y others long same = absurd (omega (arith, long))
same_middle f g (z ∷ xs) x more [] y others long same = absurd (omega (arith, long))
same_middle f g (u ∷ xs) x more (v ∷ ys) y others long same = same_middle f g xs x more ys y others (omega (arith, long)) cc

pub all_parts : {X : Type 0} (p : X → Bool) (xs : List X) (x : X) (ys : List X) → list_all p (xs ++ x ∷ ys) ≡ true → (list_all p xs ≡ true) × (p x ≡ true)
all_parts p [] x ys all = (refl, (and_parts (p x) (list_all p ys) all).0)
all_parts p (y ∷ xs) x ys all =
    let both = and_parts (p y) (list_all p (xs ++ x ∷ ys)) all in
    let rest = all_parts p xs x ys both.1 in
    (and_from (p y) (list_all p xs) both.0 rest.0, rest.1)

pub all_weaker : {X : Type 0} (p q : X → Bool) (xs : List X) → ((x : X) → p x ≡ true → q x ≡ true) → list_all p xs ≡ true → list_all q xs ≡ true
all_weaker p q [] weaker all = refl
all_weaker p q (x ∷ xs) weaker all = let both = and_parts (p x) (list_all p xs) all in and_from (q x) (list_all q xs) (weaker x both.0) (all_weaker p q xs weaker both.1)

all_both : {X : Type 0} (p q : X → Bool) (xs : List X) → list_all p xs ≡ true → list_all q xs ≡ true → list_all (λ x. p x && q x) xs ≡ true
all_both p q [] one other = refl
all_both p q (x ∷ xs) one other =
    let a = and_parts (p x) (list_all p xs) one in
    let b = and_parts (q x) (list_all q xs) other in
    and_from (p x && q x) (list_all (λ y. p y && q y) xs) (and_from (p x) (q x) a.0 b.0) (all_both p q xs a.1 b.1)

-- ---- a class that has a slot

module _ (s : Schema) (fits : schemas.Fits s) where
  has_by : (c slot : ℕ) (o : Option Slot) → c < length s.classes → slice_get s.slots slot ≡ o → option_map_or (λ owner. descends s c owner) (option_map (λ t. t.owner) o) false ≡ true
      → slot_named s c (unwrap_or (option_map (λ t. t.name) o) []) ≡ Some slot
  has_by c slot None there at is = absurd cc
  has_by c slot (Some t) there at is = slot_back s fits c slot t there (fits.owned c slot t there at ∙ is) at

  -- its name leads to it
  pub slot_of_class : (c slot : ℕ) → c < length s.classes → class_has s c slot ≡ true → slot_named s c (unwrap_or (option_map (λ t. t.name) (slice_get s.slots slot)) []) ≡ Some slot
  slot_of_class c slot there is = has_by c slot (slice_get s.slots slot) there refl is

-- the slot of a couple is at side A of it
pub slot_end : (s : Schema) (i slot : ℕ) → (couple : IsCouple s i slot) → couple_of s slot ≡ Some (let e : ℕ × Side = (i, A) in e)
slot_end s i slot couple = ap (option_map (couple_end s.slots slot)) couple.is ∙ ap (λ e. Some e) couple.ends

module _ (seen : Sight) (schema_fits : schemas.Fits seen.schema) (fits : Fits seen.schema seen.world) where
  pub class_there : (n : ℕ) → Lives seen.world n → class_at seen.world n < length seen.schema.classes
  class_there n l =
      let unit = subst (λ (y : Layout). IsUnitOf y l.unit) fits.layout (fits.units.units n l.unit l.held) in
      let lt = unit.class in
      let is : class_at seen.world n ≡ l.unit.class = ap (λ o. unwrap_or (option_map (λ (x : OneUnit). x.class) o) 0) l.held in
      omega (arith, lt, is, length-map seen.schema.classes (λ (k : Class). k.slots))

  owner_by : (slot : ℕ) (o : Option OneUnit) → option_map_or (λ c. class_has seen.schema c slot) (option_map (λ x. x.class) o) false ≡ true
      → (is_some o ≡ true) × (class_has seen.schema (unwrap_or (option_map (λ x. x.class) o) 0) slot ≡ true)
  owner_by slot None is = absurd cc
  owner_by slot (Some x) is = (refl, is)

  owner_facts : (n slot : ℕ) → is_of_owner seen.schema seen.world.units n slot ≡ true → (is_live seen.world.units n ≡ true) × (class_has seen.schema (class_at seen.world n) slot ≡ true)
  owner_facts n slot is = owner_by slot (fin.get seen.world.units.units n) is

  -- ---- the pairs of a couple

  -- units that two slots may join
  abbrev pub is_pair : (slot inverse : ℕ) → ℕ × ℕ → Bool
  is_pair slot inverse p = is_of_owner seen.schema seen.world.units p.0 slot && is_of_owner seen.schema seen.world.units p.1 inverse

  -- a live unit, of a class that has a slot
  pub record Owns (n slot : ℕ) : Type 0 where
    pub lives : Lives seen.world n
    pub live : is_live seen.world.units n ≡ true
    pub has : class_has seen.schema (class_at seen.world n) slot ≡ true

  owns : (n slot : ℕ) → is_of_owner seen.schema seen.world.units n slot ≡ true → Owns n slot
  owns n slot is = let f = owner_facts n slot is in record { lives = lives seen.world n f.0; live = f.0; has = f.1 }

  pub pair_owns : (slot inverse : ℕ) (p : ℕ × ℕ) → is_pair slot inverse p ≡ true → Owns p.0 slot × Owns p.1 inverse
  pair_owns slot inverse p is =
      let both = and_parts (is_of_owner seen.schema seen.world.units p.0 slot) (is_of_owner seen.schema seen.world.units p.1 inverse) is in
      (owns p.0 slot both.0, owns p.1 inverse both.1)

  -- a couple, by its number and its slot at side A
  pub record IsTold (i slot : ℕ) (k : Couple) : Type 0 where
    pub couple : IsCouple seen.schema i slot
    pub couple_fits : FitsCouple k
    pub pairs : list_all (is_pair slot couple.link.inverse) k.pairs ≡ true
    pub told : pairs_by seen.world.links slot ≡ k.pairs
    pub singular : k.singular ≡ singular_of seen.schema.slots slot

  module _ (slots_done : List ℕ) (slot : ℕ) (slots : List ℕ) (done : List Couple) (k : Couple) (ks : List Couple)
      (slots_is : slots_done ++ slot ∷ slots ≡ couples seen.schema) (is : done ++ k ∷ ks ≡ seen.world.links.couples) (long : length done ≡ length slots_done) where
    abbrev i : ℕ
    i = length slots_done

    couple : IsCouple seen.schema i slot
    couple = couple_at seen.schema slots_done slot slots (sym slots_is)

    at_couple : slice_get seen.world.links.couples i ≡ Some k
    at_couple = ap (slice_get seen.world.links.couples) (sym long) ∙ (ap (λ cs. slice_get cs (length done)) (sym is) ∙ get_middle done k ks)

    of_inverse : couple_of seen.schema couple.link.inverse ≡ Some (let e : ℕ × Side = (i, B) in e)
    of_inverse =
        inverse_end seen.schema schema_fits.coupled slot couple.link couple.is
        ∙ ap (λ (e : ℕ × Side). Some (let f : ℕ × Side = (e.0, opposite e.1) in f)) couple.ends

    pairs_are : pairs_of seen.world.links i ≡ k.pairs
    pairs_are = ap (λ o. option_map_or (λ (c : Couple). c.pairs) o []) at_couple

    pub couple_told : IsTold i slot k
    couple_told = record {
      couple = couple;
      couple_fits = all_at FitsCouple seen.world.links.couples i k (recursion_from_All FitsCouple seen.world.links.couples fits.links.couples) at_couple;
      pairs =
          all_both (λ p. is_of_owner seen.schema seen.world.units p.0 slot) (λ p. is_of_owner seen.schema seen.world.units p.1 couple.link.inverse) k.pairs
          (ap (list_all (λ p. is_of_owner seen.schema seen.world.units p.0 slot)) (sym pairs_are) ∙ fits.pairs slot (i, A) (slot_end seen.schema i slot couple))
          (ap (list_all (λ p. is_of_owner seen.schema seen.world.units p.1 couple.link.inverse)) (sym pairs_are) ∙ fits.pairs couple.link.inverse (i, B) of_inverse);
      told = ap (λ o. option_map_or (λ (e : ℕ × Side). pairs_of seen.world.links e.0) o []) (fits.ends slot ∙ slot_end seen.schema i slot couple) ∙ pairs_are;
      singular = same_middle (λ (c : Couple). c.singular) (singular_of seen.schema.slots) done k ks slots_done slot slots long
          (ap (map (λ (c : Couple). c.singular)) is ∙ (fits.singular ∙ ap (map (singular_of seen.schema.slots)) (sym slots_is)));
    }
