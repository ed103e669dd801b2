-- A unit that is deleted with another is of a class that the other's strikes.
use Rattle.std.proofs.Common.{◌≡◌, ℕ, ◌&&◌, ◌||◌, Bool, true, false, List, [], ◌∷◌, filter, Option, Some, None, refl, sym, ap, subst, ◌∙◌}
use Rattle.std.specs.Prelude.{◌==◌, is_some, slice_get, option_and_then, option_map}
use Rattle.std.specs.List.{list_all, list_any}
use Rattle.std.specs.Option.{option_map_or}
use Rattle.std.specs.FinMap.{get, keys}
use Rattle.std.proofs.lemmas.Bool.{and_parts, eqb-true, eq-eqb}
use Rattle.std.proofs.lemmas.List.Folds.{list_all-map}
use Rattle.bb_basis.proofs.BoolLemmas.{or_true}
use Rattle.bb_schema_classes.specs.declared.kind.Link.{Link}
use Rattle.bb_schema_classes.specs.Inheritance.{is_among}
use Rattle.bb_schema_classes.proofs.Laws.{climbs_sound}
use Rattle.bb_schema.specs.declared.couple.Side.{Side}
use Rattle.bb_schema.specs.declared.couple.Side.TheVariants.{A, B}
use Rattle.bb_schema.specs.declared.slot.Slot.{Slot}
use Rattle.bb_schema.specs.Schema.{Schema, slots_of, descends}
use Rattle.bb_schema.specs.Slots.{link_in, link_of}
use Rattle.bb_schema.specs.Couples.{couple_of, couple_end}
use Rattle.bb_schema.specs.Ownership.{owns, heirs, strikes}
use Rattle.bb_schema.specs.Fits as schemas
use Rattle.bb_schema.proofs.Laws.{both_related, heirs_itself, heirs_owned, strikes_by_heir}
use Rattle.bb_units.specs.declared.unit.Unit.{Unit as OneUnit}
use Rattle.bb_units.specs.Units.{class_of}
use Rattle.bb_links.specs.Pairs.{near, far}
use Rattle.bb_links.specs.Links.{partners, ends}
use Rattle.bb_links.specs.Couples.{pairs_of}
use Rattle.bb_links.specs.proving.Partners.{opposite}
use Rattle.bb_board.specs.State.{World}
use Rattle.bb_board.specs.World.{class_at}
use Rattle.bb_board.specs.Deletion.{has_part, with_parts}
use Rattle.bb_board.specs.May.{class_has}
use Rattle.bb_board.specs.Fits.{is_of_owner, Fits}
use Rattle.bb_board.proofs.AllLemmas.{all_filter}
use Rattle.bb_basis.proofs.ClosureLemmas.{has, closure_least}
use Rattle.bb_board.proofs.KeepLemmas.{class_there}
use Rattle.bb_board.proofs.SideLemmas.{inverse_end}

-- ---- lists

record IsFound (p : ℕ → Bool) (xs : List ℕ) : Type 0 where
  one : ℕ
  there : has xs one ≡ true
  passes : p one ≡ true

any_is_found : (p : ℕ → Bool) (xs : List ℕ) → list_any p xs ≡ true → IsFound p xs
any_is_found p [] any = absurd cc
any_is_found p (x ∷ xs) any = by (p x) refl any (any_is_found p xs)
  where
    by : (b : Bool) → p x ≡ b → (b || list_any p xs) ≡ true → (list_any p xs ≡ true → IsFound p xs) → IsFound p (x ∷ xs)
    by true is h rest = record { one = x; there = ap (λ t. t || has xs x) (eq-eqb x x refl); passes = is }
    by false is h rest = let r = rest h in record { one = r.one; there = ap (λ t. x == r.one || t) r.there ∙ or_true (x == r.one); passes = r.passes }

one_of_all : (test : ℕ → Bool) (xs : List ℕ) (k : ℕ) → list_all test xs ≡ true → has xs k ≡ true → test k ≡ true
one_of_all test [] k all there = absurd cc
one_of_all test (x ∷ xs) k all there = let parts = and_parts (test x) (list_all test xs) all in by (x == k) refl parts.0 (one_of_all test xs k parts.1) there
  where
    by : (b : Bool) → (x == k) ≡ b → test x ≡ true → (has xs k ≡ true → test k ≡ true) → (b || has xs k) ≡ true → test k ≡ true
    by true same here rest h = ap test (sym (eqb-true x k same)) ∙ here
    by false other here rest h = rest h

-- ---- a unit whose class descends from an heir

record IsUnderHeir (s : Schema) (w : World) (class m : ℕ) : Type 0 where
  heir : ℕ
  there : has (heirs s class) heir ≡ true
  own : ℕ
  is : class_of w.units m ≡ Some own
  under : descends s own heir ≡ true

-- a link that owns, with its slot
record Owning (s : Schema) (slot : ℕ) : Type 0 where
  content : Slot
  link : Link
  at : slice_get s.slots slot ≡ Some content
  is : link_in content.content ≡ Some link
  owning : link.owns ≡ true

module _ (s : Schema) (w : World) (sf : schemas.Fits s) (fits : Fits s w) where
  owning_by : (slot : ℕ) (o : Option Slot) → slice_get s.slots slot ≡ o → option_map_or (λ l. l.owns) (option_and_then (λ t. link_in t.content) o) false ≡ true → Owning s slot
  owning_by slot None at h = absurd cc
  owning_by slot (Some t) at h = by (link_in t.content) refl h
    where
      by : (l : Option Link) → link_in t.content ≡ l → option_map_or (λ x. x.owns) l false ≡ true → Owning s slot
      by None is h = absurd cc
      by (Some l) is h = record { content = t; link = l; at = at; is = is; owning = h }

  owning_of : (slot : ℕ) → owns s slot ≡ true → Owning s slot
  owning_of slot h = owning_by slot (slice_get s.slots slot) refl h

  live_by : (o : Option OneUnit) (c : ℕ) → option_map (λ y. y.class) o ≡ Some c → is_some o ≡ true
  live_by None c is = absurd cc
  live_by (Some x) c is = refl

  -- partners of a unit by a slot have its inverse, so they are of the class that it leads to
  module _ (m slot : ℕ) (o : Owning s slot) where
    link_is : link_of s.slots slot ≡ Some o.link
    link_is = ap (option_and_then (λ (t : Slot). link_in t.content)) o.at ∙ o.is

    abbrev e : ℕ × Side
    e = couple_end s.slots slot o.link

    couple_is : couple_of s slot ≡ Some e
    couple_is = ap (option_map (couple_end s.slots slot)) link_is

    far_by : (side : Side) (xs : List (ℕ × ℕ)) → list_all (λ p. is_of_owner s w.units (near (opposite side) p) o.link.inverse) xs ≡ true → list_all (λ p. is_of_owner s w.units (far side p) o.link.inverse) xs ≡ true
    far_by A xs all = all
    far_by B xs all = all

    partners_own : list_all (λ k. is_of_owner s w.units k o.link.inverse) (partners e.1 m (pairs_of w.links e.0)) ≡ true
    partners_own =
        list_all-map (λ k. is_of_owner s w.units k o.link.inverse) (far e.1) (filter (λ p. near e.1 p == m) (pairs_of w.links e.0))
        ∙ all_filter (λ p. is_of_owner s w.units (far e.1 p) o.link.inverse) (λ p. is_of_owner s w.units (far e.1 p) o.link.inverse) (λ p. near e.1 p == m) (λ p kept it. it) (pairs_of w.links e.0)
        (far_by e.1 (pairs_of w.links e.0) (fits.pairs o.link.inverse (let f : ℕ × Side = (e.0, opposite e.1) in f) (inverse_end s sf.coupled slot o.link link_is)))

    ends_are : ends w.links m slot ≡ partners e.1 m (pairs_of w.links e.0)
    ends_are = ap (λ f. option_map_or (λ (x : ℕ × Side). partners x.1 m (pairs_of w.links x.0)) f []) (fits.ends slot ∙ couple_is)

    abbrev IsPart : ℕ → Type 0
    IsPart k = (c : ℕ) × (class_of w.units k ≡ Some c) × (descends s c o.link.to ≡ true)

    part_by : (k : ℕ) (class : Option ℕ) → class_of w.units k ≡ class → option_map_or (λ c. class_has s c o.link.inverse) class false ≡ true → IsPart k
    part_by k None is h = absurd cc
    part_by k (Some c) is h = (c, is, sym (ap (λ x. option_map_or (λ owner. descends s c owner) x false) (sf.coupled slot o.link link_is).there) ∙ h)

    part_of : (k : ℕ) → has (ends w.links m slot) k ≡ true → IsPart k
    part_of k there =
        part_by k (class_of w.units k) refl (one_of_all (λ x. is_of_owner s w.units x o.link.inverse) (partners e.1 m (pairs_of w.links e.0)) k partners_own (sym (ap (λ xs. has xs k) ends_are) ∙ there))

  -- what a unit owns is under an heir where the unit is
  module _ (class : ℕ) where
    owned_under : (m k : ℕ) → IsUnderHeir s w class m → has_part s w m k ≡ true → IsUnderHeir s w class k
    unfolding is_among
    owned_under m k g led =
        let live = live_by (get w.units.units m) g.own g.is in
        let its = class_there s w m fits live in
        let same : class_at w m ≡ g.own = (let both : Some (class_at w m) ≡ Some g.own = sym its.0 ∙ g.is in cc) in
        let f = any_is_found (λ slot. owns s slot && has (ends w.links m slot) k) (slots_of s (class_at w m)) led in
        let parts = and_parts (owns s f.one) (has (ends w.links m f.one) k) f.passes in
        let o = owning_of f.one parts.0 in
        let part = part_of m f.one o k parts.1 in
        let up : descends s (class_at w m) o.content.owner ≡ true = sym (sf.owned (class_at w m) f.one o.content its.1 o.at) ∙ f.there in
        let related = both_related s.classes sf.parents (class_at w m) g.heir o.content.owner
        (climbs_sound s.classes g.heir (class_at w m) (class_at w m) (subst (λ c. descends s c g.heir ≡ true) (sym same) g.under))
        (climbs_sound s.classes o.content.owner (class_at w m) (class_at w m) up) in
        record {
          heir = o.link.to;
          there = heirs_owned s sf class g.heir f.one o.content o.link g.there o.at o.is o.owning related;
          own = part.0;
          is = part.1;
          under = part.2;
        }

    module _ (n own : ℕ) (is : class_of w.units n ≡ Some own) (under : descends s own class ≡ true) where
      parts_under : (m : ℕ) → has (with_parts s w n) m ≡ true → IsUnderHeir s w class m
      parts_under m there =
          closure_least (has_part s w) (keys w.units.units) n (IsUnderHeir s w class)
          (record { heir = class; there = heirs_itself s sf class; own = own; is = is; under = under }) owned_under m there

      -- whatever class the unit is known to be of, and the part to be of
      pub part_is_struck : (m part other : ℕ) → has (with_parts s w n) m ≡ true → class_of w.units m ≡ Some part → descends s part other ≡ true → strikes s class other ≡ true
      part_is_struck m part other there m_is up =
          let g = parts_under m there in
          let same : g.own ≡ part = (let both : Some g.own ≡ Some part = sym g.is ∙ m_is in cc) in
          strikes_by_heir s sf class g.heir other g.there
          (both_related s.classes sf.parents part other g.heir (climbs_sound s.classes other part part up)
          (climbs_sound s.classes g.heir part part (subst (λ c. descends s c g.heir ≡ true) same g.under)))
