-- What holds of a blackboard holds after each change of links.
use Rattle.std.proofs.Common.{◌≡◌, ℕ, ◌⊎◌, inl, inr, Bool, true, false, not, List, [], ◌∷◌, ◌++◌, map, length, Option, Some, None, option_map, refl, sym, ap, subst, ◌∙◌, nat_lt}
use Rattle.std.specs.Prelude.{◌==◌, ◌&&◌, slice_get, slice_set, find, is_some, Result, Ok, Err, if◌then◌else◌}
use Rattle.std.specs.List.{list_all, flat_map}
use Rattle.std.specs.Option.{option_map_or}
use Rattle.std.specs.FinMap.{get}
use Rattle.std.proofs.lemmas.Bool.{and_parts, and_from}
use Rattle.bb_schema_classes.specs.declared.kind.Link.{Link}
use Rattle.bb_schema.specs.declared.couple.Side.{Side}
use Rattle.bb_schema.specs.declared.couple.Side.TheVariants.{A, B}
use Rattle.bb_schema.specs.Schema.{Schema, descends, inverse_of}
use Rattle.bb_schema.specs.Slots.{link_of}
use Rattle.bb_schema.specs.Couples.{couple_end, couple_of, pair_of}
use Rattle.bb_schema.specs.Fits as schemas
use Rattle.bb_units.specs.declared.unit.Unit.{Unit as OneUnit}
use Rattle.bb_units.specs.Units.{Units, is_live}
use Rattle.bb_links.specs.declared.couple.Singular.{Singular}
use Rattle.bb_links.specs.declared.taken.Taken.{Taken}
use Rattle.bb_links.specs.Layout.{end_among}
use Rattle.bb_links.specs.Pairs.{near, far, has_pair, without_old, old_pair, is_singular, with_link, taken_among, same_pair}
use Rattle.bb_links.specs.Couples.{Couple, Couples, changed, linked, unlinked, pairs_of, taken, are_linked}
use Rattle.bb_links.specs.Fits as links
use Rattle.bb_links.specs.proving.Partners.{opposite}
use Rattle.bb_board.specs.declared.event.Change.{Change}
use Rattle.bb_board.specs.declared.event.Change.TheVariants.{Link as Links, Unlink}
use Rattle.bb_board.specs.declared.reason.Reason.{Reason}
use Rattle.bb_board.specs.declared.reason.Reason.TheVariants.{Deleted, Slot, LinkClass}
use Rattle.bb_board.specs.State.{World}
use Rattle.bb_board.specs.World.{event, class_at}
use Rattle.bb_board.specs.Links.{joining, parting, pair_parting, own_pair, partners_pair, link_notes, linked_at, unlinked_at, after_link, after_unlink}
use Rattle.bb_board.specs.May.{class_has, has_link, leads_to, may_link}
use Rattle.bb_board.specs.Fits.{names_slot_of, is_noted, is_of_owner, Fits}
use Rattle.bb_board.specs.Outlives.{Outlives}
use Rattle.bb_board.proofs.AllLemmas.{all_append, all_weaker, all_both, all_filter, all_found, set_passes, map_set}
use Rattle.bb_board.proofs.KeepLemmas.{event_of_live, class_there}
use Rattle.bb_board.proofs.OutliveLemmas.{outlives_same}
use Rattle.bb_board.proofs.SideLemmas.{link_at, inverse_end, is_either, link_within}

-- a change of one couple, or of all

changed_by : (test : ℕ × ℕ → Bool) (change : Couple → Couple) (c : Couples) (couple i : ℕ) (found : Option Couple) → slice_get c.couples couple ≡ found
    → ((k : Couple) → i ≡ couple → list_all test k.pairs ≡ true → list_all test (change k).pairs ≡ true) → option_map_or (λ k. list_all test k.pairs) (slice_get c.couples i) true ≡ true
    → option_map_or (λ k. list_all test k.pairs) (slice_get (option_map_or (λ k. (let d : Couples = record { couples = slice_set c.couples couple (change k); ends = c.ends } in d)) found c).couples i) true ≡ true
changed_by test change c couple i None is from all = all
changed_by test change c couple i (Some k) is from all =
    set_passes (λ (x : Couple). list_all test x.pairs) c.couples couple i (change k) (λ e. from k e (let at_couple = ap (λ j. option_map_or (λ (x : Couple). list_all test x.pairs) (slice_get c.couples j) true) (sym e) ∙ all in sym (ap (λ o. option_map_or (λ (x : Couple). list_all test x.pairs) o true) is) ∙ at_couple)) all

pairs_seen : (test : ℕ × ℕ → Bool) (found : Option Couple) → list_all test (option_map_or (λ k. k.pairs) found []) ≡ option_map_or (λ k. list_all test k.pairs) found true
pairs_seen test None = refl
pairs_seen test (Some k) = refl

all_changed : (test : ℕ × ℕ → Bool) (change : Couple → Couple) (c : Couples) (couple i : ℕ) → ((k : Couple) → i ≡ couple → list_all test k.pairs ≡ true → list_all test (change k).pairs ≡ true)
    → list_all test (pairs_of c i) ≡ true → list_all test (pairs_of (changed change c couple) i) ≡ true
all_changed test change c couple i from all =
    pairs_seen test (slice_get (changed change c couple).couples i) ∙ changed_by test change c couple i (slice_get c.couples couple) refl from (sym (pairs_seen test (slice_get c.couples i)) ∙ all)

changed_rest_by : (change : Couple → Couple) (c : Couples) (couple : ℕ) (found : Option Couple) → slice_get c.couples couple ≡ found → ((k : Couple) → (change k).singular ≡ k.singular)
    → (let d : Couples = option_map_or (λ k. (let d : Couples = record { couples = slice_set c.couples couple (change k); ends = c.ends } in d)) found c in (d.ends ≡ c.ends) × (map (λ k. k.singular) d.couples ≡ map (λ k. k.singular) c.couples))
changed_rest_by change c couple None is same = (refl, refl)
changed_rest_by change c couple (Some k) is same = (refl, map_set (λ (x : Couple). x.singular) c.couples couple k (change k) is (same k))

changed_rest : (change : Couple → Couple) (c : Couples) (couple : ℕ) → ((k : Couple) → (change k).singular ≡ k.singular)
    → ((changed change c couple).ends ≡ c.ends) × (map (λ k. k.singular) (changed change c couple).couples ≡ map (λ k. k.singular) c.couples)
changed_rest change c couple same = changed_rest_by change c couple (slice_get c.couples couple) refl same

-- pairs after a link

without_old_all : (test : ℕ × ℕ → Bool) (old : Option (ℕ × ℕ)) (pairs : List (ℕ × ℕ)) → list_all test pairs ≡ true → list_all test (without_old old pairs) ≡ true
without_old_all test None pairs all = all
without_old_all test (Some p) pairs all = all_filter test test (λ q. not (same_pair p q)) (λ q kept is. is) pairs all

link_by : (test : ℕ × ℕ → Bool) (s : Singular) (a b : ℕ) (pairs : List (ℕ × ℕ)) (there : Bool) → test (a, b) ≡ true → list_all test pairs ≡ true
    → list_all test (if there then pairs else without_old (old_pair s B b pairs) (without_old (old_pair s A a pairs) pairs) ++ (a, b) ∷ []) ≡ true
link_by test s a b pairs true one all = all
link_by test s a b pairs false one all =
    all_append test (without_old (old_pair s B b pairs) (without_old (old_pair s A a pairs) pairs)) ((a, b) ∷ [])
    (without_old_all test (old_pair s B b pairs) (without_old (old_pair s A a pairs) pairs) (without_old_all test (old_pair s A a pairs) pairs all)) (and_from (test (a, b)) true one refl)

link_all : (test : ℕ × ℕ → Bool) (s : Singular) (a b : ℕ) (pairs : List (ℕ × ℕ)) → test (a, b) ≡ true → list_all test pairs ≡ true → list_all test (with_link s a b pairs) ≡ true
link_all test s a b pairs one all = link_by test s a b pairs (has_pair (a, b) pairs) one all

old_by : (test : ℕ × ℕ → Bool) (b : Bool) (side : Side) (n : ℕ) (pairs : List (ℕ × ℕ)) (p : ℕ × ℕ) → (if b then find (λ q. near side q == n) pairs else None) ≡ Some p → list_all test pairs ≡ true → test p ≡ true
old_by test true side n pairs p is all = all_found test (λ q. near side q == n) pairs p is all
old_by test false side n pairs p is all = absurd cc

near_of : (side : Side) (n m : ℕ) → near side (pair_of side n m) ≡ n
near_of A n m = refl
near_of B n m = refl

far_of : (side : Side) (n m : ℕ) → near (opposite side) (pair_of side n m) ≡ m
far_of A n m = refl
far_of B n m = refl

far_is : (side : Side) (p : ℕ × ℕ) → near (opposite side) p ≡ far side p
far_is A p = refl
far_is B p = refl

-- what a call asks for

pub record MayLink (s : Schema) (w : World) (n slot m : ℕ) : Type 0 where
  pub live : is_live w.units n ≡ true
  pub partner : is_live w.units m ≡ true
  pub link : Link
  pub is : link_of s.slots slot ≡ Some link
  pub owner : class_has s (class_at w n) slot ≡ true
  pub to : descends s (class_at w m) link.to ≡ true

tests_by : (a b c : Bool) (x y z : Reason) → (let r : Result (Unit {0}) Reason = (if not a then Err x else if not b then Err y else if not c then Err z else Ok tt) in r) ≡ Ok tt → (a ≡ true) × (b ≡ true) × (c ≡ true)
tests_by true true true x y z is = (refl, refl, refl)
tests_by true true false x y z is = absurd cc
tests_by true false c x y z is = absurd cc
tests_by false b c x y z is = absurd cc

link_there : (found : Option Link) → is_some found ≡ true → (l : Link) × (found ≡ Some l)
link_there None is = absurd cc
link_there (Some l) is = (l, refl)

pub may_link_facts : (s : Schema) (w : World) (n slot m : ℕ) → may_link s w n slot m ≡ Ok tt → MayLink s w n slot m
may_link_facts s w n slot m is =
    let tests = tests_by (is_live w.units n && is_live w.units m) (has_link s (class_at w n) slot) (leads_to s slot (class_at w m)) Deleted Slot LinkClass is in
    let lives = and_parts (is_live w.units n) (is_live w.units m) tests.0 in
    let has = and_parts (is_some (link_of s.slots slot)) (class_has s (class_at w n) slot) tests.1 in
    let link = link_there (link_of s.slots slot) has.0 in
    record { live = lives.0; partner = lives.1; link = link.0; is = link.1; owner = has.1; to = sym (ap (λ o. option_map_or (λ l. descends s (class_at w m) l.to) o false) link.1) ∙ tests.2 }

-- notes of links

pub no_flat : {X Y : Type 0} (q : Y → Bool) (f : X → List Y) → ((x : X) → list_all q (f x) ≡ true) → (xs : List X) → list_all q (flat_map f xs) ≡ true
no_flat q f from [] = refl
no_flat q f from (x ∷ xs) = all_append q (f x) (flat_map f xs) (from x) (no_flat q f from xs)

owner_live_by : (s : Schema) (slot : ℕ) (found : Option OneUnit) → option_map_or (λ class. class_has s class slot) (option_map (λ x. x.class) found) false ≡ true → is_some found ≡ true
owner_live_by s slot None is = absurd cc
owner_live_by s slot (Some x) is = refl

module _ (s : Schema) (w : World) (sf : schemas.Fits s) (fits : Fits s w) where
  pub pairs_live : (slot : ℕ) (e : ℕ × Side) → couple_of s slot ≡ Some e → list_all (λ p. is_live w.units (near e.1 p) && is_live w.units (far e.1 p)) (pairs_of w.links e.0) ≡ true
  pairs_live slot e is =
      let link = link_at s sf.coupled slot e is in
      let inverse : couple_of s link.0.inverse ≡ Some (let f : ℕ × Side = (e.0, opposite e.1) in f) =
      inverse_end s sf.coupled slot link.0 link.1 ∙ ap (λ (x : ℕ × Side). Some (let f : ℕ × Side = (x.0, opposite x.1) in f)) link.2 in
      all_both (λ p. is_live w.units (near e.1 p)) (λ p. is_live w.units (far e.1 p)) (pairs_of w.links e.0)
      (all_weaker (λ p. is_of_owner s w.units (near e.1 p) slot) (λ p. is_live w.units (near e.1 p)) (λ p is. owner_live_by s slot (get w.units.units (near e.1 p)) is) (pairs_of w.links e.0) (fits.pairs slot e is))
      (all_weaker (λ p. is_of_owner s w.units (near (opposite e.1) p) link.0.inverse) (λ p. is_live w.units (far e.1 p))
      (λ p is. ap (is_live w.units) (sym (far_is e.1 p)) ∙ owner_live_by s link.0.inverse (get w.units.units (near (opposite e.1) p)) is) (pairs_of w.links e.0) (fits.pairs link.0.inverse (e.0, opposite e.1) inverse))

  module _ (v : Units) (outlives : Outlives w.units v) (slot : ℕ) (l : Link) (link : link_of s.slots slot ≡ Some l) where
    slot_within : nat_lt slot (length s.slots) ≡ true
    slot_within = link_within s sf.coupled slot l link

    inverse_within : nat_lt (inverse_of s.slots slot) (length s.slots) ≡ true
    inverse_within =
        ap (λ o. nat_lt (option_map_or (λ (x : Link). x.inverse) o slot) (length s.slots)) link ∙ link_within s sf.coupled l.inverse (sf.coupled slot l link).back (sf.coupled slot l link).is

    two_noted : (n m : ℕ) (one two : Change) → is_live w.units n ≡ true → is_live w.units m ≡ true → names_slot_of s one ≡ true → names_slot_of s two ≡ true
        → list_all (is_noted s v) (event n (class_at w n) one ∷ event m (class_at w m) two ∷ []) ≡ true
    two_noted n m one two live partner names names2 =
        and_from (is_noted s v (event n (class_at w n) one)) (is_noted s v (event m (class_at w m) two) && true) (event_of_live s w v n one fits outlives live names)
        (and_from (is_noted s v (event m (class_at w m) two)) true (event_of_live s w v m two fits outlives partner names2) refl)

    joining_noted : (n m : ℕ) → is_live w.units n ≡ true → is_live w.units m ≡ true → list_all (is_noted s v) (joining s w n slot m) ≡ true
    joining_noted n m live partner = two_noted n m (Links slot m) (Links (inverse_of s.slots slot) n) live partner slot_within inverse_within

    pub parting_noted : (n m : ℕ) → is_live w.units n ≡ true → is_live w.units m ≡ true → list_all (is_noted s v) (parting s w n slot m) ≡ true
    parting_noted n m live partner = two_noted n m (Unlink slot m) (Unlink (inverse_of s.slots slot) n) live partner slot_within inverse_within

    pair_noted : (side : Side) (old : Option (ℕ × ℕ)) → ((p : ℕ × ℕ) → old ≡ Some p → (is_live w.units (near side p) && is_live w.units (far side p)) ≡ true) → list_all (is_noted s v) (pair_parting s w side slot old) ≡ true
    pair_noted side None live = refl
    pair_noted side (Some p) live = let both = and_parts (is_live w.units (near side p)) (is_live w.units (far side p)) (live p refl) in parting_noted (near side p) (far side p) both.0 both.1

    own_by : (side : Side) (t : Taken) (p : ℕ × ℕ) → own_pair side t ≡ Some p → (t.first ≡ Some p) ⊎ (t.second ≡ Some p)
    own_by A t p is = inl is
    own_by B t p is = inr is

    partners_by : (side : Side) (t : Taken) (p : ℕ × ℕ) → partners_pair side t ≡ Some p → (t.first ≡ Some p) ⊎ (t.second ≡ Some p)
    partners_by A t p is = inr is
    partners_by B t p is = inl is

    added_noted : (n m : ℕ) (added : Bool) → is_live w.units n ≡ true → is_live w.units m ≡ true → list_all (is_noted s v) (if added then joining s w n slot m else []) ≡ true
    added_noted n m true live partner = joining_noted n m live partner
    added_noted n m false live partner = refl

    parted_noted : (n m : ℕ) (was : Bool) → is_live w.units n ≡ true → is_live w.units m ≡ true → list_all (is_noted s v) (if was then parting s w n slot m else []) ≡ true
    parted_noted n m true live partner = parting_noted n m live partner
    parted_noted n m false live partner = refl

    notes_of_link : (side : Side) (n m : ℕ) (t : Taken) → is_live w.units n ≡ true → is_live w.units m ≡ true
        → ((p : ℕ × ℕ) → (t.first ≡ Some p) ⊎ (t.second ≡ Some p) → (is_live w.units (near side p) && is_live w.units (far side p)) ≡ true)
        → list_all (is_noted s v) (link_notes s w side n slot m t) ≡ true
    notes_of_link side n m t live partner old =
        let test = is_noted s v in
        all_append test (pair_parting s w side slot (own_pair side t) ++ pair_parting s w side slot (partners_pair side t)) (if t.added then joining s w n slot m else [])
        (all_append test (pair_parting s w side slot (own_pair side t)) (pair_parting s w side slot (partners_pair side t))
        (pair_noted side (own_pair side t) (λ p is. old p (own_by side t p is))) (pair_noted side (partners_pair side t) (λ p is. old p (partners_by side t p is)))) (added_noted n m t.added live partner)

  taken_by : (test : ℕ × ℕ → Bool) (k : Singular) (a b : ℕ) (pairs : List (ℕ × ℕ)) (there : Bool) → list_all test pairs ≡ true → (p : ℕ × ℕ)
      → (let t : Taken = (if there then (let none : Taken = record { first = None; second = None; added = false } in none) else (let some : Taken = record { first = old_pair k A a pairs; second = old_pair k B b pairs; added = true } in some)) in (t.first ≡ Some p) ⊎ (t.second ≡ Some p))
      → test p ≡ true
  taken_by test k a b pairs true all p is = elim is [ inl first ↦ absurd (let no : (let none : Option (ℕ × ℕ) = None in none) ≡ Some p = first in cc) | inr second ↦ absurd (let no : (let none : Option (ℕ × ℕ) = None in none) ≡ Some p = second in cc) ]
  taken_by test k a b pairs false all p is = elim is [ inl first ↦ old_by test (is_singular k A) A a pairs p first all | inr second ↦ old_by test (is_singular k B) B b pairs p second all ]

  notes_by : (slot : ℕ) (l : Link) (link : link_of s.slots slot ≡ Some l) (e : ℕ × Side) (n m a b : ℕ) (found : Option Couple) → is_live w.units n ≡ true → is_live w.units m ≡ true
      → list_all (λ p. is_live w.units (near e.1 p) && is_live w.units (far e.1 p)) (option_map_or (λ k. k.pairs) found []) ≡ true
      → list_all (is_noted s w.units) (option_map_or (link_notes s w e.1 n slot m) (option_map (λ k. taken_among k.singular a b k.pairs) found) []) ≡ true
  notes_by slot l link e n m a b None live partner all = refl
  notes_by slot l link e n m a b (Some k) live partner all =
      notes_of_link w.units (outlives_same w.units) slot l link e.1 n m (taken_among k.singular a b k.pairs) live partner
      (taken_by (λ p. is_live w.units (near e.1 p) && is_live w.units (far e.1 p)) k.singular a b k.pairs (has_pair (a, b) k.pairs) all)

  -- a live unit whose class has a slot
  owns : (n slot : ℕ) → is_live w.units n ≡ true → class_has s (class_at w n) slot ≡ true → is_of_owner s w.units n slot ≡ true
  owns n slot live has = ap (λ o. option_map_or (λ class. class_has s class slot) o false) (class_there s w n fits live).0 ∙ has

  module _ (n slot m : ℕ) (asked : MayLink s w n slot m) where
    abbrev end : ℕ × Side
    end = couple_end s.slots slot asked.link

    end_is : couple_of s slot ≡ Some end
    end_is = ap (option_map (couple_end s.slots slot)) asked.is

    partner_owns : is_of_owner s w.units m asked.link.inverse ≡ true
    partner_owns = owns m asked.link.inverse asked.partner (ap (λ o. option_map_or (λ owner. descends s (class_at w m) owner) o false) (sf.coupled slot asked.link asked.is).there ∙ asked.to)

    new_pair : (k : ℕ) (e : ℕ × Side) → couple_of s k ≡ Some e → e.0 ≡ end.0 → is_of_owner s w.units (near e.1 (pair_of end.1 n m)) k ≡ true
    new_pair k e is same =
        let other = link_at s sf.coupled k e is in
        elim (is_either s sf.coupled slot k asked.link other.0 asked.is other.1 (ap (λ (x : ℕ × Side). x.0) other.2 ∙ same)) [
          | inl it ↦ rw (let at_side : e.1 ≡ end.1 = sym (ap (λ (x : ℕ × Side). x.1) other.2) ∙ it.0 in at_side, it.1, near_of end.1 n m) (owns n slot asked.live asked.owner)
          | inr it ↦ rw (let at_side : e.1 ≡ opposite end.1 = sym (ap (λ (x : ℕ × Side). x.1) other.2) ∙ it.0 in at_side, it.1, far_of end.1 n m) partner_owns
        ]

    linked_fits : links.Fits (linked_at s w n slot m end).links → Fits s (linked_at s w n slot m end)
    linked_fits l =
        let p = pair_of end.1 n m in
        let rest = changed_rest (linked p.0 p.1) w.links end.0 (λ k. refl) in
        record {
          units = fits.units;
          layout = fits.layout;
          links = l;
          ends = λ k. ap (λ es. end_among es k) rest.0 ∙ fits.ends k;
          singular = rest.1 ∙ fits.singular;
          pairs = λ k e is. all_changed (λ q. is_of_owner s w.units (near e.1 q) k) (linked p.0 p.1) w.links end.0 e.0
              (λ c same all. link_all (λ q. is_of_owner s w.units (near e.1 q) k) c.singular p.0 p.1 c.pairs (new_pair k e is same) all) (fits.pairs k e is);
          spaces = fits.spaces;
          notes = all_append (is_noted s w.units) w.notes (option_map_or (link_notes s w end.1 n slot m) (taken w.links end.0 p.0 p.1) []) fits.notes
              (notes_by slot asked.link asked.is end n m p.0 p.1 (slice_get w.links.couples end.0) asked.live asked.partner (pairs_live slot end end_is));
        }

    pub link_keeps : links.Fits (after_link s w n slot m).links → Fits s (after_link s w n slot m)
    link_keeps = subst (λ (o : Option (ℕ × Side)). links.Fits (option_map_or (linked_at s w n slot m) o w).links → Fits s (option_map_or (linked_at s w n slot m) o w)) (sym end_is) linked_fits

    unlinked_fits : links.Fits (unlinked_at s w n slot m end).links → Fits s (unlinked_at s w n slot m end)
    unlinked_fits l =
        let p = pair_of end.1 n m in
        let rest = changed_rest (unlinked p.0 p.1) w.links end.0 (λ k. refl) in
        record {
          units = fits.units;
          layout = fits.layout;
          links = l;
          ends = λ k. ap (λ es. end_among es k) rest.0 ∙ fits.ends k;
          singular = rest.1 ∙ fits.singular;
          pairs = λ k e is. all_changed (λ q. is_of_owner s w.units (near e.1 q) k) (unlinked p.0 p.1) w.links end.0 e.0
              (λ c same all. let test = λ (q : ℕ × ℕ). is_of_owner s w.units (near e.1 q) k in all_filter test test (λ q. not (same_pair (p.0, p.1) q)) (λ q kept is. is) c.pairs all) (fits.pairs k e is);
          spaces = fits.spaces;
          notes = all_append (is_noted s w.units) w.notes (if are_linked w.links end.0 p.0 p.1 then parting s w n slot m else []) fits.notes
              (parted_noted w.units (outlives_same w.units) slot asked.link asked.is n m (are_linked w.links end.0 p.0 p.1) asked.live asked.partner);
        }

    pub unlink_keeps : links.Fits (after_unlink s w n slot m).links → Fits s (after_unlink s w n slot m)
    unlink_keeps = subst (λ (o : Option (ℕ × Side)). links.Fits (option_map_or (unlinked_at s w n slot m) o w).links → Fits s (option_map_or (unlinked_at s w n slot m) o w)) (sym end_is) unlinked_fits
