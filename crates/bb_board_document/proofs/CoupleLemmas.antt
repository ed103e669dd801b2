-- The slot at side A of each couple, and a link that is added after all others of its couple.
use Rattle.std.proofs.Common.{◌≡◌, ℕ, suc, ◌+◌, ◌≤◌, Bool, true, false, cond, ◌||◌, ◌&&◌, ◌==◌, nat_lt, List, [], ◌∷◌, ◌++◌, map, filter, length, take, Option, Some, None, refl, sym, ap, subst, ◌∙◌, arith, rules, eq-eqb}
use Rattle.std.specs.Prelude.{slice_get, option_and_then, find, if◌then◌else◌, IsTrue}
use Rattle.std.specs.List.{list_any, list_all}
use Rattle.std.specs.Option.{option_map_or}
use Rattle.std.proofs.lemmas.Bool.{and_parts}
use Rattle.std.proofs.lemmas.List.{length-map}
use Rattle.bb_schema_classes.specs.declared.kind.Link.{Link}
use Rattle.bb_schema.specs.declared.slot.Slot.{Slot}
use Rattle.bb_schema.specs.Slots.{link_in, link_of}
use Rattle.bb_schema.specs.declared.couple.Side.{Side}
use Rattle.bb_schema.specs.declared.couple.Side.TheVariants.{A, B}
use Rattle.bb_schema.specs.Schema.{Schema}
use Rattle.bb_schema.specs.Couples.{comes_first, firsts, couples, couple_end}
use Rattle.bb_links.specs.Pairs.{near, same_pair, has_pair, is_singular, with_link}
use Rattle.bb_links.specs.Links.{partners}
use Rattle.bb_links.specs.Couples.{Couple}
use Rattle.bb_links.specs.Fits.{FitsCouple}

-- ---- the first slot of a couple

-- a slot that comes first, with the couples before it
record IsFirst (k : ℕ) (slots : List Slot) (pre : List ℕ) (n : ℕ) : Type 0 where
  place : ℕ
  number : n ≡ k + place
  before : firsts k (take place slots) ≡ pre
  slot : Slot
  at : slice_get slots place ≡ Some slot
  first : comes_first n slot ≡ true

first_at : (slots : List Slot) (k : ℕ) (pre : List ℕ) (n : ℕ) (post : List ℕ) → firsts k slots ≡ pre ++ n ∷ post → IsFirst k slots pre n
unfolding firsts
first_at [] k [] n post is = absurd cc
first_at [] k (p ∷ pre) n post is = absurd cc
first_at (t ∷ ts) k pre n post is = by (comes_first k t) refl pre is (λ qs h. first_at ts (suc k) qs n post h)
  where
    later : (b : Bool) → comes_first k t ≡ b → (qs ps : List ℕ) → cond b (k ∷ qs) qs ≡ ps → (i : IsFirst (suc k) ts qs n) → IsFirst k (t ∷ ts) ps n
    later b h qs ps same i = record {
      place = suc i.place;
      number = let e = i.number in omega (arith, e);
      before = rw (h, i.before) same;
      slot = i.slot;
      at = i.at;
      first = i.first;
    }

    by : (b : Bool) → comes_first k t ≡ b → (ps : List ℕ) → cond b (k ∷ firsts (suc k) ts) (firsts (suc k) ts) ≡ ps ++ n ∷ post → ((qs : List ℕ) → firsts (suc k) ts ≡ qs ++ n ∷ post → IsFirst (suc k) ts qs n) → IsFirst k (t ∷ ts) ps n
    by true h [] same rest = let e : k ≡ n = cc in record { place = 0; number = omega (arith, e); before = refl; slot = t; at = refl; first = subst (λ i. comes_first i t ≡ true) e h }
    by true h (p ∷ ps) same rest = let e : k ≡ p = cc in later true h ps (p ∷ ps) (ap (λ i. i ∷ ps) e) (rest ps cc)
    by false h ps same rest = later false h ps ps refl (rest ps same)

link_by : (t : Option Slot) (n : ℕ) (s : Slot) → t ≡ Some s → comes_first n s ≡ true → (l : Link) × (option_and_then (λ u. link_in u.content) t ≡ Some l) × (nat_lt n l.inverse ≡ true)
link_by t n s at first = by (link_in s.content) refl
  where
    by : (o : Option Link) → link_in s.content ≡ o → (l : Link) × (option_and_then (λ u. link_in u.content) t ≡ Some l) × (nat_lt n l.inverse ≡ true)
    by None h = absurd (let e : true ≡ false = sym first ∙ ap (λ o. option_map_or (λ l. nat_lt n l.inverse) o false) h in cc)
    by (Some l) h = (l, ap (option_and_then (λ (u : Slot). link_in u.content)) at ∙ h, sym (ap (λ o. option_map_or (λ (k : Link). nat_lt n k.inverse) o false) h) ∙ first)

-- the couple after so many others
pub record IsCouple (s : Schema) (i n : ℕ) : Type 0 where
  pub link : Link
  pub is : link_of s.slots n ≡ Some link
  pub ends : couple_end s.slots n link ≡ (let e : ℕ × Side = (i, A) in e)

pub couple_at : (s : Schema) (pre : List ℕ) (n : ℕ) (post : List ℕ) → couples s ≡ pre ++ n ∷ post → IsCouple s (length pre) n
couple_at s pre n post is =
    let f = first_at s.slots 0 pre n post is in
    let number : n ≡ f.place = let e = f.number in omega (arith, e) in
    let at : slice_get s.slots n ≡ Some f.slot = ap (slice_get s.slots) number ∙ f.at in
    let l = link_by (slice_get s.slots n) n f.slot at f.first in
    let before : firsts 0 (take n s.slots) ≡ pre = ap (λ i. firsts 0 (take i s.slots)) number ∙ f.before in
    record { link = l.0; is = l.1; ends = rw l.2 (ap (λ ns. (let e : ℕ × Side = (length ns, A) in e)) before) }

-- ---- one of several that pass is alone

module _ {X : Type 0} (t : X → Bool) where
  some_pass : (xs : List X) (x : X) (ys : List X) → t x ≡ true → 1 ≤ length (filter t (xs ++ x ∷ ys))
  some_pass [] x ys passes = rw passes (omega arith)
  some_pass (y ∷ xs) x ys passes = by (t y) (some_pass xs x ys passes)
    where
      by : (b : Bool) → 1 ≤ length (filter t (xs ++ x ∷ ys)) → 1 ≤ length (cond b (y ∷ filter t (xs ++ x ∷ ys)) (filter t (xs ++ x ∷ ys)))
      by true rest = omega arith
      by false rest = rest

  alone_before : (xs : List X) (x : X) (ys : List X) → t x ≡ true → length (filter t (xs ++ x ∷ ys)) ≤ 1 → list_any t xs ≡ false
  alone_before [] x ys passes one = refl
  alone_before (y ∷ xs) x ys passes one = by (t y) refl one (alone_before xs x ys passes)
    where
      by : (b : Bool) → t y ≡ b → length (cond b (y ∷ filter t (xs ++ x ∷ ys)) (filter t (xs ++ x ∷ ys))) ≤ 1 → (length (filter t (xs ++ x ∷ ys)) ≤ 1 → list_any t xs ≡ false) → (b || list_any t xs) ≡ false
      by true h le rest = let some = some_pass xs x ys passes in absurd (omega (arith, some, le))
      by false h le rest = rest le

  pub none_found : (xs : List X) → list_any t xs ≡ false → find t xs ≡ None
  none_found [] none = refl
  none_found (y ∷ xs) none = by (t y) refl none (none_found xs)
    where
      by : (b : Bool) → t y ≡ b → (b || list_any t xs) ≡ false → (list_any t xs ≡ false → find t xs ≡ None) → cond b (Some y) (find t xs) ≡ None
      by true h is rest = absurd cc
      by false h is rest = rest is

-- tests that agree on all of a list
agree_any : {X : Type 0} (p q r : X → Bool) (xs : List X) → ((x : X) → r x ≡ true → p x ≡ q x) → list_all r xs ≡ true → list_any p xs ≡ list_any q xs
agree_any p q r [] same all = refl
agree_any p q r (x ∷ xs) same all =
    let both = and_parts (r x) (list_all r xs) all in
    rw (same x both.0, agree_any p q r xs same both.1) refl

any_map : {X Y : Type 0} (p : Y → Bool) (f : X → Y) (xs : List X) → list_any p (map f xs) ≡ list_any (λ x. p (f x)) xs
any_map p f [] = refl
any_map p f (x ∷ xs) = ap (λ b. p (f x) || b) (any_map p f xs)

-- ---- a pair under new numbers, after those before it

abbrev pub renew : (ℕ → ℕ) → ℕ × ℕ → ℕ × ℕ
renew new p = (new p.0, new p.1)

abbrev pub both_live : (ℕ → Bool) → ℕ × ℕ → Bool
both_live lives p = lives p.0 && lives p.1

module _ (new : ℕ → ℕ) (lives : ℕ → Bool) (same : (a b : ℕ) → lives a ≡ true → lives b ≡ true → (new a == new b) ≡ (a == b)) where
  module _ (k : Couple) (fits : FitsCouple k) (front : List (ℕ × ℕ)) (p : ℕ × ℕ) (rest : List (ℕ × ℕ)) (is : front ++ p ∷ rest ≡ k.pairs) (fronts : list_all (both_live lives) front ≡ true) (live : both_live lives p ≡ true) where
    parts : (lives p.0 ≡ true) × (lives p.1 ≡ true)
    parts = and_parts (lives p.0) (lives p.1) live

    same_renewed : (q : ℕ × ℕ) → both_live lives q ≡ true → same_pair (renew new p) (renew new q) ≡ same_pair p q
    same_renewed q h = let qs = and_parts (lives q.0) (lives q.1) h in rw (same q.0 p.0 qs.0 parts.0, same q.1 p.1 qs.1 parts.1) refl

    not_there : has_pair (renew new p) (map (renew new) front) ≡ false
    not_there =
        any_map (same_pair (renew new p)) (renew new) front
        ∙ (agree_any (λ q. same_pair (renew new p) (renew new q)) (same_pair p) (both_live lives) front same_renewed fronts
        ∙ alone_before (same_pair p) front p rest (rw (eq-eqb p.0 p.0 refl, eq-eqb p.1 p.1 refl) refl) (subst (λ ps. length (filter (same_pair p) ps) ≤ 1) (sym is) (fits.once p)))

    near_renewed : (side : Side) (q : ℕ × ℕ) → both_live lives q ≡ true → (near side (renew new q) == near side (renew new p)) ≡ (near side q == near side p)
    near_renewed A q h = same q.0 p.0 (and_parts (lives q.0) (lives q.1) h).0 parts.0
    near_renewed B q h = same q.1 p.1 (and_parts (lives q.0) (lives q.1) h).1 parts.1

    none_near : (side : Side) → IsTrue (is_singular k.singular side) → find (λ q. near side q == near side (renew new p)) (map (renew new) front) ≡ None
    none_near side singular =
        none_found (λ q. near side q == near side (renew new p)) (map (renew new) front)
        (any_map (λ q. near side q == near side (renew new p)) (renew new) front
        ∙ (agree_any (λ q. near side (renew new q) == near side (renew new p)) (λ q. near side q == near side p) (both_live lives) front (near_renewed side) fronts
        ∙ alone_before (λ q. near side q == near side p) front p rest (eq-eqb (near side p) (near side p) refl) few))
      where
        few : length (filter (λ q. near side q == near side p) (front ++ p ∷ rest)) ≤ 1
        few = subst (λ n. n ≤ 1) (length-map (filter (λ q. near side q == near side p) (front ++ p ∷ rest)) _)
            (subst (λ ps. length (partners side (near side p) ps) ≤ 1) (sym is) (fits.single side (near side p) singular))

    no_old : (side : Side) (b : Bool) → is_singular k.singular side ≡ b → (if b then find (λ q. near side q == near side (renew new p)) (map (renew new) front) else None) ≡ None
    no_old side true h = none_near side (search (rules, h))
    no_old side false h = refl

    -- it comes last, and takes no other away
    pub linked_last : with_link k.singular (new p.0) (new p.1) (map (renew new) front) ≡ map (renew new) front ++ renew new p ∷ []
    linked_last = rw (not_there, no_old A (is_singular k.singular A) refl, no_old B (is_singular k.singular B) refl) refl
