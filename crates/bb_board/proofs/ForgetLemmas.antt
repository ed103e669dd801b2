-- What a deleted unit leaves of another: its class, its spaces, and its partners but for the unit itself.
use Rattle.std.proofs.Common.{◌≡◌, ℕ, Bool, true, false, cond, not, List, [], ◌∷◌, map, filter, length, Option, Some, None, option_map, refl, sym, ap, ◌∙◌}
use Rattle.std.specs.Prelude.{◌==◌, ◌||◌, is_some, slice_get}
use Rattle.std.specs.List.{range_with_len}
use Rattle.std.specs.Option.{option_map_or}
use Rattle.std.specs.Ordering.{nat_cmp, eq_by_cmp}
use Rattle.std.specs.Cmp.{nat_cmp_total, Equal-is}
use Rattle.std.specs.FinMap.{empty, get, get-remove, nat_cmp-IsAntisymmetric}
use Rattle.std.proofs.lemmas.Bool.{eq-eqb, eqb-true}
use Rattle.std.proofs.lemmas.List.{length-map}
use Rattle.std.proofs.lemmas.List.Elements.{filter_agree}
use Rattle.std.proofs.lemmas.Option.{slice_get-map}
use Rattle.bb_schema.specs.declared.couple.Side.{Side}
use Rattle.bb_schema.specs.declared.couple.Side.TheVariants.{A, B}
use Rattle.bb_units.specs.Units.{Units, class_of, is_live, after_delete as without_unit}
use Rattle.bb_links.specs.Pairs.{near, far, without_unit as without_pairs}
use Rattle.bb_links.specs.Links.{partners, ends}
use Rattle.bb_links.specs.Couples.{Couple, Couples, end_of, pairs_of, forgotten, after_forget}
use Rattle.bb_space.specs.Spaces.{Membership, Spaces, is_member, left, spaces_of, after_forget as out_of_spaces}

-- ---- a list of numbers that are taken from items

module _ {X : Type 0} (at stays : X → Bool) (number : X → ℕ) (kept : ℕ → Bool) (agree : (x : X) → at x ≡ true → stays x ≡ kept (number x)) where
  taken_by : (a b c : Bool) (x : X) (xs ys : List X) → at x ≡ a → stays x ≡ b → kept (number x) ≡ c → (a ≡ true → b ≡ c)
      → map number (filter at xs) ≡ filter kept (map number ys)
      → map number (filter at (cond b (x ∷ xs) xs)) ≡ filter kept (map number (cond a (x ∷ ys) ys))
  taken_by true true true x xs ys is is2 is3 same rest = rw (is, is3) (ap (λ l. number x ∷ l) rest)
  taken_by true true false x xs ys is is2 is3 same rest = absurd (let e = same refl in cc)
  taken_by true false true x xs ys is is2 is3 same rest = absurd (let e = same refl in cc)
  taken_by true false false x xs ys is is2 is3 same rest = rw is3 rest
  taken_by false true c x xs ys is is2 is3 same rest = rw is rest
  taken_by false false c x xs ys is is2 is3 same rest = rest

  pub taken_kept : (xs : List X) → map number (filter at (filter stays xs)) ≡ filter kept (map number (filter at xs))
  taken_kept [] = refl
  taken_kept (x ∷ xs) =
      taken_by (at x) (stays x) (kept (number x)) x (filter stays xs) (filter at xs) refl refl refl (agree x) (taken_kept xs)

-- ---- another unit

other_by : (n m : ℕ) (b : Bool) → (n == m) ≡ false → eq_by_cmp nat_cmp m n ≡ b → b ≡ false
other_by n m true apart same = absurd (let e : true ≡ false = sym (eq-eqb n m (sym (nat_cmp-IsAntisymmetric m n ((Equal-is (nat_cmp m n)).0 same)))) ∙ apart in cc)
other_by n m false apart same = refl

module _ (n m : ℕ) (apart : (n == m) ≡ false) where
  get_left : {X : Type 0} (b : Bool) (old : Option X) → b ≡ false → cond b None old ≡ old
  get_left true old is = absurd cc
  get_left false old is = refl

  -- its values stay, and so its class
  unit_stays : (u : Units) → get (without_unit u n).units m ≡ get u.units m
  unit_stays u = get-remove nat_cmp_total u.units n m ∙ get_left (eq_by_cmp nat_cmp m n) (get u.units m) (other_by n m (eq_by_cmp nat_cmp m n) apart refl)

  pub live_stays : (u : Units) → is_live (without_unit u n) m ≡ is_live u m
  live_stays u = ap is_some (unit_stays u)

  pub class_stays : (u : Units) → class_of (without_unit u n) m ≡ class_of u m
  class_stays u = ap (option_map (λ x. x.class)) (unit_stays u)

  -- its spaces stay
  in_space : (o : Option Membership) → is_some (get (option_map_or (λ x. x) (option_map (left n) o) empty) m) ≡ is_some (get (option_map_or (λ x. x) o empty) m)
  in_space None = refl
  in_space (Some x) =
      ap is_some (get-remove nat_cmp_total x n m ∙ get_left (eq_by_cmp nat_cmp m n) (get x m) (other_by n m (eq_by_cmp nat_cmp m n) apart refl))

  member_stays : (t : Spaces) (space : ℕ) → is_member (out_of_spaces t n) space m ≡ is_member t space m
  member_stays t space =
      ap (λ o. is_some (get (option_map_or (λ (x : Membership). x) o empty) m)) (slice_get-map (left n) t.spaces space)
      ∙ in_space (slice_get t.spaces space)

  pub spaces_stay : (t : Spaces) → spaces_of (out_of_spaces t n) m ≡ spaces_of t m
  spaces_stay t =
      ap (λ k. filter (λ space. is_member (out_of_spaces t n) space m) (range_with_len 0 k)) (length-map t.spaces (left n))
      ∙ filter_agree (λ space. is_member (out_of_spaces t n) space m) (λ space. is_member t space m) (member_stays t) (range_with_len 0 (length t.spaces))

  -- its partners stay, but for the unit that is gone
  not_at : (a b : ℕ) (c : Bool) → a ≡ m → (a == n) ≡ c → c ≡ false
  not_at a b true is same = absurd (let e : true ≡ false = sym (eq-eqb n m (sym (eqb-true a n same) ∙ is)) ∙ apart in cc)
  not_at a b false is same = refl

  pair_stays : (side : Side) (p : ℕ × ℕ) → (near side p == m) ≡ true → not (p.0 == n || p.1 == n) ≡ not (far side p == n)
  pair_stays A p at = ap (λ b. not (b || p.1 == n)) (not_at p.0 n (p.0 == n) (eqb-true p.0 m at) refl)
  pair_stays B p at = ap (λ b. not (p.0 == n || b)) (not_at p.1 n (p.1 == n) (eqb-true p.1 m at) refl) ∙ or_none (p.0 == n)
    where
      or_none : (b : Bool) → not (b || false) ≡ not b
      or_none true = refl
      or_none false = refl

  pairs_left : (found : Option Couple) → option_map_or (λ k. k.pairs) (option_map (forgotten n) found) [] ≡ without_pairs n (option_map_or (λ k. k.pairs) found [])
  pairs_left None = refl
  pairs_left (Some k) = refl

  ends_by : (c : Couples) (e : Option (ℕ × Side))
      → option_map_or (λ e. partners e.1 m (pairs_of (after_forget c n) e.0)) e [] ≡ filter (λ k. not (k == n)) (option_map_or (λ e. partners e.1 m (pairs_of c e.0)) e [])
  ends_by c None = refl
  ends_by c (Some e) =
      ap (partners e.1 m) (ap (λ o. option_map_or (λ (k : Couple). k.pairs) o []) (slice_get-map (forgotten n) c.couples e.0) ∙ pairs_left (slice_get c.couples e.0))
      ∙ taken_kept (λ p. near e.1 p == m) (λ p. not (p.0 == n || p.1 == n)) (far e.1) (λ k. not (k == n)) (pair_stays e.1) (pairs_of c e.0)

  pub ends_stay : (c : Couples) (slot : ℕ) → ends (after_forget c n) m slot ≡ filter (λ k. not (k == n)) (ends c m slot)
  ends_stay c slot = ends_by c (end_of c slot)
