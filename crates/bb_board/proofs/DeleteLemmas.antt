-- What holds of a blackboard holds after one unit was deleted.
use Rattle.std.proofs.Common.{◌≡◌, ℕ, zero, suc, ◌+◌, ◌≤◌, Bool, true, false, cond, not, List, [], ◌∷◌, ◌++◌, map, filter, length, Option, Some, None, option_map, refl, sym, ap, ◌∙◌, arith}
use Rattle.std.specs.Prelude.{◌==◌, ◌||◌, nat_lt, slice_get}
use Rattle.std.specs.List.{list_all, flat_map, range_with_len}
use Rattle.std.specs.Option.{option_map_or}
use Rattle.std.specs.Ordering.{nat_cmp, eq_by_cmp}
use Rattle.std.specs.Cmp.{nat_cmp_total, Equal-is}
use Rattle.std.specs.FinMap.{get, get-remove, nat_cmp-IsAntisymmetric}
use Rattle.std.proofs.lemmas.Bool.{and_from, or_parts, eq-eqb}
use Rattle.std.proofs.lemmas.List.Folds.{list_all-map}
use Rattle.std.proofs.lemmas.Option.{slice_get-map}
use Rattle.bb_basis.proofs.NumberLemmas.{nat_lt_below}
use Rattle.bb_basis.proofs.BoolLemmas.{not_true}
use Rattle.bb_schema.specs.declared.couple.Side.{Side}
use Rattle.bb_schema.specs.declared.couple.Side.TheVariants.{A, B}
use Rattle.bb_schema.specs.Schema.{Schema, slots_of}
use Rattle.bb_schema.specs.Couples.{couple_of}
use Rattle.bb_schema.specs.Fits as schemas
use Rattle.bb_units.specs.declared.unit.Unit.{Unit as OneUnit}
use Rattle.bb_units.specs.Units.{Units, is_live, class_of, after_delete as without_unit}
use Rattle.bb_units.proofs.Laws.{deleted_fit}
use Rattle.bb_links.specs.Pairs.{near}
use Rattle.bb_links.specs.Links.{partners, ends}
use Rattle.bb_links.specs.Couples.{Couple, forgotten, pairs_of}
use Rattle.bb_links.proofs.Laws.{forget_fits}
use Rattle.bb_board.specs.declared.event.Change.TheVariants.{Delete, Leave}
use Rattle.bb_board.specs.State.{World}
use Rattle.bb_board.specs.World.{event, class_at}
use Rattle.bb_space.specs.Spaces.{is_member}
use Rattle.bb_space.specs.Spaces.{spaces_of}
use Rattle.bb_board.specs.Spaces.{leavings}
use Rattle.bb_board.specs.Links.{parting}
use Rattle.bb_board.specs.proving.Deleted.{is_turn, slot_partings, deletion_notes, without_units}
use Rattle.bb_board.specs.Fits.{is_noted, is_of_owner, Fits}
use Rattle.bb_board.proofs.AllLemmas.{all_append, all_filter, all_flat_map}
use Rattle.bb_board.proofs.OutliveLemmas.{deleted_outlives}
use Rattle.bb_board.proofs.NoteLemmas.{notes_kept}
use Rattle.bb_board.proofs.KeepLemmas.{owner_kept, event_of_live}
use Rattle.bb_board.proofs.KnowLemmas.{knows_deleted}
use Rattle.bb_board.proofs.SideLemmas.{link_at}
use Rattle.bb_board.proofs.LinkLemmas.{no_flat, parting_noted}
use Rattle.bb_board.proofs.FewLemmas.{partners_live}

-- units without one

others_by : (n k c : ℕ) (b : Bool) (old : Option OneUnit) → eq_by_cmp nat_cmp k n ≡ b → (k ≡ n → ⊥) → option_map (λ x. x.class) old ≡ Some c → option_map (λ x. x.class) (cond b None old) ≡ Some c
others_by n k c true old same apart is = absurd (apart (nat_cmp-IsAntisymmetric k n ((Equal-is (nat_cmp k n)).0 same)))
others_by n k c false old same apart is = is

others_stay : (u : Units) (n k c : ℕ) → (k ≡ n → ⊥) → class_of u k ≡ Some c → class_of (without_unit u n) k ≡ Some c
others_stay u n k c apart is = ap (option_map (λ x. x.class)) (get-remove nat_cmp_total u.units n k) ∙ others_by n k c (eq_by_cmp nat_cmp k n) (get u.units k) refl apart is

-- pairs without a unit

is_apart : (side : Side) (n : ℕ) (p : ℕ × ℕ) → not (p.0 == n || p.1 == n) ≡ true → near side p ≡ n → ⊥
is_apart A n p kept e = absurd (let f : true ≡ false = sym (eq-eqb p.0 n e) ∙ (or_parts (p.0 == n) (p.1 == n) (not_true (p.0 == n || p.1 == n) kept)).0 in cc)
is_apart B n p kept e = absurd (let f : true ≡ false = sym (eq-eqb p.1 n e) ∙ (or_parts (p.0 == n) (p.1 == n) (not_true (p.0 == n || p.1 == n) kept)).1 in cc)

forgotten_by : (test after : ℕ × ℕ → Bool) (n : ℕ) (found : Option Couple) → ((p : ℕ × ℕ) → not (p.0 == n || p.1 == n) ≡ true → test p ≡ true → after p ≡ true)
    → list_all test (option_map_or (λ k. k.pairs) found []) ≡ true → list_all after (option_map_or (λ k. k.pairs) (option_map (forgotten n) found) []) ≡ true
forgotten_by test after n None from all = refl
forgotten_by test after n (Some k) from all = all_filter test after (λ p. not (p.0 == n || p.1 == n)) from k.pairs all

same_singular : (n : ℕ) (couples : List Couple) → map (λ k. k.singular) (map (forgotten n) couples) ≡ map (λ k. k.singular) couples
same_singular n [] = refl
same_singular n (k ∷ ks) = ap (λ xs. k.singular ∷ xs) (same_singular n ks)

range_below : (m n a : ℕ) → a + n ≤ m → list_all (λ x. nat_lt x m) (range_with_len a n) ≡ true
range_below m zero a le = refl
range_below m (suc n) a le = and_from (nat_lt a m) (list_all (λ x. nat_lt x m) (range_with_len (a + 1) n)) (nat_lt_below a m (omega (arith, le))) (range_below m n (a + 1) (omega (arith, le)))

module _ (s : Schema) (w : World) (sf : schemas.Fits s) (fits : Fits s w) (n : ℕ) (live : is_live w.units n ≡ true) where
  abbrev left : Units
  left = without_unit w.units n

  slot_noted : (slot : ℕ) (e : Option (ℕ × Side)) → couple_of s slot ≡ e
      → list_all (is_noted s left) (option_map_or (λ f. flat_map (parting s w n slot) (filter (is_turn [] f.1 n) (ends w.links n slot))) e []) ≡ true
  slot_noted slot None is = refl
  slot_noted slot (Some e) is =
      let link = link_at s sf.coupled slot e is in
      let listed = ap (λ o. list_all (is_live w.units) (option_map_or (λ (f : ℕ × Side). partners f.1 n (pairs_of w.links f.0)) o [])) (fits.ends slot ∙ is) ∙ partners_live s w sf fits n slot e is in
      all_flat_map (is_live w.units) (is_noted s left) (parting s w n slot) (λ m partner. parting_noted s w sf fits left (deleted_outlives w.units n) slot link.0 link.1 n m live partner)
      (filter (is_turn [] e.1 n) (ends w.links n slot)) (all_filter (is_live w.units) (is_live w.units) (is_turn [] e.1 n) (λ m kept is. is) (ends w.links n slot) listed)

  leavings_noted : list_all (is_noted s left) (leavings w n) ≡ true
  leavings_noted =
      list_all-map (is_noted s left) (λ space. event n (class_at w n) (Leave space)) (spaces_of w.spaces n)
      ∙ all_filter (λ space. nat_lt space (length s.spaces)) (λ space. is_noted s left (event n (class_at w n) (Leave space))) (λ space. is_member w.spaces space n)
      (λ space kept there. event_of_live s w left n (Leave space) fits (deleted_outlives w.units n) live there)
      (range_with_len 0 (length w.spaces.spaces)) (range_below (length s.spaces) (length w.spaces.spaces) 0 (omega (arith, fits.spaces.spaces)))

  one_noted : list_all (is_noted s left) (deletion_notes s w [] n) ≡ true
  one_noted =
      all_append (is_noted s left) (flat_map (slot_partings s w [] n) (slots_of s (class_at w n)) ++ leavings w n) (event n (class_at w n) Delete ∷ [])
      (all_append (is_noted s left) (flat_map (slot_partings s w [] n) (slots_of s (class_at w n))) (leavings w n)
      (no_flat (is_noted s left) (slot_partings s w [] n) (λ slot. slot_noted slot (couple_of s slot) refl) (slots_of s (class_at w n))) leavings_noted)
      (and_from (is_noted s left (event n (class_at w n) Delete)) true (event_of_live s w left n Delete fits (deleted_outlives w.units n) live refl) refl)

  pub one_keeps : Fits s (without_units s w (n ∷ []))
  one_keeps = record {
    units = deleted_fit w.units fits.units n;
    layout = fits.layout;
    links = forget_fits w.links n fits.links;
    ends = fits.ends;
    singular = same_singular n w.links.couples ∙ fits.singular;
    pairs = λ slot e is.
        ap (λ o. list_all (λ p. is_of_owner s left (near e.1 p) slot) (option_map_or (λ (k : Couple). k.pairs) o [])) (slice_get-map (forgotten n) w.links.couples e.0)
        ∙ forgotten_by (λ p. is_of_owner s w.units (near e.1 p) slot) (λ p. is_of_owner s left (near e.1 p) slot) n (slice_get w.links.couples e.0)
        (λ p kept owns. owner_kept s w.units left (near e.1 p) slot (λ c. others_stay w.units n (near e.1 p) c (is_apart e.1 n p kept)) owns) (fits.pairs slot e is);
    spaces = knows_deleted s w.units w.spaces fits.spaces n;
    notes = all_append (is_noted s left) w.notes (deletion_notes s w [] n ++ []) (notes_kept s w.units left (deleted_outlives w.units n) w.notes fits.notes)
        (all_append (is_noted s left) (deletion_notes s w [] n) [] one_noted refl);
  }
