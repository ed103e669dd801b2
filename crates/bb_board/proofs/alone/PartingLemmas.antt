-- The links of a unit that is deleted go one after another: by one slot, and by all slots of its class.
use Rattle.std.proofs.Common.{◌≡◌, ℕ, ◌≤◌, ◌&&◌, ◌||◌, not, Bool, true, false, List, [], ◌∷◌, ◌++◌, filter, length, Some, refl, sym, ap, subst, ◌∙◌}
use Rattle.std.specs.Prelude.{◌==◌, if◌then◌else◌}
use Rattle.std.specs.List.{AllByRecursion, IsDistinct, fold, flat_map, list_all}
use Rattle.std.specs.Option.{option_map_or}
use Rattle.std.specs.Cmp.{unsigned_tied}
use Rattle.std.proofs.lemmas.Bool.{and_parts, and_from, eqb-true}
use Rattle.std.proofs.lemmas.List.{append-nil, append_assoc}
use Rattle.bb_basis.proofs.BoolLemmas.{and_false}
use Rattle.bb_schema.specs.declared.couple.Side.{Side}
use Rattle.bb_schema.specs.Schema.{Schema}
use Rattle.bb_schema.specs.Couples.{couple_of, pair_of}
use Rattle.bb_links.specs.Pairs.{near, far, has_pair, same_pair}
use Rattle.bb_links.specs.Links.{partners, ends}
use Rattle.bb_links.specs.Couples.{Couples, pairs_of}
use Rattle.bb_board.specs.declared.note.Note.{Note}
use Rattle.bb_board.specs.State.{World}
use Rattle.bb_board.specs.Links.{parting, after_unlink, unlinked_at}
use Rattle.bb_board.proofs.FewLemmas.{tied, distinct}
use Rattle.bb_board.proofs.alone.KeptLemmas.{Test, kept, pairs_kept, kept_kept, kept_same, kept_alike, kept_whole, all_but, unlink_keeps}
use Rattle.bb_board.proofs.alone.PartnerLemmas.{is_in, is_listed, partners_linked, pairs_listed, one_more_gone, others_linked}

-- a state with other links, and with more notes
abbrev pub relinked : World → Couples → List Note → World
relinked v c more = record { units = v.units; links = c; spaces = v.spaces; notes = v.notes ++ more }

module _ (s : Schema) (n slot : ℕ) (e : ℕ × Side) (is : couple_of s slot ≡ Some e) where
  abbrev pair : ℕ → ℕ × ℕ
  pair m = pair_of e.1 n m

  -- one partner
  unlink_one : (v : World) (m : ℕ) → has_pair (pair m) (pairs_of v.links e.0) ≡ true
      → after_unlink s v n slot m ≡ relinked v (kept (all_but e.0 (pair m)) v.links) (parting s v n slot m)
  unlink_one v m there =
      ap (λ o. option_map_or (unlinked_at s v n slot m) o v) is
      ∙ (ap (λ c. relinked v c (if has_pair (pair m) (pairs_of v.links e.0) then parting s v n slot m else [])) (unlink_keeps v.links e.0 (pair m).0 (pair m).1)
      ∙ ap (λ b. relinked v (kept (all_but e.0 (pair m)) v.links) (if b then parting s v n slot m else [])) there)

  -- the pairs of the unit with some of its partners are gone
  abbrev without : List ℕ → Test
  without ms j p = not (j == e.0 && (near e.1 p == n && is_in ms (far e.1 p)))

  others_stay : (v : World) (m : ℕ) (ks : List ℕ) → AllByRecursion (λ k. tied m k ≡ false) ks → list_all (λ k. has_pair (pair k) (pairs_of v.links e.0)) ks ≡ true
      → list_all (λ k. has_pair (pair k) (pairs_of (kept (all_but e.0 (pair m)) v.links) e.0)) ks ≡ true
  others_stay v m [] apart all = refl
  others_stay v m (k ∷ ks) apart all =
      let parts = and_parts (has_pair (pair k) (pairs_of v.links e.0)) (list_all (λ i. has_pair (pair i) (pairs_of v.links e.0)) ks) all in
      and_from (has_pair (pair k) (pairs_of (kept (all_but e.0 (pair m)) v.links) e.0)) (list_all (λ i. has_pair (pair i) (pairs_of (kept (all_but e.0 (pair m)) v.links) e.0)) ks)
      (ap (has_pair (pair k)) (pairs_kept (all_but e.0 (pair m)) v.links e.0)
      ∙ (others_linked e.0 e.1 n m k (pairs_of v.links e.0) (sym (unsigned_tied m k) ∙ apart.0) ∙ parts.0))
      (others_stay v m ks apart.1 parts.1)

  unlink_all : (ms : List ℕ) (v : World) → IsDistinct tied ms → list_all (λ m. has_pair (pair m) (pairs_of v.links e.0)) ms ≡ true
      → fold (λ x m. after_unlink s x n slot m) v ms ≡ relinked v (kept (without ms) v.links) (flat_map (parting s v n slot) ms)
  unfolding IsDistinct
  unlink_all [] v apart all =
      ap (λ c. let w : World = record { units = v.units; links = c; spaces = v.spaces; notes = v.notes } in w) (sym (kept_whole (without []) (λ j p. ap not (ap (λ b. j == e.0 && b) (and_false (near e.1 p == n)) ∙ and_false (j == e.0))) v.links))
      ∙ ap (λ l. let w : World = record { units = v.units; links = kept (without []) v.links; spaces = v.spaces; notes = l } in w) (sym (append-nil v.notes))
  unlink_all (m ∷ ms) v apart all =
      let parts = and_parts (has_pair (pair m) (pairs_of v.links e.0)) (list_all (λ k. has_pair (pair k) (pairs_of v.links e.0)) ms) all in
      let next = relinked v (kept (all_but e.0 (pair m)) v.links) (parting s v n slot m) in
      ap (λ x. fold (λ y k. after_unlink s y n slot k) x ms) (unlink_one v m parts.0)
      ∙ (unlink_all ms next apart.1 (others_stay v m ms apart.0 parts.1)
      ∙ (ap (λ c. relinked next c (flat_map (parting s v n slot) ms)) (kept_kept (without ms) (all_but e.0 (pair m)) v.links
      ∙ kept_alike (λ j p. all_but e.0 (pair m) j p && without ms j p) (without (m ∷ ms)) (one_more_gone e.0 e.1 n m ms) v.links)
      ∙ ap (λ l. let w : World = record { units = v.units; links = kept (without (m ∷ ms)) v.links; spaces = v.spaces; notes = l } in w)
      (append_assoc v.notes (parting s v n slot m) (flat_map (parting s v n slot) ms))))

  -- all partners of the unit
  abbrev apart_from_it : Test
  apart_from_it j p = not (j == e.0 && near e.1 p == n)

  listed_at : (v : World) (ms : List ℕ) (j : ℕ) → list_all (is_listed e.1 n ms) (pairs_of v.links e.0) ≡ true
      → list_all (λ p. not (j == e.0) || is_listed e.1 n ms p) (pairs_of v.links j) ≡ true
  listed_at v ms j all = by (j == e.0) refl
    where
      all_other : (xs : List (ℕ × ℕ)) → list_all (λ p. true) xs ≡ true
      all_other [] = refl
      all_other (x ∷ xs) = all_other xs

      by : (b : Bool) → (j == e.0) ≡ b → list_all (λ p. not b || is_listed e.1 n ms p) (pairs_of v.links j) ≡ true
      by true same = subst (λ i. list_all (is_listed e.1 n ms) (pairs_of v.links i) ≡ true) (sym (eqb-true j e.0 same)) all
      by false other = all_other (pairs_of v.links j)

  agree : (ms : List ℕ) (j : ℕ) (p : ℕ × ℕ) → (not (j == e.0) || is_listed e.1 n ms p) ≡ true → without ms j p ≡ apart_from_it j p
  agree ms j p listed = by (j == e.0) (near e.1 p == n) (is_in ms (far e.1 p)) listed
    where
      by : (a b c : Bool) → (not a || (not b || c)) ≡ true → not (a && (b && c)) ≡ not (a && b)
      by false b c h = refl
      by true false c h = refl
      by true true c h = ap not h

  pub unlink_from_all : (v : World) → ends v.links n slot ≡ partners e.1 n (pairs_of v.links e.0) → ((p : ℕ × ℕ) → length (filter (same_pair p) (pairs_of v.links e.0)) ≤ 1)
      → fold (λ x m. after_unlink s x n slot m) v (ends v.links n slot)
      ≡ relinked v (kept apart_from_it v.links) (flat_map (parting s v n slot) (partners e.1 n (pairs_of v.links e.0)))
  unlink_from_all v listed once =
      let ms = partners e.1 n (pairs_of v.links e.0) in
      ap (λ xs. fold (λ x m. after_unlink s x n slot m) v xs) listed
      ∙ (unlink_all ms v (distinct e.1 n (pairs_of v.links e.0) once) (partners_linked e.1 n (pairs_of v.links e.0))
      ∙ ap (λ c. relinked v c (flat_map (parting s v n slot) ms))
      (kept_same (without ms) apart_from_it (λ j p. not (j == e.0) || is_listed e.1 n ms p) (agree ms) v.links (λ j. listed_at v ms j (pairs_listed e.1 n (pairs_of v.links e.0)))))
