-- One unit that is deleted step by step is deleted at once.
use Rattle.std.proofs.Common.{◌≡◌, ℕ, ◌+◌, ◌<◌, ◌≤◌, ◌&&◌, ◌||◌, ◌⊎◌, inl, inr, not, Bool, true, false, cond, List, [], ◌∷◌, ◌++◌, filter, map, length, get_or, Option, Some, None, option_map, refl, sym, ap, subst, ◌∙◌, arith}
use Rattle.std.specs.Prelude.{◌==◌, slice_get, slice_set, if◌then◌else◌}
use Rattle.std.specs.List.{fold, flat_map, list_all, list_any, range_with_len}
use Rattle.std.specs.List.Sorted.{IsStrictlySortedBy}
use Rattle.std.specs.Option.{option_map_or}
use Rattle.std.specs.Ordering.{nat_cmp}
use Rattle.std.specs.FinMap.{contains_key, empty}
use Rattle.std.proofs.lemmas.Bool.{and_parts, and_from, eqb-true, eq-eqb}
use Rattle.std.proofs.lemmas.List.{append-nil, append_assoc, length-map}
use Rattle.std.proofs.lemmas.Option.{slice_get_within, slice_get-get_or}
use Rattle.bb_basis.proofs.BoolLemmas.{or_true, same_truth}
use Rattle.bb_schema.specs.declared.couple.Side.{Side}
use Rattle.bb_schema.specs.declared.couple.Side.TheVariants.{A, B}
use Rattle.bb_schema.specs.Schema.{Schema, slots_of}
use Rattle.bb_schema.specs.Couples.{couple_of, couples}
use Rattle.bb_schema.specs.Fits as schemas
use Rattle.bb_units.specs.Units.{is_live, after_delete as without_unit}
use Rattle.bb_links.specs.Pairs.{near, far, same_pair}
use Rattle.bb_links.specs.Links.{partners, ends}
use Rattle.bb_links.specs.Layout.{singular_of}
use Rattle.bb_links.specs.Couples.{Couple, Couples, pairs_of, after_forget}
use Rattle.bb_space.specs.Spaces.{Membership, Spaces, is_member, spaces_of, left, changed, after_forget as out_of_spaces}
use Rattle.bb_board.specs.declared.event.Change.TheVariants.{Delete, Leave}
use Rattle.bb_board.specs.declared.note.Note.{Note}
use Rattle.bb_board.specs.State.{World}
use Rattle.bb_board.specs.World.{event, class_at}
use Rattle.bb_board.specs.Links.{parting, after_unlink}
use Rattle.bb_board.specs.Spaces.{after_leave, leavings}
use Rattle.bb_board.specs.Deletion.{after_parting, after_partings, after_leavings, after_end, after_delete_alone}
use Rattle.bb_board.specs.Fits.{is_of_owner, Fits}
use Rattle.bb_board.specs.proving.Deleted.{is_turn, slot_partings, deletion_notes, without_units}
use Rattle.bb_basis.proofs.ClosureLemmas.{has_filter}
use Rattle.bb_board.proofs.FewLemmas.{once_by}
use Rattle.bb_board.proofs.MemberLemmas.{among_range}
use Rattle.bb_board.proofs.alone.CoupleLemmas.{couple_first, couple_second}
use Rattle.bb_board.proofs.alone.KeptLemmas.{kept, pairs_kept, kept_kept, kept_same, kept_alike, kept_whole, forget_keeps}
use Rattle.bb_board.proofs.alone.LeavingLemmas.{out_from, out_more, out_at, out_none, out_all, Apart, range_apart, over, over_in}
use Rattle.bb_board.proofs.alone.PartnerLemmas.{is_in, once_kept, partners_kept}
use Rattle.bb_board.proofs.alone.PartingLemmas.{relinked, unlink_from_all}
use Rattle.bb_board.proofs.alone.TurnLemmas.{removes, spared, slots_rise, owned_slot, first_is_least, rest_rises, one_passes, link_of_end, partners_own, turn}

no_more : (a b : Bool) → (not a && not b) ≡ not (b || a)
no_more true true = refl
no_more true false = refl
no_more false true = refl
no_more false false = refl

module _ (s : Schema) (w : World) (sf : schemas.Fits s) (fits : Fits s w) (n : ℕ) (live : is_live w.units n ≡ true) where
  abbrev slots : List ℕ
  slots = slots_of s (class_at w n)

  -- ---- slot by slot

  abbrev state : List ℕ → List Note → World
  state done more = relinked w (kept (spared s n done) w.links) more

  module _ (done rest : List ℕ) (slot : ℕ) (more : List Note)
      (before : (x : ℕ) → is_in done x ≡ true → (y : ℕ) → is_in (slot ∷ rest) y ≡ true → x < y)
      (each : (x : ℕ) → is_in slots x ≡ true → (is_in done x ≡ true) ⊎ (is_in (slot ∷ rest) x ≡ true))
      (rising : IsStrictlySortedBy nat_cmp (slot ∷ rest)) where
    ends_by : (o : Option (ℕ × Side)) → couple_of s slot ≡ o → ends (kept (spared s n done) w.links) n slot ≡ option_map_or (λ e. partners e.1 n (pairs_of (kept (spared s n done) w.links) e.0)) o []
    ends_by o is = ap (λ f. option_map_or (λ (e : ℕ × Side). partners e.1 n (pairs_of (kept (spared s n done) w.links) e.0)) f []) (fits.ends slot ∙ is)

    were_by : (o : Option (ℕ × Side)) → couple_of s slot ≡ o → ends w.links n slot ≡ option_map_or (λ e. partners e.1 n (pairs_of w.links e.0)) o []
    were_by o is = ap (λ f. option_map_or (λ (e : ℕ × Side). partners e.1 n (pairs_of w.links e.0)) f []) (fits.ends slot ∙ is)

    noted_by : (o : Option (ℕ × Side)) → couple_of s slot ≡ o → slot_partings s w [] n slot ≡ option_map_or (λ e. flat_map (parting s w n slot) (filter (is_turn [] e.1 n) (ends w.links n slot))) o []
    noted_by o is = ap (λ f. option_map_or (λ (e : ℕ × Side). flat_map (parting s w n slot) (filter (is_turn [] e.1 n) (ends w.links n slot))) f []) is

    -- a slot that is no link slot
    step_none : couple_of s slot ≡ None → after_parting s n (state done more) slot ≡ state (slot ∷ done) (more ++ slot_partings s w [] n slot)
    step_none is =
        ap (λ ms. fold (λ x m. after_unlink s x n slot m) (state done more) ms) (ends_by None is)
        ∙ (ap (λ c. relinked w c more) (kept_alike (spared s n done) (spared s n (slot ∷ done))
        (λ j p. ap (λ o. not (option_map_or (λ (e : ℕ × Side). j == e.0 && near e.1 p == n) o false || list_any (λ x. removes s n x j p) done)) (sym is)) w.links)
        ∙ ap (λ l. relinked w (kept (spared s n (slot ∷ done)) w.links) l) (sym (append-nil more) ∙ ap (λ l. more ++ l) (sym (noted_by None is))))

    -- a link slot
    module _ (e : ℕ × Side) (is : couple_of s slot ≡ Some e) where
      abbrev pairs : List (ℕ × ℕ)
      pairs = pairs_of w.links e.0

      once : (p : ℕ × ℕ) → length (filter (same_pair p) (pairs_of (kept (spared s n done) w.links) e.0)) ≤ 1
      once p =
          subst (λ xs. length (filter (same_pair p) xs) ≤ 1) (sym (pairs_kept (spared s n done) w.links e.0))
          (once_kept (spared s n done e.0) pairs (once_by w.links.couples e.0 (slice_get w.links.couples e.0) refl fits.links.couples) p)

      takes : (j : ℕ) (p : ℕ × ℕ) → (spared s n done j p && not (j == e.0 && near e.1 p == n)) ≡ spared s n (slot ∷ done) j p
      takes j p =
          no_more (list_any (λ x. removes s n x j p) done) (j == e.0 && near e.1 p == n)
          ∙ ap (λ o. not (option_map_or (λ (f : ℕ × Side). j == f.0 && near f.1 p == n) o false || list_any (λ x. removes s n x j p) done)) (sym is)

      left_partners : partners e.1 n (pairs_of (kept (spared s n done) w.links) e.0) ≡ filter (is_turn [] e.1 n) (ends w.links n slot)
      left_partners =
          ap (partners e.1 n) (pairs_kept (spared s n done) w.links e.0)
          ∙ (partners_kept e.1 n (spared s n done e.0) (λ p. is_of_owner s w.units (far e.1 p) (link_of_end s w sf fits n live done rest slot e is before each rising).0.inverse) (is_turn [] e.1 n)
          (λ p owns at. turn s w sf fits n live done rest slot e is before each rising p owns) pairs (partners_own s w sf fits n live done rest slot e is before each rising)
          ∙ ap (filter (is_turn [] e.1 n)) (sym (were_by (Some e) is)))

      step_link : after_parting s n (state done more) slot ≡ state (slot ∷ done) (more ++ slot_partings s w [] n slot)
      step_link =
          unlink_from_all s n slot e is (state done more) (ends_by (Some e) is) once
          ∙ (ap (λ c. relinked (state done more) c (flat_map (parting s w n slot) (partners e.1 n (pairs_of (kept (spared s n done) w.links) e.0))))
          (kept_kept (λ j p. not (j == e.0 && near e.1 p == n)) (spared s n done) w.links
          ∙ kept_alike (λ j p. spared s n done j p && not (j == e.0 && near e.1 p == n)) (spared s n (slot ∷ done)) takes w.links)
          ∙ ap (λ l. let x : World = record { units = w.units; links = kept (spared s n (slot ∷ done)) w.links; spaces = w.spaces; notes = l } in x)
          (append_assoc w.notes more _ ∙ ap (λ l. w.notes ++ (more ++ l)) (ap (flat_map (parting s w n slot)) left_partners ∙ sym (noted_by (Some e) is))))

    step_by : (o : Option (ℕ × Side)) → couple_of s slot ≡ o → after_parting s n (state done more) slot ≡ state (slot ∷ done) (more ++ slot_partings s w [] n slot)
    step_by None is = step_none is
    step_by (Some e) is = step_link e is

    step : after_parting s n (state done more) slot ≡ state (slot ∷ done) (more ++ slot_partings s w [] n slot)
    step = step_by (couple_of s slot) refl

  in_first : (x : ℕ) (xs : List ℕ) → is_in (x ∷ xs) x ≡ true
  in_first x xs = ap (λ b. b || is_in xs x) (eq-eqb x x refl)

  in_rest : (x y : ℕ) (xs : List ℕ) → is_in xs y ≡ true → is_in (x ∷ xs) y ≡ true
  in_rest x y xs there = ap (λ b. x == y || b) there ∙ or_true (x == y)

  walk : (done rest : List ℕ) (more : List Note)
      → ((x : ℕ) → is_in done x ≡ true → (y : ℕ) → is_in rest y ≡ true → x < y)
      → ((x : ℕ) → is_in slots x ≡ true → (is_in done x ≡ true) ⊎ (is_in rest x ≡ true))
      → IsStrictlySortedBy nat_cmp rest
      → fold (after_parting s n) (state done more) rest ≡ state (over done rest) (more ++ flat_map (slot_partings s w [] n) rest)
  walk done [] more before each rising = ap (state done) (sym (append-nil more))
  walk done (slot ∷ rest) more before each rising =
      ap (λ v. fold (after_parting s n) v rest) (step done rest slot more before each rising)
      ∙ (walk (slot ∷ done) rest (more ++ slot_partings s w [] n slot) (λ x there y later. nearer x y (slot == x) refl there later) (λ x has. moved x (each x has)) (rest_rises slot rest rising)
      ∙ ap (state (over (slot ∷ done) rest)) (append_assoc more (slot_partings s w [] n slot) (flat_map (slot_partings s w [] n) rest)))
    where
      nearer : (x y : ℕ) (b : Bool) → (slot == x) ≡ b → is_in (slot ∷ done) x ≡ true → is_in rest y ≡ true → x < y
      nearer x y true same there later = subst (λ k. k < y) (eqb-true slot x same) (first_is_least slot rest rising y later)
      nearer x y false other there later = before x (sym (ap (λ b. b || is_in done x) other) ∙ there) y (in_rest slot y rest later)

      moved_by : (x : ℕ) (b : Bool) → (slot == x) ≡ b → is_in (slot ∷ rest) x ≡ true → (is_in (slot ∷ done) x ≡ true) ⊎ (is_in rest x ≡ true)
      moved_by x true same there = inl (ap (λ b. b || is_in done x) same)
      moved_by x false other there = inr (sym (ap (λ b. b || is_in rest x) other) ∙ there)

      moved : (x : ℕ) → (is_in done x ≡ true) ⊎ (is_in (slot ∷ rest) x ≡ true) → (is_in (slot ∷ done) x ≡ true) ⊎ (is_in rest x ≡ true)
      moved x (inl there) = inl (in_rest slot x done there)
      moved x (inr there) = moved_by x (slot == x) refl there

  -- ---- all slots

  abbrev all_done : List ℕ
  all_done = over [] slots

  done_has : (x : ℕ) → is_in slots x ≡ true → is_in all_done x ≡ true
  done_has x there = over_in [] slots x ∙ ap (λ b. b || false) there

  abbrev takes_pair : ℕ → ℕ × ℕ → Bool
  takes_pair j p = list_any (λ x. removes s n x j p) all_done

  removed_at : (x j : ℕ) (side : Side) (p : ℕ × ℕ) → couple_of s x ≡ Some (let f : ℕ × Side = (j, side) in f) → near side p ≡ n → removes s n x j p ≡ true
  removed_at x j side p is at =
      ap (λ o. option_map_or (λ (f : ℕ × Side). j == f.0 && near f.1 p == n) o false) is ∙ (ap (λ b. b && near side p == n) (eq-eqb j j refl) ∙ eq-eqb (near side p) n at)

  taken_at : (x j : ℕ) (side : Side) (p : ℕ × ℕ) → couple_of s x ≡ Some (let f : ℕ × Side = (j, side) in f) → is_of_owner s w.units (near side p) x ≡ true → near side p ≡ n → takes_pair j p ≡ true
  taken_at x j side p is owns at =
      one_passes (λ y. removes s n y j p) all_done x (done_has x (owned_slot s w sf fits n live x (subst (λ k. is_of_owner s w.units k x ≡ true) at owns))) (removed_at x j side p is at)

  -- where a slot takes a pair, the unit is at a side of it
  at_a_side : (j : ℕ) (p : ℕ × ℕ) (xs : List ℕ) → list_any (λ x. removes s n x j p) xs ≡ true → (p.0 == n || p.1 == n) ≡ true
  at_a_side j p [] any = absurd cc
  at_a_side j p (x ∷ xs) any = by (couple_of s x) any (at_a_side j p xs)
    where
      side_by : (b : Bool) (d : Side) → ((b && near d p == n) || list_any (λ y. removes s n y j p) xs) ≡ true → (list_any (λ y. removes s n y j p) xs ≡ true → (p.0 == n || p.1 == n) ≡ true) → (p.0 == n || p.1 == n) ≡ true
      side_by false d h rest = rest h
      side_by true A h rest = first_by (p.0 == n) (p.1 == n) (list_any (λ y. removes s n y j p) xs) h rest
        where
          first_by : (a b r : Bool) → (a || r) ≡ true → (r ≡ true → (a || b) ≡ true) → (a || b) ≡ true
          first_by true b r h rest = refl
          first_by false b r h rest = rest h
      side_by true B h rest = second_by (p.0 == n) (p.1 == n) (list_any (λ y. removes s n y j p) xs) h rest
        where
          second_by : (a b r : Bool) → (b || r) ≡ true → (r ≡ true → (a || b) ≡ true) → (a || b) ≡ true
          second_by a true r h rest = or_true a
          second_by a false r h rest = rest h

      by : (o : Option (ℕ × Side)) → (option_map_or (λ e. j == e.0 && near e.1 p == n) o false || list_any (λ y. removes s n y j p) xs) ≡ true → (list_any (λ y. removes s n y j p) xs ≡ true → (p.0 == n || p.1 == n) ≡ true) → (p.0 == n || p.1 == n) ≡ true
      by None h rest = rest h
      by (Some e) h rest = side_by (j == e.0) e.1 h rest

  abbrev owned_at : (a b : ℕ) → ℕ × ℕ → Bool
  owned_at a b p = is_of_owner s w.units p.0 a && is_of_owner s w.units p.1 b

  pair_agrees : (j a b : ℕ) → couple_of s a ≡ Some (let f : ℕ × Side = (j, A) in f) → couple_of s b ≡ Some (let f : ℕ × Side = (j, B) in f) → (p : ℕ × ℕ) → owned_at a b p ≡ true
      → takes_pair j p ≡ (p.0 == n || p.1 == n)
  pair_agrees j a b first second p owns =
      let parts = and_parts (is_of_owner s w.units p.0 a) (is_of_owner s w.units p.1 b) owns in
      same_truth (takes_pair j p) (p.0 == n || p.1 == n) (at_a_side j p all_done) (λ at. by parts.0 parts.1 (p.0 == n) (p.1 == n) refl refl at)
    where
      by : is_of_owner s w.units p.0 a ≡ true → is_of_owner s w.units p.1 b ≡ true → (c d : Bool) → (p.0 == n) ≡ c → (p.1 == n) ≡ d → (c || d) ≡ true → takes_pair j p ≡ true
      by one two true d at other h = taken_at a j A p first one (eqb-true p.0 n at)
      by one two false true other at h = taken_at b j B p second two (eqb-true p.1 n at)
      by one two false false other more h = absurd cc

  -- ---- all pairs

  same_bool : (a b : Bool) → a ≡ b → cond a b (not b) ≡ true
  same_bool true true e = refl
  same_bool true false e = absurd cc
  same_bool false true e = absurd cc
  same_bool false false e = refl

  bool_same : (a b : Bool) → cond a b (not b) ≡ true → a ≡ b
  bool_same true true h = refl
  bool_same true false h = absurd cc
  bool_same false true h = absurd cc
  bool_same false false h = refl

  abbrev agrees : ℕ → ℕ × ℕ → Bool
  agrees j p = cond (takes_pair j p) (p.0 == n || p.1 == n) (not (p.0 == n || p.1 == n))

  all_agree : (j a b : ℕ) → couple_of s a ≡ Some (let f : ℕ × Side = (j, A) in f) → couple_of s b ≡ Some (let f : ℕ × Side = (j, B) in f) → (xs : List (ℕ × ℕ))
      → list_all (λ p. is_of_owner s w.units p.0 a) xs ≡ true → list_all (λ p. is_of_owner s w.units p.1 b) xs ≡ true → list_all (agrees j) xs ≡ true
  all_agree j a b first second [] one two = refl
  all_agree j a b first second (p ∷ ps) one two =
      let ones = and_parts (is_of_owner s w.units p.0 a) (list_all (λ q. is_of_owner s w.units q.0 a) ps) one in
      let twos = and_parts (is_of_owner s w.units p.1 b) (list_all (λ q. is_of_owner s w.units q.1 b) ps) two in
      and_from (agrees j p) (list_all (agrees j) ps)
      (same_bool (takes_pair j p) (p.0 == n || p.1 == n) (pair_agrees j a b first second p (and_from (is_of_owner s w.units p.0 a) (is_of_owner s w.units p.1 b) ones.0 twos.0)))
      (all_agree j a b first second ps ones.1 twos.1)

  as_many : length w.links.couples ≡ length (couples s)
  as_many = sym (length-map w.links.couples (λ (k : Couple). k.singular)) ∙ (ap length fits.singular ∙ length-map (couples s) (singular_of s.slots))

  agree_by : (j : ℕ) (o : Option Couple) → slice_get w.links.couples j ≡ o → list_all (agrees j) (option_map_or (λ k. k.pairs) o []) ≡ true
  agree_by j None is = refl
  agree_by j (Some k) is =
      let within = slice_get_within w.links.couples j k is in
      let a = get_or (couples s) j 0 in
      let there = slice_get-get_or (couples s) j 0 (let many = as_many in omega (arith, within, many)) in
      let first = couple_first s sf j a there in
      let second = couple_second s sf j a there in
      let pairs_is : pairs_of w.links j ≡ k.pairs = ap (λ o. option_map_or (λ (x : Couple). x.pairs) o []) is in
      subst (λ xs. list_all (agrees j) xs ≡ true) pairs_is
      (all_agree j a second.0 first second.1 (pairs_of w.links j) (fits.pairs a (let f : ℕ × Side = (j, A) in f) first) (fits.pairs second.0 (let f : ℕ × Side = (j, B) in f) second.1))

  links_gone : kept (spared s n all_done) w.links ≡ after_forget w.links n
  links_gone =
      kept_same (spared s n all_done) (λ j p. not (p.0 == n || p.1 == n)) agrees (λ j p same. ap not (bool_same (takes_pair j p) (p.0 == n || p.1 == n) same)) w.links
      (λ j. agree_by j (slice_get w.links.couples j) refl)
      ∙ sym (forget_keeps w.links n)

  begun : w ≡ state [] []
  begun =
      ap (λ c. let x : World = record { units = w.units; links = c; spaces = w.spaces; notes = w.notes } in x) (sym (kept_whole (spared s n []) (λ j p. refl) w.links))
      ∙ ap (λ l. let x : World = record { units = w.units; links = kept (spared s n []) w.links; spaces = w.spaces; notes = l } in x) (sym (append-nil w.notes))

  pub partings_at_once : after_partings s n w ≡ relinked w (after_forget w.links n) (flat_map (slot_partings s w [] n) slots)
  partings_at_once =
      ap (λ x. fold (after_parting s n) x slots) begun
      ∙ (walk [] slots [] (λ x there. absurd (let e : false ≡ true = there in cc)) (λ x has. inr has) (slots_rise s w sf fits n live)
      ∙ ap (λ c. relinked w c (flat_map (slot_partings s w [] n) slots)) links_gone)

  -- ---- space by space

  module _ (c : Couples) (noted : List Note) where
    abbrev out : List ℕ → List Note → World
    out list more = record { units = w.units; links = c; spaces = (let t : Spaces = record { spaces = out_from n list 0 w.spaces.spaces } in t); notes = noted ++ more }

    member_by : (o : Option Membership) (b : Bool) → b ≡ false → contains_key (option_map_or (λ m. m) (option_map (λ m. cond b (left n m) m) o) empty) n ≡ contains_key (option_map_or (λ m. m) o empty) n
    member_by None b is = refl
    member_by (Some m) b is = ap (λ t. contains_key (cond t (left n m) m) n) is

    still_member : (list : List ℕ) (more : List Note) (x : ℕ) → is_in list x ≡ false → is_member (out list more).spaces x n ≡ is_member w.spaces x n
    still_member list more x fresh =
        ap (λ o. contains_key (option_map_or (λ m. m) o empty) n) (out_at n list 0 w.spaces.spaces x)
        ∙ member_by (slice_get w.spaces.spaces x) (is_in list (0 + x)) (ap (is_in list) (let e : 0 + x ≡ x = omega arith in e) ∙ fresh)

    left_by : (t : List Membership) (x : ℕ) (o : Option Membership) → option_map_or (λ m. (let r : Spaces = record { spaces = slice_set t x (left n m) } in r)) o (let r : Spaces = record { spaces = t } in r)
        ≡ (let r : Spaces = record { spaces = option_map_or (λ m. slice_set t x (left n m)) o t } in r)
    left_by t x None = refl
    left_by t x (Some m) = refl

    leave_one : (list : List ℕ) (more : List Note) (x : ℕ) → is_in list x ≡ false → is_member w.spaces x n ≡ true
        → after_leave (out list more) n x ≡ out (x ∷ list) (more ++ event n (class_at w n) (Leave x) ∷ [])
    leave_one list more x fresh member =
        ap (λ b. if not b then out list more else record {
          units = w.units;
          links = c;
          spaces = changed (left n) (out list more).spaces x;
          notes = (noted ++ more) ++ event n (class_at w n) (Leave x) ∷ [];
        }) (still_member list more x fresh ∙ member)
        ∙ (ap (λ t. let y : World = record { units = w.units; links = c; spaces = t; notes = (noted ++ more) ++ event n (class_at w n) (Leave x) ∷ [] } in y)
        (left_by (out_from n list 0 w.spaces.spaces) x (slice_get (out_from n list 0 w.spaces.spaces) x)
        ∙ ap (λ ms. let r : Spaces = record { spaces = ms } in r) (out_more n list 0 w.spaces.spaces x (ap (is_in list) (let e : 0 + x ≡ x = omega arith in e) ∙ fresh)
        ∙ ap (λ y. out_from n (y ∷ list) 0 w.spaces.spaces) (let e : 0 + x ≡ x = omega arith in e)))
        ∙ ap (λ l. let y : World = record { units = w.units; links = c; spaces = (let t : Spaces = record { spaces = out_from n (x ∷ list) 0 w.spaces.spaces } in t); notes = l } in y)
        (append_assoc noted more (event n (class_at w n) (Leave x) ∷ [])))

    leave_walk : (xs list : List ℕ) (more : List Note) → Apart xs → ((x : ℕ) → is_in xs x ≡ true → is_in list x ≡ false) → ((x : ℕ) → is_in xs x ≡ true → is_member w.spaces x n ≡ true)
        → fold (λ v x. after_leave v n x) (out list more) xs ≡ out (over list xs) (more ++ map (λ x. event n (class_at w n) (Leave x)) xs)
    leave_walk [] list more apart fresh members = ap (out list) (sym (append-nil more))
    leave_walk (x ∷ xs) list more apart fresh members =
        ap (λ v. fold (λ y z. after_leave y n z) v xs) (leave_one list more x (fresh x (in_first x xs)) (members x (in_first x xs)))
        ∙ (leave_walk xs (x ∷ list) (more ++ event n (class_at w n) (Leave x) ∷ []) apart.1 (λ y there. newer y there (x == y) refl) (λ y there. members y (in_rest x y xs there))
        ∙ ap (out (over (x ∷ list) xs)) (append_assoc more (event n (class_at w n) (Leave x) ∷ []) (map (λ y. event n (class_at w n) (Leave y)) xs)))
      where
        newer : (y : ℕ) → is_in xs y ≡ true → (b : Bool) → (x == y) ≡ b → (b || is_in list y) ≡ false
        newer y there true same = absurd (let e : false ≡ true = sym apart.0 ∙ (ap (is_in xs) (eqb-true x y same) ∙ there) in cc)
        newer y there false other = fresh y (in_rest x y xs there)

    abbrev own : List ℕ
    own = spaces_of w.spaces n

    member_of : (x : ℕ) → is_in own x ≡ true → is_member w.spaces x n ≡ true
    member_of x there = (and_parts (is_member w.spaces x n) (is_in (range_with_len 0 (length w.spaces.spaces)) x) (sym (has_filter (λ space. is_member w.spaces space n) (range_with_len 0 (length w.spaces.spaces)) x) ∙ there)).0

    not_in : (j : ℕ) (m : Membership) → slice_get w.spaces.spaces j ≡ Some m → is_in (over [] own) (0 + j) ≡ false → contains_key m n ≡ false
    not_in j m there fresh = by (contains_key m n) refl
      where
        by : (b : Bool) → contains_key m n ≡ b → b ≡ false
        by false is = refl
        by true is =
            let listed : is_in own j ≡ true = has_filter (λ space. is_member w.spaces space n) (range_with_len 0 (length w.spaces.spaces)) j
            ∙ and_from (is_member w.spaces j n) (is_in (range_with_len 0 (length w.spaces.spaces)) j) (ap (λ o. contains_key (option_map_or (λ x. x) o empty) n) there ∙ is)
            (let lt = slice_get_within w.spaces.spaces j m there in among_range (length w.spaces.spaces) 0 j (omega arith) (omega (arith, lt))) in
            sym (over_in [] own j ∙ ap (λ b. b || false) listed) ∙ (ap (is_in (over [] own)) (let e : j ≡ 0 + j = omega arith in e) ∙ fresh)

    pub leavings_at_once : after_leavings n (let v : World = record { units = w.units; links = c; spaces = w.spaces; notes = noted } in v)
        ≡ (let v : World = record { units = w.units; links = c; spaces = out_of_spaces w.spaces n; notes = noted ++ leavings w n } in v)
    leavings_at_once =
        ap (λ ms. fold (λ y x. after_leave y n x) (let v : World = record { units = w.units; links = c; spaces = (let t : Spaces = record { spaces = ms } in t); notes = noted } in v) own) (sym (out_none n 0 w.spaces.spaces))
        ∙ (ap (λ l. fold (λ y x. after_leave y n x) (let v : World = record { units = w.units; links = c; spaces = (let t : Spaces = record { spaces = out_from n [] 0 w.spaces.spaces } in t); notes = l } in v) own) (sym (append-nil noted))
        ∙ (leave_walk own [] [] (range_apart (λ space. is_member w.spaces space n) (length w.spaces.spaces) 0) (λ x there. refl) member_of
        ∙ ap (λ ms. let v : World = record { units = w.units; links = c; spaces = (let t : Spaces = record { spaces = ms } in t); notes = noted ++ leavings w n } in v)
        (out_all n (over [] own) 0 w.spaces.spaces not_in)))

  -- one unit that is deleted step by step is deleted at once
  pub alone_at_once : after_delete_alone s w n ≡ without_units s w (n ∷ [])
  unfolding after_delete_alone
  alone_at_once =
      ap (λ v. after_end n (after_leavings n v)) partings_at_once
      ∙ (ap (after_end n) (leavings_at_once (after_forget w.links n) (w.notes ++ flat_map (slot_partings s w [] n) slots))
      ∙ ap (λ l. let v : World = record { units = without_unit w.units n; links = after_forget w.links n; spaces = out_of_spaces w.spaces n; notes = l } in v)
      (ap (λ l. l ++ event n (class_at w n) Delete ∷ []) (append_assoc w.notes (flat_map (slot_partings s w [] n) slots) (leavings w n))
      ∙ (append_assoc w.notes (flat_map (slot_partings s w [] n) slots ++ leavings w n) (event n (class_at w n) Delete ∷ [])
      ∙ ap (λ l. w.notes ++ l) (sym (append-nil (deletion_notes s w [] n))))))
