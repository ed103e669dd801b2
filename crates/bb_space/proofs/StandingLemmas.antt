-- The spaces that a unit is in, after each change.
use Rattle.std.proofs.Common.{◌≡◌, ℕ, zero, suc, ◌+◌, ◌<◌, ◌≤◌, ◌==◌, ◌||◌, ◌&&◌, inl, inr, Bool, true, false, not, cond, List, [], ◌∷◌, filter, map, length, Option, Some, None, option_map, Result, Ok, Err, refl, sym, ap, subst, ◌∙◌, arith, one-add}
use Rattle.std.specs.Prelude.{OnOk, OnErr, insert, is_some, nat_lt, position, slice_get, slice_set}
use Rattle.std.specs.List.{range_with_len}
use Rattle.std.specs.Option.{option_map_or, unwrap_or}
use Rattle.std.specs.Ordering.{nat_cmp, eq_by_cmp}
use Rattle.std.specs.Cmp.{nat_cmp_total, unsigned_tied}
use Rattle.std.specs.FinMap as fin
use Rattle.std.proofs.lemmas.Bool.{eqb-true, eqb-false, eq-eqb, ne_eqb, cases_eq, lt-ltb, le-ltb, ltb-false}
use Rattle.std.proofs.lemmas.List.{length-map, length-set}
use Rattle.std.proofs.lemmas.List.Elements.{filter_agree}
use Rattle.std.proofs.lemmas.List.Sums.{prefix_len-le-length}
use Rattle.std.proofs.lemmas.Option.{slice_get-map}
use Rattle.bb_basis.proofs.ListLemmas.{slice_set-itself}
use Rattle.bb_pattern.specs.declared.value.DimValue.{DimValue}
use Rattle.bb_space.specs.declared.members.Members.{Members}
use Rattle.bb_space.specs.declared.standing.Standing.{Standing}
use Rattle.bb_space.specs.Spaces.{Membership, Spaces, membership, is_member, spaces_of, entered, left, moved, changed}
use Rattle.bb_space.specs.Spaces.{after_enter, after_leave, after_moved, after_moves, after_forget}
use Rattle.bb_space.specs.proving.Indexed.{membership as members_in, seen}
use Rattle.bb_space.specs.proving.Standing.{listed, rank, with_number, one_more, one_less, none_left, AreStanding}
use Rattle.bb_space.proofs.ListLemmas.{get_set_here, get_set_other, of_list, seen_set}

-- ---- a number that is put where it belongs

pub rank_within : (x : ℕ) (xs : List ℕ) → rank x xs ≤ length xs
rank_within x xs = prefix_len-le-length (λ y. not (nat_lt x y)) xs

pub rank_is : (x : ℕ) (xs : List ℕ) → unwrap_or (position (λ y. nat_lt x y) xs) (length xs) ≡ rank x xs
rank_is x xs = by (nat_lt (rank x xs) (length xs)) refl
  where
    by : (b : Bool) → nat_lt (rank x xs) (length xs) ≡ b → unwrap_or (cond b (Some (rank x xs)) None) (length xs) ≡ rank x xs
    by true lt = refl
    by false past = let above : length xs ≤ rank x xs = ltb-false (rank x xs) (length xs) past in omega (arith, above, rank_within x xs)

put_before : (x y : ℕ) (ys : List ℕ) → nat_lt x y ≡ true → with_number x (y ∷ ys) ≡ x ∷ y ∷ ys
put_before x y ys is = rw is refl

put_after : (x y : ℕ) (ys : List ℕ) → nat_lt x y ≡ false → with_number x (y ∷ ys) ≡ y ∷ with_number x ys
put_after x y ys is = let at : rank x (y ∷ ys) ≡ suc (rank x ys) = rw is (one-add (rank x ys)) in ap (λ k. insert (y ∷ ys) k x) at

module _ (p : ℕ → Bool) (x : ℕ) where
  abbrev passed : ℕ → ℕ → List ℕ
  passed a n = filter p (range_with_len a n)

  abbrev more : ℕ → Bool
  more s = (s == x) || p s

  -- before all that are greater
  first_by : (a : ℕ) (b : Bool) (rest : List ℕ) → x < a → with_number x rest ≡ x ∷ rest → with_number x (cond b (a ∷ rest) rest) ≡ x ∷ cond b (a ∷ rest) rest
  first_by a true rest lt later = put_before x a rest (lt-ltb x a lt)
  first_by a false rest lt later = later

  with_lowest_number : (n a : ℕ) → x < a → with_number x (passed a n) ≡ x ∷ passed a n
  with_lowest_number zero a lt = refl
  with_lowest_number (suc n) a lt = first_by a (p a) (passed (a + 1) n) lt (with_lowest_number n (a + 1) (omega (arith, lt)))

  -- beyond the number none more pass
  beyond_by : (a : ℕ) (rest all : List ℕ) → (a == x) ≡ false → rest ≡ all → cond (more a) (a ∷ rest) rest ≡ cond (p a) (a ∷ all) all
  beyond_by a rest all apart same = rw (apart, same) refl

  beyond : (n a : ℕ) → x < a → filter more (range_with_len a n) ≡ passed a n
  beyond zero a lt = refl
  beyond (suc n) a lt = beyond_by a (filter more (range_with_len (a + 1) n)) (passed (a + 1) n) (ne_eqb a x (λ e. omega (arith, e, lt))) (beyond n (a + 1) (omega (arith, lt)))

  put_by : (n a : ℕ) (b c : Bool) → p a ≡ b → (a == x) ≡ c → p x ≡ false → a ≤ x → x < a + suc n
      → (a < x → with_number x (passed (a + 1) n) ≡ filter more (range_with_len (a + 1) n))
      → with_number x (cond b (a ∷ passed (a + 1) n) (passed (a + 1) n)) ≡ cond (c || b) (a ∷ filter more (range_with_len (a + 1) n)) (filter more (range_with_len (a + 1) n))
  put_by n a true true at is out le lt later = absurd (let e : true ≡ false = sym at ∙ (ap p (eqb-true a x is) ∙ out) in cc)
  put_by n a false true at is out le lt later =
      let same : a ≡ x = eqb-true a x is in
      let above : x < a + 1 = omega (arith, same) in
      with_lowest_number n (a + 1) above ∙ (ap (λ k. k ∷ passed (a + 1) n) (sym same) ∙ ap (λ ks. a ∷ ks) (sym (beyond n (a + 1) above)))
  put_by n a true false at is out le lt later =
      let below : a < x = not_same a is le in
      put_after x a (passed (a + 1) n) (le-ltb x a (omega (arith, below))) ∙ ap (λ ks. a ∷ ks) (later below)
    where
      not_same : (a : ℕ) → (a == x) ≡ false → a ≤ x → a < x
      not_same a apart le = omega (arith, le, eqb-false a x apart)
  put_by n a false false at is out le lt later =
      let below : a < x = omega (arith, le, eqb-false a x is) in
      later below

  -- a number that did not pass
  pub put_passed : (n a : ℕ) → p x ≡ false → a ≤ x → x < a + n → with_number x (passed a n) ≡ filter more (range_with_len a n)
  put_passed zero a out le lt = absurd (omega (arith, le, lt))
  put_passed (suc n) a out le lt =
      put_by n a (p a) (a == x) refl refl out le lt (λ below. put_passed n (a + 1) out (omega (arith, below)) (omega (arith, lt)))

-- ---- the members of spaces of which one is changed

absent : {X : Type 0} (xs : List X) (i : ℕ) → i < length xs → slice_get xs i ≡ None → ⊥
absent [] i lt none = omega (arith, lt)
absent (x ∷ xs) zero lt none = absurd cc
absent (x ∷ xs) (suc i) lt none = absent xs i (omega (arith, lt)) none

abbrev held : Option Membership → Membership
held o = option_map_or (λ m. m) o fin.empty

module _ (change : Membership → Membership) (t : Spaces) (x : ℕ) where
  abbrev after : Option Membership → Spaces
  after o = option_map_or (λ m. record { spaces = slice_set t.spaces x (change m) }) o t

  here_by : (o : Option Membership) → slice_get t.spaces x ≡ o → x < length t.spaces → membership (after o) x ≡ change (held o)
  here_by None is lt = absurd (absent t.spaces x lt is)
  here_by (Some m) is lt = ap held (get_set_here t.spaces x (change m) lt)

  there_by : (o : Option Membership) (q : ℕ) → (q ≡ x → ⊥) → membership (after o) q ≡ membership t q
  there_by None q apart = refl
  there_by (Some m) q apart = ap held (get_set_other t.spaces x q (change m) apart)

  long_by : (o : Option Membership) → length (after o).spaces ≡ length t.spaces
  long_by None = refl
  long_by (Some m) = length-set t.spaces x (change m)

  pub changed_long : length (changed change t x).spaces ≡ length t.spaces
  changed_long = long_by (slice_get t.spaces x)

  changed_here : x < length t.spaces → membership (changed change t x) x ≡ change (membership t x)
  changed_here lt = here_by (slice_get t.spaces x) refl lt

  changed_there : (q : ℕ) → (q ≡ x → ⊥) → membership (changed change t x) q ≡ membership t q
  changed_there q apart = there_by (slice_get t.spaces x) q apart

  -- who is a member then, where the change keeps whom it keeps
  pub kept_member : (m q : ℕ) → ((w : Membership) → fin.contains_key (change w) m ≡ fin.contains_key w m) → is_member (changed change t x) q m ≡ is_member t q m
  kept_member m q keeps = by (slice_get t.spaces x) refl
    where
      at : (w : Membership) → slice_get t.spaces x ≡ Some w → is_member (after (Some w)) q m ≡ is_member t q m
      at w is = elim (cases_eq q x) [
        | inl same ↦ subst (λ k. is_member (after (Some w)) k m ≡ is_member t k m) (sym same)
            (ap (λ (o : Option Membership). fin.contains_key (held o) m) (get_set_here t.spaces x (change w) (within t.spaces x w is)) ∙ (keeps w ∙ ap (λ (o : Option Membership). fin.contains_key (held o) m) (sym is)))
        | inr apart ↦ ap (λ v. fin.contains_key v m) (there_by (Some w) q apart)
      ]
        where
          within : (xs : List Membership) (i : ℕ) (w : Membership) → slice_get xs i ≡ Some w → i < length xs
          within [] i w is = absurd cc
          within (v ∷ xs) zero w is = omega arith
          within (v ∷ xs) (suc i) w is = let rest : i < length xs = within xs i w is in omega (arith, rest)

      by : (o : Option Membership) → slice_get t.spaces x ≡ o → is_member (after o) q m ≡ is_member t q m
      by None is = refl
      by (Some w) is = at w is

-- ---- who is a member

tie : (k n : ℕ) → eq_by_cmp nat_cmp k n ≡ (k == n)
tie k n = unsigned_tied k n

found_or : (b : Bool) (values : List DimValue) (o : Option (List DimValue)) → is_some (cond b (Some values) o) ≡ (b || is_some o)
found_or true values o = refl
found_or false values o = refl

found_unless : (b : Bool) (o : Option (List DimValue)) → is_some (cond b None o) ≡ (not b && is_some o)
found_unless true o = refl
found_unless false o = refl

module _ (n : ℕ) where
  put_key : (w : Membership) (values : List DimValue) (m : ℕ) → fin.contains_key (fin.insert w n values) m ≡ ((m == n) || fin.contains_key w m)
  put_key w values m = ap is_some (fin.get-insert nat_cmp_total w n values m) ∙ (found_or (eq_by_cmp nat_cmp m n) values (fin.get w m) ∙ ap (λ b. b || fin.contains_key w m) (tie m n))

  entered_by : (w : Membership) (values : List DimValue) (m : ℕ) (b c : Bool) → fin.contains_key w n ≡ b → (m == n) ≡ c → fin.contains_key (cond b w (fin.insert w n values)) m ≡ ((m == n) || fin.contains_key w m)
  entered_by w values m true true is same = rw same (ap (fin.contains_key w) (eqb-true m n same) ∙ is)
  entered_by w values m true false is other = rw other refl
  entered_by w values m false c is same = put_key w values m

  in_entered : (w : Membership) (values : List DimValue) (m : ℕ) → fin.contains_key (entered n values w) m ≡ ((m == n) || fin.contains_key w m)
  in_entered w values m = entered_by w values m (fin.contains_key w n) (m == n) refl refl

  in_left : (w : Membership) (m : ℕ) → fin.contains_key (left n w) m ≡ (not (m == n) && fin.contains_key w m)
  in_left w m = ap is_some (fin.get-remove nat_cmp_total w n m) ∙ (found_unless (eq_by_cmp nat_cmp m n) (fin.get w m) ∙ ap (λ b. not b && fin.contains_key w m) (tie m n))

  moved_by : (w : Membership) (values : List DimValue) (m : ℕ) (b c : Bool) → fin.contains_key w n ≡ b → (m == n) ≡ c → fin.contains_key (cond b (fin.insert w n values) w) m ≡ fin.contains_key w m
  moved_by w values m true true is same = put_key w values m ∙ rw same (sym (ap (fin.contains_key w) (eqb-true m n same) ∙ is))
  moved_by w values m true false is other = put_key w values m ∙ rw other refl
  moved_by w values m false c is same = refl

  in_moved : (w : Membership) (values : List DimValue) (m : ℕ) → fin.contains_key (moved n values w) m ≡ fin.contains_key w m
  in_moved w values m = moved_by w values m (fin.contains_key w n) (m == n) refl refl

  module _ (t : Spaces) (x : ℕ) where
    pub member_entered : (values : List DimValue) (q m : ℕ) → x < length t.spaces → is_member (after_enter t x n values) q m ≡ (((q == x) && (m == n)) || is_member t q m)
    member_entered values q m lt = elim (cases_eq q x) [
      | inl same ↦ subst (λ k. is_member (after_enter t x n values) k m ≡ (((k == x) && (m == n)) || is_member t k m)) (sym same)
          (rw (eq-eqb x x refl) (ap (λ w. fin.contains_key w m) (changed_here (entered n values) t x lt) ∙ in_entered (membership t x) values m))
      | inr apart ↦ rw (ne_eqb q x apart) (ap (λ w. fin.contains_key w m) (changed_there (entered n values) t x q apart))
    ]

    pub member_left : (q m : ℕ) → x < length t.spaces → is_member (after_leave t x n) q m ≡ (not ((q == x) && (m == n)) && is_member t q m)
    member_left q m lt = elim (cases_eq q x) [
      | inl same ↦ subst (λ k. is_member (after_leave t x n) k m ≡ (not ((k == x) && (m == n)) && is_member t k m)) (sym same)
          (rw (eq-eqb x x refl) (ap (λ w. fin.contains_key w m) (changed_here (left n) t x lt) ∙ in_left (membership t x) m))
      | inr apart ↦ rw (ne_eqb q x apart) (ap (λ w. fin.contains_key w m) (changed_there (left n) t x q apart))
    ]

    pub member_moved : (values : List DimValue) (q m : ℕ) → is_member (after_moved t x n values) q m ≡ is_member t q m
    member_moved values q m = kept_member (moved n values) t x m q (λ w. in_moved w values m)

  pub member_moves : (moves : List (ℕ × List DimValue)) (t : Spaces) (q m : ℕ) → is_member (after_moves t n moves) q m ≡ is_member t q m
  unfolding after_moves
  member_moves [] t q m = refl
  member_moves (e ∷ es) t q m = member_moves es (after_moved t e.0 n e.1) q m ∙ member_moved t e.0 e.1 q m

  pub moves_long : (moves : List (ℕ × List DimValue)) (t : Spaces) → length (after_moves t n moves).spaces ≡ length t.spaces
  unfolding after_moves
  moves_long [] t = refl
  moves_long (e ∷ es) t = moves_long es (after_moved t e.0 n e.1) ∙ changed_long (moved n e.1) t e.0

-- ---- the spaces of each unit

-- spaces that pass, in spaces that are as many
agree : (t u : Spaces) (m : ℕ) (f : ℕ → Bool) → length u.spaces ≡ length t.spaces → ((q : ℕ) → f q ≡ is_member u q m) → filter f (range_with_len 0 (length t.spaces)) ≡ spaces_of u m
agree t u m f long same =
    filter_agree f (λ q. is_member u q m) same (range_with_len 0 (length t.spaces))
    ∙ ap (λ k. filter (λ q. is_member u q m) (range_with_len 0 k)) (sym long)

-- where the members stay, so do the spaces of each unit
pub standing_kept : (t u : Spaces) (s : Standing) → length u.spaces ≡ length t.spaces → ((q m : ℕ) → is_member u q m ≡ is_member t q m) → AreStanding t s → AreStanding u s
standing_kept t u s long same are m = are m ∙ agree t u m (λ q. is_member t q m) long (λ q. sym (same q m))

-- no unit is in a space without members
empty_at : {X : Type 0} (list : List X) (q m : ℕ) → is_member (of_list (map (λ _. fin.empty) list)) q m ≡ false
empty_at list q m = ap (λ o. fin.contains_key (held o) m) (slice_get-map (λ _. fin.empty) list q) ∙ by (slice_get list q)
  where
    by : {X : Type 0} (o : Option X) → fin.contains_key (held (option_map (λ _. fin.empty) o)) m ≡ false
    by None = ap is_some (fin.get-empty {X = List DimValue} nat_cmp m)
    by (Some x) = ap is_some (fin.get-empty {X = List DimValue} nat_cmp m)

none_pass : (p : ℕ → Bool) → ((q : ℕ) → p q ≡ false) → (qs : List ℕ) → filter p qs ≡ []
none_pass p none [] = refl
none_pass p none (q ∷ qs) = rw (none q) (none_pass p none qs)

pub standing_nowhere : {X : Type 0} (list : List X) (t : Spaces) (s : Standing) → t ≡ of_list (map (λ _. fin.empty) list) → ((m : ℕ) → listed s.lists m ≡ []) → AreStanding t s
standing_nowhere list t s is none m = none m ∙ sym (none_pass (λ q. is_member t q m) (λ q. ap (λ (u : Spaces). is_member u q m) is ∙ empty_at list q m) (range_with_len 0 (length t.spaces)))

pub enters_nothing : (spaces : List Members) (i : ℕ) (m : Members) (n : ℕ) (values : List DimValue) → slice_get spaces i ≡ Some m → fin.contains_key (members_in m) n ≡ true → seen spaces ≡ after_enter (seen spaces) i n values
enters_nothing spaces i m n values there is =
    sym (ap seen (slice_set-itself spaces i m there)) ∙ seen_set spaces i m m (entered n values) there (sym (ap (λ b. cond b (members_in m) (fin.insert (members_in m) n values)) is))

module _ (t : Spaces) (s : Standing) (x n : ℕ) (lt : x < length t.spaces) (are : AreStanding t s) where
  with_by : (values : List DimValue) (m : ℕ) (b : Bool) → (m == n) ≡ b → is_member t x n ≡ false
      → cond b (with_number x (listed s.lists m)) (listed s.lists m) ≡ spaces_of (after_enter t x n values) m
  with_by values m true same out =
      ap (with_number x) (are m)
      ∙ (put_passed (λ q. is_member t q m) x (length t.spaces) 0 (ap (is_member t x) (eqb-true m n same) ∙ out) (omega arith) (omega (arith, lt))
      ∙ agree t (after_enter t x n values) m (λ q. (q == x) || is_member t q m) (changed_long (entered n values) t x)
      (λ q. sym (member_entered n t x values q m lt ∙ ap (λ b. ((q == x) && b) || is_member t q m) same ∙ ap (λ b. b || is_member t q m) (and_true (q == x)))))
    where
      and_true : (b : Bool) → (b && true) ≡ b
      and_true true = refl
      and_true false = refl
  with_by values m false other out =
      are m ∙ agree t (after_enter t x n values) m (λ q. is_member t q m) (changed_long (entered n values) t x)
      (λ q. sym (member_entered n t x values q m lt ∙ ap (λ b. ((q == x) && b) || is_member t q m) other ∙ ap (λ b. b || is_member t q m) (and_false (q == x))))
    where
      and_false : (b : Bool) → (b && false) ≡ false
      and_false true = refl
      and_false false = refl

  -- a unit that was none enters a space
  pub standing_entered : (now : Standing) (values : List DimValue) → is_member t x n ≡ false → ((m : ℕ) → listed now.lists m ≡ one_more s.lists n x m) → AreStanding (after_enter t x n values) now
  standing_entered now values out put m = put m ∙ with_by values m (m == n) refl out

  -- a unit that entered a space is taken out again
  back_by : (m : ℕ) (b : Bool) → (m == n) ≡ b → is_member t x n ≡ false → (l : List ℕ) → l ≡ cond b (with_number x (listed s.lists m)) (listed s.lists m)
      → cond b (filter (λ k. not (k == x)) l) l ≡ spaces_of t m
  back_by m true same out l is =
      ap (filter (λ k. not (k == x))) (is ∙ ap (with_number x) (are m) ∙ put_passed (λ q. is_member t q m) x (length t.spaces) 0 (ap (is_member t x) (eqb-true m n same) ∙ out) (omega arith) (omega (arith, lt)))
      ∙ twice (λ q. is_member t q m) (ap (is_member t x) (eqb-true m n same) ∙ out) (range_with_len 0 (length t.spaces))
    where
      one : (p : ℕ → Bool) (k : ℕ) (b c : Bool) (rest made : List ℕ) → (k == x) ≡ b → p k ≡ c → p x ≡ false → filter (λ k. not (k == x)) rest ≡ made
          → filter (λ k. not (k == x)) (cond (b || c) (k ∷ rest) rest) ≡ cond c (k ∷ made) made
      one p k true true rest made is at out so = absurd (let e : true ≡ false = sym at ∙ (ap p (eqb-true k x is) ∙ out) in cc)
      one p k true false rest made is at out so = rw is so
      one p k false true rest made is at out so = rw is (ap (λ ks. k ∷ ks) so)
      one p k false false rest made is at out so = so

      twice : (p : ℕ → Bool) → p x ≡ false → (ks : List ℕ) → filter (λ k. not (k == x)) (filter (λ q. (q == x) || p q) ks) ≡ filter p ks
      twice p out [] = refl
      twice p out (k ∷ ks) = one p k (k == x) (p k) (filter (λ q. (q == x) || p q) ks) (filter p ks) refl refl out (twice p out ks)
  back_by m false other out l is = is ∙ are m

  pub standing_back : (put now : Standing) → is_member t x n ≡ false → ((m : ℕ) → listed put.lists m ≡ one_more s.lists n x m) → ((m : ℕ) → listed now.lists m ≡ one_less put.lists n x m) → AreStanding t now
  standing_back put now out more less m = less m ∙ back_by m (m == n) refl out (listed put.lists m) (more m)

  left_by : (m : ℕ) (b : Bool) → (m == n) ≡ b → cond b (filter (λ k. not (k == x)) (listed s.lists m)) (listed s.lists m) ≡ spaces_of (after_leave t x n) m
  left_by m true same =
      ap (filter (λ k. not (k == x))) (are m)
      ∙ (both (λ q. is_member t q m) (range_with_len 0 (length t.spaces))
      ∙ agree t (after_leave t x n) m (λ q. not (q == x) && is_member t q m) (changed_long (left n) t x)
      (λ q. sym (member_left n t x q m lt ∙ ap (λ b. not ((q == x) && b) && is_member t q m) same ∙ ap (λ b. not b && is_member t q m) (and_true (q == x)))))
    where
      and_true : (b : Bool) → (b && true) ≡ b
      and_true true = refl
      and_true false = refl

      one : (p : ℕ → Bool) (k : ℕ) (b c : Bool) (rest made : List ℕ) → not (k == x) ≡ b → filter (λ k. not (k == x)) rest ≡ made
          → filter (λ k. not (k == x)) (cond c (k ∷ rest) rest) ≡ cond (b && c) (k ∷ made) made
      one p k true true rest made is so = rw is (ap (λ ks. k ∷ ks) so)
      one p k true false rest made is so = so
      one p k false true rest made is so = rw is so
      one p k false false rest made is so = so

      both : (p : ℕ → Bool) (ks : List ℕ) → filter (λ k. not (k == x)) (filter p ks) ≡ filter (λ k. not (k == x) && p k) ks
      both p [] = refl
      both p (k ∷ ks) = one p k (not (k == x)) (p k) (filter p ks) (filter (λ k. not (k == x) && p k) ks) refl (both p ks)
  left_by m false other =
      are m ∙ agree t (after_leave t x n) m (λ q. is_member t q m) (changed_long (left n) t x)
      (λ q. sym (member_left n t x q m lt ∙ ap (λ b. not ((q == x) && b) && is_member t q m) other ∙ ap (λ b. not b && is_member t q m) (and_false (q == x))))
    where
      and_false : (b : Bool) → (b && false) ≡ false
      and_false true = refl
      and_false false = refl

  -- a unit leaves a space
  pub standing_left : (now : Standing) → ((m : ℕ) → listed now.lists m ≡ one_less s.lists n x m) → AreStanding (after_leave t x n) now
  standing_left now less m = less m ∙ left_by m (m == n) refl

-- a unit has other values, or where memory is refused has the same
pub standing_moved : {E : Type 0} (r : Result (Unit {0}) E) (t u : Spaces) (s : Standing) (x n : ℕ) (values : List DimValue) → OnOk r (u ≡ after_moved t x n values) → OnErr r (u ≡ t) → AreStanding t s → AreStanding u s
standing_moved (Ok v) t u s x n values ok err are = subst (λ w. AreStanding w s) (sym ok) (standing_kept t (after_moved t x n values) s (changed_long (moved n values) t x) (λ q m. member_moved n t x values q m) are)
standing_moved (Err e) t u s x n values ok err are = subst (λ w. AreStanding w s) (sym err) are

pub standing_moves : {E : Type 0} (r : Result (Unit {0}) E) (t u : Spaces) (s : Standing) (n : ℕ) (moves : List (ℕ × List DimValue)) → OnOk r (u ≡ after_moves t n moves) → OnErr r (u ≡ t) → AreStanding t s → AreStanding u s
standing_moves (Ok v) t u s n moves ok err are = subst (λ w. AreStanding w s) (sym ok) (standing_kept t (after_moves t n moves) s (moves_long n moves t) (λ q m. member_moves n moves t q m) are)
standing_moves (Err e) t u s n moves ok err are = subst (λ w. AreStanding w s) (sym err) are

-- a unit leaves all spaces
module _ (t : Spaces) (n : ℕ) where
  member_forgotten : (q m : ℕ) → is_member (after_forget t n) q m ≡ (not (m == n) && is_member t q m)
  member_forgotten q m = ap (λ o. fin.contains_key (held o) m) (slice_get-map (left n) t.spaces q) ∙ by (slice_get t.spaces q)
    where
      and_no : (b : Bool) → false ≡ (b && false)
      and_no true = refl
      and_no false = refl

      by : (o : Option Membership) → fin.contains_key (held (option_map (left n) o)) m ≡ (not (m == n) && fin.contains_key (held o) m)
      by None = let none : fin.contains_key (held None) m ≡ false = ap is_some (fin.get-empty {X = List DimValue} nat_cmp m) in rw none (and_no (not (m == n)))
      by (Some w) = in_left n w m

  forgotten_by : (s : Standing) (m : ℕ) (b : Bool) → (m == n) ≡ b → AreStanding t s → cond b [] (listed s.lists m) ≡ spaces_of (after_forget t n) m
  forgotten_by s m true same are = sym (none_pass (λ q. is_member (after_forget t n) q m) (λ q. member_forgotten q m ∙ ap (λ b. not b && is_member t q m) same) (range_with_len 0 (length (after_forget t n).spaces)))
  forgotten_by s m false other are = are m ∙ agree t (after_forget t n) m (λ q. is_member t q m) (length-map t.spaces (left n)) (λ q. sym (member_forgotten q m ∙ ap (λ b. not b && is_member t q m) other))

  pub standing_forgotten : (s now : Standing) → AreStanding t s → ((m : ℕ) → listed now.lists m ≡ none_left s.lists n m) → AreStanding (after_forget t n) now
  standing_forgotten s now are less m = less m ∙ forgotten_by s m (m == n) refl are
