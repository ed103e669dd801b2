-- A unit leaves the spaces that it is in, one after another.
use Rattle.std.proofs.Common.{◌≡◌, ℕ, zero, suc, ◌+◌, ◌<◌, ◌≤◌, ◌==◌, ◌||◌, inl, inr, Bool, true, false, cond, List, [], ◌∷◌, ◌++◌, map, length, take, set, length-set, get_or, Option, Some, None, option_map, refl, sym, ap, subst, ◌∙◌, arith, add-one}
use Rattle.std.specs.Prelude.{is_some, slice_get}
use Rattle.std.specs.List.{filter, list_any, range_with_len}
use Rattle.std.specs.Option.{option_map_or}
use Rattle.std.specs.Ordering.{nat_cmp, eq_by_cmp}
use Rattle.std.specs.Cmp.{nat_cmp_total, unsigned_tied}
use Rattle.std.specs.FinMap as fin
use Rattle.std.proofs.Math.Seq.{take-suc}
use Rattle.std.proofs.lemmas.Bool.{eqb-true, eqb-false, eq-eqb, ne_eqb, cases_eq}
use Rattle.std.proofs.lemmas.List.{take_all}
use Rattle.std.proofs.lemmas.List.Folds.{list_any-append}
use Rattle.std.proofs.lemmas.Option.{slice_get-map, slice_get_past, slice_get_within}
use Rattle.bb_pattern.specs.declared.value.DimValue.{DimValue}
use Rattle.bb_space.specs.declared.members.Members.{Members}
use Rattle.bb_space.specs.Spaces.{Membership, Spaces, is_member, spaces_of, left, after_forget}
use Rattle.bb_space.specs.proving.Indexed.{membership, seen, IsIndexed, AreIndexed}
use Rattle.bb_space.proofs.ListLemmas.{of_list, get_set_here, get_set_other, map_set, seen_at, indexed_set}

-- whether a list has a number
abbrev pub is_in : List ℕ → ℕ → Bool
is_in list i = list_any (λ k. k == i) list

-- the members of a space that is among some
abbrev pub left_if : ℕ → List ℕ → ℕ → Membership → Membership
left_if n list i w = cond (is_in list i) (left n w) w

-- each space as it is once those of a list are done
pub record AreCleared (n : ℕ) (list : List ℕ) (old now : List Members) : Type 0 where
  pub each : (i : ℕ) → slice_get (map membership now) i ≡ option_map (left_if n list i) (slice_get (map membership old) i)
  pub long : length now ≡ length old
  pub indexed : AreIndexed now

-- ---- the spaces that a unit is in are all in which it is a member

present : (p : ℕ → Bool) (i n a : ℕ) → p i ≡ true → a ≤ i → i < a + n → is_in (filter p (range_with_len a n)) i ≡ true
present p i zero a is le lt = absurd (omega (arith, le, lt))
present p i (suc n) a is le lt = by (p a) (a == i) refl refl (λ other. present p i n (a + 1) is (omega (arith, le, eqb-false a i other)) (omega (arith, lt)))
  where
    by : (b c : Bool) → p a ≡ b → (a == i) ≡ c → ((a == i) ≡ false → is_in (filter p (range_with_len (a + 1) n)) i ≡ true) → is_in (cond b (a ∷ filter p (range_with_len (a + 1) n)) (filter p (range_with_len (a + 1) n))) i ≡ true
    by true true passes same later = rw same refl
    by true false passes other later = rw other (later other)
    by false true fails same later = absurd (let e : false ≡ true = sym fails ∙ (ap p (eqb-true a i same) ∙ is) in cc)
    by false false fails other later = later other

within_by : (t : Spaces) (i n : ℕ) (o : Option Membership) → slice_get t.spaces i ≡ o → fin.contains_key (option_map_or (λ w. w) o fin.empty) n ≡ true → i < length t.spaces
within_by t i n None at is = absurd (let e : false ≡ true = sym (ap is_some (fin.get-empty {X = List DimValue} nat_cmp n)) ∙ is in cc)
within_by t i n (Some w) at is = slice_get_within t.spaces i w at

pub all_listed : (t : Spaces) (n i : ℕ) → is_member t i n ≡ true → is_in (spaces_of t n) i ≡ true
all_listed t n i is = present (λ q. is_member t q n) i (length t.spaces) 0 is (omega arith) (let lt : i < length t.spaces = within_by t i n (slice_get t.spaces i) refl is in omega (arith, lt))

-- ---- one space

left_twice : (n : ℕ) (w : Membership) → left n (left n w) ≡ left n w
left_twice n w = fin.same_map nat_cmp_total fin.nat_cmp-IsAntisymmetric _ _ (λ q.
    fin.get-remove nat_cmp_total (left n w) n q ∙ (ap (cond (eq_by_cmp nat_cmp q n) None) (fin.get-remove nat_cmp_total w n q)
    ∙ (again (eq_by_cmp nat_cmp q n) (fin.get w q) ∙ sym (fin.get-remove nat_cmp_total w n q))))
  where
    again : (b : Bool) (o : Option (List DimValue)) → cond b None (cond b None o) ≡ cond b None o
    again true o = refl
    again false o = refl

still : (n : ℕ) (w : Membership) → fin.contains_key w n ≡ false → w ≡ left n w
still n w out = fin.same_map nat_cmp_total fin.nat_cmp-IsAntisymmetric _ _ (λ q. at q (eq_by_cmp nat_cmp q n) refl ∙ sym (fin.get-remove nat_cmp_total w n q))
  where
    none : (o : Option (List DimValue)) → is_some o ≡ false → o ≡ None
    none None is = refl
    none (Some v) is = absurd cc

    same : (q : ℕ) → eq_by_cmp nat_cmp q n ≡ true → q ≡ n
    same q is = eqb-true q n (sym (unsigned_tied q n) ∙ is)

    at : (q : ℕ) (b : Bool) → eq_by_cmp nat_cmp q n ≡ b → fin.get w q ≡ cond b None (fin.get w q)
    at q true is = ap (fin.get w) (same q is) ∙ none (fin.get w n) out
    at q false is = refl

-- ---- all

pub cleared_none : (n : ℕ) (old : List Members) → AreIndexed old → AreCleared n [] old old
cleared_none n old indexed = record { each = λ i. same i (slice_get (map membership old) i); long = refl; indexed = indexed }
  where
    same : (i : ℕ) (o : Option Membership) → o ≡ option_map (left_if n [] i) o
    same i None = refl
    same i (Some w) = refl

module _ (n : ℕ) (list : List ℕ) (at d j : ℕ) (old now : List Members) (within : at < length list) (is : j ≡ get_or list at d) (so_far : AreCleared n (take at list) old now) where
  abbrev done : List ℕ
  done = take at list

  one_done : take (at + 1) list ≡ done ++ j ∷ []
  one_done = ap (λ k. take k list) (add-one at) ∙ (take-suc list at d within ∙ ap (λ k. done ++ k ∷ []) (sym is))

  or_nothing : (b : Bool) → (b || false) ≡ b
  or_nothing true = refl
  or_nothing false = refl

  or_yes : (b : Bool) → (b || true) ≡ true
  or_yes true = refl
  or_yes false = refl

  in_more : (i : ℕ) → is_in (take (at + 1) list) i ≡ (is_in done i || (j == i))
  in_more i = ap (λ l. is_in l i) one_done ∙ (list_any-append (λ k. k == i) done (j ∷ []) ∙ ap (λ b. is_in done i || b) (or_nothing (j == i)))

  beside : (i : ℕ) → (i ≡ j → ⊥) → is_in (take (at + 1) list) i ≡ is_in done i
  beside i apart = in_more i ∙ (ap (λ b. is_in done i || b) (ne_eqb j i (λ same. apart (sym same))) ∙ or_nothing (is_in done i))

  in_now : is_in (take (at + 1) list) j ≡ true
  in_now = in_more j ∙ (ap (λ b. is_in done j || b) (eq-eqb j j refl) ∙ or_yes (is_in done j))

  others : (i : ℕ) → (i ≡ j → ⊥) → slice_get (map membership now) i ≡ option_map (left_if n (take (at + 1) list) i) (slice_get (map membership old) i)
  others i apart = so_far.each i ∙ ap (λ b. option_map (λ w. cond b (left n w) w) (slice_get (map membership old) i)) (sym (beside i apart))

  -- a space of the list
  pub cleared_one : (m left_one : Members) → slice_get now j ≡ Some m → membership left_one ≡ left n (membership m) → IsIndexed left_one → AreCleared n (take (at + 1) list) old (set now j left_one)
  cleared_one m left_one there leaves one = record {
    each = λ i. ap (λ ws. slice_get ws i) (map_set membership now j left_one) ∙ elim (cases_eq i j) [
      | inl same ↦ subst (λ k. slice_get (set (map membership now) j (membership left_one)) k ≡ option_map (left_if n (take (at + 1) list) k) (slice_get (map membership old) k)) (sym same) (here (slice_get (map membership old) j) refl (sym (seen_at now j m there) ∙ so_far.each j))
      | inr apart ↦ get_set_other (map membership now) j i (membership left_one) apart ∙ others i apart
    ];
    long = length-set now j left_one ∙ so_far.long;
    indexed = indexed_set now j m left_one there so_far.indexed one;
  }
    where
      again : (b : Bool) (w : Membership) → left n (cond b (left n w) w) ≡ left n w
      again true w = left_twice n w
      again false w = refl

      here : (o : Option Membership) → slice_get (map membership old) j ≡ o → Some (membership m) ≡ option_map (left_if n done j) (slice_get (map membership old) j)
          → slice_get (set (map membership now) j (membership left_one)) j ≡ option_map (left_if n (take (at + 1) list) j) (slice_get (map membership old) j)
      here None was e = absurd (let f : Some (membership m) ≡ None = e ∙ ap (option_map (left_if n done j)) was in cc)
      here (Some w) was e =
          let f : Some (membership m) ≡ Some (left_if n done j w) = e ∙ ap (option_map (left_if n done j)) was in
          let same : membership m ≡ left_if n done j w = cc in
          get_set_here (map membership now) j (membership left_one) (slice_get_within (map membership now) j (membership m) (seen_at now j m there))
          ∙ (ap (λ v. Some v) (leaves ∙ (ap (left n) same ∙ (again (is_in done j) w ∙ ap (λ b. cond b (left n w) w) (sym in_now))))
          ∙ ap (option_map (left_if n (take (at + 1) list) j)) (sym was))

  -- a number past all spaces
  pub cleared_past : length now ≤ j → AreCleared n (take (at + 1) list) old now
  cleared_past past = record {
    each = λ i. elim (cases_eq i j) [
      | inl same ↦ subst (λ k. slice_get (map membership now) k ≡ option_map (left_if n (take (at + 1) list) k) (slice_get (map membership old) k)) (sym same) (here (slice_get (map membership old) j) refl (sym nothing ∙ so_far.each j))
      | inr apart ↦ others i apart
    ];
    long = so_far.long;
    indexed = so_far.indexed;
  }
    where
      nothing : slice_get (map membership now) j ≡ None
      nothing = slice_get-map membership now j ∙ ap (option_map membership) (slice_get_past now j past)

      here : (o : Option Membership) → slice_get (map membership old) j ≡ o → None ≡ option_map (left_if n done j) (slice_get (map membership old) j)
          → slice_get (map membership now) j ≡ option_map (left_if n (take (at + 1) list) j) (slice_get (map membership old) j)
      here None was e = nothing ∙ ap (option_map (left_if n (take (at + 1) list) j)) (sym was)
      here (Some w) was e = absurd (let f : None ≡ Some (left_if n done j w) = e ∙ ap (option_map (left_if n done j)) was in cc)

same_items : {X : Type 0} (xs ys : List X) → ((i : ℕ) → slice_get xs i ≡ slice_get ys i) → xs ≡ ys
same_items [] [] same = refl
same_items [] (y ∷ ys) same = absurd (let e : None ≡ Some y = same 0 in cc)
same_items (x ∷ xs) [] same = absurd (let e : Some x ≡ None = same 0 in cc)
same_items (x ∷ xs) (y ∷ ys) same = let e : Some x ≡ Some y = same 0 in let here : x ≡ y = cc in ap (λ z. z ∷ xs) here ∙ ap (λ zs. y ∷ zs) (same_items xs ys (λ i. same (suc i)))

-- once all of a list are done, which has each space that the unit is in
pub cleared_all : (n : ℕ) (list : List ℕ) (at : ℕ) (old now : List Members) → length list ≤ at → ((i : ℕ) → is_member (seen old) i n ≡ true → is_in list i ≡ true) → AreCleared n (take at list) old now → seen now ≡ after_forget (seen old) n
cleared_all n list at old now le each so_far =
    ap of_list (same_items (map membership now) (map (left n) (map membership old)) (λ i.
    so_far.each i ∙ (ap (λ l. option_map (left_if n l i) (slice_get (map membership old) i)) (take_all at list le)
    ∙ (by i (slice_get (map membership old) i) refl ∙ sym (slice_get-map (left n) (map membership old) i)))))
  where
    moved : (i : ℕ) (w : Membership) → slice_get (map membership old) i ≡ Some w → (b : Bool) → is_in list i ≡ b → left_if n list i w ≡ left n w
    moved i w was true h = ap (λ b. cond b (left n w) w) h
    moved i w was false h = ap (λ b. cond b (left n w) w) h ∙ unmoved (fin.contains_key w n) refl
      where
        unmoved : (b : Bool) → fin.contains_key w n ≡ b → w ≡ left n w
        unmoved true there = absurd (let e : true ≡ false = sym (each i (ap (λ o. fin.contains_key (option_map_or (λ v. v) o fin.empty) n) was ∙ there)) ∙ h in cc)
        unmoved false out = still n w out

    by : (i : ℕ) (o : Option Membership) → slice_get (map membership old) i ≡ o → option_map (left_if n list i) (slice_get (map membership old) i) ≡ option_map (left n) (slice_get (map membership old) i)
    by i None was = rw was refl
    by i (Some w) was = rw was (ap (λ v. Some v) (moved i w was (is_in list i) refl))
