-- Lists of spaces, of which one is changed.
use Rattle.std.proofs.Common.{◌≡◌, ℕ, zero, suc, ◌+◌, ◌<◌, ◌≤◌, ◌⊎◌, inl, inr, List, [], ◌∷◌, ◌++◌, map, take, drop, set, length, Option, Some, None, option_map, refl, sym, ap, subst, ◌∙◌, arith, slice_get}
use Rattle.std.specs.FinMap as fin
use Rattle.std.specs.Option.{option_map_or}
use Rattle.std.proofs.lemmas.Option.{slice_get-map, slice_get_within, slice_get_past}
use Rattle.bb_basis.proofs.ListLemmas.{map-last}
use Rattle.bb_space.specs.declared.members.Members.{Members}
use Rattle.bb_space.specs.Spaces.{Membership, Spaces, changed, left, membership as membership_in}
use Rattle.bb_space.specs.proving.Indexed.{membership, seen, IsIndexed, AreIndexed}
use Rattle.bb_space.proofs.ChangeLemmas.{one_blank}
use Rattle.bb_space.proofs.index_lemmas.Laws.{by_number}

module _ {X : Type 0} where
  pub get_set_here : (xs : List X) (i : ℕ) (x : X) → i < length xs → slice_get (set xs i x) i ≡ Some x
  get_set_here [] i x lt = absurd (omega (arith, lt))
  get_set_here (y ∷ xs) zero x lt = refl
  get_set_here (y ∷ xs) (suc i) x lt = get_set_here xs i x (omega (arith, lt))

  pub get_set_other : (xs : List X) (i j : ℕ) (x : X) → (j ≡ i → ⊥) → slice_get (set xs i x) j ≡ slice_get xs j
  get_set_other [] i j x apart = refl
  get_set_other (y ∷ xs) zero zero x apart = absurd (apart refl)
  get_set_other (y ∷ xs) zero (suc j) x apart = refl
  get_set_other (y ∷ xs) (suc i) zero x apart = refl
  get_set_other (y ∷ xs) (suc i) (suc j) x apart = get_set_other xs i j x (λ e. apart (ap suc e))

  pub same_some : (x y : X) → Some x ≡ Some y → x ≡ y
  same_some x y e = ap (value_of x) e
    where
      value_of : X → Option X → X
      value_of d None = d
      value_of d (Some w) = w

  -- what stands at a place of a list with one changed
  pub at_set : (xs : List X) (i : ℕ) (x : X) (j : ℕ) (y : X) (G : Type 0) → i < length xs → slice_get (set xs i x) j ≡ Some y → (j ≡ i → x ≡ y → G) → ((j ≡ i → ⊥) → slice_get xs j ≡ Some y → G) → G
  at_set xs i x j y G lt there here other = by_number j i G
      (λ same. here same (same_some x y (sym (get_set_here xs i x lt) ∙ (ap (slice_get (set xs i x)) (sym same) ∙ there))))
      (λ apart. other apart (sym (get_set_other xs i j x apart) ∙ there))

  pub dropped : (k : ℕ) (xs : List X) → length xs ≤ k → drop k xs ≡ []
  dropped zero [] le = refl
  dropped (suc k) [] le = refl
  dropped zero (x ∷ xs) le = absurd (omega (arith, le))
  dropped (suc k) (x ∷ xs) le = dropped k xs (omega (arith, le))

  pub drop_next : (xs : List X) (k : ℕ) (x : X) → slice_get xs k ≡ Some x → drop k xs ≡ x ∷ drop (suc k) xs
  drop_next [] zero x there = absurd cc
  drop_next [] (suc k) x there = absurd cc
  drop_next (y ∷ xs) zero x there = ap (λ z. z ∷ xs) (same_some y x there)
  drop_next (y ∷ xs) (suc k) x there = drop_next xs k x there

module _ {X Y : Type 0} (f : X → Y) where
  pub map_set : (xs : List X) (i : ℕ) (x : X) → map f (set xs i x) ≡ set (map f xs) i (f x)
  map_set [] i x = refl
  map_set (y ∷ xs) zero x = refl
  map_set (y ∷ xs) (suc i) x = ap (λ ys. f y ∷ ys) (map_set xs i x)

  pub map_set_same : (xs : List X) (i : ℕ) (x y : X) → slice_get xs i ≡ Some x → f y ≡ f x → map f (set xs i y) ≡ map f xs
  map_set_same [] i x y there same = refl
  map_set_same (z ∷ xs) zero x y there same = ap (λ w. w ∷ map f xs) (same ∙ ap f (sym (same_some z x there)))
  map_set_same (z ∷ xs) (suc i) x y there same = ap (λ ys. f z ∷ ys) (map_set_same xs i x y there same)

-- ---- spaces

-- the members of the space at an index
pub seen_at : (spaces : List Members) (i : ℕ) (m : Members) → slice_get spaces i ≡ Some m → slice_get (map membership spaces) i ≡ Some (membership m)
seen_at spaces i m there = slice_get-map membership spaces i ∙ ap (option_map membership) there

pub in_space : (spaces : List Members) (i : ℕ) (m : Members) → slice_get spaces i ≡ Some m → membership_in (seen spaces) i ≡ membership m
in_space spaces i m there = ap (λ o. option_map_or (λ w. w) o fin.empty) (seen_at spaces i m there)

abbrev pub of_list : List Membership → Spaces
of_list list = record { spaces = list }

-- one changed
pub seen_set : (spaces : List Members) (i : ℕ) (m n : Members) (change : Membership → Membership) → slice_get spaces i ≡ Some m → membership n ≡ change (membership m) → seen (set spaces i n) ≡ changed change (seen spaces) i
seen_set spaces i m n change there goes =
    ap of_list (map_set membership spaces i n ∙ ap (set (map membership spaces) i) goes)
    ∙ sym (ap (λ o. option_map_or (λ w. of_list (set (map membership spaces) i (change w))) o (seen spaces)) (seen_at spaces i m there))

-- one whose members stay
pub seen_same : (spaces : List Members) (i : ℕ) (m n : Members) → slice_get spaces i ≡ Some m → membership n ≡ membership m → seen (set spaces i n) ≡ seen spaces
seen_same spaces i m n there same = ap of_list (map_set_same membership spaces i m n there same)

-- none, past the end
pub seen_past : (spaces : List Members) (i : ℕ) (change : Membership → Membership) → length spaces ≤ i → changed change (seen spaces) i ≡ seen spaces
seen_past spaces i change past =
    ap (λ o. option_map_or (λ w. of_list (set (map membership spaces) i (change w))) o (seen spaces)) (slice_get-map membership spaces i ∙ ap (option_map membership) (slice_get_past spaces i past))

pub indexed_set : (spaces : List Members) (i : ℕ) (m n : Members) → slice_get spaces i ≡ Some m → AreIndexed spaces → IsIndexed n → AreIndexed (set spaces i n)
indexed_set spaces i m n there all one = λ j k at. at_set spaces i n j k _ (slice_get_within spaces i m there) at
    (λ here same. subst IsIndexed same one)
    (λ apart old. all j k old)

-- ---- spaces as they are seen

length_map : {X Y : Type 0} (f : X → Y) (xs : List X) → length (map f xs) ≡ length xs
length_map f [] = refl
length_map f (x ∷ xs) = ap suc (length_map f xs)

pub seen_count : (spaces : List Members) (s : Spaces) → seen spaces ≡ s → length s.spaces ≡ length spaces
seen_count spaces s view = sym (ap (λ (t : Spaces). length t.spaces) view) ∙ length_map membership spaces

pub seen_within : (spaces : List Members) (s : Spaces) (i : ℕ) → seen spaces ≡ s → i < length s.spaces → i < length spaces
seen_within spaces s i view lt = subst (λ n. i < n) (seen_count spaces s view) lt

-- ---- all spaces, one after another

-- one space more, without members
pub record AreBlank {X : Type 0} (count : ℕ) (list : List X) (spaces : List Members) : Type 0 where
  pub none : map membership spaces ≡ map (λ _. fin.empty) (take count list)
  pub indexed : AreIndexed spaces

abbrev no_spaces : List Members
no_spaces = []

nowhere : (i : ℕ) (m : Members) → slice_get no_spaces i ≡ Some m → IsIndexed m
nowhere zero m there = absurd cc
nowhere (suc i) m there = absurd cc

pub blank_none : {X : Type 0} (list : List X) (spaces : List Members) → spaces ≡ [] → AreBlank 0 list spaces
blank_none list spaces empty = record { none = ap (map membership) empty; indexed = λ i m there. nowhere i m (subst (λ ms. slice_get ms i ≡ Some m) empty there) }

pushed : (spaces : List Members) (n : Members) (i : ℕ) (m : Members) → slice_get (spaces ++ n ∷ []) i ≡ Some m → (slice_get spaces i ≡ Some m) ⊎ (n ≡ m)
pushed [] n zero m there = inr (same_some n m there)
pushed [] n (suc zero) m there = absurd cc
pushed [] n (suc (suc i)) m there = absurd cc
pushed (k ∷ spaces) n zero m there = inl there
pushed (k ∷ spaces) n (suc i) m there = pushed spaces n i m there

pub blank_one : {X : Type 0} (count : ℕ) (list : List X) (spaces more : List Members) (n : Members) → count < length list → more ≡ spaces ++ n ∷ [] → membership n ≡ fin.empty → IsIndexed n → AreBlank count list spaces → AreBlank (count + 1) list more
blank_one count list spaces more n lt is_more none one was = record {
  none = one_blank fin.empty list count (map membership spaces) (map membership more) lt was.none (ap (map membership) is_more ∙ (map-last membership spaces n ∙ ap (λ m. map membership spaces ++ m ∷ []) none));
  indexed = λ i m there. at i m (pushed spaces n i m (subst (λ list. slice_get list i ≡ Some m) is_more there));
}
  where
    at : (i : ℕ) (m : Members) → (slice_get spaces i ≡ Some m) ⊎ (n ≡ m) → IsIndexed m
    at i m (inl old) = was.indexed i m old
    at i m (inr new) = subst IsIndexed new one

pub blank_all : {X : Type 0} (count : ℕ) (list : List X) (spaces : List Members) → length list ≤ count → AreBlank count list spaces → map membership spaces ≡ map (λ _. fin.empty) list
blank_all count list spaces le was = was.none ∙ ap (map (λ _. fin.empty)) (whole count list le)
  where
    whole : {X : Type 0} (k : ℕ) (xs : List X) → length xs ≤ k → take k xs ≡ xs
    whole zero [] le = refl
    whole (suc k) [] le = refl
    whole zero (x ∷ xs) le = absurd (omega (arith, le))
    whole (suc k) (x ∷ xs) le = ap (λ ys. x ∷ ys) (whole k xs (omega (arith, le)))

-- a unit leaves the first spaces
pub record AreLeft (unit i : ℕ) (first now : List Members) : Type 0 where
  pub left_members : map membership now ≡ map (left unit) (take i (map membership first)) ++ drop i (map membership first)
  pub long : length now ≡ length first
  pub indexed : AreIndexed now
