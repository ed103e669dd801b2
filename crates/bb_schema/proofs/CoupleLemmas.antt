-- The table of couples, a slot at a time.
use Rattle.std.proofs.Common.{◌≡◌, ℕ, zero, suc, ◌+◌, ◌<◌, ◌≤◌, Bool, true, false, List, [], ◌∷◌, ◌++◌, length, get_or, take, drop, Option, Some, None, inl, inr, zero-add, refl, sym, ap, ◌∙◌, arith, add-one, add-zero, append_assoc}
use Rattle.std.specs.Prelude.{slice_get, option_map, if◌then◌else◌}
use Rattle.std.proofs.lemmas.Option.{slice_get_cases}
use Rattle.std.proofs.Math.Seq.{drop-cons}
use Rattle.std.proofs.lemmas.List.{append-nil, drop_all, take_more, take_all, length-take-le}
use Rattle.bb_schema.specs.declared.slot.Slot.{Slot}
use Rattle.bb_schema.specs.Couples.{comes_first, firsts, counts, couple_number}

abbrev pub counted_on : ℕ → ℕ → Slot → ℕ
counted_on k n t = if comes_first n t then suc k else k

pub counts_go_on : (slots : List Slot) (front new : List ℕ) (i k k' : ℕ) (t : Slot) (total : List ℕ)
    → i < length slots → t ≡ get_or slots i t → new ≡ front ++ k ∷ [] → k' ≡ counted_on k i t
    → front ++ counts k i (drop i slots) ≡ total → new ++ counts k' (i + 1) (drop (i + 1) slots) ≡ total
unfolding counts
counts_go_on slots front new i k k' t total lt is pushed next so_far =
    let one : counts k i (drop i slots) ≡ k ∷ counts k' (i + 1) (drop (i + 1) slots) = rw (drop-cons slots i t lt, ← is, add-one, next) refl in
    rw pushed (append_assoc front (k ∷ []) (counts k' (i + 1) (drop (i + 1) slots)) ∙ (ap (λ r. front ++ r) (sym one) ∙ so_far))

pub counts_end : (slots : List Slot) (front : List ℕ) (i k : ℕ) (total : List ℕ) → length slots ≤ i
    → front ++ counts k i (drop i slots) ≡ total → front ≡ total
unfolding counts
counts_end slots front i k total le so_far = sym (append-nil front) ∙ (ap (λ ts. front ++ counts k i ts) (sym (drop_all i slots le)) ∙ so_far)

by_test : (b : Bool) (k : ℕ) (rest : List ℕ) (n : ℕ)
    → (if b then suc k else k) + length rest ≡ k + length (if b then n ∷ rest else rest)
by_test true k rest n = omega arith
by_test false k rest n = refl

-- what the table has at a slot
pub counts_at : (k n : ℕ) (slots : List Slot) (i : ℕ) → i < length slots
    → slice_get (counts k n slots) i ≡ Some (k + length (firsts n (take i slots)))
unfolding counts firsts
counts_at k n [] i lt = absurd (omega arith)
counts_at k n (t ∷ ts) zero lt = ap (λ m. Some m) (sym (add-zero k))
counts_at k n (t ∷ ts) (suc i) lt = counts_at (counted_on k n t) (suc n) ts i (omega arith) ∙ ap (λ m. Some m) (by_test (comes_first n t) k (firsts (suc n) (take i ts)) n)

pub counts_long : (k n : ℕ) (slots : List Slot) → length (counts k n slots) ≡ length slots
unfolding counts
counts_long k n [] = refl
counts_long k n (t ∷ ts) = ap suc (counts_long (counted_on k n t) (suc n) ts)

pub couple_number_at : (slots : List Slot) (i : ℕ) → i < length slots
    → slice_get (counts 0 0 slots) i ≡ Some (couple_number slots i)
couple_number_at slots i lt = counts_at 0 0 slots i lt ∙ ap (λ m. Some m) (zero-add (length (firsts 0 (take i slots))))

-- a slot with an owner is there
pub owned_within : (slots : List Slot) (n o : ℕ) → option_map (λ t. t.owner) (slice_get slots n) ≡ Some o
    → n < length slots
owned_within slots n o owned = elim (slice_get_cases slots n).1 [
  | inl there ↦ there.1
  | inr past ↦ absurd (let e : option_map (λ t. t.owner) (let none : Option Slot = None in none) ≡ Some o = sym (ap (option_map (λ t. t.owner)) past.1) ∙ owned in cc)
]

test_ends : (b : Bool) (k n : ℕ)
    → length (if b then n ∷ [] else (let none : List ℕ = [] in none)) + k ≡ (if b then suc k else k)
test_ends true k n = omega arith
test_ends false k n = omega arith

test_keeps : (b : Bool) (n : ℕ) (xs ys : List ℕ) (m : ℕ) → length ys ≡ m + length xs
    → length (if b then n ∷ ys else ys) ≡ m + length (if b then n ∷ xs else xs)
test_keeps true n xs ys m h = omega (arith, h)
test_keeps false n xs ys m h = h

-- one slot more
firsts_snoc : (n : ℕ) (slots : List Slot) (t : Slot)
    → length (firsts n (slots ++ t ∷ [])) ≡ length (firsts (n + length slots) (t ∷ [])) + length (firsts n slots)
unfolding firsts
firsts_snoc n [] t = omega (arith, ap (λ m. length (if comes_first m t then m ∷ [] else [])) (let e : n ≡ n + 0 = omega arith in e))
firsts_snoc n (s ∷ slots) t =
    test_keeps (comes_first n s) n (firsts (suc n) slots) (firsts (suc n) (slots ++ t ∷ [])) (length (firsts (n + length (s ∷ slots)) (t ∷ [])))
    (firsts_snoc (suc n) slots t ∙ ap (λ m. length (firsts m (t ∷ [])) + length (firsts (suc n) slots)) (let e : suc n + length slots ≡ n + length (s ∷ slots) = omega arith in e))

pub firsts_more : (slots : List Slot) (i k k' : ℕ) (t : Slot) → i < length slots → t ≡ get_or slots i t
    → k' ≡ counted_on k i t → k ≡ length (firsts 0 (take i slots)) → k' ≡ length (firsts 0 (take (i + 1) slots))
unfolding firsts
firsts_more slots i k k' t lt is next so_far =
    let longer : take (i + 1) slots ≡ take i slots ++ t ∷ [] = take_more slots i t lt ∙ ap (λ u. take i slots ++ u ∷ []) (sym is) in
    let place : 0 + length (take i slots) ≡ i = omega (arith, length-take-le i slots (let le : i ≤ length slots = omega arith in le)) in
    next ∙ (sym (test_ends (comes_first i t) k i) ∙ (ap (λ m. length (firsts i (t ∷ [])) + m) so_far
    ∙ (ap (λ m. length (firsts m (t ∷ [])) + length (firsts 0 (take i slots))) (sym place) ∙ (sym (firsts_snoc 0 (take i slots) t) ∙ ap (λ ts. length (firsts 0 ts)) (sym longer)))))

pub firsts_all : (slots : List Slot) (i k : ℕ) → length slots ≤ i → k ≡ length (firsts 0 (take i slots))
    → k ≡ length (firsts 0 slots)
firsts_all slots i k le so_far = so_far ∙ ap (λ ts. length (firsts 0 ts)) (take_all i slots le)

pub firsts_none : (slots : List Slot) → 0 ≡ length (firsts 0 (take 0 slots))
unfolding firsts
firsts_none slots = refl
