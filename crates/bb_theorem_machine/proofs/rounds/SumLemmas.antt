-- Sums over a list, element by element.
use Rattle.std.proofs.Common.{◌≡◌, ℕ, zero, suc, ◌+◌, ◌*◌, ◌^◌, ◌<◌, ◌≤◌, Bool, true, false, List, [], ◌∷◌, length, filter, refl, sym, ap, subst, ◌∙◌, cond, arith}
use Rattle.std.specs.Prelude.{◌==◌, ◌||◌}
use Rattle.std.specs.List.{range_with_len, sum_by, list_any}
use Rattle.std.proofs.Math.Nat.{mul-add, mul_comm, mul_right_comm, mul-le-mul_left, pow-zero, pow-suc}
use Rattle.std.proofs.lemmas.Bool.Decides.{nat_tests}
use Rattle.std.proofs.lemmas.List.Sums.{sum_by-cons}
use Rattle.bb_theorem_machine.specs.proving.StepsLeft.{In}

-- ---- the elements of a list

pub first_in : {A : Type 0} (x : A) (xs : List A) → In (x ∷ xs) x
first_in x xs = (0, refl)

pub rest_in : {A : Type 0} (x y : A) (xs : List A) → In xs y → In (x ∷ xs) y
rest_in x y xs there = (suc there.0, there.1)

pub any_in : {A : Type 0} (test : A → Bool) (xs : List A) → list_any test xs ≡ true → (x : A) × In xs x × (test x ≡ true)
any_in test [] any = absurd cc
any_in {A = A} test (x ∷ xs) any = by (any_in test xs) (test x) refl
  where
    by : (list_any test xs ≡ true → (y : A) × In xs y × (test y ≡ true)) → (b : Bool) → test x ≡ b → (y : A) × In (x ∷ xs) y × (test y ≡ true)
    by later true is = (x, first_in x xs, is)
    by later false is =
        let found = later (sym (ap (λ b. b || list_any test xs) is) ∙ any) in
        (found.0, rest_in x found.0 xs found.1, found.2)

-- ---- sums

pub sum_le : {A : Type 0} (f g : A → ℕ) (xs : List A) → ((x : A) → In xs x → f x ≤ g x) → sum_by f xs ≤ sum_by g xs
sum_le f g [] each = omega arith
sum_le f g (x ∷ xs) each =
    let here = each x (first_in x xs) in
    let rest = sum_le f g xs (λ y there. each y (rest_in x y xs there)) in
    omega (arith, sum_by-cons f x xs, sum_by-cons g x xs, here, rest)

pub sum_le_more : {A : Type 0} (f g h : A → ℕ) (xs : List A) → ((x : A) → In xs x → f x ≤ g x + h x) → sum_by f xs ≤ sum_by g xs + sum_by h xs
sum_le_more f g h [] each = omega arith
sum_le_more f g h (x ∷ xs) each =
    let here = each x (first_in x xs) in
    let rest = sum_le_more f g h xs (λ y there. each y (rest_in x y xs there)) in
    omega (arith, sum_by-cons f x xs, sum_by-cons g x xs, sum_by-cons h x xs, here, rest)

pub more_sum_le : {A : Type 0} (f g h : A → ℕ) (xs : List A) → ((x : A) → In xs x → f x + h x ≤ g x) → sum_by f xs + sum_by h xs ≤ sum_by g xs
more_sum_le f g h [] each = omega arith
more_sum_le f g h (x ∷ xs) each =
    let here = each x (first_in x xs) in
    let rest = more_sum_le f g h xs (λ y there. each y (rest_in x y xs there)) in
    omega (arith, sum_by-cons f x xs, sum_by-cons g x xs, sum_by-cons h x xs, here, rest)

pub sum_zero : {A : Type 0} (f : A → ℕ) (xs : List A) → ((x : A) → In xs x → f x ≡ 0) → sum_by f xs ≡ 0
sum_zero f [] each = refl
sum_zero f (x ∷ xs) each =
    let here = each x (first_in x xs) in
    let rest = sum_zero f xs (λ y there. each y (rest_in x y xs there)) in
    omega (arith, sum_by-cons f x xs, here, rest)

-- what one element counts, all of them count
pub sum_has : {A : Type 0} (test : A → Bool) (w : ℕ) (xs : List A) (x : A) → In xs x → test x ≡ true → w ≤ sum_by (λ y. cond (test y) w 0) xs
sum_has test w [] x there is = absurd cc
sum_has test w (y ∷ ys) x (zero, at) is =
    let same : y ≡ x = cc in
    let here : cond (test y) w 0 ≡ w = ap (λ b. cond b w 0) (ap test same ∙ is) in
    omega (arith, sum_by-cons (λ z. cond (test z) w 0) y ys, here)
sum_has test w (y ∷ ys) x (suc i, at) is =
    let rest = sum_has test w ys x (i, at) is in
    omega (arith, sum_by-cons (λ z. cond (test z) w 0) y ys, rest)

-- ---- sums over places

-- where a number counts less and none counts more, the sum is less
pub sum_falls : (f g : ℕ → ℕ) (p a n : ℕ) → ((q : ℕ) → f q ≤ g q) → f p < g p → a ≤ p → p < a + n → sum_by f (range_with_len a n) < sum_by g (range_with_len a n)
sum_falls f g p a zero each less from to = absurd (omega (arith, from, to))
sum_falls f g p a (suc n) each less from to = by (a == p) refl (λ later. sum_falls f g p (a + 1) n each less (omega (arith, later)) (omega (arith, to)))
  where
    rest_le : sum_by f (range_with_len (a + 1) n) ≤ sum_by g (range_with_len (a + 1) n)
    rest_le = sum_le f g (range_with_len (a + 1) n) (λ q there. each q)

    by : (b : Bool) → (a == p) ≡ b → (a < p → sum_by f (range_with_len (a + 1) n) < sum_by g (range_with_len (a + 1) n)) → sum_by f (range_with_len a (suc n)) < sum_by g (range_with_len a (suc n))
    by true is rest =
        let same : a ≡ p = grind (arith, nat_tests) in
        let here : f a < g a = subst (λ k. f k < g k) (sym same) less in
        omega (arith, sum_by-cons f a (range_with_len (a + 1) n), sum_by-cons g a (range_with_len (a + 1) n), rest_le, here)
    by false is rest =
        let later : a < p = grind (arith, nat_tests) in
        omega (arith, sum_by-cons f a (range_with_len (a + 1) n), sum_by-cons g a (range_with_len (a + 1) n), rest later, each a)

pub sum_some : (f : ℕ → ℕ) (p a n : ℕ) → 1 ≤ f p → a ≤ p → p < a + n → 1 ≤ sum_by f (range_with_len a n)
sum_some f p a n some from to =
    let less = sum_falls (λ q. 0) f p a n (λ q. omega arith) (omega (arith, some)) from to in
    omega (arith, less)

-- ---- filters

pub filter_step : {A : Type 0} (test : A → Bool) (x : A) (xs : List A) → length (filter test (x ∷ xs)) ≡ cond (test x) 1 0 + length (filter test xs)
filter_step test x xs = by (test x)
  where
    by : (b : Bool) → length (cond b (x ∷ filter test xs) (filter test xs)) ≡ cond b 1 0 + length (filter test xs)
    by true = omega arith
    by false = omega arith

-- one more for each, a power for all

once_more : (m n k rest w : ℕ) → w + rest ≤ k → n ≡ k * (m + 1) → w + (m * w + rest) ≤ n
once_more m n k rest w so_far is =
    let low : w ≤ k = omega (arith, so_far) in
    let times : m * w ≤ m * k = mul-le-mul_left m low in
    omega (arith, so_far, times, is, mul-add k m 1, mul_comm k m)

power_more : (m j w : ℕ) → (m + 1) ^ suc j * w ≡ (m + 1) ^ j * w * (m + 1)
power_more m j w = ap (λ k. k * w) (pow-suc (m + 1) j) ∙ mul_right_comm ((m + 1) ^ j) (m + 1) w

pub raised : {A : Type 0} (test : A → Bool) (m w : ℕ) (xs : List A) → w + sum_by (λ x. cond (test x) (m * w) 0) xs ≤ (m + 1) ^ length (filter test xs) * w
raised test m w [] = rw (pow-zero (m + 1)) (omega arith)
raised {A = A} test m w (x ∷ xs) = by (test x) (raised test m w xs) (sum_by-cons (λ y. cond (test y) (m * w) 0) x xs)
  where
    by : (b : Bool) → w + sum_by (λ y. cond (test y) (m * w) 0) xs ≤ (m + 1) ^ length (filter test xs) * w
        → sum_by (λ y. cond (test y) (m * w) 0) (x ∷ xs) ≡ cond b (m * w) 0 + sum_by (λ y. cond (test y) (m * w) 0) xs
        → w + sum_by (λ y. cond (test y) (m * w) 0) (x ∷ xs) ≤ (m + 1) ^ length (cond b (x ∷ filter test xs) (filter test xs)) * w
    by true so_far is =
        let more = once_more m ((m + 1) ^ suc (length (filter test xs)) * w) ((m + 1) ^ length (filter test xs) * w) (sum_by (λ y. cond (test y) (m * w) 0) xs) w so_far (power_more m (length (filter test xs)) w) in
        omega (arith, more, is)
    by false so_far is = omega (arith, so_far, is)
