-- The budget by the number of places at each depth, which is a number of 128 bits.
use Rattle.std.proofs.Common.{◌≡◌, ℕ, zero, suc, ◌+◌, ◌*◌, ◌^◌, ◌<◌, ◌≤◌, Bool, true, false, cond, List, [], ◌∷◌, length, map, get_or, Ok, refl, sym, ap, subst, ◌∙◌, arith}
use Rattle.std.specs.Prelude.{◌==◌, All}
use Rattle.std.specs.List.{range_with_len, sum_by}
use Rattle.std.proofs.Math.Nat.{add-mul, pow-le-pow_left, pow-le-pow_right}
use Rattle.std.proofs.lemmas.List.Elements.{All-head, All-tail, All-map, All-from_get_or}
use Rattle.std.proofs.lemmas.List.FromFn.{sum_by-map-range_with_len_more, length-map-range_with_len, length-range_with_len, get_or-range_with_len}
use Rattle.std.proofs.lemmas.List.Sums.{sum_by-cons}
use Rattle.bb_code.specs.Code.{Code, places}
use Rattle.bb_verify.specs.nesting.Loops.{depth, loops}
use Rattle.bb_verify.specs.Budget.{turns, budget}
use Rattle.bb_verify.specs.proving.Depths.{depths_of, count_of, counts_of, budget_by}
use Rattle.bb_verify.proofs.nesting_lemmas.Laws.{few_around}

le_trans : (a b c : ℕ) → a ≤ b → b ≤ c → a ≤ c
le_trans a b c one two = omega (arith, one, two)

pub turns_small : (m d : ℕ) → m ≤ 65536 → d ≤ 4 → turns m d ≤ 18447869999386460161
turns_small m d low few =
    le_trans ((m + 1) ^ d) (65537 ^ d) (65537 ^ 4) (pow-le-pow_left (omega (arith, low)) d) (pow-le-pow_right (omega arith) few)

pub depths_long : (code : Code) (depths : List ℕ) → depths ≡ depths_of code → length depths ≡ length code.ops
depths_long code depths is = ap length is ∙ length-map-range_with_len (depth code) 0 (length code.ops)

-- ---- a turn of the loop over the depths

map-id : (xs : List ℕ) → map (λ p. p) xs ≡ xs
map-id [] = refl
map-id (x ∷ xs) = ap (λ l. x ∷ l) (map-id xs)

sum_more : (f : ℕ → ℕ) (n : ℕ) → sum_by f (range_with_len 0 (n + 1)) ≡ sum_by f (range_with_len 0 n) + f n
sum_more f n =
    ap (sum_by f) (sym (map-id (range_with_len 0 (n + 1)))) ∙ (sum_by-map-range_with_len_more f (λ p. p) 0 n n (omega arith) ∙ ap (λ l. sum_by f l + f n) (map-id (range_with_len 0 n)))

pub total_next : (f : ℕ → ℕ) (sum more n : ℕ) → more ≡ f n → more ≤ 1208981160409791666651135
    → (sum ≡ sum_by f (range_with_len 0 n)) × (sum ≤ n * 1208981160409791666651135)
    → (sum + more ≡ sum_by f (range_with_len 0 (n + 1))) × (sum + more ≤ (n + 1) * 1208981160409791666651135)
total_next f sum more n is small so_far = (
  ap (λ s. s + more) so_far.0 ∙ (ap (λ t. sum_by f (range_with_len 0 n) + t) is ∙ sym (sum_more f n)),
  let low = so_far.1 in omega (arith, low, small),
)

-- ---- each place counts once, at its depth

-- a sum over the depths: so many of each, so often
abbrev by_depth : (times counts : ℕ → ℕ) → ℕ
by_depth t c = c 0 * t 0 + c 1 * t 1 + c 2 * t 2 + c 3 * t 3 + c 4 * t 4

one_of : (b : Bool) (c t : ℕ) → (cond b 1 0 + c) * t ≡ cond b t 0 + c * t
one_of true c t = let e : (1 + c) * t ≡ 1 * t + c * t = add-mul 1 c t in omega (arith, e)
one_of false c t = let e : (0 + c) * t ≡ 0 * t + c * t = add-mul 0 c t in omega (arith, e)

at_one : (t : ℕ → ℕ) (d : ℕ) → d ≤ 4 → cond (d == 0) (t 0) 0 + cond (d == 1) (t 1) 0 + cond (d == 2) (t 2) 0 + cond (d == 3) (t 3) 0 + cond (d == 4) (t 4) 0 ≡ t d
at_one t zero few = omega arith
at_one t (suc zero) few = omega arith
at_one t (suc (suc zero)) few = omega arith
at_one t (suc (suc (suc zero))) few = omega arith
at_one t (suc (suc (suc (suc zero)))) few = omega arith
at_one t (suc (suc (suc (suc (suc d))))) few = absurd (omega (arith, few))

by_depth_with_one : (t c now : ℕ → ℕ) (d : ℕ) → d ≤ 4 → ((k : ℕ) → now k ≡ cond (d == k) 1 0 + c k) → t d + by_depth t c ≡ by_depth t now
by_depth_with_one t c now d few is =
    let at : (k : ℕ) → now k * t k ≡ cond (d == k) (t k) 0 + c k * t k = λ k. ap (λ n. n * t k) (is k) ∙ one_of (d == k) (c k) (t k) in
    omega (arith, at 0, at 1, at 2, at 3, at 4, at_one t d few)

each_once : (t : ℕ → ℕ) (depths : List ℕ) → All (λ d. d ≤ 4) depths → sum_by t depths ≡ by_depth t (count_of depths)
each_once t [] few = omega arith
each_once t (d ∷ ds) few =
    sum_by-cons t d ds
    ∙ (ap (λ n. t d + n) (each_once t ds (All-tail (λ (x : ℕ). x ≤ 4) d ds few))
    ∙ by_depth_with_one t (count_of ds) (count_of (d ∷ ds)) d (All-head (λ (x : ℕ). x ≤ 4) d ds few) (λ k. sum_by-cons (λ x. cond (x == k) 1 0) d ds))

five : (f : ℕ → ℕ) → sum_by f (range_with_len 0 5) ≡ f 0 + f 1 + f 2 + f 3 + f 4
five f = omega arith

-- ---- the depths of a code

few_at : (code : Code) → loops code ≡ Ok tt → (i : ℕ) → i < length (places code) → depth code (get_or (places code) i 0) ≤ 4
few_at code sound i lt =
    let long : length (places code) ≡ length code.ops = length-range_with_len 0 (length code.ops) in
    let inside : i < length code.ops = omega (arith, lt, long) in
    let is : get_or (places code) i 0 ≡ 0 + i = get_or-range_with_len 0 (length code.ops) i 0 inside in
    let same : i ≡ get_or (places code) i 0 = omega (arith, is) in
    subst (λ p. depth code p ≤ 4) same (few_around code i sound inside)

few_of : (code : Code) → loops code ≡ Ok tt → All (λ d. d ≤ 4) (depths_of code)
few_of code sound = All-map (λ (d : ℕ). d ≤ 4) (depth code) (places code) (All-from_get_or (λ (p : ℕ). depth code p ≤ 4) (places code) 0 (few_at code sound))

sum_by_map : (t f : ℕ → ℕ) (xs : List ℕ) → sum_by t (map f xs) ≡ sum_by (λ x. t (f x)) xs
sum_by_map t f [] = refl
sum_by_map t f (x ∷ xs) = sum_by-cons t (f x) (map f xs) ∙ (ap (λ n. t (f x) + n) (sum_by_map t f xs) ∙ sym (sum_by-cons (λ y. t (f y)) x xs))

pub budget_is : (code : Code) (m : ℕ) → loops code ≡ Ok tt → budget_by (counts_of (depths_of code)) m ≡ budget code m
budget_is code m sound =
    five (λ k. get_or (counts_of (depths_of code)) k 0 * turns m k)
    ∙ (sym (each_once (λ k. turns m k) (depths_of code) (few_of code sound)) ∙ sum_by_map (λ k. turns m k) (depth code) (places code))
