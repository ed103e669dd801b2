-- Lemmas for the crates above: loops that test one thing after another, and the parts of a pattern.
use Rattle.std.proofs.Common.{◌≡◌, ℕ, zero, suc, ◌+◌, ◌-◌, ◌<◌, ◌≤◌, List, [], ◌∷◌, length, drop, get_or, Result, Ok, Err, refl, sym, ap, ◌∙◌, arith, add-one, drop-cons}
use Rattle.std.specs.Prelude.{All}
use Rattle.std.specs.List.{range_with_len}
use Rattle.std.proofs.lemmas.List.{drop_all}
use Rattle.std.proofs.lemmas.List.Elements.{All-nil, All-cons}
use Rattle.bb_basis.specs.Results.{◌>>=◌, map_err, try_fold}
use Rattle.bb_basis.proofs.ResultLemmas.{bind_ok, same_ok}
pub use Rattle.bb_pattern.proofs.Laws.{parts_below_and, parts_below_or}
use Rattle.bb_code.specs.Each.{each}

-- ---- over a slice

each-drop : {A E : Type 0} (f : A → Result (Unit {0}) E) (xs : List A) (i : ℕ) (d : A) → i < length xs → each f (drop i xs) ≡ (f (get_or xs i d) >>= λ _. each f (drop (i + 1) xs))
unfolding each
each-drop f xs i d lt = rw (drop-cons xs i d lt, add-one) refl

pub each_next : {A E : Type 0} (f : A → Result (Unit {0}) E) (xs : List A) (i : ℕ) (d : A) (x : Unit {0}) (total : Result (Unit {0}) E) → i < length xs → Ok x ≡ f (get_or xs i d) → each f (drop i xs) ≡ total → each f (drop (i + 1) xs) ≡ total
each_next f xs i d x total lt ok so_far = ap (λ r. r >>= λ _. each f (drop (i + 1) xs)) ok ∙ (sym (each-drop f xs i d lt) ∙ so_far)

pub each_error : {A E : Type 0} (f : A → Result (Unit {0}) E) (xs : List A) (i : ℕ) (d : A) (e : E) (total : Result (Unit {0}) E) → i < length xs → Err e ≡ f (get_or xs i d) → each f (drop i xs) ≡ total → Err e ≡ total
each_error f xs i d e total lt failed so_far = ap (λ r. r >>= λ _. each f (drop (i + 1) xs)) failed ∙ (sym (each-drop f xs i d lt) ∙ so_far)

pub each_end : {A E : Type 0} (f : A → Result (Unit {0}) E) (xs : List A) (i : ℕ) (total : Result (Unit {0}) E) → length xs ≤ i → each f (drop i xs) ≡ total → Ok tt ≡ total
unfolding each
each_end f xs i total le so_far = sym (ap (each f) (drop_all i xs le)) ∙ so_far

-- ---- over numbers

grown : (i n : ℕ) → i < n → n - i ≡ suc (n - (i + 1))
grown i n lt = omega (arith, lt)

pub range-cons : (i n : ℕ) → i < n → range_with_len i (n - i) ≡ i ∷ range_with_len (i + 1) (n - (i + 1))
range-cons i n lt = ap (range_with_len i) (grown i n lt)

each-range : {E : Type 0} (f : ℕ → Result (Unit {0}) E) (i n : ℕ) → i < n → each f (range_with_len i (n - i)) ≡ (f i >>= λ _. each f (range_with_len (i + 1) (n - (i + 1))))
unfolding each
each-range f i n lt = ap (each f) (range-cons i n lt)

pub range_next : {E : Type 0} (f : ℕ → Result (Unit {0}) E) (i n : ℕ) (x : Unit {0}) (total : Result (Unit {0}) E) → i < n → Ok x ≡ f i → each f (range_with_len i (n - i)) ≡ total → each f (range_with_len (i + 1) (n - (i + 1))) ≡ total
range_next f i n x total lt ok so_far = ap (λ r. r >>= λ _. each f (range_with_len (i + 1) (n - (i + 1)))) ok ∙ (sym (each-range f i n lt) ∙ so_far)

pub range_error : {E : Type 0} (f : ℕ → Result (Unit {0}) E) (i n : ℕ) (e : E) (total : Result (Unit {0}) E) → i < n → Err e ≡ f i → each f (range_with_len i (n - i)) ≡ total → Err e ≡ total
range_error f i n e total lt failed so_far = ap (λ r. r >>= λ _. each f (range_with_len (i + 1) (n - (i + 1)))) failed ∙ (sym (each-range f i n lt) ∙ so_far)

none : (i n : ℕ) → n ≤ i → n - i ≡ 0
none i n le = omega (arith, le)

pub range_end : {E : Type 0} (f : ℕ → Result (Unit {0}) E) (i n : ℕ) (total : Result (Unit {0}) E) → n ≤ i → each f (range_with_len i (n - i)) ≡ total → Ok tt ≡ total
unfolding each
range_end f i n total le so_far = sym (ap (λ k. each f (range_with_len i k)) (none i n le)) ∙ so_far

-- ---- a change at each number

pub fold_end : {S E : Type 0} (f : S → ℕ → Result S E) (s : S) (i n : ℕ) (total : Result S E) → n ≤ i → try_fold f s (range_with_len i (n - i)) ≡ total → total ≡ Ok s
unfolding try_fold
fold_end f s i n total le so_far = sym so_far ∙ ap (λ k. try_fold f s (range_with_len i k)) (none i n le)

-- ---- what passed all tests passed each

pub each_all : {A E : Type 0} (f : A → Result (Unit {0}) E) (xs : List A) → each f xs ≡ Ok tt → All (λ x. f x ≡ Ok tt) xs
unfolding each
each_all f [] h = All-nil (λ x. f x ≡ Ok tt)
each_all f (x ∷ xs) h = let one = bind_ok (f x) (λ _. each f xs) tt h in All-cons (λ y. f y ≡ Ok tt) x xs one.1 (each_all f xs one.2)

range_each : {E : Type 0} (f : ℕ → Result (Unit {0}) E) (a n i : ℕ) → i < n → each f (range_with_len a n) ≡ Ok tt → f (a + i) ≡ Ok tt
unfolding each
range_each f a zero i lt h = absurd (omega (arith, lt))
range_each f a (suc n) zero lt h = let one = bind_ok (f a) (λ _. each f (range_with_len (a + 1) n)) tt h in ap f (omega arith) ∙ one.1
range_each f a (suc n) (suc i) lt h =
    let one = bind_ok (f a) (λ _. each f (range_with_len (a + 1) n)) tt h in
    ap f (omega arith) ∙ range_each f (a + 1) n i (omega (arith, lt)) one.2

pub range_at : {E : Type 0} (f : ℕ → Result (Unit {0}) E) (n i : ℕ) → i < n → each f (range_with_len 0 n) ≡ Ok tt → f i ≡ Ok tt
range_at f n i lt h = ap f (omega arith) ∙ range_each f 0 n i lt h

pub no_fault : {X E F : Type 0} (f : E → F) (r : Result X E) (x : X) → map_err f r ≡ Ok x → r ≡ Ok x
no_fault f (Ok y) x h = ap (λ z. Ok z) (same_ok y x h)
no_fault f (Err e) x h = absurd cc
