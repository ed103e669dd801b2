-- The stack's array, and the list of its entries, the newest first.
use Rattle.std.proofs.Common.{◌≡◌, ℕ, zero, suc, ◌+◌, ◌-◌, ◌<◌, ◌≤◌, Bool, true, false, ◌&&◌, List, [], ◌∷◌, ◌++◌, length, take, drop, reverse, get_or, Some, refl, sym, ap, ◌∙◌, arith, length-drop, map, set, length-append}
use Rattle.std.proofs.lemmas.List.{take_more_set, take_more, length-take-le, length-reverse, reverse-append, reverse-reverse, map-append, length-map}
use Rattle.std.proofs.lemmas.List.Edits.{map_over_more}
use Rattle.std.proofs.lemmas.Option.{slice_get-get_or, get_or_from_slice_get}
use Rattle.std.specs.Cmp.Lexicographic.{pointwise}
use Rattle.std.proofs.Math.Seq.{take-add, take-append_seam}
use Rattle.bb_basis.proofs.NumberLemmas.{one_less}
use Rattle.bb_basis.proofs.BoolLemmas.{and_false, and_true}
use Rattle.bb_code.specs.declared.frame.Kind.{Kind}
use Rattle.bb_code.specs.declared.frame.Kind.TheVariants as kinds
use Rattle.bb_verify_effect.specs.Stack.{newest}

pub length_of : (ks : List Kind) (n : ℕ) (stack : List Kind) → reverse (take n ks) ≡ stack → n ≤ length ks → n ≡ length stack
length_of ks n stack is le = sym (ap length (sym is) ∙ (length-reverse (take n ks) ∙ length-take-le n ks le))

pub reverse_snoc : (xs : List Kind) (x : Kind) → reverse (xs ++ x ∷ []) ≡ x ∷ reverse xs
reverse_snoc xs x = reverse-append xs (x ∷ [])

pub reverse_more : (ks : List Kind) (n : ℕ) (d : Kind) → n < length ks → reverse (take (n + 1) ks) ≡ get_or ks n d ∷ reverse (take n ks)
reverse_more ks n d lt = ap reverse (take_more ks n d lt) ∙ reverse_snoc (take n ks) (get_or ks n d)

pub newest_of : (ks : List Kind) (n : ℕ) (d : Kind) (stack : List Kind) → reverse (take n ks) ≡ stack → 1 ≤ n → n ≤ length ks → newest stack ≡ Some (get_or ks (n - 1) d, reverse (take (n - 1) ks))
newest_of ks n d stack is some le = ap newest (sym is ∙ (ap (λ k. reverse (take k ks)) (one_less n some) ∙ reverse_more ks (n - 1) d (omega (arith, some, le))))

-- the newest entries, the deepest of them first, are the end of what the array holds
pub drop_of : (ks : List Kind) (len n : ℕ) → n ≤ len → len ≤ length ks → reverse (take (len - n) ks) ≡ drop n (reverse (take len ks))
drop_of ks len zero le all = ap (λ k. reverse (take k ks)) (omega arith)
drop_of ks len (suc n) le all =
    let before : reverse (take (len - 1 - n) ks) ≡ drop n (reverse (take (len - 1) ks)) = drop_of ks (len - 1) n (omega (arith, le)) (omega (arith, all)) in
    let newer : reverse (take len ks) ≡ get_or ks (len - 1) (get_or ks 0 kinds.Any) ∷ reverse (take (len - 1) ks) =
    ap (λ k. reverse (take k ks)) (one_less len (omega (arith, le))) ∙ reverse_more ks (len - 1) (get_or ks 0 kinds.Any) (omega (arith, le, all)) in
    ap (λ k. reverse (take k ks)) (omega arith) ∙ (before ∙ sym (ap (drop (suc n)) newer))

pub less_of : (ks : List Kind) (n count : ℕ) (stack : List Kind) → reverse (take n ks) ≡ stack → count ≤ length stack → n ≤ length ks → count ≤ n
less_of ks n count stack is le all = let same : n ≡ length stack = length_of ks n stack is all in omega (arith, same, le)

inside : (n count : ℕ) (ks : List Kind) → count ≤ n → n ≤ length ks → count ≤ length (drop (n - count) ks)
inside n count ks le all = let d : length (drop (n - count) ks) ≡ length ks - (n - count) = length-drop (n - count) ks in omega (arith, d, le, all)

-- the newest entries, the deepest first, are the end of what the array holds
pub top_of : (ks : List Kind) (n count : ℕ) (stack : List Kind) → reverse (take n ks) ≡ stack → count ≤ n → n ≤ length ks → take count (drop (n - count) ks) ≡ reverse (take count stack)
top_of ks n count stack is le all =
    let mid = take count (drop (n - count) ks) in
    let front = take (n - count) ks in
    let split : take n ks ≡ front ++ mid = ap (λ k. take k ks) (omega (arith, le)) ∙ take-add (n - count) count ks in
    let long : length (reverse mid) ≡ count = length-reverse mid ∙ length-take-le count (drop (n - count) ks) (inside n count ks le all) in
    let newest : take count stack ≡ reverse mid =
    ap (take count) (sym is ∙ (ap reverse split ∙ reverse-append front mid))
    ∙ (ap (λ k. take k (reverse mid ++ reverse front)) (sym long) ∙ take-append_seam (reverse mid) (reverse front)) in
    sym (ap reverse newest ∙ reverse-reverse mid)

-- reversing and changing each entry
reverse_cons : (x : Kind) (xs : List Kind) → reverse (x ∷ xs) ≡ reverse xs ++ x ∷ []
reverse_cons x xs = reverse-append (x ∷ []) xs

pub reverse_map : (f : Kind → Kind) (xs : List Kind) → reverse (map f xs) ≡ map f (reverse xs)
reverse_map f [] = refl
reverse_map f (x ∷ xs) =
    reverse_cons (f x) (map f xs) ∙ (ap (λ l. l ++ f x ∷ []) (reverse_map f xs) ∙ (sym (map-append f (reverse xs) (x ∷ [])) ∙ sym (ap (map f) (reverse_cons x xs))))

-- ---- two stacks compared entry by entry, from either end

and_grouped : (a b c : Bool) → (a && (b && c)) ≡ ((a && b) && c)
and_grouped true b c = refl
and_grouped false b c = refl

pointwise_snoc : (w : Kind → Kind → Bool) (xs ys : List Kind) (x y : Kind) → pointwise w (xs ++ x ∷ []) (ys ++ y ∷ []) ≡ (pointwise w xs ys && w x y)
pointwise_snoc w [] [] x y = and_true (w x y)
pointwise_snoc w [] (b ∷ []) x y = and_false (w x b)
pointwise_snoc w [] (b ∷ c ∷ ys) x y = and_false (w x b)
pointwise_snoc w (a ∷ []) [] x y = and_false (w a y)
pointwise_snoc w (a ∷ c ∷ xs) [] x y = and_false (w a y)
pointwise_snoc w (a ∷ xs) (b ∷ ys) x y = ap (λ r. w a b && r) (pointwise_snoc w xs ys x y) ∙ and_grouped (w a b) (pointwise w xs ys) (w x y)

swap : (a b : Bool) → (a && b) ≡ (b && a)
swap true true = refl
swap true false = refl
swap false true = refl
swap false false = refl

none_snoc : (w : Kind → Kind → Bool) (xs : List Kind) (x : Kind) → pointwise w [] (xs ++ x ∷ []) ≡ false
none_snoc w [] x = refl
none_snoc w (y ∷ xs) x = refl

snoc_none : (w : Kind → Kind → Bool) (xs : List Kind) (x : Kind) → pointwise w (xs ++ x ∷ []) [] ≡ false
snoc_none w [] x = refl
snoc_none w (y ∷ xs) x = refl

pub pointwise_reverse : (w : Kind → Kind → Bool) (xs ys : List Kind) → pointwise w (reverse xs) (reverse ys) ≡ pointwise w xs ys
pointwise_reverse w [] [] = refl
pointwise_reverse w [] (y ∷ ys) = ap (pointwise w []) (reverse_cons y ys) ∙ none_snoc w (reverse ys) y
pointwise_reverse w (x ∷ xs) [] = ap (λ l. pointwise w l []) (reverse_cons x xs) ∙ snoc_none w (reverse xs) x
pointwise_reverse w (x ∷ xs) (y ∷ ys) =
    ap (λ l. pointwise w l (reverse (y ∷ ys))) (reverse_cons x xs) ∙ (ap (pointwise w (reverse xs ++ x ∷ [])) (reverse_cons y ys)
    ∙ (pointwise_snoc w (reverse xs) (reverse ys) x y ∙ (ap (λ b. b && w x y) (pointwise_reverse w xs ys) ∙ swap (pointwise w xs ys) (w x y))))

pub pointwise_onto : (w : Kind → Kind → Bool) (xs ys : List Kind) → pointwise w (reverse xs) ys ≡ pointwise w xs (reverse ys)
pointwise_onto w xs ys = ap (pointwise w (reverse xs)) (sym (reverse-reverse ys)) ∙ pointwise_reverse w xs (reverse ys)

-- a turn of a loop that changes each entry
as_long : (f : Kind → Kind) (xs ys : List Kind) (i : ℕ) → i < length xs → ys ≡ map f (take i xs) ++ drop i xs → i < length ys
as_long f xs ys i lt is =
    let whole = ap length is ∙ length-append (map f (take i xs)) (drop i xs) in
    let front : length (map f (take i xs)) ≡ i = length-map _ _ ∙ length-take-le i xs (omega (arith, lt)) in
    let back = length-drop i xs in
    omega (arith, whole, front, back, lt)

pub change_next : (f : Kind → Kind) (xs ys : List Kind) (i : ℕ) (d r : Kind) → i < length xs → ys ≡ map f (take i xs) ++ drop i xs → r ≡ f (get_or ys i d) → set ys i r ≡ map f (take (i + 1) xs) ++ drop (i + 1) xs
change_next f xs ys i d r lt is changed =
    ap (set ys i) changed ∙ map_over_more f xs ys i (get_or ys i d) lt is (sym (get_or_from_slice_get ys i (get_or ys i d) (get_or ys i d) (slice_get-get_or ys i d (as_long f xs ys i lt is))))

-- a turn of a loop that copies
pub copy_next : (ks ds : List Kind) (i : ℕ) (d : Kind) → i < length ks → i < length ds → take i ks ≡ take i ds → take (i + 1) (set ks i (get_or ds i d)) ≡ take (i + 1) ds
copy_next ks ds i d lt other same = take_more_set ks i (get_or ds i d) lt ∙ (ap (λ l. l ++ get_or ds i d ∷ []) same ∙ sym (take_more ds i d other))
