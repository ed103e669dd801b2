-- The number of a couple is its place in the list of couples.
use Rattle.std.proofs.Common.{◌≡◌, ℕ, zero, suc, ◌+◌, ◌<◌, ◌≤◌, min, Bool, true, false, List, [], ◌∷◌, length, take, Option, Some, None, refl, sym, ap, subst, ◌∙◌, arith, ltb}
use Rattle.std.specs.Prelude.{slice_get, option_and_then, if◌then◌else◌}
use Rattle.std.specs.Option.{option_map_or}
use Rattle.std.proofs.lemmas.Bool.{lt-ltb, ltb-true, ltb-false}
use Rattle.bb_schema.specs.declared.slot.Slot.{Slot}
use Rattle.bb_schema_classes.specs.declared.kind.Link.{Link}
use Rattle.bb_schema.specs.Slots.{link_in, link_of}
use Rattle.bb_schema.specs.Couples.{comes_first, firsts, couple_end}
use Rattle.bb_schema.specs.Fits.{IsCoupled}

listed_by : (b : Bool) (n : ℕ) (front whole : List ℕ) (r : ℕ) → slice_get whole (length front) ≡ Some r
    → slice_get (if b then n ∷ whole else whole) (length (if b then n ∷ front else front)) ≡ Some r
listed_by true n front whole r h = h
listed_by false n front whole r h = h

head_by : (b : Bool) (n : ℕ) (rest : List ℕ) → b ≡ true → slice_get (if b then n ∷ rest else rest) 0 ≡ Some n
head_by true n rest h = refl
head_by false n rest h = absurd cc

-- a slot that comes before its inverse stands in the list after those before it
first_listed : (n : ℕ) (slots : List Slot) (i : ℕ) (t : Slot) → slice_get slots i ≡ Some t
    → comes_first (n + i) t ≡ true → slice_get (firsts n slots) (length (firsts n (take i slots))) ≡ Some (n + i)
unfolding firsts
first_listed n [] i t at first = absurd cc
first_listed n (s ∷ slots) zero t at first =
    let same : s ≡ t = cc in
    let here : comes_first n s ≡ true = subst (λ m. comes_first m s ≡ true) (let e : n + 0 ≡ n = omega arith in e) (subst (λ u. comes_first (n + 0) u ≡ true) (sym same) first) in
    head_by (comes_first n s) n (firsts (suc n) slots) here ∙ ap (λ m. Some m) (let e : n ≡ n + 0 = omega arith in e)
first_listed n (s ∷ slots) (suc i) t at first =
    let e : suc n + i ≡ n + suc i = omega arith in
    listed_by (comes_first n s) n (firsts (suc n) (take i slots)) (firsts (suc n) slots) (n + suc i)
    (first_listed (suc n) slots i t at (subst (λ m. comes_first m t ≡ true) (sym e) first) ∙ ap (λ m. Some m) e)

slot_there : (o : Option Slot) (l : Link) → option_and_then (λ t. link_in t.content) o ≡ Some l
    → (t : Slot) × (o ≡ Some t) × (link_in t.content ≡ Some l)
slot_there None l h = absurd cc
slot_there (Some t) l h = (t, refl, h)

listed_at : (slots : List Slot) (n : ℕ) (l : Link) → link_of slots n ≡ Some l → n < l.inverse
    → slice_get (firsts 0 slots) (length (firsts 0 (take n slots))) ≡ Some n
listed_at slots n l is lt =
    let slot = slot_there (slice_get slots n) l is in
    let first : comes_first n slot.0 ≡ true = ap (λ (o : Option Link). option_map_or (λ k. ltb n k.inverse) o false) slot.2 ∙ lt-ltb n l.inverse lt in
    first_listed 0 slots n slot.0 slot.1 (subst (λ m. comes_first m slot.0 ≡ true) (let e : n ≡ 0 + n = omega arith in e) first) ∙ ap (λ m. Some m) (let e : 0 + n ≡ n = omega arith in e)

listed_either : (slots : List Slot) (n : ℕ) (l : Link) (b : Bool) → ltb n l.inverse ≡ b → link_of slots n ≡ Some l
    → IsCoupled slots n l → slice_get (firsts 0 slots)
    (if b then length (firsts 0 (take n slots)) else length (firsts 0 (take l.inverse slots))) ≡ Some (min n l.inverse)
listed_either slots n l true test is coupled =
    let lt : n < l.inverse = ltb-true n l.inverse test in
    listed_at slots n l is lt ∙ ap (λ m. Some m) (let e : n ≡ min n l.inverse = omega arith in e)
listed_either slots n l false test is coupled =
    let le : l.inverse ≤ n = ltb-false n l.inverse test in
    let apart : l.inverse ≡ n → ⊥ = coupled.other in
    let back : coupled.back.inverse ≡ n = coupled.returns in
    listed_at slots l.inverse coupled.back coupled.is (omega (arith, le, apart, back)) ∙ ap (λ m. Some m) (let e : l.inverse ≡ min n l.inverse = omega (arith, le) in e)

number_of : (slots : List Slot) (n : ℕ) (l : Link) (b : Bool) → ltb n l.inverse ≡ b
    → (couple_end slots n l).0 ≡ (if b then length (firsts 0 (take n slots)) else length (firsts 0 (take l.inverse slots)))
number_of slots n l true test = rw test refl
number_of slots n l false test = rw test refl

pub couple_listed : (slots : List Slot) (n : ℕ) (l : Link) → link_of slots n ≡ Some l → IsCoupled slots n l
    → slice_get (firsts 0 slots) (couple_end slots n l).0 ≡ Some (min n l.inverse)
couple_listed slots n l is coupled = ap (slice_get (firsts 0 slots)) (number_of slots n l (ltb n l.inverse) refl) ∙ listed_either slots n l (ltb n l.inverse) refl is coupled
