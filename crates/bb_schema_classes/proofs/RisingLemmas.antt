-- Numbers that rise, with one more after them.
use Rattle.std.proofs.Common.{◌≡◌, ℕ, ◌<◌, List, [], ◌∷◌, ◌++◌, sym}
use Rattle.std.specs.Prelude.{All}
use Rattle.std.specs.List.{AllByRecursion}
use Rattle.std.specs.List.Sorted.{IsStrictlySortedBy}
use Rattle.std.specs.Ordering.{nat_cmp}
use Rattle.std.specs.Cmp.{nat_cmp_is}
use Rattle.std.specs.declared.cmp.Ordering.TheVariants.{Less}
use Rattle.std.proofs.lemmas.List.Elements.{All-head, All-tail}

above_push : (n : ℕ) (ns : List ℕ) (m : ℕ) → AllByRecursion (λ k. nat_cmp n k ≡ Less) ns → nat_cmp n m ≡ Less
    → AllByRecursion (λ k. nat_cmp n k ≡ Less) (ns ++ m ∷ [])
above_push n [] m all less = (less, tt)
above_push n (k ∷ ns) m all less = (all.0, above_push n ns m all.1 less)

-- a number above all of them comes last
pub rising_push : (ns : List ℕ) (m : ℕ) → IsStrictlySortedBy nat_cmp ns → All (λ n. n < m) ns
    → IsStrictlySortedBy nat_cmp (ns ++ m ∷ [])
unfolding IsStrictlySortedBy
rising_push [] m rise below = (tt, tt)
rising_push (n ∷ ns) m rise below =
    let less = sym (nat_cmp_is n m Less (All-head (λ k. k < m) n ns below)) in
    (above_push n ns m rise.0 less, rising_push ns m rise.1 (All-tail (λ k. k < m) n ns below))

pub rising_nil : IsStrictlySortedBy nat_cmp []
unfolding IsStrictlySortedBy
rising_nil = tt
