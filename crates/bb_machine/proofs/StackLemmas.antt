-- The newest entries of a stack, which a `Vec` has last and the definitions have first.
use Rattle.std.proofs.Common.{◌≡◌, ℕ, ◌+◌, ◌≤◌, List, ◌++◌, length, take, drop, reverse, Ok, refl, ap, sym, ◌∙◌, arith}
use Rattle.std.proofs.Math.Seq.{take-append_seam, drop-append_seam}
use Rattle.std.proofs.lemmas.Bool.{le-ltb}
use Rattle.std.proofs.lemmas.List.{reverse-append, length-reverse, reverse-reverse, take-append-drop, length-drop}
use Rattle.bb_machine.specs.declared.value.Value.{Value}
use Rattle.bb_machine.specs.Machine.{Machine, with_stack, pop_many}

reverse_append : (A : Type 0) (kept popped : List A) → reverse (kept ++ popped) ≡ reverse popped ++ reverse kept
reverse_append A kept popped = reverse-append kept popped

newest_taken : (A : Type 0) (kept popped : List A) (n : ℕ) → n ≡ length popped → take n (reverse (kept ++ popped)) ≡ reverse popped
newest_taken A kept popped n long =
    ap (take n) (reverse_append A kept popped)
    ∙ (ap (λ k. take k (reverse popped ++ reverse kept)) (long ∙ sym (length-reverse popped)) ∙ take-append_seam (reverse popped) (reverse kept))

newest_dropped : (A : Type 0) (kept popped : List A) (n : ℕ) → n ≡ length popped → drop n (reverse (kept ++ popped)) ≡ reverse kept
newest_dropped A kept popped n long =
    ap (drop n) (reverse_append A kept popped)
    ∙ (ap (λ k. drop k (reverse popped ++ reverse kept)) (long ∙ sym (length-reverse popped)) ∙ drop-append_seam (reverse popped) (reverse kept))

-- entries that are split off the end of a `Vec` are popped
pub split_is_popped : (m : Machine) (whole kept popped : List Value) (first n : ℕ) → m.stack ≡ reverse whole → first + n ≡ length whole → kept ≡ take first whole → popped ≡ drop first whole
    → pop_many n m ≡ Ok (popped, with_stack (reverse kept) m)
unfolding pop_many
split_is_popped m whole kept popped first n seen count left right =
    let parts : whole ≡ kept ++ popped = sym (rw (left, right) (take-append-drop first whole)) in
    let long : n ≡ length popped = omega (arith, count, ap length right, length-drop first whole) in
    let stack : m.stack ≡ reverse (kept ++ popped) = seen ∙ ap reverse parts in
    let high : n ≤ length m.stack = omega (arith, count, ap length seen, length-reverse whole) in
    let taken : reverse (take n m.stack) ≡ popped = ap (λ s. reverse (take n s)) stack ∙ (ap reverse (newest_taken Value kept popped n long) ∙ reverse-reverse popped) in
    let dropped : drop n m.stack ≡ reverse kept = ap (drop n) stack ∙ newest_dropped Value kept popped n long in
    rw (le-ltb (length m.stack) n high, taken, dropped) refl
