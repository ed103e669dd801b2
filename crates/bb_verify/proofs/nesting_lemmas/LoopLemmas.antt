-- The loops of a code.
use Rattle.std.proofs.Common.{◌≡◌, ℕ, ◌+◌, ◌-◌, ◌<◌, ◌≤◌, true, false, List, ◌∷◌, length, drop, get_or, Option, Some, Ok, sym, ap, ◌∙◌, arith, add-one, drop-cons, cond}
use Rattle.std.specs.Prelude.{nat_lt, slice_get}
use Rattle.std.proofs.lemmas.List.{drop_all}
use Rattle.std.proofs.lemmas.Option.{slice_get_within}
use Rattle.std.proofs.lemmas.Bool.Decides.{nat_tests}
use Rattle.bb_basis.proofs.AppendLemmas.{there_is}
use Rattle.bb_basis.proofs.ResultLemmas.{bind_ok}
use Rattle.bb_code.specs.Code.{Code, places}
use Rattle.bb_code.specs.declared.frame.Loop.{Loop}
use Rattle.bb_code.specs.declared.op.Op.{Op}
use Rattle.bb_code.specs.Each.{each}
use Rattle.bb_code.specs.Flaws.{fault_at}
use Rattle.bb_code.proofs.Laws.{range_at, no_fault}
use Rattle.bb_verify.specs.nesting.Loops.{lesser, lowest_outside, depth, place_due, loop_at, loops}
use Rattle.bb_verify.proofs.nesting_lemmas.LoopInversion.{place_due_ok}

-- ---- two loops of the list, one after the other

next_is : (ls : List Loop) (i : ℕ) (d : Loop) → i < length ls → drop i ls ≡ get_or ls i d ∷ drop (i + 1) ls
next_is ls i d lt = drop-cons ls i d lt ∙ ap (λ k. get_or ls i d ∷ drop k ls) (sym (add-one i))

pub two_next : (ls : List Loop) (next : ℕ) (d e : Loop) → 1 ≤ next → next < length ls → drop (next - 1) ls ≡ get_or ls (next - 1) d ∷ get_or ls next e ∷ drop (next + 1) ls
two_next ls next d e some lt =
    next_is ls (next - 1) d (omega (arith, some, lt))
    ∙ ap (λ l. get_or ls (next - 1) d ∷ l) (ap (λ k. drop k ls) (omega (arith, some)) ∙ next_is ls next e lt)

pub after_one : (ls : List Loop) (next : ℕ) (e : Loop) → next < length ls → drop (next + 1 - 1) ls ≡ get_or ls next e ∷ drop (next + 1) ls
after_one ls next e lt = ap (λ k. drop k ls) (omega arith) ∙ next_is ls next e lt

-- ---- heads outside the code

outside_step : (count : ℕ) (so_far : Option ℕ) (ls : List Loop) (i : ℕ) (d : Loop) → i < length ls
    → lowest_outside count so_far (drop i ls) ≡ lowest_outside count (cond (nat_lt (get_or ls i d).head count) so_far (Some (lesser so_far (get_or ls i d).head))) (drop (i + 1) ls)
unfolding lowest_outside
outside_step count so_far ls i d lt = ap (lowest_outside count so_far) (next_is ls i d lt)

pub outside_skip : (count : ℕ) (so_far : Option ℕ) (ls : List Loop) (i : ℕ) (d : Loop) (total : Option ℕ) → i < length ls → (get_or ls i d).head < count
    → lowest_outside count so_far (drop i ls) ≡ total → lowest_outside count so_far (drop (i + 1) ls) ≡ total
outside_skip count so_far ls i d total lt inside before =
    let test : nat_lt (get_or ls i d).head count ≡ true = grind (arith, nat_tests) in
    sym (ap (λ b. lowest_outside count (cond b so_far (Some (lesser so_far (get_or ls i d).head))) (drop (i + 1) ls)) test) ∙ (sym (outside_step count so_far ls i d lt) ∙ before)

pub outside_take : (count : ℕ) (so_far : Option ℕ) (ls : List Loop) (i : ℕ) (d : Loop) (r : ℕ) (total : Option ℕ) → i < length ls → count ≤ (get_or ls i d).head → r ≡ lesser so_far (get_or ls i d).head
    → lowest_outside count so_far (drop i ls) ≡ total → lowest_outside count (Some r) (drop (i + 1) ls) ≡ total
outside_take count so_far ls i d r total lt outside is before =
    let test : nat_lt (get_or ls i d).head count ≡ false = grind (arith, nat_tests) in
    ap (λ x. lowest_outside count (Some x) (drop (i + 1) ls)) is
    ∙ (sym (ap (λ b. lowest_outside count (cond b so_far (Some (lesser so_far (get_or ls i d).head))) (drop (i + 1) ls)) test) ∙ (sym (outside_step count so_far ls i d lt) ∙ before))

pub outside_end : (count : ℕ) (so_far : Option ℕ) (ls : List Loop) (i : ℕ) (total : Option ℕ) → length ls ≤ i → lowest_outside count so_far (drop i ls) ≡ total → so_far ≡ total
unfolding lowest_outside
outside_end count so_far ls i total le before = sym (ap (lowest_outside count so_far) (drop_all i ls le)) ∙ before

-- ---- a place of a code whose loops are in order

pub loop_passed : (code : Code) (place : ℕ) (op : Op) → slice_get code.ops place ≡ Some op → loops code ≡ Ok tt → place_due code place (Some op) ≡ Ok tt
unfolding loops loop_at
loop_passed code place op is h =
    let one = bind_ok (each (loop_at code) (places code)) _ tt h in
    let passed : loop_at code place ≡ Ok tt = range_at (loop_at code) (length code.ops) place (slice_get_within code.ops place op is) one.1 in
    ap (place_due code place) (sym is) ∙ no_fault (fault_at place) (place_due code place (slice_get code.ops place)) tt passed

pub few_around : (code : Code) (place : ℕ) → loops code ≡ Ok tt → place < length code.ops → depth code place ≤ 4
few_around code place h lt =
    let op = there_is code.ops place lt in
    let few = (place_due_ok code place op.0 (loop_passed code place op.0 op.1 h)).few in
    grind (arith, nat_tests)
