-- Each loop of an accepted code begins inside the code.
use Rattle.std.proofs.Common.{◌≡◌, ℕ, zero, suc, ◌<◌, Bool, true, false, cond, List, [], ◌∷◌, length, Option, Some, None, Ok, refl, subst, arith}
use Rattle.std.specs.Prelude.{nat_lt}
use Rattle.std.proofs.lemmas.Bool.Decides.{nat_tests}
use Rattle.bb_code.specs.Code.{Code}
use Rattle.bb_code.specs.declared.frame.Loop.{Loop}
use Rattle.bb_verify.specs.nesting.Loops.{lesser, lowest_outside, none_outside}
use Rattle.bb_theorem_machine.specs.proving.StepsLeft.{In}

none_by : (o : Option ℕ) → none_outside o ≡ Ok tt → o ≡ None
none_by None h = refl
none_by (Some head) h = absurd cc

one_inside : (b : Bool) (count head : ℕ) (so_far : Option ℕ) → nat_lt head count ≡ b → cond b so_far (Some (lesser so_far head)) ≡ None → (head < count) × (so_far ≡ None)
one_inside true count head so_far is none = (let lt : head < count = grind (arith, nat_tests) in lt, none)
one_inside false count head so_far is none = absurd cc

none_before : (count : ℕ) (so_far : Option ℕ) (ls : List Loop) → lowest_outside count so_far ls ≡ None → so_far ≡ None
unfolding lowest_outside
none_before count so_far [] none = none
none_before count so_far (l ∷ ls) none =
    (one_inside (nat_lt l.head count) count l.head so_far refl (none_before count (cond (nat_lt l.head count) so_far (Some (lesser so_far l.head))) ls none)).1

all_inside : (count : ℕ) (so_far : Option ℕ) (ls : List Loop) → lowest_outside count so_far ls ≡ None → (l : Loop) → In ls l → l.head < count
unfolding lowest_outside
all_inside count so_far [] none l there = absurd cc
all_inside count so_far (k ∷ ls) none l (zero, at) =
    let same : k ≡ l = cc in
    let here = (one_inside (nat_lt k.head count) count k.head so_far refl (none_before count (cond (nat_lt k.head count) so_far (Some (lesser so_far k.head))) ls none)).0 in
    subst (λ (x : Loop). x.head < count) same here
all_inside count so_far (k ∷ ls) none l (suc i, at) = all_inside count (cond (nat_lt k.head count) so_far (Some (lesser so_far k.head))) ls none l (i, at)

pub heads_inside : (code : Code) → none_outside (lowest_outside (length code.ops) None code.loops) ≡ Ok tt → (l : Loop) → In code.loops l → l.head < length code.ops
heads_inside code h = all_inside (length code.ops) None code.loops (none_by (lowest_outside (length code.ops) None code.loops) h)
