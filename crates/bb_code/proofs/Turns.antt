-- Reading values one after another, as a loop does.
use Rattle.std.proofs.Common.{◌≡◌, ◌⊎◌, inl, inr, ℕ, suc, ◌-◌, ◌+◌, ◌≤◌, ◌<◌, List, [], ◌∷◌, ◌++◌, Result, Ok, Err, refl, sym, ap, ◌∙◌, append_assoc, arith}
use Rattle.std.proofs.lemmas.List.{append-nil}
use Rattle.bb_code.specs.declared.fault.CodeFault.{CodeFault}
use Rattle.bb_code.specs.declared.fault.CodeFault.TheVariants.{Memory}
use Rattle.bb_basis.specs.Results.{◌>>=◌}
use Rattle.bb_code.specs.Fields.{repeated}

-- what was read before, and what is still read
abbrev pub with_front : {A S : Type 0} → List A → Result (List A × S) CodeFault → Result (List A × S) CodeFault
with_front front read = read >>= λ x. Ok (front ++ x.0, x.1)

regroup : (A S : Type 0) (front : List A) (a : A) (read : Result (List A × S) CodeFault) → with_front front (read >>= λ x. Ok (a ∷ x.0, x.1)) ≡ with_front (front ++ a ∷ []) read
regroup A S front a (Ok x) = ap (λ (xs : List A). Ok (xs, x.1)) (simp append_assoc)
regroup A S front a (Err fault) = refl

pub repeated_next : (A S : Type 0) (one : S → Result (A × S) CodeFault) (front : List A) (count i : ℕ) (at : S) (a : A) (after : S) (total : Result (List A × S) CodeFault)
    → i < count → one at ≡ Ok (a, after) → with_front front (repeated one (count - i) at) ≡ total → with_front (front ++ a ∷ []) (repeated one (count - (i + 1)) after) ≡ total
unfolding repeated
repeated_next A S one front count i at a after total below is so_far =
    let left : count - i ≡ suc (count - (i + 1)) = omega arith in
    let moved : with_front front (repeated one (count - i) at) ≡ with_front (front ++ a ∷ []) (repeated one (count - (i + 1)) after) = rw (left, is) (regroup A S front a (repeated one (count - (i + 1)) after)) in
    sym moved ∙ so_far

pub repeated_failed : (A S : Type 0) (one : S → Result (A × S) CodeFault) (front : List A) (count i : ℕ) (at : S) (fault : CodeFault) (total : Result (List A × S) CodeFault)
    → i < count → (fault ≡ Memory) ⊎ (one at ≡ Err fault) → with_front front (repeated one (count - i) at) ≡ total → (fault ≡ Memory) ⊎ (total ≡ Err fault)
unfolding repeated
repeated_failed A S one front count i at fault total below (inl memory) so_far = inl memory
repeated_failed A S one front count i at fault total below (inr failed) so_far =
    let left : count - i ≡ suc (count - (i + 1)) = omega arith in
    let stopped : with_front front (repeated one (count - i) at) ≡ Err fault = rw (left, failed) refl in
    inr (sym so_far ∙ stopped)

pub is_done : (A S : Type 0) (one : S → Result (A × S) CodeFault) (front : List A) (count i : ℕ) (at : S) (total : Result (List A × S) CodeFault)
    → count ≤ i → with_front front (repeated one (count - i) at) ≡ total → total ≡ Ok (front, at)
unfolding repeated
is_done A S one front count i at total reached so_far =
    let left : count - i ≡ 0 = omega arith in
    let done : with_front front (repeated one (count - i) at) ≡ Ok (front, at) = rw left (ap (λ (xs : List A). Ok (xs, at)) (append-nil front)) in
    sym so_far ∙ done
