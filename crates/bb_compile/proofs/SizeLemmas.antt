-- Parts are smaller than their wholes.
use Rattle.std.proofs.Common.{◌≡◌, ℕ, zero, suc, ◌+◌, ◌<◌, ◌≤◌, List, [], ◌∷◌, length, get_or, refl, sym, ap, ◌∙◌, arith}
use Rattle.bb_lang.specs.Step.{Step}
use Rattle.bb_lang.specs.Step.TheVariants.{Apply, Divide}
use Rattle.bb_lang.specs.Trees.{ExprTree, PatternTree, chain, and_of, or_of}
use Rattle.bb_lang.specs.View.{steps_of, patterns_of}
use Rattle.bb_lang.specs.proving.Codes.{expr_size, pattern_size}
use Rattle.bb_compile.specs.proving.Sizes.{steps_size, step_size, patterns_size}

step_at : (steps : List Step) (i : ℕ) (d : Step) → i < length steps → step_size (get_or steps i d) ≤ steps_size steps
step_at [] i d lt = absurd (omega arith)
step_at (Apply operator e ∷ steps) zero d lt = omega arith
step_at (Divide division divisor ∷ steps) zero d lt = omega arith
step_at (Apply operator e ∷ steps) (suc i) d lt = let rest = step_at steps i d (omega arith) in omega (arith, rest)
step_at (Divide division divisor ∷ steps) (suc i) d lt = let rest = step_at steps i d (omega arith) in omega (arith, rest)

pub step_in_steps : (steps : List Step) (i : ℕ) (s : Step) → i < length steps → s ≡ get_or steps i s → step_size s ≤ steps_size steps
step_in_steps steps i s lt at =
    let here = step_at steps i s lt in
    let size : step_size s ≡ step_size (get_or steps i s) = ap step_size at in
    omega (arith, here, size)

pub steps_in_chain : (e first : ExprTree) (steps slice : List Step) → chain first (steps_of steps) ≡ e → slice ≡ steps → steps_size slice + 1 ≤ expr_size e
steps_in_chain e first steps slice is same =
    let whole : expr_size (chain first (steps_of steps)) ≡ expr_size e = ap expr_size is in
    let size : steps_size slice ≡ steps_size steps = ap steps_size same in
    omega (arith, whole, size)

pattern_at : (ps : List PatternTree) (i : ℕ) (d : PatternTree) → i < length ps → pattern_size (get_or ps i d) ≤ patterns_size ps
pattern_at [] i d lt = absurd (omega arith)
pattern_at (p ∷ ps) zero d lt = omega arith
pattern_at (p ∷ ps) (suc i) d lt = let rest = pattern_at ps i d (omega arith) in omega (arith, rest)

pub pattern_in_patterns : (ps : List PatternTree) (i : ℕ) (p : PatternTree) → i < length ps → p ≡ get_or ps i p → pattern_size p ≤ patterns_size ps
pattern_in_patterns ps i p lt at =
    let here = pattern_at ps i p lt in
    let size : pattern_size p ≡ pattern_size (get_or ps i p) = ap pattern_size at in
    omega (arith, here, size)

pub patterns_in_and : (p : PatternTree) (parts slice : List PatternTree) → and_of (patterns_of parts) ≡ p → slice ≡ parts → patterns_size slice + 1 ≤ pattern_size p
patterns_in_and p parts slice is same =
    let whole : pattern_size (and_of (patterns_of parts)) ≡ pattern_size p = ap pattern_size is in
    let size : patterns_size slice ≡ patterns_size parts = ap patterns_size same in
    omega (arith, whole, size)

pub patterns_in_or : (p : PatternTree) (parts slice : List PatternTree) → or_of (patterns_of parts) ≡ p → slice ≡ parts → patterns_size slice + 1 ≤ pattern_size p
patterns_in_or p parts slice is same =
    let whole : pattern_size (or_of (patterns_of parts)) ≡ pattern_size p = ap pattern_size is in
    let size : patterns_size slice ≡ patterns_size parts = ap patterns_size same in
    omega (arith, whole, size)
