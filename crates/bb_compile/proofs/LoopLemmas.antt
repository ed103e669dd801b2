-- Loops over steps, patterns and statements lay out what their definitions say of the whole.
use Rattle.std.proofs.Common.{◌≡◌, ◌⊎◌, inl, inr, ℕ, zero, suc, ◌+◌, ◌-◌, ◌<◌, ◌≤◌, Bool, false, ◌||◌, List, [], ◌∷◌, ◌++◌, length, get_or, drop, Option, Result, Ok, Err, refl, sym, ap, ◌∙◌, arith}
use Rattle.bb_basis.proofs.IntoMapLemmas.{next_one}
use Rattle.bb_basis.specs.Results.{◌>>=◌}
use Rattle.bb_basis.proofs.ResultLemmas.{same_ok}
use Rattle.bb_pattern.specs.Trees.{Tree, Trees, no_more, more}
use Rattle.bb_pattern.specs.View.{trees_of}
use Rattle.bb_verify_effect.specs.declared.part.Part.{Part}
use Rattle.bb_schema.specs.Schema.{Schema}
use Rattle.bb_lang.specs.Placed.{Placed}
use Rattle.bb_lang.specs.Step.{Step as OneStep}
use Rattle.bb_lang.specs.Step.TheVariants.{Apply, Divide}
use Rattle.bb_lang.specs.Trees.{PatternTree}
use Rattle.bb_lang.specs.View.{steps_of, patterns_of}
use Rattle.bb_lang.specs.BlockView.{block_of, statement_of}
use Rattle.bb_compile_scope.specs.declared.fault.CompileFault.{CompileFault}
use Rattle.bb_compile.specs.declared.asked.Asked.{Asked}
use Rattle.bb_compile_buffer.specs.declared.buffer.Buffer.{Buffer}
use Rattle.bb_compile_buffer.specs.Operations.{Made, operator_code}
use Rattle.bb_compile.specs.Queries.{Patterned}
use Rattle.bb_compile.specs.Expressions.{expr_code, step_code, steps_code, pattern_code, patterns_code}
use Rattle.bb_compile_buffer.specs.Buffers.{leave}
use Rattle.bb_compile.specs.Statements.{after_end, left, statement_code, placed_code, statements_code, block_code}
use Rattle.bb_compile_scope.specs.Scope.{mark_of}
use Rattle.bb_lang.specs.Blocks.{BlockTree}
use Rattle.bb_compile.specs.proving.Fronts.{behind, with_front}

-- ---- what is left of a list

drop_all : {X : Type 0} (xs : List X) (i : ℕ) → length xs ≤ i → drop i xs ≡ []
drop_all [] zero le = refl
drop_all [] (suc i) le = refl
drop_all (x ∷ xs) zero le = absurd (omega arith)
drop_all (x ∷ xs) (suc i) le = drop_all xs i (omega arith)

-- ---- one step after another

after_ok : {A B C E : Type 0} (r : Result A E) (f : A → Result B E) (g : B → Result C E) (y : B) → (r >>= f) ≡ Ok y → (r >>= λ x. f x >>= g) ≡ g y
after_ok (Ok x) f g y h = ap (λ q. q >>= g) h
after_ok (Err e) f g y h = absurd cc

err_again : {A B E : Type 0} (e d : E) → (let r : Result A E = Err e in r) ≡ Err d → (let r : Result B E = Err e in r) ≡ Err d
err_again e d h = let same : e ≡ d = cc in ap (λ x. Err x) same

after_err : {A B C E : Type 0} (r : Result A E) (f : A → Result B E) (g : B → Result C E) (e : E) → (r >>= f) ≡ Err e → (r >>= λ x. f x >>= g) ≡ Err e
after_err (Ok x) f g e h = ap (λ q. q >>= g) h
after_err (Err d) f g e h = err_again d e h

-- ---- steps of a chain

module _ (schema : Schema) (room : ℕ) where
  abbrev rest_of : List OneStep → Made × Buffer → Result (Made × Buffer) CompileFault
  rest_of steps r = steps_code schema room r.0 (steps_of steps) r.1

  step_ok : (left : Made) (s : OneStep) (steps : List OneStep) (t : Buffer) (y : Made × Buffer) → step_code schema room left s t ≡ Ok y → steps_code schema room left (steps_of (s ∷ steps)) t ≡ steps_code schema room y.0 (steps_of steps) y.1
  unfolding steps_code
  step_ok left (Apply operator e) steps t y h = after_ok (expr_code schema (room - 1) e t) (λ r. operator_code operator left r.0 r.1) (rest_of steps) y h
  step_ok left (Divide division divisor) steps t y h = ap (λ q. q >>= rest_of steps) h

  step_err : (left : Made) (s : OneStep) (steps : List OneStep) (t : Buffer) (e : CompileFault) → step_code schema room left s t ≡ Err e → steps_code schema room left (steps_of (s ∷ steps)) t ≡ Err e
  unfolding steps_code
  step_err left (Apply operator o) steps t e h = after_err (expr_code schema (room - 1) o t) (λ r. operator_code operator left r.0 r.1) (rest_of steps) e h
  step_err left (Divide division divisor) steps t e h = ap (λ q. q >>= rest_of steps) h

  module _ (steps : List OneStep) (i : ℕ) (left : Made) (t : Buffer) (total : Result (Made × Buffer) CompileFault) where
    pub steps_next : (s : OneStep) (kind : Made) (u : Buffer) → i < length steps → s ≡ get_or steps i s → step_code schema room left s t ≡ Ok (kind, u)
        → steps_code schema room left (steps_of (drop i steps)) t ≡ total → steps_code schema room kind (steps_of (drop (i + 1) steps)) u ≡ total
    steps_next s kind u lt at now so_far =
        sym (step_ok left s (drop (i + 1) steps) t (kind, u) now) ∙ ap (λ l. steps_code schema room left (steps_of l) t) (sym (next_one steps i s lt at)) ∙ so_far

    pub steps_fail : (s : OneStep) (out e : CompileFault) → i < length steps → s ≡ get_or steps i s → (e ≡ out) ⊎ (step_code schema room left s t ≡ Err e)
        → steps_code schema room left (steps_of (drop i steps)) t ≡ total → (e ≡ out) ⊎ (total ≡ Err e)
    steps_fail s out e lt at (inl h) so_far = inl h
    steps_fail s out e lt at (inr h) so_far =
        inr (sym so_far ∙ ap (λ l. steps_code schema room left (steps_of l) t) (next_one steps i s lt at) ∙ step_err left s (drop (i + 1) steps) t e h)

    pub steps_end : length steps ≤ i → steps_code schema room left (steps_of (drop i steps)) t ≡ total → total ≡ Ok (left, t)
    unfolding steps_code
    steps_end le so_far = sym so_far ∙ ap (λ l. steps_code schema room left (steps_of l) t) (drop_all steps i le)

-- ---- patterns

behind_more : (made : List Tree) (t : Tree) (ps : Trees) → behind (made ++ t ∷ []) ps ≡ behind made (more t ps)
behind_more [] t ps = refl
behind_more (p ∷ made) t ps = ap (more p) (behind_more made t ps)

behind_none : (made : List Tree) → behind made no_more ≡ trees_of made
behind_none [] = refl
behind_none (p ∷ made) = ap (more p) (behind_none made)

abbrev in_front : Tree → Patterned Trees → Result (Patterned Trees) CompileFault
in_front t r = Ok (more t r.0, r.1, r.2)

front_more : (r : Result (Patterned Trees) CompileFault) (made : List Tree) (t : Tree) → with_front (made ++ t ∷ []) r ≡ with_front made (r >>= in_front t)
unfolding with_front
front_more (Ok r) made t = ap (λ x. Ok (x, r.1, r.2)) (behind_more made t r.0)
front_more (Err e) made t = refl

front_error : (made : List Tree) (e : CompileFault) → with_front made (Err e) ≡ Err e
unfolding with_front
front_error made e = refl

front_none : (made : List Tree) (a : Asked) (s : Buffer) → with_front made (Ok (no_more, a, s)) ≡ Ok (trees_of made, a, s)
unfolding with_front
front_none made a s = ap (λ x. Ok (x, a, s)) (behind_none made)

pub front_empty : (made : List Tree) (r : Result (Patterned Trees) CompileFault) → made ≡ [] → with_front made r ≡ r
unfolding with_front
front_empty made (Ok r) empty = ap (λ l. with_front l (Ok r)) empty
front_empty made (Err e) empty = refl

module _ (schema : Schema) (room : ℕ) (space : Option ℕ) (ps : List PatternTree) (i : ℕ) (made : List Tree) (a : Asked) (s : Buffer) (total : Result (Patterned Trees) CompileFault) where
  abbrev others : Patterned Tree → Result (Patterned Trees) CompileFault
  others r = patterns_code schema room space (patterns_of (drop (i + 1) ps)) r.1 r.2 >>= in_front r.0

  more_is : (p : PatternTree) → i < length ps → p ≡ get_or ps i p → patterns_code schema room space (patterns_of (drop i ps)) a s ≡ (pattern_code schema room space p a s >>= others)
  unfolding patterns_code
  more_is p lt at = ap (λ l. patterns_code schema room space (patterns_of l) a s) (next_one ps i p lt at)

  pub patterns_next : (p : PatternTree) (new : List Tree) (t : Tree) (b : Asked) (u : Buffer) → i < length ps → p ≡ get_or ps i p → new ≡ made ++ t ∷ [] → pattern_code schema room space p a s ≡ Ok (t, b, u)
      → with_front made (patterns_code schema room space (patterns_of (drop i ps)) a s) ≡ total → with_front new (patterns_code schema room space (patterns_of (drop (i + 1) ps)) b u) ≡ total
  patterns_next p new t b u lt at is now so_far =
      ap (λ l. with_front l (patterns_code schema room space (patterns_of (drop (i + 1) ps)) b u)) is
      ∙ front_more (patterns_code schema room space (patterns_of (drop (i + 1) ps)) b u) made t
      ∙ ap (λ r. with_front made (r >>= others)) (sym now)
      ∙ ap (with_front made) (sym (more_is p lt at)) ∙ so_far

  pub patterns_fail : (p : PatternTree) (out e : CompileFault) → i < length ps → p ≡ get_or ps i p → (e ≡ out) ⊎ (pattern_code schema room space p a s ≡ Err e)
      → with_front made (patterns_code schema room space (patterns_of (drop i ps)) a s) ≡ total → (e ≡ out) ⊎ (total ≡ Err e)
  patterns_fail p out e lt at (inl h) so_far = inl h
  patterns_fail p out e lt at (inr h) so_far =
      inr (sym so_far ∙ ap (with_front made) (more_is p lt at) ∙ ap (λ r. with_front made (r >>= others)) h ∙ front_error made e)

  pub patterns_end : length ps ≤ i → with_front made (patterns_code schema room space (patterns_of (drop i ps)) a s) ≡ total → total ≡ Ok (trees_of made, a, s)
  unfolding patterns_code
  patterns_end le so_far = sym so_far ∙ ap (λ l. with_front made (patterns_code schema room space (patterns_of l) a s)) (drop_all ps i le) ∙ front_none made a s

-- ---- statements of a block

abbrev ended_by : Bool → Bool × Buffer → Result (Bool × Buffer) CompileFault
ended_by ended x = Ok (ended || x.0, x.1)

now_ok : (r : Result (Bool × Buffer) CompileFault) (ended now : Bool) (u : Buffer) (f : Bool → Buffer → Result (Bool × Buffer) CompileFault) → (r >>= ended_by ended) ≡ Ok (now, u) → (r >>= λ x. f (ended || x.0) x.1) ≡ f now u
now_ok (Ok x) ended now u f h = ap (λ y. f y.0 y.1) (same_ok (ended || x.0, x.1) (now, u) h)
now_ok (Err e) ended now u f h = absurd cc

now_err : (r : Result (Bool × Buffer) CompileFault) (ended : Bool) (e : CompileFault) (f : Bool → Buffer → Result (Bool × Buffer) CompileFault) → (r >>= ended_by ended) ≡ Err e → (r >>= λ x. f (ended || x.0) x.1) ≡ Err e
now_err (Ok x) ended e f h = absurd cc
now_err (Err d) ended e f h = h

module _ (schema : Schema) (part : Part) (loops : ℕ) (ps : List Placed) (i : ℕ) (ended : Bool) (s : Buffer) (total : Result (Bool × Buffer) CompileFault) where
  abbrev behind_it : Bool → Buffer → Result (Bool × Buffer) CompileFault
  behind_it now t = statements_code schema part loops now (block_of (drop (i + 1) ps)) t

  statements_is : (p : Placed) → i < length ps → p ≡ get_or ps i p → statements_code schema part loops ended (block_of (drop i ps)) s ≡ (statement_code schema part loops p.place (statement_of p.statement) (after_end ended s) >>= λ x. behind_it (ended || x.0) x.1)
  unfolding statements_code
  statements_is p lt at = ap (λ l. statements_code schema part loops ended (block_of l) s) (next_one ps i p lt at)

  pub block_next : (p : Placed) (now : Bool) (u : Buffer) → i < length ps → p ≡ get_or ps i p → placed_code schema part loops ended p s ≡ Ok (now, u)
      → statements_code schema part loops ended (block_of (drop i ps)) s ≡ total → statements_code schema part loops now (block_of (drop (i + 1) ps)) u ≡ total
  block_next p now u lt at is so_far =
      sym (now_ok (statement_code schema part loops p.place (statement_of p.statement) (after_end ended s)) ended now u behind_it is) ∙ sym (statements_is p lt at) ∙ so_far

  pub block_fail : (p : Placed) (out e : CompileFault) → i < length ps → p ≡ get_or ps i p → (e ≡ out) ⊎ (placed_code schema part loops ended p s ≡ Err e)
      → statements_code schema part loops ended (block_of (drop i ps)) s ≡ total → (e ≡ out) ⊎ (total ≡ Err e)
  block_fail p out e lt at (inl h) so_far = inl h
  block_fail p out e lt at (inr h) so_far =
      inr (sym so_far ∙ statements_is p lt at ∙ now_err (statement_code schema part loops p.place (statement_of p.statement) (after_end ended s)) ended e behind_it h)

  pub block_end : length ps ≤ i → statements_code schema part loops ended (block_of (drop i ps)) s ≡ total → total ≡ Ok (ended, s)
  unfolding statements_code
  block_end le so_far = sym so_far ∙ ap (λ l. statements_code schema part loops ended (block_of l) s) (drop_all ps i le)

-- ---- the whole block

pub block_fails : (schema : Schema) (part : Part) (loops : ℕ) (b : BlockTree) (s : Buffer) (out e : CompileFault) → (e ≡ out) ⊎ (statements_code schema part loops false b s ≡ Err e) → (e ≡ out) ⊎ (block_code schema part loops b s ≡ Err e)
block_fails schema part loops b s out e (inl h) = inl h
block_fails schema part loops b s out e (inr h) = inr (ap (λ r. r >>= left (mark_of s.scope)) h)

pub block_whole : (schema : Schema) (part : Part) (loops : ℕ) (b : BlockTree) (s t : Buffer) (ended : Bool) → statements_code schema part loops false b s ≡ Ok (ended, t) → block_code schema part loops b s ≡ Ok (ended, leave (mark_of s.scope) t)
block_whole schema part loops b s t ended h = ap (λ r. r >>= left (mark_of s.scope)) h
