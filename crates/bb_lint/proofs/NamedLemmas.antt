-- The table of the queries that ops name says of each query whether one of the ops names it.
use Rattle.std.proofs.Common.{◌≡◌, ℕ, ◌<◌, ◌||◌, zero, suc, Bool, true, false, List, [], ◌∷◌, length, get_or, replicate, Some, refl, sym, ap, ◌∙◌, arith}
use Rattle.std.specs.Prelude.{◌==◌, slice_get, slice_set}
use Rattle.std.proofs.lemmas.List.{length-set, length-replicate}
use Rattle.std.proofs.lemmas.Option.{get_or_from_slice_get}
use Rattle.std.proofs.Math.Dec.{eqb-zero-suc, eqb-suc-zero, eqb-suc-suc}
use Rattle.std.proofs.Math.Bool.{or-false, or-true, or_assoc}
use Rattle.bb_code.specs.declared.op.Op.{Op}
use Rattle.bb_code.specs.declared.op.Op.TheVariants as ops
use Rattle.bb_lint.specs.Unused.{names, is_named, IsTold, with_named, all_named}

-- what a table has at a number once a place is marked
marked : (table : List Bool) (place number : ℕ) (b : Bool) → slice_get table number ≡ Some b
    → slice_get (slice_set table place true) number ≡ Some (b || (place == number))
marked [] place number b at = absurd cc
marked (x ∷ table) zero zero b at = ap (λ y. Some y) (sym (or-true b))
marked (x ∷ table) zero (suc number) b at = at ∙ ap (λ y. Some y) (sym (ap (λ e. b || e) (eqb-zero-suc number) ∙ or-false b))
marked (x ∷ table) (suc place) zero b at = at ∙ ap (λ y. Some y) (sym (ap (λ e. b || e) (eqb-suc-zero place) ∙ or-false b))
marked (x ∷ table) (suc place) (suc number) b at = marked table place number b at ∙ ap (λ e. Some (b || e)) (sym (eqb-suc-suc place number))

-- what a table has at a number once the query that an op names is marked
marked_by : (table : List Bool) (op : Op) (number : ℕ) (b : Bool) → slice_get table number ≡ Some b
    → slice_get (with_named table op) number ≡ Some (b || names number op)
marked_by table (ops.Find query) number b at = marked table query number b at
marked_by table _ number b at = at ∙ ap (λ y. Some y) (sym (or-false b))

marked_all : (table : List Bool) (of : List Op) (number : ℕ) (b : Bool) → slice_get table number ≡ Some b
    → slice_get (all_named table of) number ≡ Some (b || is_named of number)
marked_all table [] number b at = at ∙ ap (λ y. Some y) (sym (or-false b))
marked_all table (op ∷ of) number b at =
    marked_all (with_named table op) of number (b || names number op) (marked_by table op number b at)
    ∙ ap (λ y. Some y) (or_assoc b (names number op) (is_named of number))

-- a table stays as long as it was once a query is marked
long_by : (table : List Bool) (op : Op) → length (with_named table op) ≡ length table
long_by table (ops.Find query) = length-set table query true
long_by table _ = refl

long : (table : List Bool) (of : List Op) → length (all_named table of) ≡ length table
long table [] = refl
long table (op ∷ of) = long (with_named table op) of ∙ long_by table op

at_none : (count number : ℕ) → number < count → slice_get (replicate count false) number ≡ Some false
at_none zero number lt = absurd (omega (arith, lt))
at_none (suc count) zero lt = refl
at_none (suc count) (suc number) lt = at_none count number (omega (arith, lt))

-- a table with no mark tells the queries that ops name once those are marked
pub all_told : (of : List Op) (count : ℕ) → IsTold of count (all_named (replicate count false) of)
all_told of count = record {
  size = long (replicate count false) of ∙ length-replicate count false;
  each = λ number lt. marked_all (replicate count false) of number false (at_none count number lt);
}

-- what a table of the queries that ops name says of a number
pub told_at : (of : List Op) (count : ℕ) (table : List Bool) → IsTold of count table → (number : ℕ) (b : Bool) → number < count
    → get_or table number false ≡ b → is_named of number ≡ b
told_at of count table told number b lt is =
    sym (get_or_from_slice_get table number (is_named of number) false (told.each number lt)) ∙ is
