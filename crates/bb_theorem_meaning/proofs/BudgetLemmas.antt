-- A code has what was laid out for the block of its part, and its loops; where no loop holds a place it can make as
-- many steps as it has ops.
use Rattle.std.proofs.Common.{◌≡◌, ℕ, zero, suc, ◌+◌, true, List, [], ◌∷◌, length, fold, Ok, refl, subst, sym, ap, ◌∙◌, arith}
use Rattle.std.specs.Prelude.{slice_get}
use Rattle.std.specs.List.{range_with_len}
use Rattle.std.proofs.lemmas.List.{append-nil}
use Rattle.bb_basis.proofs.ResultLemmas.{same_ok}
use native.Mathlib.Numerals.{unary_clauses}
use Rattle.bb_code.specs.Code.{Code}
use Rattle.bb_schema.specs.Schema.{Schema}
use Rattle.bb_lang.specs.Blocks.{BlockTree}
use Rattle.bb_verify.specs.Budget.{turns, budget}
use Rattle.bb_verify.specs.nesting.Loops.{depth}
use Rattle.bb_verify.specs.declared.checked.TheConstants.{FOUND_LIMIT}
use Rattle.bb_verify_effect.specs.declared.part.Part.{Part}
use Rattle.bb_verify_effect.specs.declared.part.Part.TheVariants.{Require, Obviate, Retrigger, Revalidate, Do}
use Rattle.bb_code.specs.declared.op.Op.TheVariants as ops
use Rattle.bb_compile_scope.specs.Place.{Place}
use Rattle.bb_compile_scope.specs.Scope.{begin_with, mark_of}
use Rattle.bb_theorem_accepted.specs.Buffer.{Buffer}
use Rattle.bb_theorem_accepted.specs.Buffers.{put, leave}
use Rattle.bb_theorem_accepted.specs.Finish.{empty_buffer}
use Rattle.bb_compile.specs.Parts.{done}
use Rattle.bb_compile.specs.declared.part.TheConstants.{LOOP_NESTING}
use Rattle.bb_theorem_meaning.specs.Loopless.{is_loopless}
use Rattle.bb_theorem_accepted.proofs.Laws.{Grown, Has, put_ok, grown_none, grown_on, grown_op, has_before, PartLaid, loopless_depth}
use Rattle.bb_theorem_meaning.proofs.SceneLemmas.{sole_of}
use Rattle.bb_theorem_meaning.proofs.ActLemmas.{IsTidy}

-- ---- a code has what was laid out for the block of its part, and its loops

module _ (schema : Schema) (part : Part) (place : Place) (block : BlockTree) (code : Code) (laid : PartLaid schema part place block code) where
  abbrev t : Buffer
  t = laid.behind

  abbrev u : Buffer
  u = laid.whole

  abbrev was : Buffer
  was = leave (mark_of (empty_buffer part place).scope) t

  -- the code is that of a buffer
  pub whole_has : Has code u
  whole_has = record {
    ops = λ i op at closed. ap (λ (c : Code). slice_get c.ops i) (sym laid.same) ∙ at;
    texts = [];
    texts_are = ap (λ (c : Code). c.texts) (sym laid.same) ∙ sym (append-nil u.texts);
    queries = [];
    queries_are = ap (λ (c : Code). c.queries) (sym laid.same) ∙ sym (append-nil u.queries);
  }

  left_grown : Grown t was
  left_grown = grown_none t was refl refl refl

  abbrev HasBlock : Type 0
  HasBlock = Has code t × (code.loops ≡ t.loops)

  loops_are : code.loops ≡ u.loops
  loops_are = ap (λ (c : Code). c.loops) (sym laid.same)

  with_done : put ops.Done was ≡ Ok u → HasBlock
  with_done last =
      let put_is = put_ok ops.Done was u last in
      (has_before code t u (grown_on t was u left_grown (grown_op ops.Done was u put_is)) whole_has, loops_are ∙ ap (λ (x : Buffer). x.loops) put_is)

  as_it_is : was ≡ u → HasBlock
  as_it_is last = (has_before code t was left_grown (subst (Has code) (sym last) whole_has), loops_are ∙ ap (λ (x : Buffer). x.loops) (sym last))

  by_end : (p : Part) → done p was ≡ Ok u → HasBlock
  by_end (Do class) last = with_done last
  by_end (Require c) last = as_it_is (same_ok was u last)
  by_end (Obviate c of) last = as_it_is (same_ok was u last)
  by_end (Retrigger c of) last = as_it_is (same_ok was u last)
  by_end (Revalidate c) last = as_it_is (same_ok was u last)

  pub has_block : HasBlock
  has_block = by_end part laid.last

-- ---- how many steps it can make

-- each place counts once
turns_without_loops : (code : Code) (m : ℕ) → ((place : ℕ) → depth code place ≡ 0) → (ps : List ℕ) (a : ℕ) → fold (λ a place. a + turns m (depth code place)) a ps ≡ a + length ps
turns_without_loops code m none [] a = omega arith
turns_without_loops code m none (p ∷ ps) a =
    let bare : turns m 0 ≡ 1 = simp unary_clauses refl in
    let one : turns m (depth code p) ≡ 1 = ap (turns m) (none p) ∙ bare in
    let rest = turns_without_loops code m none ps (a + turns m (depth code p)) in
    rest ∙ omega (arith, one)

range_count : (from n : ℕ) → length (range_with_len from n) ≡ n
range_count from zero = refl
range_count from (suc n) = ap suc (range_count (from + 1) n)

budget_once : (code : Code) (m : ℕ) → ((place : ℕ) → depth code place ≡ 0) → budget code m ≡ length code.ops
budget_once code m none =
    let all = turns_without_loops code m none (range_with_len 0 (length code.ops)) 0 in
    let count = range_count 0 (length code.ops) in
    omega (arith, all, count)

-- a code of a text without loops can make as many steps as it has ops
pub few_steps : (schema : Schema) (part : Part) (place : Place) (block : BlockTree) (code : Code) → is_loopless block ≡ true → IsTidy (begin_with part) → PartLaid schema part place block code → budget code FOUND_LIMIT ≡ length code.ops
few_steps schema part place block code loopless tidy laid =
    let has = has_block schema part place block code laid in
    budget_once code FOUND_LIMIT
    (loopless_depth schema part LOOP_NESTING block laid.now (empty_buffer part place) laid.behind code loopless laid.block_is (sole_of (begin_with part).kinds (begin_with part).names tidy.taken tidy.apart) has.0 refl has.1)
