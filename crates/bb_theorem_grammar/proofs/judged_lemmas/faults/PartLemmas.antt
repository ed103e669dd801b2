-- A part is refused for the first fault of the judgement.
use Rattle.std.proofs.Common.{◌≡◌, inl, inr, Bool, true, false, cond, [], ◌∷◌, None, Result, Ok, Err, refl, subst, ap, arith}
use Rattle.std.specs.Prelude.{is_ok}
use Rattle.bb_basis.specs.Results.{◌>>=◌}
use Rattle.bb_code.specs.Code.{Code}
use Rattle.bb_code.specs.declared.op.Op.TheVariants.{Done}
use Rattle.bb_verify_effect.specs.Part.{ends_done}
use Rattle.bb_schema.specs.Schema.{Schema}
use Rattle.bb_verify_effect.specs.declared.part.Part.{Part}
use Rattle.bb_verify_effect.specs.declared.part.Part.TheVariants.{Require, Obviate, Retrigger, Revalidate, Do}
use Rattle.bb_lang.specs.Blocks.{BlockTree}
use Rattle.bb_compile_scope.specs.Ending.{block_ends}
use Rattle.bb_compile_scope.specs.Place.{Place}
use Rattle.bb_compile_scope.specs.Scope as scopes
use Rattle.bb_compile_scope.specs.Scope.{mark_of}
use Rattle.bb_compile_scope.specs.declared.fault.CompileFault.{CompileFault}
use Rattle.bb_compile_scope.specs.declared.fault.CompileFault.TheVariants.{At}
use Rattle.bb_compile_scope.specs.declared.fault.TextFlaw.TheVariants.{NoEnd, Limit}
use Rattle.bb_compile_buffer.specs.declared.buffer.Buffer.{Buffer}
use Rattle.bb_compile_buffer.specs.Buffers.{put}
use Rattle.bb_compile_buffer.specs.Finish.{empty_buffer, code_of, if_within}
use Rattle.bb_compile_buffer.specs.Within.{is_within}
use Rattle.bb_compile.specs.declared.part.TheConstants.{LOOP_NESTING}
use Rattle.bb_compile.specs.Parts.{has_no_end, done, version_for, part_code}
use Rattle.bb_compile.specs.Statements.{left, statements_code, block_code}
use Rattle.bb_theorem_grammar.specs.judged.Judgement.{part_faults}
use Rattle.bb_theorem_grammar.specs.judged.Names.{begin_with}
use Rattle.bb_theorem_grammar.specs.judged.Statements.{after_statements, statements_faults}
use Rattle.bb_theorem_grammar.proofs.judged_lemmas.faults.AgreeLemmas.{Agrees, agrees_last, holds_agrees}
use Rattle.bb_theorem_grammar.proofs.judged_lemmas.faults.BlockLemmas.{block_agrees}
use Rattle.bb_theorem_grammar.proofs.judged_lemmas.faults.BranchLemmas.{Leaves}
use Rattle.bb_theorem_grammar.proofs.judged_lemmas.scopes.HoldLemmas.{Holds, Keeps, put_keeps}
use Rattle.bb_theorem_grammar.proofs.judged_lemmas.scopes.MoveLemmas.{holds_map}
use Rattle.bb_theorem_grammar.proofs.judged_lemmas.scopes.NameLemmas.{names_of}
use Rattle.bb_theorem_grammar.proofs.judged_lemmas.scopes.ScopeLemmas.{Tidy}

-- ---- the names that a part begins with

pub begin_tidy : (part : Part) → Tidy (scopes.begin_with part)
begin_tidy (Require class) = record { taken = (refl, tt); apart = (tt, tt) }
begin_tidy (Obviate class of) = record { taken = (refl, (refl, tt)); apart = ((λ e. absurd (omega (arith, e)), tt), (tt, tt)) }
begin_tidy (Retrigger class of) = record { taken = (refl, (refl, tt)); apart = ((λ e. absurd (omega (arith, e)), tt), (tt, tt)) }
begin_tidy (Revalidate class) = record { taken = (refl, tt); apart = (tt, tt) }
begin_tidy (Do class) = record { taken = (refl, tt); apart = (tt, tt) }

pub begin_same : (part : Part) → names_of (scopes.begin_with part) ≡ begin_with part
begin_same (Require class) = refl
begin_same (Obviate class of) = refl
begin_same (Retrigger class of) = refl
begin_same (Revalidate class) = refl
begin_same (Do class) = refl

-- ---- the whole

-- nothing is asked of a code
abbrev IsCode : Code → Type 0
IsCode code = Unit {0}

-- where it began, and no flaw
pub record IsDone (place : Place) (u : Buffer) : Type 0 where
  pub begun : u.start ≡ place
  pub clean : u.flaw ≡ None

-- a part that does not end by a statement ends by an op of its own
pub done_begun : (part : Part) (place : Place) (t : Buffer) → t.start ≡ place → t.flaw ≡ None → Holds (IsDone place) place (done part t)
done_begun part place t start clean = by_part (is_ok (ends_done part))
  where
    by_part : (b : Bool) → Holds (IsDone place) place (cond b (put Done t) (Ok t))
    by_part true =
        holds_map place (Keeps t.scope place None) (IsDone place) (put Done t) (λ u kept. record { begun = kept.begun; clean = kept.flawed })
        (put_keeps t.scope place Done t None (record { same = refl; begun = start; flawed = clean }))
    by_part false = record { begun = start; clean = clean }

-- after a block: where it began, no flaw, and whether it has ended
pub record IsBlock (place : Place) (b : BlockTree) (r : Bool × Buffer) : Type 0 where
  pub begun : r.1.start ≡ place
  pub clean : r.1.flaw ≡ None
  pub ended : r.0 ≡ block_ends b

finished : (place start : Place) (code : Code) → start ≡ place → Agrees place [] IsCode (if_within start code)
unfolding if_within
finished place start code begun = by_limits (is_within code)
  where
    by_limits : (b : Bool) → Agrees place [] IsCode (cond b (Ok code) (Err (At Limit start)))
    by_limits true = (refl, tt)
    by_limits false = inr (ap (At Limit) begun)

module _ (schema : Schema) (part : Part) (place : Place) (b : BlockTree) where
  pub block_judged : Agrees place (statements_faults schema part LOOP_NESTING false (begin_with part) b) (IsBlock place b) (block_code schema part LOOP_NESTING b (empty_buffer part place))
  block_judged =
      let scope = scopes.begin_with part in
      let s = empty_buffer part place in
      subst (λ names. Agrees place (statements_faults schema part LOOP_NESTING false names b) (IsBlock place b) (block_code schema part LOOP_NESTING b s)) (begin_same part)
      (agrees_last place (statements_faults schema part LOOP_NESTING false (names_of scope) b) (Leaves place scope (after_statements schema (names_of scope) b) (block_ends b)) (IsBlock place b)
      (statements_code schema part LOOP_NESTING false b s) (left (mark_of s.scope))
      (block_agrees schema part place b LOOP_NESTING false scope (begin_tidy part) s (record { same = refl; begun = refl; flawed = refl }))
      (λ r leaves. (refl, record { begun = leaves.1.begun; clean = leaves.1.flawed; ended = leaves.0 })))

  laid : Result Code CompileFault
  laid = block_code schema part LOOP_NESTING b (empty_buffer part place) >>= λ r. done part r.1 >>= λ u. if_within u.start (code_of (version_for schema) u)

  laid_agrees : Agrees place (statements_faults schema part LOOP_NESTING false (begin_with part) b) IsCode laid
  unfolding laid
  laid_agrees =
      agrees_last place (statements_faults schema part LOOP_NESTING false (begin_with part) b) (IsBlock place b) IsCode (block_code schema part LOOP_NESTING b (empty_buffer part place)) _ block_judged
      (λ r block. holds_agrees place [] (IsDone place) IsCode (done part r.1) _ (done_begun part place r.1 block.begun block.clean)
      (λ u is. finished place u.start (code_of (version_for schema) u) is.begun))

  pub part_agrees : Agrees place (part_faults schema part place b) IsCode (part_code schema part place b)
  unfolding part_code part_faults laid
  part_agrees = by_end (has_no_end part b)
    where
      by_end : (c : Bool) → Agrees place (cond c (At NoEnd place ∷ []) (statements_faults schema part LOOP_NESTING false (begin_with part) b)) IsCode (cond c (Err (At NoEnd place)) laid)
      by_end true = inl refl
      by_end false = laid_agrees
