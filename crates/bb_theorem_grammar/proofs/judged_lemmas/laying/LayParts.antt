-- A part whose sums are those of a code is laid out whole, or refused for its first fault.
use Rattle.std.proofs.Common.{◌≡◌, ◌≤◌, ◌⊎◌, inl, inr, Bool, true, false, cond, List, [], ◌∷◌, Result, Ok, Err, refl, ap, arith}
use Rattle.std.specs.Prelude.{is_ok}
use Rattle.bb_basis.specs.Results.{◌>>=◌}
use Rattle.bb_code.specs.declared.parts.TheConstants.{OP_LIMIT, TEXT_COUNT_LIMIT, QUERY_LIMIT, LOOP_LIMIT}
use Rattle.bb_code.specs.Code.{Code}
use Rattle.bb_code.specs.declared.op.Op.TheVariants.{Done}
use Rattle.bb_verify_effect.specs.Part.{ends_done}
use Rattle.bb_schema.specs.Schema.{Schema}
use Rattle.bb_verify_effect.specs.declared.part.Part.{Part}
use Rattle.bb_lang.specs.Blocks.{BlockTree}
use Rattle.bb_compile_scope.specs.Place.{Place}
use Rattle.bb_compile_scope.specs.declared.fault.CompileFault.{CompileFault}
use Rattle.bb_compile_scope.specs.declared.fault.CompileFault.TheVariants.{At}
use Rattle.bb_compile_scope.specs.declared.fault.TextFlaw.TheVariants.{NoEnd}
use Rattle.bb_compile_buffer.specs.declared.buffer.Buffer.{Buffer}
use Rattle.bb_compile_buffer.specs.Buffers.{put}
use Rattle.bb_compile_buffer.specs.Finish.{empty_buffer, code_of, if_within}
use Rattle.bb_compile.specs.declared.part.TheConstants.{LOOP_NESTING}
use Rattle.bb_compile.specs.Parts.{has_no_end, done, version_for, part_code}
use Rattle.bb_compile.specs.Statements.{block_code}
use Rattle.bb_theorem_grammar.specs.judged.Judgement.{part_faults, IsFirst}
use Rattle.bb_theorem_grammar.specs.judged.Names.{begin_with}
use Rattle.bb_theorem_grammar.specs.judged.Statements.{statements_faults}
use Rattle.bb_theorem_grammar.specs.judged.Sums.{ops, end_sums, statements_sums, part_sums, Sums, different, statements_have_room}
use Rattle.bb_theorem_grammar.proofs.judged_lemmas.faults.AgreeLemmas.{Agrees}
use Rattle.bb_theorem_grammar.proofs.judged_lemmas.scopes.HoldLemmas.{Holds}
use Rattle.bb_theorem_grammar.proofs.judged_lemmas.laying.LayBlocks.{left_gives, block_gives}
use Rattle.bb_theorem_grammar.proofs.judged_lemmas.laying.GiveLemmas.{Given}
use Rattle.bb_theorem_grammar.proofs.judged_lemmas.laying.LayLemmas.{Room, Laid, Lays, room_first, room_rest, adds_none, itself, second, put_lays}
use Rattle.bb_theorem_grammar.proofs.judged_lemmas.faults.PartLemmas.{begin_tidy, begin_same, IsDone, done_begun, IsBlock, block_judged}

-- so much a code may have
pub record AreFew (a : Sums) : Type 0 where
  pub few_ops : a.ops ≤ OP_LIMIT
  pub few_texts : different a.texts ≤ TEXT_COUNT_LIMIT
  pub few_queries : a.queries ≤ QUERY_LIMIT
  pub few_loops : a.loops ≤ LOOP_LIMIT

-- its sums are those of a code, and there is room for its names
abbrev pub FitsSums : Schema → Part → BlockTree → Type 0
FitsSums schema part b = AreFew (part_sums schema part b) × (statements_have_room schema (begin_with part) b ≡ true)

-- the code of a part, before its limits are asked
unfoldable pub laid_out : Schema → Part → Place → BlockTree → Result Code CompileFault
laid_out schema part place b = block_code schema part LOOP_NESTING b (empty_buffer part place) >>= λ r. done part r.1 >>= λ u. Ok (code_of (version_for schema) u)

-- a part without a fault is laid out whole, and one with faults is refused for the first
abbrev pub IsLaid : Place → List CompileFault → (laid answer : Result Code CompileFault) → Type 0
IsLaid place faults laid answer =
    ((faults ≡ []) × (code : Code) × (laid ≡ Ok code) × (answer ≡ if_within place code))
    ⊎ ((fault : CompileFault) × IsFirst fault faults × (answer ≡ Err fault))

done_lays : (part : Part) (t : Buffer) → Lays itself (end_sums part) t (done part t)
done_lays part t = by_part (is_ok (ends_done part))
  where
    by_part : (b : Bool) → Lays itself (ops (cond b 1 0)) t (cond b (put Done t) (Ok t))
    by_part true = put_lays Done t
    by_part false = λ room. adds_none (ops 0) refl t

module _ (schema : Schema) (part : Part) (place : Place) (b : BlockTree) where
  -- the code of a buffer, where only its own limits are left
  by_done : (t : Buffer) (faults : List CompileFault) (r : Result Buffer CompileFault) → faults ≡ [] → Laid itself (end_sums part) t r → Holds (IsDone place) place r → IsLaid place faults (r >>= λ u. Ok (code_of (version_for schema) u)) (r >>= λ u. if_within u.start (code_of (version_for schema) u))
  by_done t faults (Err fault) none h begun = absurd h
  by_done t faults (Ok u) none h begun = inl (none, code_of (version_for schema) u, refl, ap (λ p. if_within p (code_of (version_for schema) u)) begun.begun)

  by_block : (s : Buffer) (faults : List CompileFault) (r : Result (Bool × Buffer) CompileFault) → Room (part_sums schema part b) s → Given second (statements_sums schema (begin_with part) b) s faults r → Agrees place faults (IsBlock place b) r
      → IsLaid place faults (r >>= λ x. done part x.1 >>= λ u. Ok (code_of (version_for schema) u)) (r >>= λ x. done part x.1 >>= λ u. if_within u.start (code_of (version_for schema) u))
  by_block s faults (Err fault) room h agrees = inr (fault, h, refl)
  by_block s faults (Ok x) room h agrees =
      by_done x.1 faults (done part x.1) agrees.0 (done_lays part x.1 (room_rest (statements_sums schema (begin_with part) b) (end_sums part) s x.1 h room)) (done_begun part place x.1 agrees.1.begun agrees.1.clean)

  all_room : AreFew (part_sums schema part b) → Room (part_sums schema part b) (empty_buffer part place)
  all_room few =
      let o = few.few_ops in
      let q = few.few_queries in
      let l = few.few_loops in
      record { few_ops = omega (arith, o); few_texts = few.few_texts; few_queries = omega (arith, q); few_loops = omega (arith, l) }

  pub part_laid : FitsSums schema part b → IsLaid place (part_faults schema part place b) (laid_out schema part place b) (part_code schema part place b)
  unfolding part_code part_faults laid_out
  part_laid fits = by_end (has_no_end part b)
    where
      by_end : (c : Bool) → IsLaid place (cond c (At NoEnd place ∷ []) (statements_faults schema part LOOP_NESTING false (begin_with part) b)) (laid_out schema part place b)
          (cond c (Err (At NoEnd place)) (block_code schema part LOOP_NESTING b (empty_buffer part place) >>= λ r. done part r.1 >>= λ u. if_within u.start (code_of (version_for schema) u)))
      by_end true = inr (At NoEnd place, refl, refl)
      by_end false =
          let s = empty_buffer part place in
          let room = all_room fits.0 in
          by_block s (statements_faults schema part LOOP_NESTING false (begin_with part) b) (block_code schema part LOOP_NESTING b s) room
          (left_gives schema part place (begin_with part) LOOP_NESTING b s (begin_tidy part) refl refl (begin_same part) (block_gives schema part place b LOOP_NESTING false) fits.1 (room_first (statements_sums schema (begin_with part) b) (end_sums part) s room))
          (block_judged schema part place b)
