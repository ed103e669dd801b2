-- A part that has a code fits.
use Rattle.std.proofs.Common.{◌≡◌, ◌≤◌, Bool, true, false, ◌&&◌, cond, length, Result, Ok, Err, refl, subst, arith}
use Rattle.std.specs.Prelude.{is_ok, nat_le}
use Rattle.std.specs.List.{list_all}
use Rattle.std.proofs.lemmas.Bool.{le-leb, leb-true, and_from}
use Rattle.bb_basis.specs.Results.{◌>>=◌}
use Rattle.bb_basis.proofs.BoolLemmas.{and_first, and_second}
use Rattle.bb_code.specs.declared.parts.TheConstants.{LOCAL_LIMIT, TEXT_COUNT_LIMIT, QUERY_LIMIT, FRAME_LIMIT, LOOP_LIMIT, OP_LIMIT}
use Rattle.bb_code.specs.Code.{Code}
use Rattle.bb_code.specs.declared.op.Op.TheVariants.{Done}
use Rattle.bb_verify_effect.specs.Part.{ends_done}
use Rattle.bb_schema.specs.Schema.{Schema}
use Rattle.bb_verify_effect.specs.declared.part.Part.{Part}
use Rattle.bb_lang.specs.Blocks.{BlockTree}
use Rattle.bb_compile_scope.specs.Place.{Place}
use Rattle.bb_compile_scope.specs.declared.fault.CompileFault.{CompileFault}
use Rattle.bb_compile_scope.specs.declared.fault.CompileFault.TheVariants.{At}
use Rattle.bb_compile_scope.specs.declared.fault.TextFlaw.TheVariants.{NoEnd, Limit}
use Rattle.bb_compile_buffer.specs.declared.buffer.Buffer.{Buffer}
use Rattle.bb_compile_buffer.specs.Buffers.{put}
use Rattle.bb_compile_buffer.specs.Finish.{empty_buffer, code_of, if_within}
use Rattle.bb_compile_buffer.specs.Within.{text_within, query_within, frame_within, loop_within, op_within, list_within, is_within}
use Rattle.bb_compile.specs.declared.part.TheConstants.{LOOP_NESTING}
use Rattle.bb_compile.specs.Parts.{has_no_end, done, version_for, part_code}
use Rattle.bb_compile.specs.Statements.{block_code}
use Rattle.bb_theorem_grammar.specs.judged.Fitting.{are_few, fits}
use Rattle.bb_theorem_grammar.specs.judged.Held.{part_held, statements_held}
use Rattle.bb_theorem_grammar.specs.judged.Names.{begin_with}
use Rattle.bb_theorem_grammar.specs.judged.Statements.{statements_faults}
use Rattle.bb_theorem_grammar.specs.judged.Sums.{ops, end_sums, part_sums, different, statements_sums, statements_have_room}
use Rattle.bb_theorem_grammar.proofs.judged_lemmas.faults.AgreeLemmas.{Agrees}
use Rattle.bb_theorem_grammar.proofs.judged_lemmas.exact.ExactBlocks.{left_counted, block_counted}
use Rattle.bb_theorem_grammar.proofs.judged_lemmas.exact.ExactLemmas.{Exact, Counted, exact_none, counted_agreeing, put_counted}
use Rattle.bb_theorem_grammar.proofs.judged_lemmas.within.FineLemmas.{Anything, itself, second}
use Rattle.bb_theorem_grammar.proofs.judged_lemmas.scopes.HoldLemmas.{Holds}
use Rattle.bb_theorem_grammar.proofs.judged_lemmas.faults.PartLemmas.{begin_tidy, begin_same, IsDone, done_begun, IsBlock, block_judged}

-- the limits of a code that is within them
few_within : (code : Code) → is_within code ≡ true → (length code.ops ≤ OP_LIMIT) × (length code.texts ≤ TEXT_COUNT_LIMIT) × (length code.queries ≤ QUERY_LIMIT) × (length code.loops ≤ LOOP_LIMIT)
unfolding is_within
few_within code h =
    let own = nat_le 1 code.locals && nat_le code.locals LOCAL_LIMIT in
    let texts = list_within TEXT_COUNT_LIMIT text_within code.texts in
    let queries = list_within QUERY_LIMIT query_within code.queries in
    let frames = list_within FRAME_LIMIT (frame_within code.locals) code.frames in
    let loops = list_within LOOP_LIMIT loop_within code.loops in
    let some = nat_le 1 (length code.ops) in
    let ops = list_within OP_LIMIT op_within code.ops in
    let one = and_second own (texts && (queries && (frames && (loops && (some && ops))))) h in
    let two = and_second texts (queries && (frames && (loops && (some && ops)))) one in
    let three = and_second queries (frames && (loops && (some && ops))) two in
    let four = and_second frames (loops && (some && ops)) three in
    let five = and_second loops (some && ops) four in (
      leb-true (length code.ops) OP_LIMIT (and_first (nat_le (length code.ops) OP_LIMIT) (list_all op_within code.ops) (and_second some ops five)),
      leb-true (length code.texts) TEXT_COUNT_LIMIT (and_first (nat_le (length code.texts) TEXT_COUNT_LIMIT) (list_all text_within code.texts) (and_first texts (queries && (frames && (loops && (some && ops)))) one)),
      leb-true (length code.queries) QUERY_LIMIT (and_first (nat_le (length code.queries) QUERY_LIMIT) (list_all query_within code.queries) (and_first queries (frames && (loops && (some && ops))) two)),
      leb-true (length code.loops) LOOP_LIMIT (and_first (nat_le (length code.loops) LOOP_LIMIT) (list_all loop_within code.loops) (and_first loops (some && ops) four)),
    )

done_counted : (part : Part) (t : Buffer) → Counted itself Anything (end_sums part) t (done part t)
done_counted part t = by_part (is_ok (ends_done part))
  where
    by_part : (b : Bool) → Counted itself Anything (ops (cond b 1 0)) t (cond b (put Done t) (Ok t))
    by_part true = put_counted Done t
    by_part false = (λ clean. exact_none t clean, tt)

module _ (schema : Schema) (part : Part) (place : Place) (b : BlockTree) where
  -- there is room for its names
  abbrev Roomy : {X : Type 0} → X → Type 0
  Roomy x = statements_have_room schema (begin_with part) b ≡ true

  laid : Counted itself Roomy (part_sums schema part b) (empty_buffer part place) (block_code schema part LOOP_NESTING b (empty_buffer part place) >>= λ r. done part r.1)
  laid =
      let s = empty_buffer part place in
      counted_agreeing place (statements_faults schema part LOOP_NESTING false (begin_with part) b) (IsBlock place b) (second {X = Bool}) itself Roomy Roomy (statements_sums schema (begin_with part) b) (end_sums part) s (block_code schema part LOOP_NESTING b s) _
      (block_judged schema part place b) (left_counted schema part place (begin_with part) LOOP_NESTING b s (begin_tidy part) refl refl (begin_same part) (block_counted schema part place b LOOP_NESTING false))
      (λ r block some. counted_some r.1 (done part r.1) (done_counted part r.1) some)
    where
      counted_some : (t : Buffer) (r : Result Buffer CompileFault) → Counted itself Anything (end_sums part) t r → statements_have_room schema (begin_with part) b ≡ true → Counted itself Roomy (end_sums part) t r
      counted_some t (Err fault) h some = tt
      counted_some t (Ok u) h some = (h.0, some)

  few_by : (u : Buffer) → Exact (part_sums schema part b) (empty_buffer part place) u → is_within (code_of (version_for schema) u) ≡ true → are_few (part_sums schema part b) ≡ true
  few_by u e within =
      let few = few_within (code_of (version_for schema) u) within in
      let a = part_sums schema part b in
      let o = e.ops_are in
      let q = e.queries_are in
      let l = e.loops_are in
      let fo = few.0 in
      let fq = few.2 in
      let fl = few.3 in
      and_from (nat_le a.ops OP_LIMIT) (nat_le (different a.texts) TEXT_COUNT_LIMIT && (nat_le a.queries QUERY_LIMIT && nat_le a.loops LOOP_LIMIT)) (le-leb a.ops OP_LIMIT (omega (arith, o, fo)))
      (and_from (nat_le (different a.texts) TEXT_COUNT_LIMIT) (nat_le a.queries QUERY_LIMIT && nat_le a.loops LOOP_LIMIT) (le-leb (different a.texts) TEXT_COUNT_LIMIT (subst (λ k. length k ≤ TEXT_COUNT_LIMIT) e.texts_are few.1))
      (and_from (nat_le a.queries QUERY_LIMIT) (nat_le a.loops LOOP_LIMIT) (le-leb a.queries QUERY_LIMIT (omega (arith, q, fq))) (le-leb a.loops LOOP_LIMIT (omega (arith, l, fl)))))

  module _ (known : part_held part ≡ true) (held : statements_held b ≡ true) (code : Code) where
    by_done : (r : Result Buffer CompileFault) → Counted itself Roomy (part_sums schema part b) (empty_buffer part place) r → Holds (IsDone place) place r → (r >>= λ u. if_within u.start (code_of (version_for schema) u)) ≡ Ok code → fits schema part b ≡ true
    unfolding if_within fits
    by_done (Err fault) counted is h = absurd cc
    by_done (Ok u) counted is h = by_within (is_within (code_of (version_for schema) u)) refl h
      where
        by_within : (c : Bool) → is_within (code_of (version_for schema) u) ≡ c → (let r : Result Code CompileFault = cond c (Ok (code_of (version_for schema) u)) (Err (At Limit u.start)) in r) ≡ Ok code → fits schema part b ≡ true
        by_within false within h = absurd cc
        by_within true within h =
            and_from (are_few (part_sums schema part b)) (statements_have_room schema (begin_with part) b && (part_held part && statements_held b)) (few_by u (counted.0 is.clean) within)
            (and_from (statements_have_room schema (begin_with part) b) (part_held part && statements_held b) counted.1 (and_from (part_held part) (statements_held b) known held))

    by_block : (r : Result (Bool × Buffer) CompileFault) → Counted itself Roomy (part_sums schema part b) (empty_buffer part place) (r >>= λ x. done part x.1) → Agrees place (statements_faults schema part LOOP_NESTING false (begin_with part) b) (IsBlock place b) r
        → (r >>= λ x. done part x.1 >>= λ u. if_within u.start (code_of (version_for schema) u)) ≡ Ok code → fits schema part b ≡ true
    by_block (Err fault) counted agrees h = absurd cc
    by_block (Ok x) counted agrees h = by_done (done part x.1) counted (done_begun part place x.1 agrees.1.begun agrees.1.clean) h

    -- a part that has a code fits
    pub code_fits : part_code schema part place b ≡ Ok code → fits schema part b ≡ true
    unfolding part_code
    code_fits h = by_end (has_no_end part b) h
      where
        by_end : (c : Bool) → cond c (Err (At NoEnd place)) (block_code schema part LOOP_NESTING b (empty_buffer part place) >>= λ r. done part r.1 >>= λ u. if_within u.start (code_of (version_for schema) u)) ≡ Ok code → fits schema part b ≡ true
        by_end true h = absurd cc
        by_end false h = by_block (block_code schema part LOOP_NESTING b (empty_buffer part place)) laid (block_judged schema part place b) h
