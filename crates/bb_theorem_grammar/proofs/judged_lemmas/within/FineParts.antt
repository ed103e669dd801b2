-- A part that fits is refused for its first fault alone: its code is within the limits of codes.
use Rattle.std.proofs.Common.{◌≡◌, inl, inr, ℕ, zero, suc, ◌+◌, ◌≤◌, Bool, true, false, not, ◌&&◌, cond, List, [], ◌∷◌, ◌++◌, length, map, Option, Some, None, Result, Ok, Err, refl, subst, sym, ap, ◌∙◌, arith, length-append}
use Rattle.std.specs.Prelude.{is_ok, nat_le, nat_eq, replicate}
use Rattle.std.specs.List.{list_all, range_with_len}
use Rattle.std.proofs.lemmas.Bool.{le-leb, leb-true, eq-eqb, and_from}
use Rattle.std.proofs.lemmas.List.{length-map, length-replicate}
use Rattle.std.proofs.lemmas.List.FromFn.{length-map-range_with_len}
use Rattle.bb_basis.specs.Results.{◌>>=◌}
use Rattle.bb_basis.proofs.BoolLemmas.{and_first, and_second}
use Rattle.bb_code.specs.declared.frame.FrameEntry.{FrameEntry}
use Rattle.bb_code.specs.declared.parts.TheConstants.{LOCAL_LIMIT, TEXT_COUNT_LIMIT, QUERY_LIMIT, FRAME_LIMIT, LOOP_LIMIT, OP_LIMIT}
use Rattle.bb_code.specs.declared.version.Version.{Version}
use Rattle.bb_code.specs.Code.{Code}
use Rattle.bb_schema.specs.Fits.{Fits}
use Rattle.bb_code.specs.declared.frame.Kind.{Kind}
use Rattle.bb_code.specs.declared.frame.Kind.TheVariants as kinds
use Rattle.bb_code.specs.declared.op.Op.TheVariants.{Done}
use Rattle.bb_verify_effect.specs.Part.{ends_done, units_of}
use Rattle.bb_schema.specs.Schema.{Schema}
use Rattle.bb_verify_effect.specs.declared.part.Part.{Part}
use Rattle.bb_verify_effect.specs.declared.part.Part.TheVariants.{Require, Obviate, Retrigger, Revalidate, Do}
use Rattle.bb_lang.specs.Blocks.{BlockTree}
use Rattle.bb_compile_scope.specs.Ending.{block_ends}
use Rattle.bb_compile_scope.specs.LocalKinds.{kind_at}
use Rattle.bb_compile_scope.specs.Place.{Place}
use Rattle.bb_compile_scope.specs.Scope as scopes
use Rattle.bb_compile_scope.specs.declared.fault.CompileFault.{CompileFault}
use Rattle.bb_compile_scope.specs.declared.fault.CompileFault.TheVariants.{At}
use Rattle.bb_compile_scope.specs.declared.fault.TextFlaw.TheVariants.{NoEnd, Limit}
use Rattle.bb_compile_buffer.specs.declared.buffer.Buffer.{Buffer}
use Rattle.bb_compile_buffer.specs.declared.label.Label.{Label}
use Rattle.bb_compile_buffer.specs.Buffers.{put}
use Rattle.bb_compile_buffer.specs.Finish.{empty_buffer, frame_of, frames_of, code_of, if_within}
use Rattle.bb_compile_buffer.specs.Within.{two_bytes, text_within, query_within, kind_within, frame_within, loop_within, op_within, list_within, is_within}
use Rattle.bb_compile.specs.declared.part.TheConstants.{LOOP_NESTING}
use Rattle.bb_compile.specs.Parts.{has_no_end, done, version_for, part_code}
use Rattle.bb_compile.specs.Statements.{block_code}
use Rattle.bb_theorem_grammar.specs.judged.Fitting.{are_few, fits}
use Rattle.bb_theorem_grammar.specs.judged.Held.{part_held, statements_held}
use Rattle.bb_theorem_grammar.specs.judged.Judgement.{part_faults, IsJudged}
use Rattle.bb_theorem_grammar.specs.judged.Names.{begin_with}
use Rattle.bb_theorem_grammar.specs.judged.Statements.{statements_faults}
use Rattle.bb_theorem_grammar.specs.judged.Sums.{different, part_sums, statements_have_room}
use Rattle.bb_theorem_grammar.proofs.judged_lemmas.faults.AgreeLemmas.{Agrees}
use Rattle.bb_theorem_grammar.proofs.judged_lemmas.within.FineBlocks.{Blocked, left_goes, block_fine}
use Rattle.bb_theorem_grammar.proofs.judged_lemmas.within.FineLemmas.{Clean, EachLabel, IsLabelled, Fine, onto_same, Gone, Goes, itself, second, HasOp, put_goes}
use Rattle.bb_theorem_grammar.proofs.judged_lemmas.within.FineScopes.{AreKinds, Scoped, scoped_named}
use Rattle.bb_theorem_grammar.proofs.judged_lemmas.scopes.HoldLemmas.{Holds}
use Rattle.bb_theorem_grammar.proofs.judged_lemmas.laying.LayParts.{FitsSums, laid_out, IsLaid, part_laid}
use Rattle.bb_theorem_grammar.proofs.judged_lemmas.faults.PartLemmas.{IsDone, done_begun, IsBlock, block_judged, part_agrees}
use Rattle.bb_theorem_grammar.proofs.judged_lemmas.within.WithinLists.{bytes_within}

-- ---- what a part begins with

free_kinds : (n i : ℕ) → kind_within (kind_at (replicate n kinds.Any) i) ≡ true
free_kinds zero i = refl
free_kinds (suc n) zero = refl
free_kinds (suc n) (suc i) = free_kinds n i

none_scoped : Scoped scopes.no_name
none_scoped = record { kinds_are = record { each = free_kinds LOCAL_LIMIT; count = length-replicate LOCAL_LIMIT kinds.Any }; locals_are = tt }

unit_scoped : (class : ℕ) → two_bytes class ≡ true → Scoped (scopes.of_unit class)
unit_scoped class small = scoped_named scopes.no_name _ 0 (kinds.Old class) none_scoped (omega arith) small

event_scoped : (class of : ℕ) → two_bytes class ≡ true → two_bytes of ≡ true → Scoped (scopes.of_event class of)
event_scoped class of small two = scoped_named (scopes.of_unit class) _ 1 (kinds.Old of) (unit_scoped class small) (omega arith) two

begin_scoped : (part : Part) → part_held part ≡ true → Scoped (scopes.begin_with part)
begin_scoped (Require class) held = unit_scoped class held
begin_scoped (Obviate class of) held = event_scoped class of (and_first (two_bytes class) (two_bytes of) held) (and_second (two_bytes class) (two_bytes of) held)
begin_scoped (Retrigger class of) held = event_scoped class of (and_first (two_bytes class) (two_bytes of) held) (and_second (two_bytes class) (two_bytes of) held)
begin_scoped (Revalidate class) held = unit_scoped class held
begin_scoped (Do class) held = unit_scoped class held

units_there : (part : Part) → (1 ≤ length (units_of part)) × (length (units_of part) ≤ LOCAL_LIMIT)
units_there (Require class) = (omega arith, omega arith)
units_there (Obviate class of) = (omega arith, omega arith)
units_there (Retrigger class of) = (omega arith, omega arith)
units_there (Revalidate class) = (omega arith, omega arith)
units_there (Do class) = (omega arith, omega arith)

empty_fine : (part : Part) (place : Place) → part_held part ≡ true → Fine (empty_buffer part place)
empty_fine part place held = record {
  few_ops = omega arith;
  few_texts = omega arith;
  few_queries = omega arith;
  few_loops = omega arith;
  ops_are = λ clean. refl;
  texts_are = λ clean. refl;
  queries_are = λ clean. refl;
  loops_are = refl;
  some_local = (units_there part).0;
  few_locals = (units_there part).1;
  scoped = begin_scoped part held;
  labelled_are = refl;
}

-- ---- the code of a buffer

kinds_each : (ks : List Kind) (is : List ℕ) → AreKinds ks → list_all kind_within (map (kind_at ks) is) ≡ true
kinds_each ks [] each = refl
kinds_each ks (i ∷ is) each = and_from (kind_within (kind_at ks i)) (list_all kind_within (map (kind_at ks) is)) (each i) (kinds_each ks is each)

frame_small : (locals : ℕ) (l : Label) → l.place ≤ OP_LIMIT → AreKinds l.kinds → frame_within locals (frame_of locals l) ≡ true
frame_small locals l place each =
    let frame = map (kind_at l.kinds) (range_with_len 0 locals) in
    and_from (two_bytes l.place) _ (bytes_within l.place 4097 (omega (arith, place)) (omega arith))
    (and_from (nat_eq (length frame) locals) _ (eq-eqb (length frame) locals (length-map-range_with_len (kind_at l.kinds) 0 locals))
    (and_from (list_all kind_within frame) true (kinds_each l.kinds (range_with_len 0 locals) each) refl))

frames_small : (locals : ℕ) (ls : List Label) (rest : List FrameEntry) → EachLabel ls → list_all (frame_within locals) rest ≡ true → list_all (frame_within locals) (map (frame_of locals) ls ++ rest) ≡ true
frames_small locals [] rest all h = h
frames_small locals (l ∷ ls) rest all h =
    and_from (frame_within locals (frame_of locals l)) (list_all (frame_within locals) (map (frame_of locals) ls ++ rest)) (frame_small locals l all.0 all.1) (frames_small locals ls rest all.2 h)

frames_within : (locals count : ℕ) (labels : List Label) (last : Option Label) → count ≤ OP_LIMIT → IsLabelled labels last count → list_within FRAME_LIMIT (frame_within locals) (frames_of locals labels last) ≡ true
frames_within locals count labels None few none =
    subst (λ l. list_within FRAME_LIMIT (frame_within locals) (frames_of locals l None) ≡ true) (sym none) refl
frames_within locals count labels (Some last) few h =
    let place = h.place in
    let lower = h.few in
    let frames = map (frame_of locals) labels ++ frame_of locals last ∷ [] in
    let e : length frames ≡ length (map (frame_of locals) labels) + 1 = length-append (map (frame_of locals) labels) (frame_of locals last ∷ []) in
    let m : length (map (frame_of locals) labels) ≡ length labels = length-map labels (frame_of locals) in
    and_from (nat_le (length frames) FRAME_LIMIT) (list_all (frame_within locals) frames)
    (le-leb (length frames) FRAME_LIMIT (omega (arith, e, m, place, lower, few)))
    (frames_small locals labels (frame_of locals last ∷ []) h.each (and_from (frame_within locals (frame_of locals last)) true (frame_small locals last (omega (arith, place, few)) h.kinds_are) refl))

code_within : (version : Version) (u : Buffer) → Fine u → Clean u → HasOp u → is_within (code_of version u) ≡ true
unfolding is_within
code_within version u f clean some =
    and_from (nat_le 1 u.locals && nat_le u.locals LOCAL_LIMIT) _
    (and_from (nat_le 1 u.locals) (nat_le u.locals LOCAL_LIMIT) (le-leb 1 u.locals f.some_local) (le-leb u.locals LOCAL_LIMIT f.few_locals))
    (and_from (list_within TEXT_COUNT_LIMIT text_within u.texts) _
    (and_from (nat_le (length u.texts) TEXT_COUNT_LIMIT) (list_all text_within u.texts) (le-leb (length u.texts) TEXT_COUNT_LIMIT f.few_texts) (f.texts_are clean))
    (and_from (list_within QUERY_LIMIT query_within u.queries) _
    (and_from (nat_le (length u.queries) QUERY_LIMIT) (list_all query_within u.queries) (le-leb (length u.queries) QUERY_LIMIT f.few_queries) (f.queries_are clean))
    (and_from (list_within FRAME_LIMIT (frame_within u.locals) (frames_of u.locals u.labels u.last)) _
    (frames_within u.locals (length u.ops) u.labels u.last f.few_ops f.labelled_are)
    (and_from (list_within LOOP_LIMIT loop_within u.loops) _
    (and_from (nat_le (length u.loops) LOOP_LIMIT) (list_all loop_within u.loops) (le-leb (length u.loops) LOOP_LIMIT f.few_loops) f.loops_are)
    (and_from (nat_le 1 (length u.ops)) (list_within OP_LIMIT op_within u.ops) (le-leb 1 (length u.ops) some)
    (and_from (nat_le (length u.ops) OP_LIMIT) (list_all op_within u.ops) (le-leb (length u.ops) OP_LIMIT f.few_ops) (f.ops_are clean)))))))

-- ---- a part that is laid out

done_goes : (part : Part) (t : Buffer) → (is_ok (ends_done part) ≡ false → HasOp t) → Goes itself HasOp t (done part t)
done_goes part t some = by_part (is_ok (ends_done part)) refl
  where
    by_part : (b : Bool) → is_ok (ends_done part) ≡ b → Goes itself HasOp t (cond b (put Done t) (Ok t))
    by_part true is = put_goes Done t (λ clean. refl)
    by_part false is = λ f. (onto_same t f, some is)

ends_there : (d e : Bool) → (not d && not e) ≡ false → d ≡ false → e ≡ true
ends_there true e h undone = absurd cc
ends_there false true h undone = refl
ends_there false false h undone = absurd cc

module _ (schema : Schema) (sf : Fits schema) (part : Part) (place : Place) (b : BlockTree) where
  by_done : (t : Buffer) (code : Code) (r : Result Buffer CompileFault) → Gone itself HasOp t r → Holds (IsDone place) place r → (r >>= λ u. Ok (code_of (version_for schema) u)) ≡ Ok code → is_within code ≡ true
  by_done t code (Err fault) gone held h = absurd cc
  by_done t code (Ok u) gone held h =
      let e : code_of (version_for schema) u ≡ code = cc in
      subst (λ c. is_within c ≡ true) e (code_within (version_for schema) u gone.0.fine held.clean gone.1)

  by_block : (s : Buffer) (faults : List CompileFault) (code : Code) → has_no_end part b ≡ false → (r : Result (Bool × Buffer) CompileFault) → Gone second Blocked s r → Agrees place faults (IsBlock place b) r
      → (r >>= λ x. done part x.1 >>= λ u. Ok (code_of (version_for schema) u)) ≡ Ok code → is_within code ≡ true
  by_block s faults code ends (Err fault) gone agrees h = absurd cc
  by_block s faults code ends (Ok x) gone agrees h =
      let block = agrees.1 in
      let goes = done_goes part x.1 (λ not_done. gone.1 (block.ended ∙ ends_there (is_ok (ends_done part)) (block_ends b) ends not_done)) in
      by_done x.1 code (done part x.1) (goes gone.0.fine) (done_begun part place x.1 block.begun block.clean) h

  laid_within : part_held part ≡ true → statements_held b ≡ true → has_no_end part b ≡ false → (code : Code) → laid_out schema part place b ≡ Ok code → is_within code ≡ true
  unfolding laid_out
  laid_within known held ends code h =
      let s = empty_buffer part place in
      by_block s (statements_faults schema part LOOP_NESTING false (begin_with part) b) code ends (block_code schema part LOOP_NESTING b s)
      (left_goes schema sf part LOOP_NESTING b s (block_fine schema sf part b LOOP_NESTING false) held (empty_fine part place known)) (block_judged schema part place b) h

  -- a part without a fault does not run past its end
  none_ends : part_faults schema part place b ≡ [] → has_no_end part b ≡ false
  unfolding part_faults
  none_ends none = by_end (has_no_end part b) refl none
    where
      by_end : (c : Bool) → has_no_end part b ≡ c → cond c (At NoEnd place ∷ []) (statements_faults schema part LOOP_NESTING false (begin_with part) b) ≡ [] → has_no_end part b ≡ false
      by_end true is h = absurd cc
      by_end false is h = is

  -- ---- the judgement

  -- where it fits
  fitting_judged : part_held part ≡ true → statements_held b ≡ true → FitsSums schema part b → IsJudged place true (part_faults schema part place b) (part_code schema part place b)
  unfolding if_within
  fitting_judged known held few = by_laid (part_laid schema part place b few)
    where
      whole : (code : Code) → is_within code ≡ true → if_within place code ≡ Ok code
      whole code within = ap (λ c. cond c (Ok code) (Err (At Limit place))) within

      by_laid : IsLaid place (part_faults schema part place b) (laid_out schema part place b) (part_code schema part place b) → IsJudged place true (part_faults schema part place b) (part_code schema part place b)
      by_laid (inl (none, code, is, answer)) =
          subst (IsJudged place true (part_faults schema part place b)) (sym (answer ∙ whole code (laid_within known held (none_ends none) code is))) none
      by_laid (inr (fault, first, answer)) =
          subst (IsJudged place true (part_faults schema part place b)) (sym answer) (inl first)

  -- where it does not, its code may be too large
  large_judged : (r : Result Code CompileFault) (faults : List CompileFault) → Agrees place faults (λ (code : Code). Unit {0}) r → IsJudged place false faults r
  large_judged (Ok code) faults h = h.0
  large_judged (Err fault) faults (inl first) = inl first
  large_judged (Err fault) faults (inr large) = inr (large, refl)

  pub part_judged : IsJudged place (fits schema part b) (part_faults schema part place b) (part_code schema part place b)
  unfolding fits
  part_judged = by_fits (fits schema part b) refl
    where
      by_fits : (c : Bool) → fits schema part b ≡ c → IsJudged place c (part_faults schema part place b) (part_code schema part place b)
      by_fits false is = large_judged (part_code schema part place b) (part_faults schema part place b) (part_agrees schema part place b)
      by_fits true is =
          let few = and_first (are_few (part_sums schema part b)) _ is in
          let rest = and_second (are_few (part_sums schema part b)) _ is in
          let room = and_first (statements_have_room schema (begin_with part) b) _ rest in
          let held = and_second (statements_have_room schema (begin_with part) b) _ rest in
          let ops = and_first (nat_le (part_sums schema part b).ops OP_LIMIT) _ few in
          let more = and_second (nat_le (part_sums schema part b).ops OP_LIMIT) _ few in
          let texts = and_first (nat_le (different (part_sums schema part b).texts) TEXT_COUNT_LIMIT) _ more in
          let last = and_second (nat_le (different (part_sums schema part b).texts) TEXT_COUNT_LIMIT) _ more in
          let queries = and_first (nat_le (part_sums schema part b).queries QUERY_LIMIT) _ last in
          let loops = and_second (nat_le (part_sums schema part b).queries QUERY_LIMIT) _ last in
          fitting_judged (and_first (part_held part) (statements_held b) held) (and_second (part_held part) (statements_held b) held) (
            record {
              few_ops = leb-true (part_sums schema part b).ops OP_LIMIT ops;
              few_texts = leb-true (different (part_sums schema part b).texts) TEXT_COUNT_LIMIT texts;
              few_queries = leb-true (part_sums schema part b).queries QUERY_LIMIT queries;
              few_loops = leb-true (part_sums schema part b).loops LOOP_LIMIT loops;
            },
            room,
          )
