-- The code of a part is accepted, where the classes of the part are of the schema.
use Rattle.std.proofs.Common.{◌≡◌, inl, ℕ, ◌+◌, ◌<◌, ◌≤◌, Bool, true, false, cond, ◌&&◌, not, List, [], ◌∷◌, ◌++◌, length, Some, None, Result, Ok, Err, refl, subst, sym, ap, ◌∙◌, arith, length-append}
use Rattle.std.specs.Prelude.{slice_get, is_ok, option_map}
use Rattle.std.proofs.lemmas.List.{append-nil}
use Rattle.bb_basis.specs.Results.{◌>>=◌}
use Rattle.bb_basis.proofs.ResultLemmas.{bind_ok, guard_ok, same_ok}
use Rattle.bb_schema.specs.Schema.{Schema}
use Rattle.bb_schema.specs.Fits as schemas
use Rattle.bb_code.specs.Code.{Code}
use Rattle.bb_code.specs.declared.flaw.Flaw.{Flaw as CodeFlaw}
use Rattle.bb_code.specs.declared.op.Op.{Op}
use Rattle.bb_code.specs.declared.op.Op.TheVariants as ops
use Rattle.bb_lang.specs.Blocks.{BlockTree}
use Rattle.bb_compile_scope.specs.Ending.{block_ends}
use Rattle.bb_compile_scope.specs.Place.{Place}
use Rattle.bb_compile_scope.specs.Scope.{mark_of}
use Rattle.bb_compile_scope.specs.declared.fault.CompileFault.{CompileFault}
use Rattle.bb_compile_scope.specs.declared.fault.CompileFault.TheVariants.{At as Fault}
use Rattle.bb_compile_scope.specs.declared.fault.TextFlaw.TheVariants.{NoEnd, Limit}
use Rattle.bb_compile_buffer.specs.declared.buffer.Buffer.{Buffer}
use Rattle.bb_compile_buffer.specs.Buffers.{put, leave}
use Rattle.bb_compile_buffer.specs.Finish.{empty_buffer, code_of, if_within}
use Rattle.bb_compile_buffer.specs.Within.{query_within, is_within}
use Rattle.bb_compile.specs.Statements.{left, statements_code, block_code}
use Rattle.bb_compile.specs.Parts.{has_no_end, done, version_for, part_code}
use Rattle.bb_compile.specs.declared.part.TheConstants.{LOOP_NESTING}
use Rattle.bb_verify_effect.specs.Effect as effects
use Rattle.bb_verify_effect.specs.Effect.{effect}
use Rattle.bb_verify_effect.specs.declared.frame.Frame.{Frame}
use Rattle.bb_verify_effect.specs.Part.{units_of, ends_done}
use Rattle.bb_verify_effect.specs.declared.part.Part.{Part}
use Rattle.bb_verify_effect.specs.declared.part.Part.TheVariants.{Require, Obviate, Retrigger, Revalidate, Do}
use Rattle.bb_verify.specs.Accepted.{checked}
use Rattle.bb_verify.specs.Places.{entry_frame, on_due}
use Rattle.bb_verify.specs.Tables.{in_tables}
use Rattle.bb_theorem_accepted.specs.Classes.{HasClasses}
use Rattle.bb_theorem_accepted.proofs.buffers.StraightLemmas.{Ends, nothing_follows}
use Rattle.bb_theorem_accepted.proofs.buffers.BufferLemmas.{Has, with_op, put_ok, count_of, front, seam}
use Rattle.bb_theorem_accepted.proofs.buffers.PutLemmas.{pair_ok}
use Rattle.bb_theorem_accepted.proofs.straight.PatternLemmas.{AreSmall}
use Rattle.bb_theorem_accepted.proofs.blocks.BlockLemmas.{Lays, same_labels}
use Rattle.bb_theorem_accepted.proofs.blocks.TextLays.{block_now, block_lays}
use Rattle.bb_theorem_accepted.proofs.kinds.LabelLemmas.{listed, labels_of, label_at, AllLabels, Rises, frame_by, declared_is}
use Rattle.bb_theorem_accepted.proofs.kinds.KnowLemmas.{Finds}
use Rattle.bb_theorem_accepted.proofs.walks.WalkLemmas.{Walks, walked_frames, walks_on, end_visit, At}
use Rattle.bb_theorem_accepted.proofs.walks.TraceLemmas.{Traced, traced_first}
use Rattle.bb_theorem_accepted.proofs.blocks.BeforeLemmas.{InBlock}
use Rattle.bb_theorem_accepted.proofs.walks.JoinLemmas.{here, HasFrame, AreGood, Sound, Agrees, Arrives, arrive, joins_own, knows_there}
use Rattle.bb_theorem_accepted.proofs.walks.GoesLemmas.{After, Goes}
use Rattle.bb_theorem_accepted.proofs.whole.AcceptLemmas.{block_goes}
use Rattle.bb_theorem_accepted.proofs.whole.WholeLemmas.{begin_sequences, rises_unlabelled, walked_accepted, begin_sound}
use Rattle.bb_theorem_accepted.proofs.whole.PartLemmas.{begin_known, begin_count, all_at, query_limits, queries_within, version_fits}
use Rattle.bb_verify.specs.nesting.Loops as verify
use Rattle.bb_theorem_accepted.proofs.buffers.QuietLemmas.{is_calm}
use Rattle.bb_theorem_accepted.proofs.nests.LoopOrder.{Within, Shallow, within_more}
use Rattle.bb_theorem_accepted.proofs.nests.NestLemmas.{Loops, May, Passes, Each, each_on, Fine}
use Rattle.bb_theorem_accepted.proofs.nests.NestPasses.{nested_passes}
use Rattle.bb_theorem_accepted.proofs.nests.NestBranches.{Watched, calm_may, Nested}
use Rattle.bb_theorem_accepted.proofs.nests.NestTexts.{block_nests}

-- what is laid out for a part, taken from what the compiler answers
pub record PartLaid (schema : Schema) (part : Part) (place : Place) (block : BlockTree) (code : Code) : Type 0 where
  pub now : Bool
  pub behind : Buffer
  pub whole : Buffer
  pub no_end : has_no_end part block ≡ false
  pub block_is : statements_code schema part LOOP_NESTING false block (empty_buffer part place) ≡ Ok (now, behind)
  pub last : done part (leave (mark_of (empty_buffer part place).scope) behind) ≡ Ok whole
  pub within : is_within (code_of (version_for schema) whole) ≡ true
  pub same : code_of (version_for schema) whole ≡ code

pub part_laid : (schema : Schema) (part : Part) (place : Place) (block : BlockTree) (code : Code) → part_code schema part place block ≡ Ok code → PartLaid schema part place block code
unfolding part_code if_within
part_laid schema part place block code h =
    let first = empty_buffer part place in
    let body = guard_ok (has_no_end part block) (Fault NoEnd place) (block_code schema part LOOP_NESTING block first >>= λ p. done part p.1 >>= λ u. if_within u.start (code_of (version_for schema) u)) code h in
    let one = bind_ok (block_code schema part LOOP_NESTING block first) (λ p. done part p.1 >>= λ u. if_within u.start (code_of (version_for schema) u)) code body.1 in
    let two = bind_ok (statements_code schema part LOOP_NESTING false block first) (left (mark_of first.scope)) one.0 one.1 in
    let three = bind_ok (done part one.0.1) (λ u. if_within u.start (code_of (version_for schema) u)) code one.2 in
    let same = pair_ok two.0.0 one.0.0 (leave (mark_of first.scope) two.0.1) one.0.1 two.2 in
    let is = within_same three.0 (is_within (code_of (version_for schema) three.0)) refl three.2 in
    record { now = two.0.0; behind = two.0.1; whole = three.0; no_end = body.0; block_is = two.1; last = ap (done part) same.1 ∙ three.1; within = is.0; same = is.1 }
  where
    within_same : (u : Buffer) (b : Bool) → is_within (code_of (version_for schema) u) ≡ b → (let r : Result Code CompileFault = cond b (Ok (code_of (version_for schema) u)) (Err (Fault Limit u.start)) in r) ≡ Ok code → (is_within (code_of (version_for schema) u) ≡ true) × (code_of (version_for schema) u ≡ code)
    within_same u true is h = (is, same_ok (code_of (version_for schema) u) code h)
    within_same u false is h = absurd cc

-- the op that stands last
last_op : (xs : List Op) (x : Op) (p : ℕ) (op : Op) → length xs ≤ p → p < length xs + 1 → slice_get (xs ++ x ∷ []) p ≡ Some op → op ≡ x
last_op xs x p op low high at =
    let same : length xs ≡ p = omega (arith, low, high) in
    let there : Some op ≡ Some x = sym at ∙ (ap (slice_get (xs ++ x ∷ [])) (sym same) ∙ seam xs [] x) in
    let e : op ≡ x = cc in
    e

module _ (schema : Schema) (sf : schemas.Fits schema) (part : Part) (classes : HasClasses schema part) (place : Place) (block : BlockTree) where
  abbrev first : Buffer
  first = empty_buffer part place

  -- what the frames tell of the block
  abbrev Told : (now : Bool) (t : Buffer) → statements_code schema part LOOP_NESTING false block first ≡ Ok (now, t) → List Frame → Type 0
  Told now t h frames = InBlock schema part (λ s. Finds schema sf frames (length s.ops) s.scope.kinds) block LOOP_NESTING false now first t h

  abbrev Accepted : Code → (now : Bool) (t : Buffer) → statements_code schema part LOOP_NESTING false block first ≡ Ok (now, t) → Type 0
  Accepted code now t h = (frames : List Frame) × (checked schema part code ≡ Ok (record { code = code; part = part; frames = frames })) × Told now t h frames

  -- a buffer after the block, and that of the whole code, which has an op more at most
  module _ (u t : Buffer) (now : Bool) (within : is_within (code_of (version_for schema) u) ≡ true) (h : statements_code schema part LOOP_NESTING false block first ≡ Ok (now, t))
      (labels : u.labels ≡ t.labels) (last : u.last ≡ t.last) (loops : u.loops ≡ t.loops) (locals : u.locals ≡ t.locals) (has : Has (code_of (version_for schema) u) t) (le : length t.ops ≤ length u.ops)
      -- at most one op comes after
      (tail : Each (code_of (version_for schema) u) (length t.ops) (length u.ops) (λ p op. op ≡ ops.Done)) where
    abbrev code : Code
    code = code_of (version_for schema) u

    small : AreSmall schema sf part code
    small i q at = query_limits q (all_at query_within u.queries i q (queries_within code within) at)

    lays : Lays first t
    lays = block_lays schema part block LOOP_NESTING false now first t h

    sound : Sound schema sf part code first
    sound = begin_sound schema sf part place code classes

    nested : Nested code LOOP_NESTING first t
    nested = block_nests code schema part block LOOP_NESTING false now first t h sound.tidy.sole has

    loops_are : code.loops ≡ nested.loops
    loops_are = loops ∙ nested.loops_are

    -- the verifier's phase on loops
    loops_pass : verify.loops code ≡ Ok tt
    loops_pass =
        nested_passes code (Watched first.scope.kinds) (length t.ops)
        (subst (Within 0 (length u.ops)) (sym loops_are) (within_more 1 (length t.ops) 0 (length u.ops) nested.loops (omega arith) le nested.within))
        (subst (Shallow LOOP_NESTING) (sym loops_are) nested.shallow)
        (subst (λ ls. Each code 0 (length u.ops) (May (Watched first.scope.kinds) (length t.ops) ls)) (sym loops_are)
        (each_on code (May (Watched first.scope.kinds) (length t.ops) nested.loops) 0 (length t.ops) (length u.ops) nested.nest.may (λ p op low high at. calm_may first.scope.kinds (length t.ops) nested.loops p op (ap (is_calm first.scope.kinds) (tail p op low high at)))))
        (subst (Loops (λ l. Fine code l)) (sym loops_are) nested.nest.fine)
        (subst (Loops (λ l. Each code 0 l.head (λ p op. Passes l op))) (sym loops_are) nested.nest.passes)

    labels_are : listed u.labels u.last ≡ labels_of t
    labels_are = same_labels t u labels last

    declared : (p : ℕ) → p < length u.ops → At schema part code p ≡ option_map (frame_by code.locals) (label_at (labels_of t) p)
    declared p lt = declared_is code u.labels u.last p refl lt ∙ ap (λ ls. option_map (frame_by code.locals) (label_at ls p)) labels_are

    agrees : Agrees schema sf part code t
    agrees = record { has = has; within = le; locals = let e = locals in omega (arith, e); frames = λ p lt. declared p (let few = le in omega (arith, lt, few)) }

    goes : Goes schema sf part code first t now (Told now t h)
    goes = block_goes schema sf part code small block LOOP_NESTING false now first t h sound agrees

    few : length (units_of part) ≤ code.locals
    few = let grows = lays.locals in let e = locals in omega (arith, grows, e)

    abbrev entry : Frame
    entry = entry_frame part code.locals

    entry_fits : HasFrame schema sf part code entry first.scope.kinds
    entry_fits = knows_there schema sf part code first entry sound refl (begin_count part code.locals few) (begin_known schema sf part code.locals few) (begin_sequences schema sf part entry.locals)

    arrives : Arrives schema sf part code (Some entry) first
    arrives = inl (entry, refl, entry_fits)

    ops_are : t.ops ≡ goes.grown.ops
    ops_are = goes.grown.ops_are

    -- the frames that are found, and what they tell
    walk_told : Rises 0 (listed u.labels u.last) (length u.ops) → Walks schema part code 0 u.ops (Some entry) None → on_due schema (Some entry) (At schema part code 0) ≡ Ok tt → ((frames : List Frame) → Traced schema part code frames 0 (Some entry) → Told now t h frames)
        → Accepted code now t h
    walk_told rises walks on tells =
        let frames = walked_frames schema part code 0 u.ops (Some entry) None walks in (
          frames,
          walked_accepted schema sf part code u.labels u.last refl rises (subst (AllLabels (AreGood schema sf part code)) (sym labels_are) goes.sound.good) few (version_fits schema) loops_pass None walks on,
          tells frames (traced_first schema part code (Some entry) None walks),
        )

    -- ---- a part that ends by its last statement

    ends_accepted : now ≡ true → u.ops ≡ t.ops → Accepted code now t h
    ends_accepted ends_so same =
        let m = goes.more (λ e. absurd (let no : true ≡ false = sym ends_so ∙ e in cc)) in
        let after = m.1 (Some entry) arrives in
        let walks : Walks schema part code 0 u.ops (Some entry) None =
        subst (λ l. Walks schema part code 0 l (Some entry) None) (sym (same ∙ ops_are)) (subst (λ b. After schema sf part code b 0 goes.grown.ops (Some entry) t) ends_so after.0) in
        let rises : Rises 0 (listed u.labels u.last) (length u.ops) =
        subst (λ ls. Rises 0 ls (length u.ops)) (sym labels_are) (subst (λ l. Rises 0 (labels_of t) (length l)) (sym same) (rises_unlabelled 0 (labels_of t) (length t.ops) (omega arith) goes.sound.rises (goes.unlabelled ends_so))) in
        walk_told rises walks (m.0.on entry entry_fits) after.1

    -- ---- a `do`

    done_ends : (f : Frame) → ends_done part ≡ Ok tt → Ends schema part code ops.Done f
    unfolding effect in_tables effects.done
    done_ends f may = record { straight = refl; tables = refl; ends = ap (λ (r : Result (Unit {0}) CodeFlaw). r >>= λ _. Ok nothing_follows) may }

    do_accepted : ends_done part ≡ Ok tt → u.ops ≡ t.ops ++ ops.Done ∷ [] → Accepted code now t h
    do_accepted may all =
        let count : length u.ops ≡ length t.ops + 1 = ap length all ∙ length-append t.ops (ops.Done ∷ []) in
        let here_is = declared (length t.ops) (omega (arith, count)) in
        let joins = joins_own schema sf part code t goes.sound (omega (arith, count)) here_is in
        let m = goes.more (λ e. joins) in
        let rises : Rises 0 (listed u.labels u.last) (length u.ops) = subst (λ ls. Rises 0 ls (length u.ops)) (sym labels_are) (subst (λ n. Rises 0 (labels_of t) n) (sym count) goes.sound.rises) in
        let after = m.1 (Some entry) arrives in
        let walks = by_now now refl after.0 here_is may in
        walk_told rises (subst (λ l. Walks schema part code 0 l (Some entry) None) (sym (all ∙ ap (λ l. l ++ ops.Done ∷ []) ops_are)) walks) (m.0.on entry entry_fits) after.1
      where
        by_now : (n : Bool) → now ≡ n → After schema sf part code n 0 goes.grown.ops (Some entry) t → At schema part code (length t.ops) ≡ option_map (frame_by code.locals) (here t) → ends_done part ≡ Ok tt
            → Walks schema part code 0 (goes.grown.ops ++ ops.Done ∷ []) (Some entry) None
        by_now true is after here_is may = absurd (let no : true ≡ false = sym (ap is_ok may) ∙ goes.right is in cc)
        by_now false is after here_is may =
            let found = arrive schema sf part code t after.0 goes.sound (let e = locals in omega (arith, e)) here_is after.1 in
            let place_is : length t.ops ≡ 0 + length goes.grown.ops = count_of first t goes.grown in
            walks_on schema part code 0 goes.grown.ops (ops.Done ∷ []) (Some entry) after.0 None after.2
            (subst (λ p. Walks schema part code p (ops.Done ∷ []) after.0 None) place_is (None, end_visit schema part code (length t.ops) ops.Done found.0 after.0 found.1 (done_ends found.0 may), refl))

  -- ---- either

  may_end : (p : Part) → is_ok (ends_done p) ≡ true → ends_done p ≡ Ok tt
  may_end (Do c) h = refl
  may_end (Require c) h = absurd cc
  may_end (Obviate c of) h = absurd cc
  may_end (Retrigger c of) h = absurd cc
  may_end (Revalidate c) h = absurd cc

  do_whole : (now : Bool) (t u : Buffer) → is_ok (ends_done part) ≡ true → is_within (code_of (version_for schema) u) ≡ true → (h : statements_code schema part LOOP_NESTING false block first ≡ Ok (now, t)) → put ops.Done (leave (mark_of first.scope) t) ≡ Ok u → Accepted (code_of (version_for schema) u) now t h
  do_whole now t u ends_so within h last =
      let put_is : u ≡ with_op ops.Done (leave (mark_of first.scope) t) = put_ok ops.Done (leave (mark_of first.scope) t) u last in
      let all : u.ops ≡ t.ops ++ ops.Done ∷ [] = ap (λ (x : Buffer). x.ops) put_is in
      let count : length u.ops ≡ length t.ops + 1 = ap length all ∙ length-append t.ops (ops.Done ∷ []) in
      do_accepted u t now within h (ap (λ (x : Buffer). x.labels) put_is) (ap (λ (x : Buffer). x.last) put_is) (ap (λ (x : Buffer). x.loops) put_is) (ap (λ (x : Buffer). x.locals) put_is)
      (record {
        ops = λ i op at closed. ap (λ l. slice_get l i) all ∙ front t.ops (ops.Done ∷ []) i op at;
        texts = [];
        texts_are = ap (λ (x : Buffer). x.texts) put_is ∙ sym (append-nil t.texts);
        queries = [];
        queries_are = ap (λ (x : Buffer). x.queries) put_is ∙ sym (append-nil t.queries);
      })
      (omega (arith, count)) (λ p op low high at. last_op t.ops ops.Done p op low (omega (arith, high, count)) (ap (λ l. slice_get l p) (sym all) ∙ at)) (may_end part ends_so) all

  ends_whole : (now : Bool) (t u : Buffer) → now ≡ true → is_within (code_of (version_for schema) u) ≡ true → (h : statements_code schema part LOOP_NESTING false block first ≡ Ok (now, t)) → leave (mark_of first.scope) t ≡ u → Accepted (code_of (version_for schema) u) now t h
  ends_whole now t u ends_so within h last =
      let all : u.ops ≡ t.ops = ap (λ (x : Buffer). x.ops) (sym last) in
      let count : length u.ops ≡ length t.ops = ap length all in
      ends_accepted u t now within h (ap (λ (x : Buffer). x.labels) (sym last)) (ap (λ (x : Buffer). x.last) (sym last)) (ap (λ (x : Buffer). x.loops) (sym last)) (ap (λ (x : Buffer). x.locals) (sym last))
      (record {
        ops = λ i op at closed. ap (λ l. slice_get l i) all ∙ at;
        texts = [];
        texts_are = ap (λ (x : Buffer). x.texts) (sym last) ∙ sym (append-nil t.texts);
        queries = [];
        queries_are = ap (λ (x : Buffer). x.queries) (sym last) ∙ sym (append-nil t.queries);
      })
      (omega (arith, count)) (λ p op low high at. absurd (omega (arith, low, high, count))) ends_so all

  by_end : (b : Bool) (now : Bool) (t u : Buffer) → is_ok (ends_done part) ≡ b → (not b && not (block_ends block)) ≡ false → (h : statements_code schema part LOOP_NESTING false block first ≡ Ok (now, t))
      → (let r : Result Buffer CompileFault = cond b (put ops.Done (leave (mark_of first.scope) t)) (Ok (leave (mark_of first.scope) t)) in r) ≡ Ok u → is_within (code_of (version_for schema) u) ≡ true → Accepted (code_of (version_for schema) u) now t h
  by_end true now t u ends_so no_end h last within = do_whole now t u ends_so within h last
  by_end false now t u other no_end h last within = ends_whole now t u (block_now schema part block LOOP_NESTING false now first t h ∙ ended (block_ends block) no_end) within h (same_ok (leave (mark_of first.scope) t) u last)
    where
      ended : (b : Bool) → not b ≡ false → b ≡ true
      ended true h = refl
      ended false h = absurd cc

  -- the code of a part is accepted for it, and its frames fit what the compiler knows
  pub text_accepted : (made : Code) → (laid : PartLaid schema part place block made) → Accepted made laid.now laid.behind laid.block_is
  text_accepted made laid =
      subst (λ c. Accepted c laid.now laid.behind laid.block_is) laid.same (by_end (is_ok (ends_done part)) laid.now laid.behind laid.whole refl laid.no_end laid.block_is laid.last laid.within)
