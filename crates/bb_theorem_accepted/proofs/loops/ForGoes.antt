-- A `for`, for the verifier: from what stands before it to what stands after its loop.
use Rattle.std.proofs.Common.{◌≡◌, inl, inr, ℕ, ◌+◌, ◌<◌, ◌≤◌, Bool, true, false, cond, List, [], ◌∷◌, ◌++◌, length, Option, Some, None, Ok, refl, subst, sym, ap, ◌∙◌, arith, length-append, append_assoc}
use Rattle.std.specs.Prelude.{max, option_map}
use Rattle.std.proofs.lemmas.Bool.{eq-eqb}
use Rattle.bb_schema.specs.Schema.{Schema}
use Rattle.bb_schema.specs.Fits as schemas
use Rattle.bb_code.specs.Code.{Code}
use Rattle.bb_code.specs.declared.frame.Kind.{Kind}
use Rattle.bb_code.specs.declared.frame.Kind.TheVariants as kinds
use Rattle.bb_code.specs.declared.op.Op.{Op}
use Rattle.bb_code.specs.declared.op.Op.TheVariants as ops
use Rattle.bb_lang.specs.Sequence.{Sequence}
use Rattle.bb_lang.specs.Blocks.{BlockTree}
use Rattle.bb_compile_scope.specs.declared.scope.Scope.{Scope}
use Rattle.bb_compile_buffer.specs.declared.buffer.Buffer.{Buffer}
use Rattle.bb_compile_buffer.specs.Buffers.{labelled, leave}
use Rattle.bb_compile.specs.Statements.{at_back}
use Rattle.bb_verify_effect.specs.declared.part.Part.{Part}
use Rattle.bb_theorem_accepted.proofs.buffers.BufferLemmas.{count_of, grown_on}
use Rattle.bb_code.specs.declared.parts.TheConstants.{STACK_LIMIT}
use Rattle.bb_theorem_accepted.proofs.buffers.LayLemmas.{LaysUnits}
use Rattle.bb_theorem_accepted.proofs.kinds.LabelLemmas.{labels_of, label_at, labelled_at, found_past, frame_by}
use Rattle.bb_theorem_accepted.proofs.kinds.MoveLemmas.{Sole}
use Rattle.bb_theorem_accepted.proofs.walks.JoinLemmas.{here, Sound, Agrees, kinds_here, Joins, Arrives, arrive, joins_own, known_there}
use Rattle.bb_theorem_accepted.proofs.blocks.BlockLemmas.{Lays}
use Rattle.bb_theorem_accepted.proofs.blocks.LoopLaid.{ForLaid}
use Rattle.bb_theorem_accepted.proofs.blocks.ForLays as lays
use Rattle.bb_theorem_accepted.proofs.sparing.ForActs as acts
use Rattle.bb_compile_scope.specs.Scope.{mark_of}
use Rattle.bb_theorem_accepted.proofs.sparing.BranchActs.{BlockActs}
use Rattle.bb_theorem_accepted.proofs.loops.ForSounds as begins
use Rattle.std.proofs.Math.Nat.{le-max_left}
use Rattle.bb_verify_effect.specs.declared.frame.Frame.{Frame}
use Rattle.bb_verify_effect.specs.Frame.{with_stack, with_local, local_at}
use Rattle.bb_verify.specs.Places.{frame_at, on_due, target_due}
use Rattle.bb_theorem_accepted.proofs.straight.PatternLemmas.{AreSmall}
use Rattle.bb_theorem_accepted.proofs.kinds.KnowLemmas.{Knows, Finds, knows_left, knows_sequences}
use Rattle.bb_theorem_accepted.proofs.straight.StoreLemmas.{store_gives, all_room}
use Rattle.bb_theorem_accepted.proofs.walks.WalkLemmas.{Walks, walks_on, leads_then, straight_visit}
use Rattle.bb_theorem_accepted.proofs.walks.GoesLemmas.{Goes, After}
use Rattle.bb_theorem_accepted.proofs.buffers.StraightLemmas.{Leads}
use Rattle.bb_theorem_accepted.proofs.walks.TraceLemmas.{Traced, traced_walk}
use Rattle.bb_theorem_accepted.proofs.walks.GuideLemmas.{known_so}
use Rattle.bb_theorem_accepted.proofs.loops.LoopVisits.{next_visit, back_visit}
use Rattle.bb_theorem_accepted.proofs.loops.ForEnds as ends
use Rattle.bb_theorem_accepted.proofs.loops.ForHeads as heads

module _ (schema : Schema) (sf : schemas.Fits schema) (part : Part) (code : Code) (loops : ℕ) (name : List ℕ) (sequence : Sequence) (body : BlockTree) (s t : Buffer) (now : Bool) (sole : Sole s.scope.kinds s.scope.names)
    (f : ForLaid schema part loops name sequence body s t now) (first : Lays f.inner f.end) (units : LaysUnits schema sf part code STACK_LIMIT s f.sequence_is.behind (Some f.class))
    (sound : Sound schema sf part code s) (agrees : Agrees schema sf part code t)
    (small : AreSmall schema sf part code) (acted : BlockActs schema body f.inner.scope f.end.scope) (S : List Frame → Type 0) (own : Goes schema sf part code f.inner f.end f.ended S) where
  abbrev block : Lays f.inner f.end
  block = heads.block schema sf part code loops name sequence body s t now sole f first units sound agrees acted S own

  abbrev head : Buffer
  head = heads.head schema sf part code loops name sequence body s t now sole f first units sound agrees acted S own

  abbrev Here : ℕ → Option Frame
  Here = heads.Here schema sf part code loops name sequence body s t now sole f first units sound agrees acted S own

  abbrev Fitting : Frame → List Kind → Type 0
  Fitting = heads.Fitting schema sf part code loops name sequence body s t now sole f first units sound agrees acted S own

  abbrev over : ℕ
  over = heads.over schema sf part code loops name sequence body s t now sole f first units sound agrees acted S own

  sound_head : Sound schema sf part code head
  sound_head = heads.sound_head schema sf part code loops name sequence body s t now sole f first units sound agrees acted S own

  counts : (length f.held.ops ≡ length f.sequence_is.behind.ops + 1) × (length head.ops ≡ length f.held.ops) × (length f.inner.ops ≡ length f.held.ops + 2) × (length f.inner.ops ≤ length f.end.ops) × (length t.ops ≡ length f.end.ops + 1) × (length s.ops ≤ length f.sequence_is.behind.ops)
  counts = heads.counts schema sf part code loops name sequence body s t now sole f first units sound agrees acted S own

  same_head : labels_of f.inner ≡ labels_of head
  same_head = heads.same_head schema sf part code loops name sequence body s t now sole f first units sound agrees acted S own

  abbrev first_frame : Frame
  first_frame = heads.first_frame schema sf part code loops name sequence body s t now sole f first units sound agrees acted S own

  below_end : length f.held.ops < length f.end.ops
  below_end = heads.below_end schema sf part code loops name sequence body s t now sole f first units sound agrees acted S own

  declared_head : Here (length f.held.ops) ≡ Some first_frame
  declared_head = heads.declared_head schema sf part code loops name sequence body s t now sole f first units sound agrees acted S own

  none_before : (p : ℕ) → length s.ops < p → p < length f.held.ops → Here p ≡ None
  none_before = heads.none_before schema sf part code loops name sequence body s t now sole f first units sound agrees acted S own

  none_head : Here (length f.held.ops + 1) ≡ None
  none_head = heads.none_head schema sf part code loops name sequence body s t now sole f first units sound agrees acted S own

  few_end : f.end.locals ≤ code.locals
  few_end = heads.few_end schema sf part code loops name sequence body s t now sole f first units sound agrees acted S own

  few : (head.locals ≤ code.locals) × (lays.stored schema part loops name sequence body s t now f < code.locals) × (f.held.locals ≤ code.locals)
  few = heads.few schema sf part code loops name sequence body s t now sole f first units sound agrees acted S own

  few_local : f.local < code.locals
  few_local = heads.few_local schema sf part code loops name sequence body s t now sole f first units sound agrees acted S own

  first_fits : Fitting first_frame head.scope.kinds
  first_fits = heads.first_fits schema sf part code loops name sequence body s t now sole f first units sound agrees acted S own

  first_at : local_at f.local first_frame ≡ kinds.Seq f.class
  first_at = heads.first_at schema sf part code loops name sequence body s t now sole f first units sound agrees acted S own

  with_sequence_fits : (g : Frame) → Fitting g s.scope.kinds → Fitting (with_local f.local (kinds.Seq f.class) g) head.scope.kinds
  with_sequence_fits = heads.with_sequence_fits schema sf part code loops name sequence body s t now sole f first units sound agrees acted S own

  abbrev stored : ℕ
  stored = heads.stored schema sf part code loops name sequence body s t now sole f first units sound agrees acted S own

  abbrev inner_frame : Frame
  inner_frame = heads.inner_frame schema sf part code loops name sequence body s t now sole f first units sound agrees acted S own

  inner_fits : Fitting inner_frame f.inner.scope.kinds
  inner_fits = heads.inner_fits schema sf part code loops name sequence body s t now sole f first units sound agrees acted S own

  to_head : (g : Frame) → Fitting g head.scope.kinds → target_due schema (Some g) (Here (length f.held.ops)) ≡ Ok tt
  to_head = heads.to_head schema sf part code loops name sequence body s t now sole f first units sound agrees acted S own

  on_head : (g : Frame) → Fitting g head.scope.kinds → on_due schema (Some g) (Here (length f.held.ops)) ≡ Ok tt
  on_head = heads.on_head schema sf part code loops name sequence body s t now sole f first units sound agrees acted S own

  end_fits : (g : Frame) → Fitting g f.end.scope.kinds → Fitting g head.scope.kinds
  end_fits = heads.end_fits schema sf part code loops name sequence body s t now sole f first units sound agrees acted S own

  -- ---- the way back

  -- the label where the body ends
  label_end : label_at (labels_of t) (length f.end.ops) ≡ cond f.ended (Some f.begun.start.kinds) (here f.end)
  unfolding labelled
  label_end =
      let behind = counts.4 in
      let c : length t.ops ≡ length (lays.closed schema part loops name sequence body s t now f).ops = ap length (lays.t_same schema part loops name sequence body s t now f block).0 in
      ap (λ (x : Buffer). label_at (labels_of x) (length f.end.ops)) f.is
      ∙ (lays.labelled_marks (leave (mark_of s.scope) (lays.closed schema part loops name sequence body s t now f)) (length f.end.ops) (omega (arith, behind, c)) ∙ by_end f.ended)
    where
      by_end : (e : Bool) → label_at (labels_of (at_back f.begun e (lays.left schema part loops name sequence body s t now f))) (length f.end.ops) ≡ cond e (Some f.begun.start.kinds) (here f.end)
      by_end true = labelled_at f.end.labels f.end.last (length f.end.ops) f.begun.start.kinds (length f.end.ops) ∙ ap (λ b. cond b (Some f.begun.start.kinds) (label_at (labels_of f.end) (length f.end.ops))) (eq-eqb (length f.end.ops) (length f.end.ops) refl)
      by_end false = refl

  start_is : f.begun.start.kinds ≡ head.scope.kinds
  start_is =
      ap (λ m. m.kinds) (acts.start_is schema part loops name sequence body s t now sole f acted)
      ∙ sym (ap (λ (c : Scope). c.kinds) (acts.head_scope schema part loops name sequence body s t now sole f))

  declared_end : Here (length f.end.ops) ≡ option_map (frame_by code.locals) (cond f.ended (Some f.begun.start.kinds) (here f.end))
  declared_end = let d = counts.4 in agrees.frames (length f.end.ops) (omega (arith, d)) ∙ ap (option_map (frame_by code.locals)) label_end

  back_head : f.begun.head ≡ length f.held.ops
  back_head = lays.head_place schema part loops name sequence body s t now f block ∙ counts.1

  back_walk : (mid : Option Frame) (g : Frame) → frame_at (Here (length f.end.ops)) mid ≡ Ok g → Fitting g head.scope.kinds → Walks schema part code (length f.end.ops) (ops.Back f.begun.head ∷ []) mid None
  back_walk mid g here has =
      let lt = below_end in
      let e = back_head in
      (None, back_visit schema sf part code (length f.end.ops) f.begun.head g mid here (omega (arith, lt, e)) (subst (λ n. target_due schema (Some g) (Here n) ≡ Ok tt) (sym e) (to_head g has)), refl)

  end_joins : f.ended ≡ false → length t.ops ≤ length code.ops → Joins schema sf part code f.end
  end_joins goes le =
      let d = counts.4 in
      joins_own schema sf part code f.end own.sound (omega (arith, d, le)) (declared_end ∙ ap (λ e. option_map (frame_by code.locals) (cond e (Some f.begun.start.kinds) (here f.end))) goes)

  -- the body and the way back
  inner_here : here f.inner ≡ None
  inner_here =
      let b = counts.1 in
      let c = counts.2 in
      ap (λ ls. label_at ls (length f.inner.ops)) same_head ∙ found_past (λ ks. ks) None 0 (labels_of head) (length head.ops + 1) (length f.inner.ops) sound_head.rises (omega (arith, b, c))

  inner_comes : Arrives schema sf part code (Some inner_frame) f.inner
  inner_comes = inl (inner_frame, refl, subst (λ o. Fitting inner_frame (kinds_here o f.inner.scope.kinds)) (sym inner_here) inner_fits)

  body_then : (e : Bool) → f.ended ≡ e → After schema sf part code e (length f.inner.ops) own.grown.ops (Some inner_frame) f.end → Walks schema part code (length f.inner.ops) (own.grown.ops ++ ops.Back f.begun.head ∷ []) (Some inner_frame) None
  body_then true is walks =
      let c : length f.end.ops ≡ length f.inner.ops + length own.grown.ops = count_of f.inner f.end own.grown in
      let there : Here (length f.end.ops) ≡ Some first_frame = declared_end ∙ (ap (λ e. option_map (frame_by code.locals) (cond e (Some f.begun.start.kinds) (here f.end))) is ∙ ap (λ ks. Some (frame_by code.locals ks)) start_is) in
      walks_on schema part code (length f.inner.ops) own.grown.ops (ops.Back f.begun.head ∷ []) (Some inner_frame) None None walks
      (subst (λ p. Walks schema part code p (ops.Back f.begun.head ∷ []) None None) c (back_walk None first_frame (rw there refl) first_fits))
  body_then false is after =
      let c : length f.end.ops ≡ length f.inner.ops + length own.grown.ops = count_of f.inner f.end own.grown in
      let declared : Here (length f.end.ops) ≡ option_map (frame_by code.locals) (here f.end) = declared_end ∙ ap (λ e. option_map (frame_by code.locals) (cond e (Some f.begun.start.kinds) (here f.end))) is in
      let found = arrive schema sf part code f.end after.0 own.sound few_end declared after.1 in
      walks_on schema part code (length f.inner.ops) own.grown.ops (ops.Back f.begun.head ∷ []) (Some inner_frame) after.0 None after.2
      (subst (λ p. Walks schema part code p (ops.Back f.begun.head ∷ []) after.0 None) c (back_walk after.0 found.0 found.1 (end_fits found.0 found.2)))

  -- ---- from the head on

  abbrev loaded : Frame
  loaded = with_stack (kinds.Ref f.class ∷ []) first_frame

  store_walk : (tail : List Op) (out : Option Frame) → Joins schema sf part code f.inner → Walks schema part code (length f.inner.ops) tail (Some inner_frame) out → Walks schema part code (length f.held.ops + 1) (ops.Store stored ∷ tail) (Some loaded) out
  store_walk tail out joins rest =
      let c : length f.inner.ops ≡ length f.held.ops + 1 + 1 = (let e = counts.2 in omega (arith, e)) in
      let lt = joins.below in
      let on : on_due schema (Some inner_frame) (Here (length f.inner.ops)) ≡ Ok tt = joins.on inner_frame (subst (λ o. Fitting inner_frame (kinds_here o f.inner.scope.kinds)) (sym inner_here) inner_fits) in (
        Some inner_frame,
        straight_visit schema part code (length f.held.ops + 1) (ops.Store stored) loaded inner_frame (Some loaded) (rw none_head refl) (store_gives schema sf part code small stored (kinds.Ref f.class) first_frame few.1)
            (subst (λ n. n < length code.ops) c lt) (subst (λ n. on_due schema (Some inner_frame) (Here n) ≡ Ok tt) c on),
        subst (λ p. Walks schema part code p tail (Some inner_frame) out) c rest,
      )

  next_walk : (g : Frame) (tail : List Op) (out : Option Frame) → Joins schema sf part code t → here t ≡ Some t.scope.kinds → Fitting first_frame t.scope.kinds → Walks schema part code (length f.held.ops + 1) (ops.Store stored ∷ tail) (Some loaded) out
      → Walks schema part code (length f.held.ops) (ops.Next f.local over ∷ ops.Store stored ∷ tail) (Some g) out
  next_walk g tail out joins at fits rest =
      let c = counts.2 in
      let d = counts.3 in
      let e = counts.4 in
      let count : length t.ops ≡ over = lays.count_t schema part loops name sequence body s t now f block in
      let below = joins.below in
      let target : target_due schema (Some first_frame) (Here over) ≡ Ok tt = subst (λ n. target_due schema (Some first_frame) (Here n) ≡ Ok tt) count (joins.target t.scope.kinds at first_frame fits) in (
        Some loaded,
        next_visit schema sf part code (length f.held.ops) over f.local f.class first_frame (Some g) (rw declared_head refl) first_at (omega arith) few_local (omega (arith, count, e)) (omega (arith, count, below)) (omega (arith, c, d, e, below)) (rw none_head refl) target,
        rest,
      )

  -- ---- the whole

  here_t : here t ≡ Some t.scope.kinds
  here_t = ends.here_t schema sf part code loops name sequence body s t now sole f block units sound agrees acted own.sound

  -- what is known at the head is known after the loop
  first_behind : Fitting first_frame t.scope.kinds
  first_behind =
      let scope = acts.scope_is schema part loops name sequence body s t now sole f acted in
      let closed = acts.closed schema part loops name sequence body s t now sole f acted in
      let same : closed.kinds ≡ head.scope.kinds = start_is in (
        first_fits.0,
        first_fits.1,
        subst (λ (c : Scope). Knows schema sf first_frame.locals c.kinds) (sym scope) (knows_left schema sf first_frame.locals s.scope.kinds closed.kinds (subst (Knows schema sf first_frame.locals) (sym same) first_fits.2)),
      )

  behind_count : length f.sequence_is.behind.ops ≡ length s.ops + length units.grown.ops
  behind_count = count_of s f.sequence_is.behind units.grown

  -- up to the body
  begin_walk : (next out : Option Frame) (g : Frame) (tail : List Op) → frame_at (Here (length s.ops)) next ≡ Ok g → Fitting g s.scope.kinds → Joins schema sf part code t → Joins schema sf part code f.inner → Walks schema part code (length f.inner.ops) tail (Some inner_frame) out
      → Walks schema part code (length s.ops) (units.grown.ops ++ ops.Store f.local ∷ ops.Next f.local over ∷ ops.Store stored ∷ tail) next out
  begin_walk next out g tail found fits joins inner rest =
      let a = behind_count in
      let b = counts.0 in
      let c = counts.2 in
      let d = counts.3 in
      let e = counts.4 in
      let below = joins.below in
      let l = few_local in
      let few_s : s.locals ≤ code.locals = (let x : f.sequence_is.behind.locals ≡ s.locals = ap (λ (x : Buffer). x.locals) units.same in let y : f.held.locals ≡ max f.sequence_is.behind.locals (f.local + 1) = ap (λ (x : Buffer). x.locals) f.sequence_is.is in let z = le-max_left f.sequence_is.behind.locals (f.local + 1) in let w = few.2 in omega (arith, x, y, z, w)) in
      let known = known_there schema sf part code s g sound few_s fits in
      let sequences = knows_sequences schema sf g.locals s.scope.kinds fits.2 in
      let class = begins.class_is schema sf part code loops name sequence body s t now sole f block units in
      let q = with_stack (kinds.Seq f.class ∷ g.stack) g in
      let after = with_local f.local (kinds.Seq f.class) g in
      let leads = subst (λ n. Leads schema part code units.grown.ops g (with_stack (kinds.Seq n ∷ g.stack) g)) class (units.leads g (fits.1, known, sequences) (all_room schema sf part code small g fits.0)) in
      let own_fits = with_sequence_fits g fits in
      leads_then schema part code units.grown.ops (ops.Store f.local ∷ ops.Next f.local over ∷ ops.Store stored ∷ tail) (length s.ops) g q next out found (λ i low high. none_before i low (omega (arith, high, a, b))) (omega (arith, a, b, c, d, e, below)) leads
      (λ last at. (
        Some after,
        straight_visit schema part code (length s.ops + length units.grown.ops) (ops.Store f.local) q after last at (store_gives schema sf part code small f.local (kinds.Seq f.class) g l) (omega (arith, a, b, c, d, e, below))
            (subst (λ n. on_due schema (Some after) (Here n) ≡ Ok tt) (let x : length f.held.ops ≡ length s.ops + length units.grown.ops + 1 = omega (arith, a, b) in x) (on_head after own_fits)),
        subst (λ p. Walks schema part code p (ops.Next f.local over ∷ ops.Store stored ∷ tail) (Some after) out) (let x : length f.held.ops ≡ length s.ops + length units.grown.ops + 1 = omega (arith, a, b) in x)
            (next_walk after tail out joins here_t first_behind (store_walk tail out inner rest)),
      ))

  declared_s : Here (length s.ops) ≡ option_map (frame_by code.locals) (here s)
  declared_s =
      let a = counts.5 in
      let b = counts.0 in
      let c = counts.2 in
      let d = counts.3 in
      let e = counts.4 in
      agrees.frames (length s.ops) (omega (arith, a, b, c, d, e)) ∙ ap (option_map (frame_by code.locals)) (lays.for_marks schema part loops name sequence body s t now f block (length s.ops) (omega arith))

  pub for_goes : Goes schema sf part code s t now (λ frames. Finds schema sf frames (length s.ops) s.scope.kinds × S frames)
  unfolding grown_on lays.behind_grown heads.block
  for_goes = record {
    grown = grown_on s f.sequence_is.behind t units.grown (lays.behind_grown schema part loops name sequence body s t now f block);
    moves = ends.moves_t schema sf part code loops name sequence body s t now sole f block units sound agrees acted own.sound;
    sound = ends.sound_t schema sf part code loops name sequence body s t now sole f block units sound agrees acted own.sound;
    unlabelled = λ e. absurd (let other : true ≡ false = sym e ∙ f.now_is in cc);
    right = λ e. absurd (let other : true ≡ false = sym e ∙ f.now_is in cc);
    more = λ joins.
        let j = joins f.now_is in
        let below = j.below in
        let a = counts.5 in
        let b = counts.0 in
        let c = counts.2 in
        let d = counts.3 in
        let e = counts.4 in
        let within = agrees.within in
        let inner = own.more (λ goes. end_joins goes within) in
        let few_s : s.locals ≤ code.locals = (let x = lays.for_locals schema part loops name sequence body s t now f block in let y = agrees.locals in omega (arith, x, y)) in (
          joins_own schema sf part code s sound (omega (arith, a, b, c, d, e, below)) declared_s,
          λ next arrives.
              let found = arrive schema sf part code s next sound few_s declared_s arrives in
              let after = inner.1 (Some inner_frame) inner_comes in
              let walks = begin_walk next None found.0 (own.grown.ops ++ ops.Back f.begun.head ∷ []) found.1 found.2 j inner.0 (body_then f.ended refl after.0) in (
                subst (λ n. After schema sf part code n (length s.ops) (units.grown.ops ++ ops.Store f.local ∷ ops.Next f.local over ∷ ops.Store stored ∷ (own.grown.ops ++ ops.Back f.begun.head ∷ [])) next t) (sym f.now_is) (None, inr (refl, t.scope.kinds, here_t), walks),
                λ frames traced.
                    let first_ops = units.grown.ops ++ ops.Store f.local ∷ ops.Next f.local over ∷ ops.Store stored ∷ [] in
                    let to_body = begin_walk next (Some inner_frame) found.0 [] found.1 found.2 j inner.0 refl in
                    let there = traced_walk schema part code frames t agrees.has (length s.ops) s.ops first_ops (own.grown.ops ++ ops.Back f.begun.head ∷ []) next (Some inner_frame) refl whole_ops to_body traced in
                    let place : length s.ops + length first_ops ≡ length f.inner.ops = (let x = length-append units.grown.ops (ops.Store f.local ∷ ops.Next f.local over ∷ ops.Store stored ∷ []) in let y = behind_count in omega (arith, x, y, b, c)) in
                    (known_so schema sf part code frames s next found.0 (omega (arith, a, b, c, d, e, below)) found.1 found.2 traced, after.1 frames (subst (λ n. Traced schema part code frames n (Some inner_frame)) place there)),
              ),
        );
  }
    where
      whole_ops : t.ops ≡ s.ops ++ ((units.grown.ops ++ ops.Store f.local ∷ ops.Next f.local over ∷ ops.Store stored ∷ []) ++ (own.grown.ops ++ ops.Back f.begun.head ∷ []))
      whole_ops =
          lays.ops_are schema part loops name sequence body s t now f block
          ∙ (ap (λ l. l ++ (ops.Store f.local ∷ ops.Next f.local over ∷ ops.Store stored ∷ (own.grown.ops ++ ops.Back f.begun.head ∷ []))) units.grown.ops_are
          ∙ (append_assoc s.ops units.grown.ops (ops.Store f.local ∷ ops.Next f.local over ∷ ops.Store stored ∷ (own.grown.ops ++ ops.Back f.begun.head ∷ []))
          ∙ ap (λ l. s.ops ++ l) (sym (append_assoc units.grown.ops (ops.Store f.local ∷ ops.Next f.local over ∷ ops.Store stored ∷ []) (own.grown.ops ++ ops.Back f.begun.head ∷ [])))))
