-- A `for`, for the verifier: where the ops of its loop stand, and what is found at its head and where its body begins.
use Rattle.std.proofs.Common.{◌≡◌, ◌⊎◌, inl, inr, ℕ, ◌+◌, ◌<◌, ◌≤◌, Bool, true, false, List, length, Option, Some, None, Ok, refl, subst, sym, ap, ◌∙◌, arith}
use Rattle.std.specs.Prelude.{set, max, slice_get, option_map, unwrap_or}
use Rattle.bb_schema.specs.Schema.{Schema}
use Rattle.bb_schema.specs.Fits as schemas
use Rattle.bb_code.specs.Code.{Code}
use Rattle.bb_code.specs.declared.frame.Kind.{Kind}
use Rattle.bb_code.specs.declared.frame.Kind.TheVariants as kinds
use Rattle.bb_lang.specs.Sequence.{Sequence}
use Rattle.bb_lang.specs.Blocks.{BlockTree}
use Rattle.bb_compile_scope.specs.LocalKinds.{is_free, kind_at, kinds_left}
use Rattle.bb_compile_scope.specs.declared.scope.Scope.{Scope}
use Rattle.bb_compile_buffer.specs.declared.buffer.Buffer.{Buffer}
use Rattle.bb_verify_effect.specs.declared.part.Part.{Part}
use Rattle.bb_theorem_accepted.proofs.kinds.UnderLemmas.{descends_same}
use Rattle.bb_theorem_accepted.proofs.buffers.BufferLemmas.{count_of}
use Rattle.bb_code.specs.declared.parts.TheConstants.{STACK_LIMIT}
use Rattle.bb_theorem_accepted.proofs.buffers.LayLemmas.{LaysUnits}
use Rattle.bb_theorem_accepted.proofs.kinds.LabelLemmas.{labels_of, label_at, found_past, frame_by}
use Rattle.bb_theorem_accepted.proofs.straight.StoreLemmas.{declare_is}
use Rattle.bb_theorem_accepted.proofs.kinds.MoveLemmas.{Sole, one_or_other}
use Rattle.bb_theorem_accepted.proofs.walks.JoinLemmas.{here, Sound, Agrees, HasFrame, at_range, declared_good, label_fits}
use Rattle.bb_theorem_accepted.proofs.blocks.BlockLemmas.{Lays, same_labels}
use Rattle.bb_theorem_accepted.proofs.blocks.LoopLaid.{ForLaid}
use Rattle.bb_theorem_accepted.proofs.blocks.ForLays as lays
use Rattle.bb_theorem_accepted.proofs.sparing.ScopeLemmas.{Levels}
use Rattle.bb_theorem_accepted.proofs.sparing.ForActs as acts
use Rattle.bb_theorem_accepted.proofs.branches.BranchScopes.{labelled_here}
use Rattle.bb_theorem_accepted.proofs.sparing.BranchActs.{BlockActs}
use Rattle.bb_theorem_accepted.proofs.loops.ForSounds as begins
use Rattle.std.proofs.Math.Nat.{le-max_left, le-max_right}
use Rattle.std.proofs.lemmas.List.{length-set}
use Rattle.bb_basis.proofs.PositionLemmas.{position_within}
use Rattle.bb_compile_scope.specs.Kinds.{is_live}
use Rattle.bb_compile_scope.proofs.Laws.{at_same, at_other, set_twice}
use Rattle.bb_verify_effect.specs.declared.frame.Frame.{Frame}
use Rattle.bb_verify_effect.specs.Frame.{with_local, local_at}
use Rattle.bb_verify.specs.Places.{fits_declared, on_due, target_due}
use Rattle.bb_theorem_accepted.proofs.kinds.KnowLemmas.{aged, IsKept, Knows, knows_left}
use Rattle.bb_theorem_accepted.proofs.walks.WalkLemmas.{At}
use Rattle.bb_theorem_accepted.proofs.walks.GoesLemmas.{Goes}
use Rattle.bb_theorem_accepted.proofs.loops.LoopSounds.{knows_weaker, are_named}
use Rattle.bb_theorem_accepted.proofs.loops.ForEnds as ends

module _ (schema : Schema) (sf : schemas.Fits schema) (part : Part) (code : Code) (loops : ℕ) (name : List ℕ) (sequence : Sequence) (body : BlockTree) (s t : Buffer) (now : Bool) (sole : Sole s.scope.kinds s.scope.names)
    (f : ForLaid schema part loops name sequence body s t now) (first : Lays f.inner f.end) (units : LaysUnits schema sf part code STACK_LIMIT s f.sequence_is.behind (Some f.class))
    (sound : Sound schema sf part code s) (agrees : Agrees schema sf part code t)
    (acted : BlockActs schema body f.inner.scope f.end.scope) (S : List Frame → Type 0) (own : Goes schema sf part code f.inner f.end f.ended S) where
  unfoldable pub block : Lays f.inner f.end
  block = record { grown = own.grown; loops = first.loops; loops_are = first.loops_are; locals = first.locals; marks = first.marks }

  abbrev held : Buffer
  held = f.held

  abbrev pub head : Buffer
  head = f.head_is.head

  abbrev pub Here : ℕ → Option Frame
  Here p = At schema part code p

  abbrev pub Fitting : Frame → List Kind → Type 0
  Fitting g ks = HasFrame schema sf part code g ks

  abbrev pub over : ℕ
  over = lays.over schema part loops name sequence body s t now f block

  pub sound_head : Sound schema sf part code head
  sound_head = begins.sound_head schema sf part code loops name sequence body s t now sole f block units sound

  sound_inner : Sound schema sf part code f.inner
  sound_inner = begins.sound_inner schema sf part code loops name sequence body s t now sole f block units sound

  agrees_end : Agrees schema sf part code f.end
  agrees_end = ends.agrees_end schema sf part code loops name sequence body s t now sole f block units sound agrees

  end_marks : (p : ℕ) → p < length f.end.ops → label_at (labels_of t) p ≡ label_at (labels_of f.end) p
  end_marks = ends.end_marks schema sf part code loops name sequence body s t now sole f block units sound agrees

  -- ---- places

  pub counts : (length f.held.ops ≡ length f.sequence_is.behind.ops + 1) × (length head.ops ≡ length f.held.ops) × (length f.inner.ops ≡ length f.held.ops + 2) × (length f.inner.ops ≤ length f.end.ops) × (length t.ops ≡ length f.end.ops + 1) × (length s.ops ≤ length f.sequence_is.behind.ops)
  counts =
      let one = count_of f.inner f.end own.grown in
      let two = count_of s f.sequence_is.behind units.grown in
      let three : length t.ops ≡ over = lays.count_t schema part loops name sequence body s t now f block in
      let four : over ≡ length f.end.ops + 1 = lays.over_is schema part loops name sequence body s t now f block in (
        lays.held_count schema part loops name sequence body s t now f block,
        ap length (lays.head_ops schema part loops name sequence body s t now f),
        lays.inner_count schema part loops name sequence body s t now f block,
        omega (arith, one),
        three ∙ four,
        omega (arith, two),
      )

  -- labels where the loop begins
  inner_labels : (p : ℕ) → p ≤ length f.inner.ops → p < length f.end.ops → label_at (labels_of t) p ≡ label_at (labels_of f.inner) p
  inner_labels p low high = end_marks p high ∙ block.marks p low high

  pub same_head : labels_of f.inner ≡ labels_of head
  same_head = let e = lays.inner_is schema part loops name sequence body s t now f in same_labels head f.inner (ap (λ (x : Buffer). x.labels) e) (ap (λ (x : Buffer). x.last) e)

  head_here : here head ≡ Some head.scope.kinds
  head_here =
      labelled_here schema sf part code f.held head (length f.held.ops) counts.1 (begins.head_labels schema sf part code loops name sequence body s t now sole f block units)
      (begins.head_last schema sf part code loops name sequence body s t now sole f block units)

  abbrev pub first_frame : Frame
  first_frame = frame_by code.locals head.scope.kinds

  -- places of the code
  low : length f.inner.ops ≤ length code.ops
  low = let c = counts.3 in let d = counts.4 in let le = agrees.within in omega (arith, c, d, le)

  declared_at_head : length f.held.ops < length f.end.ops → Here (length f.held.ops) ≡ Some first_frame
  declared_at_head lt =
      let c = counts.2 in
      let d = counts.4 in
      agrees.frames (length f.held.ops) (omega (arith, lt, d))
      ∙ ap (option_map (frame_by code.locals)) (inner_labels (length f.held.ops) (omega (arith, c)) lt ∙ (ap (λ ls. label_at ls (length f.held.ops)) same_head ∙ (ap (label_at (labels_of head)) (sym counts.1) ∙ head_here)))

  pub below_end : length f.held.ops < length f.end.ops
  below_end = let c = counts.2 in let d = counts.3 in omega (arith, c, d)

  pub declared_head : Here (length f.held.ops) ≡ Some first_frame
  declared_head = declared_at_head below_end

  pub none_before : (p : ℕ) → length s.ops < p → p < length f.held.ops → Here p ≡ None
  none_before p after before =
      let a = below_end in
      let c = counts.2 in
      let d = counts.4 in
      agrees.frames p (omega (arith, before, a, d))
      ∙ ap (option_map (frame_by code.locals)) (inner_labels p (omega (arith, before, c)) (omega (arith, before, a))
      ∙ (lays.head_marks schema part loops name sequence body s t now f block p before ∙ found_past (λ ks. ks) None 0 (labels_of s) (length s.ops + 1) p sound.rises (omega (arith, after))))

  pub none_head : Here (length f.held.ops + 1) ≡ None
  none_head =
      let b = counts.1 in
      let c = counts.2 in
      let d = counts.3 in
      let e = counts.4 in
      agrees.frames (length f.held.ops + 1) (omega (arith, c, d, e))
      ∙ ap (option_map (frame_by code.locals)) (inner_labels (length f.held.ops + 1) (omega (arith, c)) (omega (arith, c, d))
      ∙ (ap (λ ls. label_at ls (length f.held.ops + 1)) same_head ∙ found_past (λ ks. ks) None 0 (labels_of head) (length head.ops + 1) (length f.held.ops + 1) sound_head.rises (omega (arith, b))))

  -- ---- frames

  head_level : Levels f.held.scope head.scope
  head_level = subst (Levels f.held.scope) (sym (acts.head_scope schema part loops name sequence body s t now sole f)) (acts.level_head schema part loops name sequence body s t now sole f)

  head_live : (i : ℕ) → is_live (kind_at head.scope.kinds i) ≡ true → is_live (kind_at f.held.scope.kinds i) ≡ true
  head_live i live =
      acts.live_held schema part loops name sequence body s t now sole f acted i (ap (λ (c : Scope). is_live (kind_at c.kinds i)) (sym (acts.head_scope schema part loops name sequence body s t now sole f)) ∙ live)

  pub few_end : f.end.locals ≤ code.locals
  few_end = agrees_end.locals

  inner_locals : f.inner.locals ≡ max head.locals (lays.stored schema part loops name sequence body s t now f + 1)
  inner_locals = ap (λ (x : Buffer). x.locals) (lays.inner_is schema part loops name sequence body s t now f)

  pub few : (head.locals ≤ code.locals) × (lays.stored schema part loops name sequence body s t now f < code.locals) × (f.held.locals ≤ code.locals)
  few =
      let a = inner_locals in
      let b = few_end in
      let c = first.locals in
      let d = le-max_left head.locals (lays.stored schema part loops name sequence body s t now f + 1) in
      let e = le-max_right head.locals (lays.stored schema part loops name sequence body s t now f + 1) in
      let g = begins.head_locals schema sf part code loops name sequence body s t now sole f block units in
      (omega (arith, a, b, c, d), omega (arith, a, b, c, e), omega (arith, a, b, c, d, g))

  pub few_local : f.local < code.locals
  few_local =
      let a : f.held.locals ≡ max f.sequence_is.behind.locals (f.local + 1) = ap (λ (x : Buffer). x.locals) f.sequence_is.is in
      let b = le-max_right f.sequence_is.behind.locals (f.local + 1) in
      let c = few.2 in
      omega (arith, a, b, c)

  pub first_fits : Fitting first_frame head.scope.kinds
  first_fits = declared_good schema sf part code head sound_head few.0 head.scope.kinds head_here

  -- the local holds the sequence
  held_at : kind_at f.held.scope.kinds f.local ≡ kinds.Seq f.class
  held_at =
      ap (λ ks. kind_at ks f.local) (acts.kinds_held schema part loops name sequence body s t now sole f)
      ∙ at_same s.scope.kinds f.local (kinds.Seq f.class) (position_within is_free s.scope.kinds f.local (acts.free schema part loops name sequence body s t now sole f))

  plain_sequence : (k : Kind) → aged (kinds.Seq f.class) ≡ aged k → k ≡ kinds.Seq f.class
  plain_sequence (kinds.Seq d) same = sym same
  plain_sequence (kinds.Ref d) same = absurd cc
  plain_sequence (kinds.Old d) same = absurd cc
  plain_sequence kinds.Any same = absurd cc
  plain_sequence kinds.Int same = absurd cc
  plain_sequence kinds.Text same = absurd cc
  plain_sequence kinds.Bool same = absurd cc
  plain_sequence (kinds.Label set) same = absurd cc
  plain_sequence kinds.Interval same = absurd cc

  head_at : kind_at head.scope.kinds f.local ≡ kinds.Seq f.class
  head_at = plain_sequence (kind_at head.scope.kinds f.local) (ap aged (sym held_at) ∙ head_level.agree f.local (ap is_free held_at))

  local_is : (l : ℕ) (g : Frame) → local_at l g ≡ kind_at g.locals l
  unfolding local_at
  local_is l g = by_option (slice_get g.locals l)
    where
      by_option : (o : Option Kind) → (let k : Kind = elim o [ None ↦ kinds.Any | Some k ↦ k ] in k) ≡ unwrap_or o kinds.Any
      by_option None = refl
      by_option (Some k) = refl

  pub first_at : local_at f.local first_frame ≡ kinds.Seq f.class
  first_at = local_is f.local first_frame ∙ (at_range head.scope.kinds 0 code.locals f.local few_local ∙ (ap (kind_at head.scope.kinds) (let e : 0 + f.local ≡ f.local = omega arith in e) ∙ head_at))

  -- after the sequence
  pub with_sequence_fits : (g : Frame) → Fitting g s.scope.kinds → Fitting (with_local f.local (kinds.Seq f.class) g) head.scope.kinds
  with_sequence_fits g has = (has.0, length-set g.locals f.local (kinds.Seq f.class) ∙ has.1, knows_weaker schema sf (set g.locals f.local (kinds.Seq f.class)) f.held.scope.kinds head.scope.kinds same head_live knows)
    where
      same : (i : ℕ) → is_free (kind_at head.scope.kinds i) ≡ false → aged (kind_at f.held.scope.kinds i) ≡ aged (kind_at head.scope.kinds i)
      same i taken = head_level.agree i (sym (head_level.free i) ∙ taken)

      knows : Knows schema sf (set g.locals f.local (kinds.Seq f.class)) f.held.scope.kinds
      knows i taken = by_local (one_or_other i f.local)
        where
          by_local : ((i ≡ f.local) ⊎ (i ≡ f.local → ⊥)) → IsKept schema sf (kind_at (set g.locals f.local (kinds.Seq f.class)) i) (kind_at f.held.scope.kinds i)
          by_local (inl e) =
              let within : f.local < length g.locals = (let count = has.1 in let lt = few_local in omega (arith, count, lt)) in
              subst (IsKept schema sf (kind_at (set g.locals f.local (kinds.Seq f.class)) i)) (sym (ap (kind_at f.held.scope.kinds) e ∙ held_at)) (ap (kind_at (set g.locals f.local (kinds.Seq f.class))) e ∙ at_same g.locals f.local (kinds.Seq f.class) within)
          by_local (inr apart) =
              let there = ap (λ ks. kind_at ks i) (acts.kinds_held schema part loops name sequence body s t now sole f) ∙ at_other s.scope.kinds f.local i (kinds.Seq f.class) apart in
              subst (λ k. IsKept schema sf k (kind_at f.held.scope.kinds i)) (sym (at_other g.locals f.local i (kinds.Seq f.class) apart)) (subst (IsKept schema sf (kind_at g.locals i)) (sym there) (has.2 i (ap is_free (sym there) ∙ taken)))

  -- where the body begins
  abbrev pub stored : ℕ
  stored = lays.stored schema part loops name sequence body s t now f

  abbrev pub inner_frame : Frame
  inner_frame = with_local stored (kinds.Ref f.class) first_frame

  inner_kinds : f.inner.scope.kinds ≡ set head.scope.kinds stored (kinds.Ref f.class)
  inner_kinds = ap (λ (x : Buffer). x.scope.kinds) (lays.inner_is schema part loops name sequence body s t now f) ∙ set_twice head.scope.kinds stored (kinds.Ref f.class)

  pub inner_fits : Fitting inner_frame f.inner.scope.kinds
  inner_fits = (refl, length-set first_frame.locals stored (kinds.Ref f.class) ∙ first_fits.1, subst (Knows schema sf inner_frame.locals) (sym inner_kinds) knows)
    where
      within : stored < length first_frame.locals
      within = let count = first_fits.1 in let lt = few.1 in omega (arith, count, lt)

      knows : Knows schema sf inner_frame.locals (set head.scope.kinds stored (kinds.Ref f.class))
      knows i taken = by_local (one_or_other i stored)
        where
          by_local : ((i ≡ stored) ⊎ (i ≡ stored → ⊥)) → IsKept schema sf (kind_at inner_frame.locals i) (kind_at (set head.scope.kinds stored (kinds.Ref f.class)) i)
          by_local (inl e) =
              let free = (declare_is name (kinds.Ref f.class) (lays.next schema part loops name sequence body s t now f) f.inner f.head_is.declared).1 in
              subst (IsKept schema sf (kind_at inner_frame.locals i)) (sym (ap (kind_at (set head.scope.kinds stored (kinds.Ref f.class))) e ∙ at_same head.scope.kinds stored (kinds.Ref f.class) (position_within is_free head.scope.kinds stored free)))
              (f.class, ap (kind_at inner_frame.locals) e ∙ at_same first_frame.locals stored (kinds.Ref f.class) within, descends_same schema sf f.class)
          by_local (inr apart) =
              subst (λ k. IsKept schema sf k (kind_at (set head.scope.kinds stored (kinds.Ref f.class)) i)) (sym (at_other first_frame.locals stored i (kinds.Ref f.class) apart))
              (subst (IsKept schema sf (kind_at first_frame.locals i)) (sym (at_other head.scope.kinds stored i (kinds.Ref f.class) apart)) (first_fits.2 i (ap is_free (sym (at_other head.scope.kinds stored i (kinds.Ref f.class) apart)) ∙ taken)))

  -- frames that are declared at the head
  pub to_head : (g : Frame) → Fitting g head.scope.kinds → target_due schema (Some g) (Here (length f.held.ops)) ≡ Ok tt
  unfolding fits_declared
  to_head g has = rw (declared_head, label_fits schema sf part code g head.scope.kinds sound_head.tidy.good has) refl

  pub on_head : (g : Frame) → Fitting g head.scope.kinds → on_due schema (Some g) (Here (length f.held.ops)) ≡ Ok tt
  unfolding fits_declared
  on_head g has = rw (declared_head, label_fits schema sf part code g head.scope.kinds sound_head.tidy.good has) refl

  -- where the body ends
  pub end_fits : (g : Frame) → Fitting g f.end.scope.kinds → Fitting g head.scope.kinds
  end_fits g has =
      let head_kinds = ap (λ (c : Scope). c.kinds) (acts.head_scope schema part loops name sequence body s t now sole f) in
      let r = acts.for_returns schema part loops name sequence body s t now sole f acted (are_named schema sf s sound.tidy) in
      let at_head = acts.head schema part loops name sequence body s t now sole f in
      let at_end = acts.ended schema part loops name sequence body s t now sole f acted in
      let l = acts.level_ended schema part loops name sequence body s t now sole f acted in (
        has.0,
        has.1,
        subst (Knows schema sf g.locals) (sym head_kinds)
            (knows_weaker schema sf g.locals at_end.kinds at_head.kinds (λ i taken. sym (r.agree i taken)) r.live
            (knows_left schema sf g.locals at_head.kinds (kinds_left f.inner.scope.kinds f.end.scope.kinds) (knows_left schema sf g.locals f.inner.scope.kinds f.end.scope.kinds has.2))),
      )
