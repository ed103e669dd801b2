-- What a `for` lays out: it only adds, and the head of its loop goes to the end.
use Rattle.std.proofs.Common.{◌≡◌, ℕ, zero, suc, ◌+◌, ◌<◌, ◌≤◌, Bool, true, false, List, [], ◌∷◌, ◌++◌, length, Some, refl, sym, ap, ◌∙◌, arith, append_assoc, length-append}
use Rattle.std.specs.Prelude.{max, slice_get}
use Rattle.std.proofs.Math.Nat.{le-max_left}
use Rattle.std.proofs.Math.Seq.{set-append_seam}
use Rattle.bb_code.specs.declared.parts.TheConstants.{STACK_LIMIT}
use Rattle.bb_code.specs.declared.frame.Loop.{Loop}
use Rattle.bb_code.specs.Code.{Code}
use Rattle.bb_verify_effect.specs.declared.part.Part.{Part}
use Rattle.bb_code.specs.declared.frame.Kind.TheVariants.{Ref}
use Rattle.bb_code.specs.declared.op.Op.{Op}
use Rattle.bb_code.specs.declared.op.Op.TheVariants as ops
use Rattle.bb_schema.specs.Schema.{Schema}
use Rattle.bb_lang.specs.Sequence.{Sequence}
use Rattle.bb_lang.specs.View.{sequence_of}
use Rattle.bb_lang.specs.Blocks.{BlockTree}
use Rattle.bb_compile_scope.specs.Scope.{mark_of}
use Rattle.bb_compile_buffer.specs.declared.buffer.Buffer.{Buffer}
use Rattle.bb_compile_buffer.specs.Buffers.{aimed_at, with_end, ended_at, labelled, leave, with_kinds}
use Rattle.bb_compile.specs.declared.looping.Begun.{Begun}
use Rattle.bb_compile.specs.Expressions.{sequence_code}
use Rattle.bb_compile.specs.Statements.{at_back, loop_closed}
use Rattle.bb_theorem_accepted.proofs.buffers.BufferLemmas.{Clean, Grown, Has, is_open, with_op, seam, grown_on, count_of}
use Rattle.bb_theorem_accepted.proofs.blocks.AimLemmas.{aimed_seam}
use Rattle.bb_theorem_accepted.proofs.straight.StoreLemmas.{declare_is, declared_on}
use Rattle.bb_theorem_accepted.proofs.buffers.GrownLemmas.{Adds}
use Rattle.bb_theorem_accepted.proofs.buffers.StayLemmas.{behind, keeps_ok, sequence_keeps}
use Rattle.bb_theorem_accepted.proofs.kinds.LabelLemmas.{labels_of, label_at}
use Rattle.bb_theorem_accepted.proofs.blocks.BlockLemmas.{Lays, LaysOne, same_labels, marks_before}
use Rattle.bb_theorem_accepted.proofs.blocks.LoopLaid.{SequenceLaid, HeadLaid, ForLaid}

-- the way back, by whether the body ended
pub back_same : (begun : Begun) (ended : Bool) (x : Buffer) → (let y = at_back begun ended x in (y.ops ≡ x.ops) × (y.texts ≡ x.texts) × (y.queries ≡ x.queries) × (y.loops ≡ x.loops) × (y.locals ≡ x.locals) × (y.flaw ≡ x.flaw))
unfolding labelled
back_same begun true x = (refl, refl, refl, refl, refl, refl)
back_same begun false x = (refl, refl, refl, refl, refl, refl)

-- labels before its end stay
pub back_marks : (begun : Begun) (ended : Bool) (x : Buffer) (p : ℕ) → p < length x.ops → label_at (labels_of (at_back begun ended x)) p ≡ label_at (labels_of x) p
unfolding labelled
back_marks begun false x p lt = refl
back_marks begun true x p lt = let y = with_kinds begun.start.kinds (leave begun.start x) in marks_before x (at_back begun true x) (length x.ops) p begun.start.kinds refl refl lt

pub labelled_marks : (x : Buffer) (p : ℕ) → p < length x.ops → label_at (labels_of (labelled x)) p ≡ label_at (labels_of x) p
unfolding labelled
labelled_marks x p lt = marks_before x (labelled x) (length x.ops) p x.scope.kinds refl refl lt

pub labelled_same : (x : Buffer) → (let y = labelled x in (y.ops ≡ x.ops) × (y.texts ≡ x.texts) × (y.queries ≡ x.queries) × (y.loops ≡ x.loops) × (y.locals ≡ x.locals) × (y.flaw ≡ x.flaw))
unfolding labelled
labelled_same x = (refl, refl, refl, refl, refl, refl)

-- what stands in a list also stands where one more comes after it, and what is open is aimed
put_has : (xs ys zs : List Op) (x y : Op) (i : ℕ) (op : Op) → is_open x ≡ true → is_open op ≡ false → slice_get (xs ++ x ∷ ys) i ≡ Some op → slice_get (xs ++ y ∷ (ys ++ zs)) i ≡ Some op
put_has [] ys zs x y zero op opens closed at = absurd (let e : x ≡ op = (let s : Some x ≡ Some op = at in cc) in let no : true ≡ false = sym opens ∙ (ap is_open e ∙ closed) in cc)
put_has [] ys zs x y (suc i) op opens closed at = behind ys i at
  where
    behind : (ys : List Op) (i : ℕ) → slice_get ys i ≡ Some op → slice_get (ys ++ zs) i ≡ Some op
    behind [] i at = absurd cc
    behind (z ∷ ys) zero at = at
    behind (z ∷ ys) (suc i) at = behind ys i at
put_has (z ∷ xs) ys zs x y zero op opens closed at = at
put_has (z ∷ xs) ys zs x y (suc i) op opens closed at = put_has xs ys zs x y i op opens closed at

module _ (schema : Schema) (part : Part) (loops : ℕ) (name : List ℕ) (sequence : Sequence) (body : BlockTree) (s t : Buffer) (now : Bool) (f : ForLaid schema part loops name sequence body s t now) where
  abbrev pub q : SequenceLaid schema sequence loops s f.held f.class f.local
  q = f.sequence_is

  abbrev pub hd : HeadLaid schema name f.class f.local body f.held f.inner f.begun
  hd = f.head_is

  abbrev pub next : Buffer
  next = with_op (ops.Next f.local 0) hd.head

  pub adds : Adds s q.behind
  adds = (keeps_ok behind s (sequence_code schema STACK_LIMIT (sequence_of sequence) s) (Some f.class, q.behind) q.code_is (sequence_keeps schema (sequence_of sequence) STACK_LIMIT s)).adds

  -- the name is declared
  abbrev pub stored : ℕ
  stored = (declare_is name (Ref f.class) next f.inner hd.declared).0

  pub inner_is : f.inner ≡ with_op (ops.Store stored) (declared_on name stored (Ref f.class) next)
  inner_is = (declare_is name (Ref f.class) next f.inner hd.declared).2

  -- ---- flaws

  head_flaw : hd.head.flaw ≡ f.held.flaw
  unfolding labelled
  head_flaw = ap (λ (x : Buffer). x.flaw) hd.head_is

  pub inner_clean : Clean f.inner
  inner_clean = ap (λ (x : Buffer). x.flaw) inner_is ∙ (head_flaw ∙ (ap (λ (x : Buffer). x.flaw) q.is ∙ q.clean))

  -- the end of the body, and what is put after it
  abbrev pub left : Buffer
  left = leave (mark_of f.inner.scope) f.end

  abbrev pub returned : Buffer
  returned = with_op (ops.Back f.begun.head) (at_back f.begun f.ended left)

  abbrev pub closed : Buffer
  closed = loop_closed f.begun returned

  pub for_clean : Clean f.end → Clean t
  for_clean clean =
      ap (λ (x : Buffer). x.flaw) f.is ∙ ((labelled_same (leave (mark_of s.scope) closed)).5 ∙ ((back_same f.begun f.ended left).5 ∙ clean))

  -- ---- ops

  abbrev pub after_head : List Op → List Op
  after_head more = (ops.Store stored ∷ more) ++ ops.Back f.begun.head ∷ []

  pub head_ops : hd.head.ops ≡ f.held.ops
  unfolding labelled
  head_ops = ap (λ (x : Buffer). x.ops) hd.head_is

  module _ (block : Lays f.inner f.end) where
    abbrev pub more : List Op
    more = block.grown.ops

    -- before the head goes to the end
    returned_ops : returned.ops ≡ hd.head.ops ++ ops.Next f.local 0 ∷ after_head more
    returned_ops =
        ap (λ l. l ++ ops.Back f.begun.head ∷ []) ((back_same f.begun f.ended left).0 ∙ (block.grown.ops_are ∙ ap (λ l. l ++ more) (ap (λ (x : Buffer). x.ops) inner_is)))
        ∙ (append_assoc ((hd.head.ops ++ ops.Next f.local 0 ∷ []) ++ ops.Store stored ∷ []) more (ops.Back f.begun.head ∷ [])
        ∙ (append_assoc (hd.head.ops ++ ops.Next f.local 0 ∷ []) (ops.Store stored ∷ []) (more ++ ops.Back f.begun.head ∷ []) ∙ append_assoc hd.head.ops (ops.Next f.local 0 ∷ []) (ops.Store stored ∷ (more ++ ops.Back f.begun.head ∷ []))))

    -- the place after the loop
    abbrev pub over : ℕ
    over = length returned.ops

    pub head_place : f.begun.head ≡ length hd.head.ops
    head_place = ap (λ (b : Begun). b.head) hd.begun_is

    closed_ops : closed.ops ≡ f.held.ops ++ ops.Next f.local over ∷ after_head more
    closed_ops =
        ap (λ n. aimed_at n returned.ops) head_place
        ∙ (ap (aimed_at (length hd.head.ops)) returned_ops
        ∙ (aimed_seam hd.head.ops (after_head more) (ops.Next f.local 0)
        ∙ (ap (λ l. hd.head.ops ++ ops.Next f.local (length l) ∷ after_head more) (sym returned_ops) ∙ ap (λ l. l ++ ops.Next f.local over ∷ after_head more) head_ops)))

    pub t_same : (t.ops ≡ closed.ops) × (t.texts ≡ closed.texts) × (t.queries ≡ closed.queries) × (t.loops ≡ closed.loops) × (t.locals ≡ closed.locals)
    t_same =
        let x = labelled_same (leave (mark_of s.scope) closed) in
        (ap (λ (y : Buffer). y.ops) f.is ∙ x.0, ap (λ (y : Buffer). y.texts) f.is ∙ x.1, ap (λ (y : Buffer). y.queries) f.is ∙ x.2, ap (λ (y : Buffer). y.loops) f.is ∙ x.3, ap (λ (y : Buffer). y.locals) f.is ∙ x.4)

    pub for_ops : t.ops ≡ f.held.ops ++ ops.Next f.local over ∷ after_head more
    for_ops = t_same.0 ∙ closed_ops

    pub held_ops : f.held.ops ≡ q.behind.ops ++ ops.Store f.local ∷ []
    held_ops = ap (λ (x : Buffer). x.ops) q.is

    pub ops_are : t.ops ≡ q.behind.ops ++ (ops.Store f.local ∷ ops.Next f.local over ∷ after_head more)
    ops_are = for_ops ∙ (ap (λ l. l ++ ops.Next f.local over ∷ after_head more) held_ops ∙ append_assoc q.behind.ops (ops.Store f.local ∷ []) (ops.Next f.local over ∷ after_head more))

    pub over_is : over ≡ length f.end.ops + 1
    over_is = length-append (at_back f.begun f.ended left).ops (ops.Back f.begun.head ∷ []) ∙ ap (λ l. length l + 1) (back_same f.begun f.ended left).0

    -- ---- the rest of the buffer

    pub inner_texts : f.inner.texts ≡ q.behind.texts
    unfolding labelled
    inner_texts = ap (λ (x : Buffer). x.texts) inner_is ∙ (ap (λ (x : Buffer). x.texts) hd.head_is ∙ ap (λ (x : Buffer). x.texts) q.is)

    pub inner_queries : f.inner.queries ≡ q.behind.queries
    unfolding labelled
    inner_queries = ap (λ (x : Buffer). x.queries) inner_is ∙ (ap (λ (x : Buffer). x.queries) hd.head_is ∙ ap (λ (x : Buffer). x.queries) q.is)

    held_loops : f.held.loops ≡ s.loops
    held_loops = ap (λ (x : Buffer). x.loops) q.is ∙ adds.loops

    abbrev begun_at : Loop
    begun_at = record { head = length f.held.ops; end = length f.held.ops }

    abbrev whole : Loop
    whole = record { head = length f.held.ops; end = over }

    inner_loops : f.inner.loops ≡ s.loops ++ begun_at ∷ []
    unfolding labelled
    inner_loops = ap (λ (x : Buffer). x.loops) inner_is ∙ (ap (λ (x : Buffer). x.loops) hd.head_is ∙ ap (λ l. l ++ begun_at ∷ []) held_loops)

    returned_loops : returned.loops ≡ s.loops ++ begun_at ∷ block.loops
    returned_loops = (back_same f.begun f.ended left).3 ∙ (block.loops_are ∙ (ap (λ l. l ++ block.loops) inner_loops ∙ append_assoc s.loops (begun_at ∷ []) block.loops))

    index_is : f.begun.index ≡ length s.loops
    index_is = ap (λ (b : Begun). b.index) hd.begun_is ∙ ap length held_loops

    pub length_aimed : length closed.ops ≡ over
    length_aimed =
        ap length closed_ops ∙ (length-append f.held.ops (ops.Next f.local over ∷ after_head more)
        ∙ (sym (length-append f.held.ops (ops.Next f.local 0 ∷ after_head more)) ∙ (ap (λ l. length (l ++ ops.Next f.local 0 ∷ after_head more)) (sym head_ops) ∙ ap length (sym returned_ops))))

    pub count_t : length t.ops ≡ over
    count_t = ap length t_same.0 ∙ length_aimed

    -- the loop is listed before those in its body
    pub for_loops : t.loops ≡ s.loops ++ whole ∷ block.loops
    for_loops =
        t_same.3
        ∙ (ap (λ n. ended_at n (length closed.ops) returned.loops) index_is
        ∙ (ap (λ n. ended_at (length s.loops) n returned.loops) length_aimed
        ∙ (ap (ended_at (length s.loops) over) returned_loops ∙ (ap (with_end (s.loops ++ begun_at ∷ block.loops) (length s.loops) over) (seam s.loops block.loops begun_at) ∙ set-append_seam s.loops begun_at block.loops whole))))

    unfoldable pub behind_grown : Grown q.behind t
    behind_grown = record {
      ops = ops.Store f.local ∷ ops.Next f.local over ∷ after_head more;
      ops_are = ops_are;
      texts = block.grown.texts;
      texts_are = t_same.1 ∙ ((back_same f.begun f.ended left).1 ∙ (block.grown.texts_are ∙ ap (λ l. l ++ block.grown.texts) inner_texts));
      queries = block.grown.queries;
      queries_are = t_same.2 ∙ ((back_same f.begun f.ended left).2 ∙ (block.grown.queries_are ∙ ap (λ l. l ++ block.grown.queries) inner_queries));
    }

    pub for_grown : Grown s t
    for_grown = grown_on s q.behind t adds.grown behind_grown

    -- ---- locals and labels

    pub for_locals : s.locals ≤ t.locals
    unfolding labelled
    for_locals =
        let one = adds.locals in
        let two : f.held.locals ≡ max q.behind.locals (f.local + 1) = ap (λ (x : Buffer). x.locals) q.is in
        let high = le-max_left q.behind.locals (f.local + 1) in
        let three : f.inner.locals ≡ max f.held.locals (stored + 1) = ap (λ (x : Buffer). x.locals) inner_is ∙ ap (λ (x : Buffer). max x.locals (stored + 1)) hd.head_is in
        let higher = le-max_left f.held.locals (stored + 1) in
        let four = block.locals in
        let five : t.locals ≡ f.end.locals = t_same.4 ∙ (back_same f.begun f.ended left).4 in
        omega (arith, one, two, high, three, higher, four, five)

    pub held_count : length f.held.ops ≡ length q.behind.ops + 1
    held_count = ap length held_ops ∙ length-append q.behind.ops (ops.Store f.local ∷ [])

    pub inner_count : length f.inner.ops ≡ length f.held.ops + 2
    inner_count =
        ap length (ap (λ (x : Buffer). x.ops) inner_is) ∙ (length-append (hd.head.ops ++ ops.Next f.local 0 ∷ []) (ops.Store stored ∷ [])
        ∙ (let one = length-append hd.head.ops (ops.Next f.local 0 ∷ []) in let two : length hd.head.ops ≡ length f.held.ops = ap length head_ops in omega (arith, one, two)))

    -- labels before the head
    pub head_marks : (p : ℕ) → p < length f.held.ops → label_at (labels_of f.inner) p ≡ label_at (labels_of s) p
    unfolding labelled
    head_marks p lt =
        ap (λ l. label_at l p) (same_labels hd.head f.inner (ap (λ (x : Buffer). x.labels) inner_is) (ap (λ (x : Buffer). x.last) inner_is))
        ∙ (marks_before f.held hd.head (length f.held.ops) p _ (ap (λ (x : Buffer). x.labels) hd.head_is) (ap (λ (x : Buffer). x.last) hd.head_is) lt
        ∙ ap (λ l. label_at l p) (same_labels s f.held (ap (λ (x : Buffer). x.labels) q.is ∙ adds.labels) (ap (λ (x : Buffer). x.last) q.is ∙ adds.last)))

    pub for_marks : (p : ℕ) → p ≤ length s.ops → label_at (labels_of t) p ≡ label_at (labels_of s) p
    for_marks p low =
        let more_s = count_of s q.behind adds.grown in
        let count_held = held_count in
        let count_inner = inner_count in
        let count_end = count_of f.inner f.end block.grown in
        let count_closed = length_aimed in
        let count_over = over_is in
        ap (λ (x : Buffer). label_at (labels_of x) p) f.is
        ∙ (labelled_marks (leave (mark_of s.scope) closed) p (omega (arith, low, more_s, count_held, count_inner, count_end, count_closed, count_over))
        ∙ (back_marks f.begun f.ended left p (omega (arith, low, more_s, count_held, count_inner, count_end))
        ∙ (block.marks p (omega (arith, low, more_s, count_held, count_inner)) (omega (arith, low, more_s, count_held, count_inner, count_end)) ∙ head_marks p (omega (arith, low, more_s, count_held)))))

    pub for_lays : LaysOne s t
    for_lays = record { grown = for_grown; loops = whole ∷ block.loops; loops_are = for_loops; locals = for_locals; marks = for_marks; clean = adds.clean q.clean }

    -- ---- a code that has it has what the body lays out

    end_ops : f.end.ops ≡ f.held.ops ++ ops.Next f.local 0 ∷ (ops.Store stored ∷ more)
    end_ops =
        block.grown.ops_are ∙ (ap (λ l. l ++ more) (ap (λ (x : Buffer). x.ops) inner_is)
        ∙ (append_assoc (hd.head.ops ++ ops.Next f.local 0 ∷ []) (ops.Store stored ∷ []) more
        ∙ (append_assoc hd.head.ops (ops.Next f.local 0 ∷ []) (ops.Store stored ∷ more) ∙ ap (λ l. l ++ ops.Next f.local 0 ∷ (ops.Store stored ∷ more)) head_ops)))

    pub end_has : (code : Code) → Has code t → Has code f.end
    end_has code has = record {
      ops = λ i op at closed.
          has.ops i op (ap (λ l. slice_get l i) for_ops ∙ put_has f.held.ops (ops.Store stored ∷ more) (ops.Back f.begun.head ∷ []) (ops.Next f.local 0) (ops.Next f.local over) i op refl closed (sym (ap (λ l. slice_get l i) end_ops) ∙ at)) closed;
      texts = has.texts;
      texts_are = has.texts_are ∙ ap (λ l. l ++ has.texts) (t_same.1 ∙ (back_same f.begun f.ended left).1);
      queries = has.queries;
      queries_are = has.queries_are ∙ ap (λ l. l ++ has.queries) (t_same.2 ∙ (back_same f.begun f.ended left).2);
    }
