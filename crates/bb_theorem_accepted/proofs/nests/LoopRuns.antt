-- What a `for` lays out, gathered for crates that execute its code: the ops of its loop at their places, and what its
-- scope keeps.
use Rattle.std.proofs.Common.{◌≡◌, ℕ, ◌+◌, ◌-◌, ◌≤◌, Bool, false, List, length, Some, ap, ◌∙◌}
use Rattle.std.specs.Prelude.{slice_get, position}
use Rattle.bb_code.specs.Code.{Code}
use Rattle.bb_verify_effect.specs.declared.part.Part.{Part}
use Rattle.bb_code.specs.declared.op.Op.TheVariants as ops
use Rattle.bb_schema.specs.Schema.{Schema}
use Rattle.bb_lang.specs.Sequence.{Sequence}
use Rattle.bb_lang.specs.Blocks.{BlockTree}
use Rattle.bb_compile_scope.specs.LocalKinds.{is_free, kind_at}
use Rattle.bb_compile_scope.specs.declared.scope.Scope.{Scope}
use Rattle.bb_compile_buffer.specs.declared.buffer.Buffer.{Buffer}
use Rattle.bb_theorem_accepted.proofs.buffers.BufferLemmas.{Clean, Grown, Has}
use Rattle.bb_theorem_accepted.proofs.sparing.ForActs as acts
use Rattle.bb_theorem_accepted.proofs.blocks.ForLays as lays
use Rattle.bb_theorem_accepted.proofs.kinds.KnowLemmas.{taken_on}
use Rattle.bb_theorem_accepted.proofs.blocks.LoopLaid.{ForLaid}
use Rattle.bb_theorem_accepted.proofs.kinds.MoveLemmas.{Sole}
use Rattle.bb_theorem_accepted.proofs.nests.NestFor as nests
use Rattle.bb_theorem_accepted.proofs.nests.NestLemmas.{Each, Inside}
use Rattle.bb_theorem_accepted.proofs.nests.NestTexts.{block_nests}
use Rattle.bb_theorem_accepted.proofs.sparing.TextActs.{block_acts}
use Rattle.bb_theorem_accepted.proofs.blocks.TextLays.{block_lays}

module _ (code : Code) (schema : Schema) (part : Part) (loops : ℕ) (name : List ℕ) (sequence : Sequence) (body : BlockTree) (s t : Buffer) (now : Bool) (f : ForLaid schema part loops name sequence body s t now) where
  abbrev before : Buffer
  before = f.sequence_is.behind

  abbrev head : Buffer
  head = f.head_is.head

  pub record LoopRuns : Type 0 where
    -- what the code has
    pub behind : Grown before t
    pub has_before : Has code before
    pub has_inner : Has code f.inner
    pub has_end : Has code f.end
    -- places, up to the one after the loop
    pub over : ℕ
    pub low : length s.ops ≤ length before.ops
    pub held : length f.held.ops ≡ length before.ops + 1
    pub head_count : length head.ops ≡ length f.held.ops
    pub inner : length f.inner.ops ≡ length f.held.ops + 2
    pub within : length f.inner.ops ≤ length f.end.ops
    pub end : over ≡ length f.end.ops + 1
    pub whole : length t.ops ≡ over
    pub at_store : slice_get code.ops (length before.ops) ≡ Some (ops.Store f.local)
    pub at_head : slice_get code.ops (length f.held.ops) ≡ Some (ops.Next f.local over)
    pub at_back : slice_get code.ops (length f.end.ops) ≡ Some (ops.Back (length f.held.ops))
    -- the local of the sequence is taken by no op of the body
    pub inside : Each code (length f.held.ops + 1) over (λ p op. Inside f.local over op)
    -- scopes
    pub scope_before : before.scope ≡ s.scope
    pub free : position is_free s.scope.kinds ≡ Some f.local
    pub head_names : head.scope.names ≡ s.scope.names
    pub head_keeps : (i : ℕ) → is_free (kind_at s.scope.kinds i) ≡ false → is_free (kind_at head.scope.kinds i) ≡ false

  pub loop_runs : Sole s.scope.kinds s.scope.names → Has code t → LoopRuns
  loop_runs sole has =
      let block = block_lays schema part body (loops - 1) false f.ended f.inner f.end f.block_is in
      let inner = acts.sole_inner schema part loops name sequence body s t now sole f in
      let own_has = lays.end_has schema part loops name sequence body s t now f block code has in
      let own = block_nests code schema part body (loops - 1) false f.ended f.inner f.end f.block_is inner own_has in
      let counts = nests.counts code schema part loops name sequence body s t now sole f block has own in
      let level = acts.level_head schema part loops name sequence body s t now sole f in
      let scope = acts.head_scope schema part loops name sequence body s t now sole f in
      record {
        behind = lays.behind_grown schema part loops name sequence body s t now f block;
        has_before = nests.has_before_loop code schema part loops name sequence body s t now sole f block has own;
        has_inner = nests.has_inner code schema part loops name sequence body s t now sole f block has own;
        has_end = own_has;
        over = lays.over schema part loops name sequence body s t now f block;
        low = counts.0;
        held = counts.1;
        head_count = ap length (lays.head_ops schema part loops name sequence body s t now f);
        inner = counts.2;
        within = counts.3;
        end = counts.4;
        whole = counts.5;
        at_store = nests.sequence_at code schema part loops name sequence body s t now sole f block has own;
        at_head = nests.head_at code schema part loops name sequence body s t now sole f block has own;
        at_back = nests.back_at code schema part loops name sequence body s t now sole f block has own;
        inside = nests.inside code schema part loops name sequence body s t now sole f block has own;
        scope_before = acts.sequence_keeps_scope schema part loops name sequence body s t now sole f;
        free = acts.free schema part loops name sequence body s t now sole f;
        head_names = ap (λ (c : Scope). c.names) scope ∙ (level.names ∙ acts.names_held schema part loops name sequence body s t now sole f);
        head_keeps = λ i taken.
            let was = acts.held schema part loops name sequence body s t now sole f in
            let there = acts.head schema part loops name sequence body s t now sole f in
            let one = taken_on (kind_at s.scope.kinds i) (kind_at was.kinds i) (acts.agree_held schema part loops name sequence body s t now sole f i taken) taken in
            ap (λ (c : Scope). is_free (kind_at c.kinds i)) scope ∙ taken_on (kind_at was.kinds i) (kind_at there.kinds i) (level.agree i one) one;
      }

-- what it lays out comes after what there was, and its scope has the names and the free locals that there were
module _ (schema : Schema) (part : Part) (loops : ℕ) (name : List ℕ) (sequence : Sequence) (body : BlockTree) (s t : Buffer) (now : Bool) (f : ForLaid schema part loops name sequence body s t now) where
  pub loop_grown : Grown s t
  loop_grown = lays.for_grown schema part loops name sequence body s t now f (block_lays schema part body (loops - 1) false f.ended f.inner f.end f.block_is)

  pub record LoopKeeps : Type 0 where
    pub names : t.scope.names ≡ s.scope.names
    pub free : (i : ℕ) → is_free (kind_at t.scope.kinds i) ≡ is_free (kind_at s.scope.kinds i)

  pub loop_keeps : Sole s.scope.kinds s.scope.names → LoopKeeps
  loop_keeps sole =
      let inner = acts.sole_inner schema part loops name sequence body s t now sole f in
      let acted = block_acts schema part body (loops - 1) false f.ended f.inner f.end f.block_is inner in
      let level = (acts.for_acts schema part loops name sequence body s t now sole f acted).level in
      record { names = level.names; free = level.free }

  pub loop_clean : Clean s
  loop_clean = (lays.adds schema part loops name sequence body s t now f).clean f.sequence_is.clean

  pub inner_clean : Clean f.inner
  inner_clean = lays.inner_clean schema part loops name sequence body s t now f

  -- what has it has the body
  pub loop_has : (code : Code) → Has code t → Has code f.end
  loop_has code has = lays.end_has schema part loops name sequence body s t now f (block_lays schema part body (loops - 1) false f.ended f.inner f.end f.block_is) code has
