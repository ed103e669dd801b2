-- What a `for` lays out, taken from what the compiler answers: its sequence, the head of the loop, its body, and the
-- way back.
use Rattle.std.proofs.Common.{◌≡◌, ℕ, ◌+◌, ◌-◌, Bool, false, List, [], ◌∷◌, ◌++◌, length, Option, Some, None, Ok, sym, ap, ◌∙◌}
use Rattle.std.specs.Prelude.{set, max, position, nat_le, ◌==◌}
use Rattle.bb_basis.specs.Results.{◌>>=◌, ok_or}
use Rattle.bb_basis.proofs.ResultLemmas.{bind_ok, guard_ok, same_ok, ok_or_ok}
use Rattle.bb_code.specs.declared.parts.TheConstants.{STACK_LIMIT, LOOP_LIMIT}
use Rattle.bb_verify_effect.specs.declared.part.Part.{Part}
use Rattle.bb_code.specs.declared.frame.Kind.TheVariants.{Ref, Seq}
use Rattle.bb_code.specs.declared.op.Op.TheVariants as ops
use Rattle.bb_schema.specs.Schema.{Schema}
use Rattle.bb_lang.specs.Sequence.{Sequence}
use Rattle.bb_lang.specs.View.{sequence_of}
use Rattle.bb_lang.specs.Blocks.{BlockTree, for_of}
use Rattle.bb_compile_scope.specs.Place.{Place}
use Rattle.bb_compile_scope.specs.declared.fault.CompileFault.TheVariants.{At}
use Rattle.bb_compile_scope.specs.declared.fault.TextFlaw.TheVariants.{Unknown, Limit}
use Rattle.bb_compile_scope.specs.Killed.{killed_under}
use Rattle.bb_compile_scope.specs.LocalKinds.{is_free}
use Rattle.bb_compile_scope.specs.Scope.{mark_of}
use Rattle.bb_compile_buffer.specs.declared.buffer.Buffer.{Buffer}
use Rattle.bb_compile_buffer.specs.Buffers.{settled, put, begun_loop, labelled, leave, taken, take_local, declare}
use Rattle.bb_compile.specs.declared.looping.Begun.{Begun}
use Rattle.bb_compile.specs.Expressions.{sequence_code}
use Rattle.bb_compile.specs.Statements.{loop_noted, for_code, loop_begun, at_back, loop_closed, loop_ended, left, statement_code, statements_code}
use Rattle.bb_theorem_accepted.proofs.buffers.BufferLemmas.{Clean, with_op, not_failed, put_ok}
use Rattle.bb_theorem_accepted.proofs.buffers.PutLemmas.{pair_ok}
use Rattle.bb_theorem_accepted.proofs.blocks.BranchLemmas.{settled_clean}

-- a local holds the sequence
abbrev pub with_sequence : (class local : ℕ) → Buffer → Buffer
with_sequence class local s = record s { scope = record { names = s.scope.names; kinds = set s.scope.kinds local (Seq class) }; locals = max s.locals (local + 1) }

-- the sequence, before the head of the loop
pub record SequenceLaid (schema : Schema) (sequence : Sequence) (loops : ℕ) (s held : Buffer) (class local : ℕ) : Type 0 where
  pub behind : Buffer
  pub code_is : sequence_code schema STACK_LIMIT (sequence_of sequence) s ≡ Ok (Some class, behind)
  pub clean : Clean behind
  pub deep : (loops == 0) ≡ false
  pub free : position is_free behind.scope.kinds ≡ Some local
  pub is : held ≡ with_op (ops.Store local) (with_sequence class local behind)

taken_is : (o : Option ℕ) (class local : ℕ) (s t : Buffer) → taken o (Seq class) s ≡ Ok (local, t) → (o ≡ Some local) × (t ≡ with_sequence class local s)
taken_is None class local s t h = absurd cc
taken_is (Some l) class local s t h =
    let same = pair_ok l local (with_sequence class l s) t h in
    (ap (λ n. Some n) same.0, sym same.1 ∙ ap (λ n. with_sequence class n s) same.0)

pub sequence_laid : (schema : Schema) (sequence : Sequence) (place : Place) (loops : ℕ) (s held : Buffer) (class local : ℕ) → for_code schema sequence place loops s ≡ Ok ((class, local), held) → SequenceLaid schema sequence loops s held class local
unfolding for_code take_local
sequence_laid schema sequence place loops s held class local h =
    let one = bind_ok (sequence_code schema STACK_LIMIT (sequence_of sequence) s)
    (λ p. settled place (loop_noted loops p.1) >>= λ _. ok_or p.0 (At Unknown place) >>= λ c. take_local (Seq c) (loop_noted loops p.1) >>= λ q. put (ops.Store q.0) q.1 >>= λ v. Ok ((c, q.0), v)) ((class, local), held) h in
    let a = one.0.1 in
    let two = bind_ok (settled place (loop_noted loops a)) (λ _. ok_or one.0.0 (At Unknown place) >>= λ c. take_local (Seq c) (loop_noted loops a) >>= λ q. put (ops.Store q.0) q.1 >>= λ v. Ok ((c, q.0), v)) ((class, local), held) one.2 in
    let three = bind_ok (ok_or one.0.0 (At Unknown place)) (λ c. take_local (Seq c) (loop_noted loops a) >>= λ q. put (ops.Store q.0) q.1 >>= λ v. Ok ((c, q.0), v)) ((class, local), held) two.2 in
    let c = three.0 in
    let four = bind_ok (take_local (Seq c) (loop_noted loops a)) (λ q. put (ops.Store q.0) q.1 >>= λ v. Ok ((c, q.0), v)) ((class, local), held) three.2 in
    let l = four.0.0 in
    let five = bind_ok (put (ops.Store l) four.0.1) (λ v. Ok ((c, l), v)) ((class, local), held) four.2 in
    let same = pair_ok (c, l) (class, local) five.0 held five.2 in
    let class_is : c ≡ class = ap (λ (p : ℕ × ℕ). p.0) same.0 in
    let local_is : l ≡ local = ap (λ (p : ℕ × ℕ). p.1) same.0 in
    let noted_clean : Clean (loop_noted loops a) = settled_clean place (loop_noted loops a).flaw two.0 two.1 in
    let deep = not_failed (loops == 0) Limit a noted_clean in
    let took = taken_is (position is_free (loop_noted loops a).scope.kinds) c l (loop_noted loops a) four.0.1 four.1 in
    let found : one.0.0 ≡ Some c = ok_or_ok (At Unknown place) one.0.0 c three.1 in
    record {
      behind = a;
      code_is = one.1 ∙ ap (λ o. Ok (o, a)) (found ∙ ap (λ n. Some n) class_is);
      clean = ap (λ (x : Buffer). x.flaw) (sym deep.1) ∙ noted_clean;
      deep = deep.0;
      free = ap (λ (x : Buffer). position is_free x.scope.kinds) (sym deep.1) ∙ (took.0 ∙ ap (λ n. Some n) local_is);
      is = sym same.1 ∙ (put_ok (ops.Store l) four.0.1 five.0 five.1 ∙ (ap (with_op (ops.Store l)) (took.1 ∙ ap (with_sequence c l) deep.1) ∙ (ap (λ n. with_op (ops.Store l) (with_sequence n l a)) class_is ∙ ap (λ n. with_op (ops.Store n) (with_sequence class n a)) local_is)));
    }

-- ---- the head

-- where a loop begins: its body may take what is live on from here
abbrev pub at_head : Schema → (name : List ℕ) → (class : ℕ) → BlockTree → Buffer → Buffer
at_head schema name class body held =
    let s = labelled (record held { scope = killed_under schema held.scope name (Some class) body }) in
    record s { loops = s.loops ++ record { head = length s.ops; end = length s.ops } ∷ [] }

-- what is kept of a loop until its end
abbrev pub kept_of : (held head : Buffer) → Begun
kept_of held head = record { index = length held.loops; head = length head.ops; start = mark_of head.scope }

pub record HeadLaid (schema : Schema) (name : List ℕ) (class local : ℕ) (body : BlockTree) (held inner : Buffer) (begun : Begun) : Type 0 where
  pub head : Buffer
  pub head_is : head ≡ at_head schema name class body held
  pub begun_is : begun ≡ kept_of held head
  pub declared : declare name (Ref class) (with_op (ops.Next local 0) head) ≡ Ok inner

pub head_laid : (schema : Schema) (name : List ℕ) (class local : ℕ) (body : BlockTree) (held inner : Buffer) (begun : Begun) → loop_begun schema name class local body held ≡ Ok (begun, inner) → HeadLaid schema name class local body held inner begun
unfolding loop_begun begun_loop labelled
head_laid schema name class local body held inner begun h =
    let s = labelled (record held { scope = killed_under schema held.scope name (Some class) body }) in
    let one = bind_ok (begun_loop s) (λ p. put (ops.Next local 0) p.1 >>= λ u. declare name (Ref class) u >>= λ v. Ok (record { index = p.0; head = length p.1.ops; start = mark_of p.1.scope }, v)) (begun, inner) h in
    let t = one.0.1 in
    let two = bind_ok (put (ops.Next local 0) t) (λ u. declare name (Ref class) u >>= λ v. Ok (record { index = one.0.0; head = length t.ops; start = mark_of t.scope }, v)) (begun, inner) one.2 in
    let three = bind_ok (declare name (Ref class) two.0) (λ v. Ok (record { index = one.0.0; head = length t.ops; start = mark_of t.scope }, v)) (begun, inner) two.2 in
    let same = pair_ok (record { index = one.0.0; head = length t.ops; start = mark_of t.scope }) begun three.0 inner three.2 in
    let put_is = put_ok (ops.Next local 0) t two.0 two.1 in
    let begin = pair_ok (length s.loops) one.0.0 (at_head schema name class body held) t (guard_ok (nat_le LOOP_LIMIT (length s.loops)) (At Limit s.start) (Ok (length s.loops, at_head schema name class body held)) one.0 one.1).1 in
    record {
      head = t;
      head_is = sym begin.1;
      begun_is = sym same.0 ∙ ap (λ n. record { index = n; head = length t.ops; start = mark_of t.scope }) (sym begin.0);
      declared = ap (declare name (Ref class)) (sym put_is) ∙ (three.1 ∙ ap (λ x. Ok x) same.1);
    }

-- ---- the whole

module _ (schema : Schema) (part : Part) (loops : ℕ) where
  pub record ForLaid (name : List ℕ) (sequence : Sequence) (body : BlockTree) (s t : Buffer) (now : Bool) : Type 0 where
    pub class : ℕ
    pub local : ℕ
    pub held : Buffer
    pub sequence_is : SequenceLaid schema sequence loops s held class local
    pub begun : Begun
    pub inner : Buffer
    pub head_is : HeadLaid schema name class local body held inner begun
    pub ended : Bool
    pub end : Buffer
    pub block_is : statements_code schema part (loops - 1) false body inner ≡ Ok (ended, end)
    pub now_is : now ≡ false
    pub is : t ≡ labelled (leave (mark_of s.scope) (loop_closed begun (with_op (ops.Back begun.head) (at_back begun ended (leave (mark_of inner.scope) end)))))

  pub for_laid : (place : Place) (name : List ℕ) (sequence : Sequence) (body : BlockTree) (s t : Buffer) (now : Bool) → statement_code schema part loops place (for_of name sequence body) s ≡ Ok (now, t) → ForLaid name sequence body s t now
  unfolding statement_code loop_ended
  for_laid place name sequence body s t now h =
      let one = bind_ok (for_code schema sequence place loops s)
      (λ p. loop_begun schema name p.0.0 p.0.1 body p.1 >>= λ q. (statements_code schema part (loops - 1) false body q.1 >>= left (mark_of q.1.scope)) >>= λ r. loop_ended q.0 r.0 r.1 >>= λ w. Ok (false, labelled (leave (mark_of s.scope) w))) (now, t) h in
      let class = one.0.0.0 in
      let local = one.0.0.1 in
      let held = one.0.1 in
      let two = bind_ok (loop_begun schema name class local body held)
      (λ q. (statements_code schema part (loops - 1) false body q.1 >>= left (mark_of q.1.scope)) >>= λ r. loop_ended q.0 r.0 r.1 >>= λ w. Ok (false, labelled (leave (mark_of s.scope) w))) (now, t) one.2 in
      let begun = two.0.0 in
      let inner = two.0.1 in
      let three = bind_ok (statements_code schema part (loops - 1) false body inner >>= left (mark_of inner.scope)) (λ r. loop_ended begun r.0 r.1 >>= λ w. Ok (false, labelled (leave (mark_of s.scope) w))) (now, t) two.2 in
      let four = bind_ok (statements_code schema part (loops - 1) false body inner) (left (mark_of inner.scope)) three.0 three.1 in
      let left_is = pair_ok four.0.0 three.0.0 (leave (mark_of inner.scope) four.0.1) three.0.1 four.2 in
      let five = bind_ok (loop_ended begun three.0.0 three.0.1) (λ w. Ok (false, labelled (leave (mark_of s.scope) w))) (now, t) three.2 in
      let six = bind_ok (put (ops.Back begun.head) (at_back begun three.0.0 three.0.1)) (λ x. Ok (loop_closed begun x)) five.0 five.1 in
      let same = pair_ok false now (labelled (leave (mark_of s.scope) five.0)) t five.2 in
      let put_is = put_ok (ops.Back begun.head) (at_back begun three.0.0 three.0.1) six.0 six.1 in
      let back_is : at_back begun three.0.0 three.0.1 ≡ at_back begun four.0.0 (leave (mark_of inner.scope) four.0.1) = ap (λ e. at_back begun e three.0.1) (sym left_is.0) ∙ ap (at_back begun four.0.0) (sym left_is.1) in
      record {
        class = class;
        local = local;
        held = held;
        sequence_is = sequence_laid schema sequence place loops s held class local one.1;
        begun = begun;
        inner = inner;
        head_is = head_laid schema name class local body held inner begun two.1;
        ended = four.0.0;
        end = four.0.1;
        block_is = four.1;
        now_is = sym same.0;
        is = sym same.1 ∙ ap (λ x. labelled (leave (mark_of s.scope) x)) (sym (same_ok (loop_closed begun six.0) five.0 six.2) ∙ ap (loop_closed begun) (put_is ∙ ap (with_op (ops.Back begun.head)) back_is));
      }
