-- What an `if` and a `with` lay out, taken from what the compiler answers: the test, the blocks, and the jumps around
-- them, which are aimed after they were put.
use Rattle.std.proofs.Common.{◌≡◌, ◌⊎◌, inl, inr, ℕ, Bool, true, false, cond, ◌&&◌, List, length, Option, Some, None, Ok, refl, subst, sym, ap, ◌∙◌}
use Rattle.bb_basis.specs.Results.{◌>>=◌}
use Rattle.bb_basis.proofs.ResultLemmas.{bind_ok}
use Rattle.bb_code.specs.declared.parts.TheConstants.{STACK_LIMIT}
use Rattle.bb_verify_effect.specs.declared.part.Part.{Part}
use Rattle.bb_code.specs.declared.frame.Kind.{Kind}
use Rattle.bb_code.specs.declared.frame.Kind.TheVariants.{Bool as Truth}
use Rattle.bb_code.specs.declared.op.Op.TheVariants as ops
use Rattle.bb_schema.specs.Schema.{Schema}
use Rattle.bb_lang.specs.Binding.{Binding}
use Rattle.bb_lang.specs.Blocks.{BlockTree, OtherwiseTree, if_of, with_of, absent, otherwise}
use Rattle.bb_lang.specs.Trees.{ExprTree}
use Rattle.bb_compile_scope.specs.Place.{Place}
use Rattle.bb_compile_scope.specs.declared.fault.TextFlaw.{TextFlaw}
use Rattle.bb_compile_scope.specs.declared.scope.Mark.{Mark}
use Rattle.bb_compile_scope.specs.LocalKinds.{kinds_met}
use Rattle.bb_compile_scope.specs.Scope.{mark_of, back_to}
use Rattle.bb_compile_buffer.specs.declared.buffer.Buffer.{Buffer}
use Rattle.bb_compile_buffer.specs.Buffers.{due, settled, refused_at, put, aim, kept, labelled, with_kinds, leave, met}
use Rattle.bb_compile_buffer.specs.Operations.{Made}
use Rattle.bb_compile.specs.declared.branches.Branch.{Branch}
use Rattle.bb_compile.specs.declared.exits.Exits.{Exits}
use Rattle.bb_compile.specs.Bindings.{one_exit, exits_aimed}
use Rattle.bb_compile.specs.Expressions.{expr_code}
use Rattle.bb_compile.specs.Statements.{if_code, with_code, left, else_begun, else_ended, if_ended, statement_code, otherwise_code, statements_code}
use Rattle.bb_theorem_accepted.proofs.buffers.BufferLemmas.{Clean, with_op, is_due, put_ok}
use Rattle.bb_theorem_accepted.proofs.buffers.PutLemmas.{pair_ok, clean_before}
use Rattle.bb_theorem_accepted.proofs.blocks.AimLemmas.{aims_on}

pub settled_clean : (place : Place) (o : Option TextFlaw) (u : Unit {0}) → refused_at place o ≡ Ok u → o ≡ None
settled_clean place None u h = refl
settled_clean place (Some flaw) u h = absurd cc

-- ---- the test of an `if`

pub record TestLaid (schema : Schema) (test : ExprTree) (s u : Buffer) (exits : Exits) : Type 0 where
  pub made : Made
  pub behind : Buffer
  pub code_is : expr_code schema STACK_LIMIT test s ≡ Ok (made, behind)
  pub due_clean : Clean (due made Truth behind)
  pub put_is : u ≡ with_op (ops.Unless 0) behind
  pub clean : Clean u
  pub exits_are : exits ≡ one_exit (length behind.ops)

pub test_laid : (schema : Schema) (test : ExprTree) (place : Place) (s u : Buffer) (exits : Exits) → if_code schema test place s ≡ Ok (exits, u) → TestLaid schema test s u exits
unfolding if_code
test_laid schema test place s u exits h =
    let one = bind_ok (expr_code schema STACK_LIMIT test s) (λ p. put (ops.Unless 0) (due p.0 Truth p.1) >>= λ x. settled place x >>= λ _. Ok (one_exit (length p.1.ops), x)) (exits, u) h in
    let made = one.0.0 in
    let a = one.0.1 in
    let two = bind_ok (put (ops.Unless 0) (due made Truth a)) (λ x. settled place x >>= λ _. Ok (one_exit (length a.ops), x)) (exits, u) one.2 in
    let three = bind_ok (settled place two.0) (λ _. Ok (one_exit (length a.ops), two.0)) (exits, u) two.2 in
    let same = pair_ok (one_exit (length a.ops)) exits two.0 u three.2 in
    let clean : Clean u = ap (λ (x : Buffer). x.flaw) (sym same.1) ∙ settled_clean place two.0.flaw three.0 three.1 in
    let noted_put : u ≡ with_op (ops.Unless 0) (due made Truth a) = sym same.1 ∙ put_ok (ops.Unless 0) (due made Truth a) two.0 two.1 in
    let due_clean = clean_before (ops.Unless 0) (due made Truth a) u noted_put clean in
    record {
      made = made;
      behind = a;
      code_is = one.1;
      due_clean = due_clean;
      put_is = noted_put ∙ ap (with_op (ops.Unless 0)) (is_due made Truth a due_clean);
      clean = clean;
      exits_are = sym same.0;
    }

-- ---- the blocks

module _ (schema : Schema) (part : Part) (loops : ℕ) where
  -- the first block, and what comes after it
  pub record BlocksLaid (before : Mark) (exits : Exits) (first : BlockTree) (other : OtherwiseTree) (u t : Buffer) (now : Bool) : Type 0 where
    pub ended : Bool
    pub end : Buffer
    pub block_is : statements_code schema part loops false first u ≡ Ok (ended, end)
    pub rest : otherwise_code schema part loops (record { before = before; exits = exits; ended = ended }) other (leave before (leave (mark_of u.scope) end)) ≡ Ok (now, t)

  pub record IfLaid (test : ExprTree) (first : BlockTree) (other : OtherwiseTree) (s t : Buffer) (now : Bool) : Type 0 where
    pub exits : Exits
    pub inner : Buffer
    pub test_is : TestLaid schema test s inner exits
    pub blocks : BlocksLaid (mark_of inner.scope) exits first other inner t now

  -- after the name that a `with` declares
  pub record WithLaid (binding : Binding) (place : Place) (first : BlockTree) (other : OtherwiseTree) (s t : Buffer) (now : Bool) : Type 0 where
    pub exits : Exits
    pub inner : Buffer
    pub test_is : with_code schema binding place s ≡ Ok (exits, inner)
    pub blocks : BlocksLaid (mark_of s.scope) exits first other inner t now

  -- the blocks after a test, before which the scope had this mark
  blocks_laid : (before : Mark) (exits : Exits) (first : BlockTree) (other : OtherwiseTree) (u t : Buffer) (now : Bool)
      → ((statements_code schema part loops false first u >>= left (mark_of u.scope)) >>= λ q. otherwise_code schema part loops (record { before = before; exits = exits; ended = q.0 }) other (leave before q.1)) ≡ Ok (now, t)
      → BlocksLaid before exits first other u t now
  blocks_laid before exits first other u t now h =
      let two = bind_ok (statements_code schema part loops false first u >>= left (mark_of u.scope)) (λ q. otherwise_code schema part loops (record { before = before; exits = exits; ended = q.0 }) other (leave before q.1)) (now, t) h in
      let three = bind_ok (statements_code schema part loops false first u) (left (mark_of u.scope)) two.0 two.1 in
      let same = pair_ok three.0.0 two.0.0 (leave (mark_of u.scope) three.0.1) two.0.1 three.2 in
      record {
        ended = three.0.0;
        end = three.0.1;
        block_is = three.1;
        rest = ap (λ w. otherwise_code schema part loops (record { before = before; exits = exits; ended = three.0.0 }) other (leave before w)) same.1
            ∙ (ap (λ e. otherwise_code schema part loops (record { before = before; exits = exits; ended = e }) other (leave before two.0.1)) same.0 ∙ two.2);
      }

  pub if_laid : (place : Place) (test : ExprTree) (first : BlockTree) (other : OtherwiseTree) (s t : Buffer) (now : Bool) → statement_code schema part loops place (if_of test first other) s ≡ Ok (now, t) → IfLaid test first other s t now
  unfolding statement_code
  if_laid place test first other s t now h =
      let one = bind_ok (if_code schema test place s)
      (λ p. (statements_code schema part loops false first p.1 >>= left (mark_of p.1.scope)) >>= λ q. otherwise_code schema part loops (record { before = mark_of p.1.scope; exits = p.0; ended = q.0 }) other (leave (mark_of p.1.scope) q.1)) (now, t) h in
      record { exits = one.0.0; inner = one.0.1; test_is = test_laid schema test place s one.0.1 one.0.0 one.1; blocks = blocks_laid (mark_of one.0.1.scope) one.0.0 first other one.0.1 t now one.2 }

  pub with_laid : (place : Place) (binding : Binding) (first : BlockTree) (other : OtherwiseTree) (s t : Buffer) (now : Bool) → statement_code schema part loops place (with_of binding first other) s ≡ Ok (now, t) → WithLaid binding place first other s t now
  unfolding statement_code
  with_laid place binding first other s t now h =
      let one = bind_ok (with_code schema binding place s)
      (λ p. (statements_code schema part loops false first p.1 >>= left (mark_of p.1.scope)) >>= λ q. otherwise_code schema part loops (record { before = mark_of s.scope; exits = p.0; ended = q.0 }) other (leave (mark_of s.scope) q.1)) (now, t) h in
      record { exits = one.0.0; inner = one.0.1; test_is = one.1; blocks = blocks_laid (mark_of s.scope) one.0.0 first other one.0.1 t now one.2 }

-- ---- what is laid out last

-- another buffer has the same but for its scope and labels
pub record Alike (s t : Buffer) : Type 0 where
  pub ops : t.ops ≡ s.ops
  pub texts : t.texts ≡ s.texts
  pub queries : t.queries ≡ s.queries
  pub loops : t.loops ≡ s.loops
  pub locals : t.locals ≡ s.locals
  pub flaw : t.flaw ≡ s.flaw

-- ops from a place on are the exits of a test
abbrev pub AreExits : Exits → (at count : ℕ) → Type 0
AreExits exits at count = (w : Buffer) → exits_aimed exits w ≡ aims_on at count w

-- without `else` the exits go to the end
pub record AbsentLaid (before : Mark) (at count : ℕ) (ended : Bool) (w t : Buffer) (now : Bool) : Type 0 where
  pub now_is : now ≡ false
  pub alike : Alike (aims_on at count w) t
  pub names : t.scope.names ≡ w.scope.names
  pub kinds : t.scope.kinds ≡ cond ended before.kinds (kinds_met before.kinds w.scope.kinds)
  pub labels : t.labels ≡ kept w.labels w.last (length (aims_on at count w).ops)
  pub last : t.last ≡ Some (record { place = length (aims_on at count w).ops; kinds = t.scope.kinds })

-- an `else`, before it is known whether the first block ended
pub record ElseLaid (schema : Schema) (part : Part) (loops : ℕ) (branch : Branch) (b : BlockTree) (w t : Buffer) (now : Bool) : Type 0 where
  pub jump : ℕ
  pub inner : Buffer
  pub ended : Bool
  pub end : Buffer
  pub begun : else_begun branch w ≡ Ok (jump, inner)
  pub block_is : statements_code schema part loops false b inner ≡ Ok (ended, end)
  pub now_is : now ≡ (branch.ended && ended)
  pub is : t ≡ else_ended branch jump w.scope.kinds ended (leave (mark_of inner.scope) end)

module _ (schema : Schema) (part : Part) (loops : ℕ) where
  pub absent_laid : (before : Mark) (exits : Exits) (at count : ℕ) → AreExits exits at count → (ended : Bool) (w t : Buffer) (now : Bool) → otherwise_code schema part loops (record { before = before; exits = exits; ended = ended }) absent w ≡ Ok (now, t)
      → AbsentLaid before at count ended w t now
  unfolding otherwise_code if_ended met labelled
  absent_laid before exits at count are true w t now h =
      let same = pair_ok false now (labelled (with_kinds before.kinds (exits_aimed exits w))) t h in
      subst (λ x. AbsentLaid before at count true w x now) (ap (λ x. labelled (with_kinds before.kinds x)) (sym (are w)) ∙ same.1)
      (record { now_is = sym same.0; alike = record { ops = refl; texts = refl; queries = refl; loops = refl; locals = refl; flaw = refl }; names = refl; kinds = refl; labels = refl; last = refl })
  absent_laid before exits at count are false w t now h =
      let same = pair_ok false now (labelled (with_kinds (kinds_met before.kinds (exits_aimed exits w).scope.kinds) (exits_aimed exits w))) t h in
      subst (λ x. AbsentLaid before at count false w x now) (ap (λ (x : Buffer). labelled (with_kinds (kinds_met before.kinds x.scope.kinds) x)) (sym (are w)) ∙ same.1)
      (record { now_is = sym same.0; alike = record { ops = refl; texts = refl; queries = refl; loops = refl; locals = refl; flaw = refl }; names = refl; kinds = refl; labels = refl; last = refl })

  pub else_laid : (branch : Branch) (b : BlockTree) (w t : Buffer) (now : Bool) → otherwise_code schema part loops branch (otherwise b) w ≡ Ok (now, t) → ElseLaid schema part loops branch b w t now
  unfolding otherwise_code
  else_laid branch b w t now h =
      let one = bind_ok (else_begun branch w) (λ p. (statements_code schema part loops false b p.1 >>= left (mark_of p.1.scope)) >>= λ q. Ok (branch.ended && q.0, else_ended branch p.0 w.scope.kinds q.0 q.1)) (now, t) h in
      let x = one.0.1 in
      let two = bind_ok (statements_code schema part loops false b x >>= left (mark_of x.scope)) (λ q. Ok (branch.ended && q.0, else_ended branch one.0.0 w.scope.kinds q.0 q.1)) (now, t) one.2 in
      let three = bind_ok (statements_code schema part loops false b x) (left (mark_of x.scope)) two.0 two.1 in
      let left_is = pair_ok three.0.0 two.0.0 (leave (mark_of x.scope) three.0.1) two.0.1 three.2 in
      let same = pair_ok (branch.ended && two.0.0) now (else_ended branch one.0.0 w.scope.kinds two.0.0 two.0.1) t two.2 in
      record {
        jump = one.0.0;
        inner = x;
        ended = three.0.0;
        end = three.0.1;
        begun = one.1;
        block_is = three.1;
        now_is = sym same.0 ∙ ap (λ e. branch.ended && e) (sym left_is.0);
        is = sym same.1 ∙ (ap (λ e. else_ended branch one.0.0 w.scope.kinds e two.0.1) (sym left_is.0) ∙ ap (else_ended branch one.0.0 w.scope.kinds three.0.0) (sym left_is.1));
      }

-- an `else` after a block that ended: it begins where the exits go
pub record ElseEnded (schema : Schema) (part : Part) (loops : ℕ) (before : Mark) (at count : ℕ) (b : BlockTree) (w t : Buffer) (now : Bool) : Type 0 where
  pub inner : Buffer
  pub end : Buffer
  pub begun : Alike (aims_on at count w) inner
  pub names : inner.scope.names ≡ w.scope.names
  pub kinds : inner.scope.kinds ≡ before.kinds
  pub labels : inner.labels ≡ kept w.labels w.last (length inner.ops)
  pub last : inner.last ≡ Some (record { place = length inner.ops; kinds = inner.scope.kinds })
  pub block_is : statements_code schema part loops false b inner ≡ Ok (now, end)
  pub alike : Alike end t
  pub names_after : t.scope.names ≡ (back_to (mark_of inner.scope) end.scope).names
  pub kinds_after : t.scope.kinds ≡ cond now w.scope.kinds (back_to (mark_of inner.scope) end.scope).kinds
  pub labels_after : t.labels ≡ end.labels
  pub last_after : t.last ≡ end.last

-- and after one that goes on: a jump over it comes first
pub record ElseOn (schema : Schema) (part : Part) (loops : ℕ) (before : Mark) (at count : ℕ) (b : BlockTree) (w t : Buffer) (now : Bool) : Type 0 where
  pub inner : Buffer
  pub ended : Bool
  pub end : Buffer
  pub begun : Alike (aims_on at count (with_op (ops.Jump 0) w)) inner
  pub names : inner.scope.names ≡ w.scope.names
  pub kinds : inner.scope.kinds ≡ before.kinds
  pub labels : inner.labels ≡ kept w.labels w.last (length inner.ops)
  pub last : inner.last ≡ Some (record { place = length inner.ops; kinds = inner.scope.kinds })
  pub block_is : statements_code schema part loops false b inner ≡ Ok (ended, end)
  pub now_is : now ≡ false
  pub alike : Alike (aim (length w.ops) end) t
  pub names_after : t.scope.names ≡ (back_to (mark_of inner.scope) end.scope).names
  pub kinds_after : t.scope.kinds ≡ cond ended w.scope.kinds (kinds_met w.scope.kinds (back_to (mark_of inner.scope) end.scope).kinds)
  pub labels_after : t.labels ≡ kept end.labels end.last (length t.ops)
  pub last_after : t.last ≡ Some (record { place = length t.ops; kinds = t.scope.kinds })

-- what is aimed and labelled last has all else as it was
labelled_as : (kinds : List Kind) (s x : Buffer) → x ≡ labelled (with_kinds kinds s)
    → Alike s x × (x.scope.names ≡ s.scope.names) × (x.scope.kinds ≡ kinds) × (x.labels ≡ kept s.labels s.last (length x.ops)) × (x.last ≡ Some (record { place = length x.ops; kinds = x.scope.kinds }))
unfolding labelled
labelled_as kinds s x is =
    subst (λ (y : Buffer). Alike s y × (y.scope.names ≡ s.scope.names) × (y.scope.kinds ≡ kinds) × (y.labels ≡ kept s.labels s.last (length y.ops)) × (y.last ≡ Some (record { place = length y.ops; kinds = y.scope.kinds }))) (sym is)
    (record { ops = refl; texts = refl; queries = refl; loops = refl; locals = refl; flaw = refl }, refl, refl, refl, refl)

module _ (schema : Schema) (part : Part) (loops : ℕ) (before : Mark) (exits : Exits) (at count : ℕ) (are : AreExits exits at count) (b : BlockTree) where
  ended_by : (jump : ℕ) (w inner end t : Buffer) (d now : Bool) → else_begun (record { before = before; exits = exits; ended = true }) w ≡ Ok (jump, inner) → statements_code schema part loops false b inner ≡ Ok (d, end) → now ≡ d
      → t ≡ else_ended (record { before = before; exits = exits; ended = true }) jump w.scope.kinds d (leave (mark_of inner.scope) end) → ElseEnded schema part loops before at count b w t now
  unfolding else_begun else_ended met
  ended_by jump w inner end t d now begun block now_is is =
      subst (λ x. ElseEnded schema part loops before at count b w x now) (sym is) (subst (λ n. ElseEnded schema part loops before at count b w (met d w.scope.kinds true (leave (mark_of inner.scope) end)) n) (sym now_is) (by_end d block))
    where
      begin_is : inner ≡ labelled (with_kinds before.kinds (aims_on at count w))
      begin_is = sym (pair_ok (length w.ops) jump (labelled (with_kinds before.kinds (exits_aimed exits w))) inner begun).1 ∙ ap (λ x. labelled (with_kinds before.kinds x)) (are w)

      by_end : (d : Bool) → statements_code schema part loops false b inner ≡ Ok (d, end) → ElseEnded schema part loops before at count b w (met d w.scope.kinds true (leave (mark_of inner.scope) end)) d
      by_end true block =
          let first = labelled_as before.kinds (aims_on at count w) inner begin_is in
          record {
            inner = inner;
            end = end;
            begun = first.0;
            names = first.1;
            kinds = first.2;
            labels = first.3;
            last = first.4;
            block_is = block;
            alike = record { ops = refl; texts = refl; queries = refl; loops = refl; locals = refl; flaw = refl };
            names_after = refl;
            kinds_after = refl;
            labels_after = refl;
            last_after = refl;
          }
      by_end false block =
          let first = labelled_as before.kinds (aims_on at count w) inner begin_is in
          record {
            inner = inner;
            end = end;
            begun = first.0;
            names = first.1;
            kinds = first.2;
            labels = first.3;
            last = first.4;
            block_is = block;
            alike = record { ops = refl; texts = refl; queries = refl; loops = refl; locals = refl; flaw = refl };
            names_after = refl;
            kinds_after = refl;
            labels_after = refl;
            last_after = refl;
          }

  on_by : (jump : ℕ) (w inner end t : Buffer) (d now : Bool) → else_begun (record { before = before; exits = exits; ended = false }) w ≡ Ok (jump, inner) → statements_code schema part loops false b inner ≡ Ok (d, end) → now ≡ false
      → t ≡ else_ended (record { before = before; exits = exits; ended = false }) jump w.scope.kinds d (leave (mark_of inner.scope) end) → ElseOn schema part loops before at count b w t now
  unfolding else_begun else_ended met labelled
  on_by jump w inner end t d now begun block now_is is =
      let one = bind_ok (put (ops.Jump 0) w) (λ p. Ok (length w.ops, labelled (with_kinds before.kinds (exits_aimed exits p)))) (jump, inner) begun in
      let put_is = put_ok (ops.Jump 0) w one.0 one.1 in
      let same = pair_ok (length w.ops) jump (labelled (with_kinds before.kinds (exits_aimed exits one.0))) inner one.2 in
      let begin_is : inner ≡ labelled (with_kinds before.kinds (aims_on at count (with_op (ops.Jump 0) w))) =
      sym same.1 ∙ (ap (λ p. labelled (with_kinds before.kinds (exits_aimed exits p))) put_is ∙ ap (λ x. labelled (with_kinds before.kinds x)) (are (with_op (ops.Jump 0) w))) in
      subst (λ x. ElseOn schema part loops before at count b w x now) (sym (is ∙ ap (λ n. labelled (aim n (met d w.scope.kinds false (leave (mark_of inner.scope) end)))) (sym same.0)))
      (by_end d block (labelled_as before.kinds (aims_on at count (with_op (ops.Jump 0) w)) inner begin_is))
    where
      by_end : (d : Bool) → statements_code schema part loops false b inner ≡ Ok (d, end)
          → (let from = aims_on at count (with_op (ops.Jump 0) w) in Alike from inner × (inner.scope.names ≡ from.scope.names) × (inner.scope.kinds ≡ before.kinds) × (inner.labels ≡ kept from.labels from.last (length inner.ops)) × (inner.last ≡ Some (record { place = length inner.ops; kinds = inner.scope.kinds })))
          → ElseOn schema part loops before at count b w (labelled (aim (length w.ops) (met d w.scope.kinds false (leave (mark_of inner.scope) end)))) now
      by_end true block first = record {
        inner = inner;
        ended = true;
        end = end;
        begun = first.0;
        names = first.1;
        kinds = first.2;
        labels = first.3;
        last = first.4;
        block_is = block;
        now_is = now_is;
        alike = record { ops = refl; texts = refl; queries = refl; loops = refl; locals = refl; flaw = refl };
        names_after = refl;
        kinds_after = refl;
        labels_after = refl;
        last_after = refl;
      }
      by_end false block first = record {
        inner = inner;
        ended = false;
        end = end;
        begun = first.0;
        names = first.1;
        kinds = first.2;
        labels = first.3;
        last = first.4;
        block_is = block;
        now_is = now_is;
        alike = record { ops = refl; texts = refl; queries = refl; loops = refl; locals = refl; flaw = refl };
        names_after = refl;
        kinds_after = refl;
        labels_after = refl;
        last_after = refl;
      }

  -- an `else`, by whether the first block ended
  pub else_by : (ended : Bool) (w t : Buffer) (now : Bool) → otherwise_code schema part loops (record { before = before; exits = exits; ended = ended }) (otherwise b) w ≡ Ok (now, t)
      → ((ended ≡ true) × ElseEnded schema part loops before at count b w t now) ⊎ ((ended ≡ false) × ElseOn schema part loops before at count b w t now)
  else_by true w t now h =
      let laid = else_laid schema part loops (record { before = before; exits = exits; ended = true }) b w t now h in
      inl (refl, ended_by laid.jump w laid.inner laid.end t laid.ended now laid.begun laid.block_is laid.now_is laid.is)
  else_by false w t now h =
      let laid = else_laid schema part loops (record { before = before; exits = exits; ended = false }) b w t now h in
      inr (refl, on_by laid.jump w laid.inner laid.end t laid.ended now laid.begun laid.block_is laid.now_is laid.is)
