-- What is laid out before the first block of an `if` or a `with`: what is tested, the ops that go elsewhere where the
-- test fails, and the name that a `with` declares for what it finds.
use Rattle.std.proofs.Common.{◌≡◌, ◌⊎◌, inl, inr, ℕ, ◌+◌, ◌≤◌, Bool, true, false, List, [], ◌∷◌, ◌++◌, length, Some, Ok, refl, subst, sym, ap, ◌∙◌, arith, append_assoc}
use Rattle.std.specs.Prelude.{max}
use Rattle.std.proofs.Math.Nat.{le-max_left}
use Rattle.std.proofs.lemmas.List.{append-nil}
use Rattle.bb_code.specs.declared.parts.TheConstants.{STACK_LIMIT}
use Rattle.bb_verify_effect.specs.declared.part.Part.{Part}
use Rattle.bb_code.specs.declared.frame.Kind.{Kind}
use Rattle.bb_code.specs.declared.frame.Kind.TheVariants.{Ref}
use Rattle.bb_code.specs.declared.op.Op.{Op}
use Rattle.bb_code.specs.declared.op.Op.TheVariants as ops
use Rattle.bb_schema.specs.Schema.{Schema}
use Rattle.bb_lang.specs.Binding.{Binding}
use Rattle.bb_lang.specs.Binding.TheVariants as bindings
use Rattle.bb_lang.specs.Blocks.{BlockTree, OtherwiseTree, absent, otherwise}
use Rattle.bb_lang.specs.Trees.{ExprTree}
use Rattle.bb_compile_scope.specs.Place.{Place}
use Rattle.bb_compile_scope.specs.declared.scope.Scope.{Scope}
use Rattle.bb_compile_scope.specs.Scope.{mark_of}
use Rattle.bb_compile_buffer.specs.declared.buffer.Buffer.{Buffer}
use Rattle.bb_compile_buffer.specs.Buffers.{declare, leave, aimed_at}
use Rattle.bb_compile_buffer.specs.Atoms.{variable_code, unit_code}
use Rattle.bb_compile.specs.declared.exits.Exits.{Exits}
use Rattle.bb_compile.specs.Bindings.{one_exit, exits_aimed}
use Rattle.bb_compile.specs.Expressions.{expr_code}
use Rattle.bb_theorem_accepted.proofs.buffers.BufferLemmas.{Clean, Grown, with_op, grown_none, count_op}
use Rattle.bb_theorem_accepted.proofs.buffers.PutLemmas.{variable_ok, unit_ok}
use Rattle.bb_theorem_accepted.proofs.blocks.AimLemmas.{AreOpen}
use Rattle.bb_theorem_accepted.proofs.blocks.BranchLemmas.{TestLaid, BlocksLaid, IfLaid, WithLaid, AreExits, AbsentLaid, ElseEnded, ElseOn, absent_laid, else_by}
use Rattle.bb_theorem_accepted.proofs.blocks.HeadLemmas.{Tested, HeadLaid, binding_laid}
use Rattle.bb_theorem_accepted.proofs.buffers.GrownLemmas.{Adds}
use Rattle.bb_theorem_accepted.proofs.buffers.StayLemmas.{behind, keeps_ok, variable_keeps, unit_keeps, expr_keeps}
use Rattle.bb_theorem_accepted.proofs.straight.StoreLemmas.{declare_is}

pub record Guard (s u : Buffer) (exits : Exits) : Type 0 where
  pub behind : Buffer
  pub adds : Adds s behind
  -- ops that go elsewhere where the test fails
  pub es : List Op
  pub tested : Buffer
  pub ops : tested.ops ≡ behind.ops ++ es
  pub texts : tested.texts ≡ behind.texts
  pub queries : tested.queries ≡ behind.queries
  pub some : 1 ≤ length es
  pub opens : AreOpen es
  pub are : AreExits exits (length behind.ops) (length es)
  -- a name for what was found
  pub named : Grown tested u
  pub labels : u.labels ≡ behind.labels
  pub last : u.last ≡ behind.last
  pub loops : u.loops ≡ behind.loops
  pub locals : behind.locals ≤ u.locals
  pub clean : Clean u
  pub clean_behind : Clean behind

-- ---- the test of an `if`

unfoldable pub test_guard : (schema : Schema) (test : ExprTree) (s u : Buffer) (exits : Exits) → TestLaid schema test s u exits → Guard s u exits
unfolding grown_none
test_guard schema test s u exits l = record {
  behind = l.behind;
  adds = (keeps_ok behind s (expr_code schema STACK_LIMIT test s) (l.made, l.behind) l.code_is (expr_keeps schema test STACK_LIMIT s)).adds;
  es = ops.Unless 0 ∷ [];
  tested = u;
  ops = ap (λ (x : Buffer). x.ops) l.put_is;
  texts = ap (λ (x : Buffer). x.texts) l.put_is;
  queries = ap (λ (x : Buffer). x.queries) l.put_is;
  some = omega arith;
  opens = (refl, tt);
  are = λ w. ap (λ e. exits_aimed e w) l.exits_are;
  named = grown_none u u refl refl refl;
  labels = ap (λ (x : Buffer). x.labels) l.put_is;
  last = ap (λ (x : Buffer). x.last) l.put_is;
  loops = ap (λ (x : Buffer). x.loops) l.put_is;
  locals = let e : u.locals ≡ l.behind.locals = ap (λ (x : Buffer). x.locals) l.put_is in omega (arith, e);
  clean = l.clean;
  clean_behind = sym (ap (λ (x : Buffer). x.flaw) l.put_is) ∙ l.clean;
}

-- ---- the test of a `with`

-- ops that only go elsewhere where the test fails
pub record Puts (a t : Buffer) (es : List Op) (exits : Exits) : Type 0 where
  pub ops : t.ops ≡ a.ops ++ es
  pub same : t ≡ record a { ops = t.ops }
  pub some : 1 ≤ length es
  pub opens : AreOpen es
  pub are : AreExits exits (length a.ops) (length es)

pub puts_one : (op : Op) (a t : Buffer) (exits : Exits) → AreOpen (op ∷ []) → t ≡ with_op op a → exits ≡ one_exit (length a.ops) → Puts a t (op ∷ []) exits
puts_one op a t exits opens is exits_are = record {
  ops = ap (λ (x : Buffer). x.ops) is;
  same = is ∙ ap (λ l. record a { ops = l }) (sym (ap (λ (x : Buffer). x.ops) is));
  some = omega arith;
  opens = opens;
  are = λ w. ap (λ e. exits_aimed e w) exits_are;
}

abbrev pub exits_of : (held : Kind) (class : ℕ) (a t : Buffer) (exits : Exits) → Tested held class a t exits → List Op
exits_of held class a t exits (inl of) = ops.As class 0 ∷ []
exits_of held class a t exits (inr (inl alive)) = ops.Alive 0 ∷ []
exits_of held class a t exits (inr (inr both)) = ops.Alive 0 ∷ ops.As class 0 ∷ []

pub tested_puts : (held : Kind) (class : ℕ) (a t : Buffer) (exits : Exits) → (is : Tested held class a t exits) → Puts a t (exits_of held class a t exits is) exits
tested_puts held class a t exits (inl of) = puts_one (ops.As class 0) a t exits (refl, tt) of.put_is of.exits_are
tested_puts held class a t exits (inr (inl alive)) = puts_one (ops.Alive 0) a t exits (refl, tt) alive.put_is alive.exits_are
tested_puts held class a t exits (inr (inr both)) =
    let first = with_op (ops.Alive 0) a in
    let all : t.ops ≡ a.ops ++ ops.Alive 0 ∷ ops.As class 0 ∷ [] = ap (λ (x : Buffer). x.ops) both.put_is ∙ append_assoc a.ops (ops.Alive 0 ∷ []) (ops.As class 0 ∷ []) in
    let next : length first.ops ≡ length a.ops + 1 = count_op a first (ops.Alive 0) refl in
    record {
      ops = all;
      same = both.put_is ∙ ap (λ l. record a { ops = l }) (sym (ap (λ (x : Buffer). x.ops) both.put_is));
      some = omega arith;
      opens = (refl, (refl, tt));
      are = λ w. ap (λ e. exits_aimed e w) both.exits_are ∙ ap (λ n. record w { ops = aimed_at n (aimed_at (length a.ops) w.ops) }) next;
    }

-- ops for the exits of a test, and a name
unfoldable pub named_guard : (name : List ℕ) (kind : Kind) (s a t u : Buffer) (es : List Op) (exits : Exits) → Adds s a → Puts a t es exits → declare name kind t ≡ Ok u → Clean u → Guard s u exits
named_guard name kind s a t u es exits adds puts declared clean =
    let d = declare_is name kind t u declared in
    let locals_t : t.locals ≡ a.locals = ap (λ (x : Buffer). x.locals) puts.same in
    let locals_u : u.locals ≡ max t.locals (d.0 + 1) = ap (λ (x : Buffer). x.locals) d.2 in
    let high = le-max_left t.locals (d.0 + 1) in
    record {
      behind = a;
      adds = adds;
      es = es;
      tested = t;
      ops = puts.ops;
      texts = ap (λ (x : Buffer). x.texts) puts.same;
      queries = ap (λ (x : Buffer). x.queries) puts.same;
      some = puts.some;
      opens = puts.opens;
      are = puts.are;
      named = record {
        ops = ops.Store d.0 ∷ [];
        ops_are = ap (λ (x : Buffer). x.ops) d.2;
        texts = [];
        texts_are = ap (λ (x : Buffer). x.texts) d.2 ∙ sym (append-nil t.texts);
        queries = [];
        queries_are = ap (λ (x : Buffer). x.queries) d.2 ∙ sym (append-nil t.queries);
      };
      labels = ap (λ (x : Buffer). x.labels) d.2 ∙ ap (λ (x : Buffer). x.labels) puts.same;
      last = ap (λ (x : Buffer). x.last) d.2 ∙ ap (λ (x : Buffer). x.last) puts.same;
      loops = ap (λ (x : Buffer). x.loops) d.2 ∙ ap (λ (x : Buffer). x.loops) puts.same;
      locals = omega (arith, high, locals_t, locals_u);
      clean = clean;
      clean_behind = sym (ap (λ (x : Buffer). x.flaw) d.2 ∙ ap (λ (x : Buffer). x.flaw) puts.same) ∙ clean;
    }

module _ (schema : Schema) where
  unfoldable pub head_guard : (binding : Binding) (s u : Buffer) (exits : Exits) → HeadLaid schema binding s u exits → Clean u → Guard s u exits
  head_guard (bindings.As name unit class) s u exits laid clean =
      named_guard name (Ref laid.of) s laid.behind laid.test u (exits_of laid.held laid.of laid.behind laid.test exits laid.test_is) exits
      (keeps_ok behind s (variable_code unit STACK_LIMIT s) (Some laid.held, laid.behind) laid.code_is (variable_keeps unit STACK_LIMIT s)).adds (tested_puts laid.held laid.of laid.behind laid.test exits laid.test_is) laid.declared clean
  head_guard (bindings.Linked name unit slot) s u exits laid clean =
      named_guard name (Ref laid.at.1) s laid.behind laid.test u (ops.One laid.at.0 0 ∷ []) exits
      (keeps_ok behind s (unit_code unit STACK_LIMIT s) (Some laid.class, laid.behind) laid.code_is (unit_keeps unit STACK_LIMIT s)).adds (puts_one (ops.One laid.at.0 0) laid.behind laid.test exits (refl, tt) laid.put_is laid.exits_are) laid.declared clean

  -- a test changes nothing in the scope
  pub head_scope : (binding : Binding) (s u : Buffer) (exits : Exits) → (laid : HeadLaid schema binding s u exits) → (clean : Clean u) → (head_guard binding s u exits laid clean).tested.scope ≡ s.scope
  unfolding head_guard named_guard
  head_scope (bindings.As name unit class) s u exits laid clean =
      let puts = tested_puts laid.held laid.of laid.behind laid.test exits laid.test_is in
      let loaded = variable_ok unit STACK_LIMIT s laid.behind (Some laid.held) laid.code_is (head_guard (bindings.As name unit class) s u exits laid clean).clean_behind in
      ap (λ (x : Buffer). x.scope) puts.same ∙ ap (λ (x : Buffer). x.scope) loaded.2
  head_scope (bindings.Linked name unit slot) s u exits laid clean =
      let is = unit_ok unit STACK_LIMIT s laid.behind (Some laid.class) laid.code_is (head_guard (bindings.Linked name unit slot) s u exits laid clean).clean_behind in
      ap (λ (x : Buffer). x.scope) laid.put_is ∙ ap (λ (x : Buffer). x.scope) is.2.2

-- ---- a test and the blocks after it

module _ (schema : Schema) (part : Part) (loops : ℕ) where
  pub record Branches (first : BlockTree) (other : OtherwiseTree) (s t : Buffer) (now : Bool) : Type 0 where
    pub exits : Exits
    pub inner : Buffer
    pub guard : Guard s inner exits
    pub blocks : BlocksLaid schema part loops (mark_of guard.tested.scope) exits first other inner t now

  unfoldable pub if_branches : (test : ExprTree) (first : BlockTree) (other : OtherwiseTree) (s t : Buffer) (now : Bool) → IfLaid schema part loops test first other s t now → Branches first other s t now
  unfolding test_guard
  if_branches test first other s t now laid = record { exits = laid.exits; inner = laid.inner; guard = test_guard schema test s laid.inner laid.exits laid.test_is; blocks = laid.blocks }

  unfoldable pub with_branches : (binding : Binding) (place : Place) (first : BlockTree) (other : OtherwiseTree) (s t : Buffer) (now : Bool) → WithLaid schema part loops binding place first other s t now → Branches first other s t now
  with_branches binding place first other s t now laid =
      let head = binding_laid schema binding place s laid.inner laid.exits laid.test_is in
      record {
        exits = laid.exits;
        inner = laid.inner;
        guard = head_guard schema binding s laid.inner laid.exits head.0 head.1;
        blocks = subst (λ (c : Scope). BlocksLaid schema part loops (mark_of c) laid.exits first other laid.inner t now) (sym (head_scope schema binding s laid.inner laid.exits head.0 head.1)) laid.blocks;
      }

  -- the buffer after the first block, where its names are forgotten
  abbrev pub behind_first : (first : BlockTree) (other : OtherwiseTree) (s t : Buffer) (now : Bool) → Branches first other s t now → Buffer
  behind_first first other s t now br = leave (mark_of br.guard.tested.scope) (leave (mark_of br.inner.scope) br.blocks.end)

  pub branches_absent : (first : BlockTree) (s t : Buffer) (now : Bool) → (br : Branches first absent s t now)
      → AbsentLaid (mark_of br.guard.tested.scope) (length br.guard.behind.ops) (length br.guard.es) br.blocks.ended (behind_first first absent s t now br) t now
  branches_absent first s t now br =
      let g = br.guard in
      absent_laid schema part loops (mark_of g.tested.scope) br.exits (length g.behind.ops) (length g.es) g.are br.blocks.ended (behind_first first absent s t now br) t now br.blocks.rest

  pub branches_else : (first b : BlockTree) (s t : Buffer) (now : Bool) → (br : Branches first (otherwise b) s t now)
      → ((br.blocks.ended ≡ true) × ElseEnded schema part loops (mark_of br.guard.tested.scope) (length br.guard.behind.ops) (length br.guard.es) b (behind_first first (otherwise b) s t now br) t now)
      ⊎ ((br.blocks.ended ≡ false) × ElseOn schema part loops (mark_of br.guard.tested.scope) (length br.guard.behind.ops) (length br.guard.es) b (behind_first first (otherwise b) s t now br) t now)
  branches_else first b s t now br =
      let g = br.guard in
      else_by schema part loops (mark_of g.tested.scope) br.exits (length g.behind.ops) (length g.es) g.are b br.blocks.ended (behind_first first (otherwise b) s t now br) t now br.blocks.rest
