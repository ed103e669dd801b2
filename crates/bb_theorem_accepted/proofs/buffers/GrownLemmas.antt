-- Whatever is laid out, a buffer only gets more ops, texts and queries: what is shared.
use Rattle.std.proofs.Common.{◌≡◌, ℕ, ◌≤◌, [], ◌∷◌, ◌++◌, refl, sym, ap, ◌∙◌, arith}
use Rattle.std.proofs.lemmas.List.{append-nil}
use Rattle.bb_code.specs.declared.op.Op.{Op}
use Rattle.bb_compile_scope.specs.declared.fault.TextFlaw.{TextFlaw}
use Rattle.bb_compile_scope.specs.declared.scope.Scope.{Scope}
use Rattle.bb_compile_buffer.specs.declared.buffer.Buffer.{Buffer}
use Rattle.bb_compile_buffer.specs.Buffers.{noted}
use Rattle.bb_theorem_accepted.proofs.buffers.BufferLemmas.{Clean, Grown, never_noted, grown_none, grown_on}

-- a buffer has more than another, and the same labels and loops
pub record Adds (s t : Buffer) : Type 0 where
  pub grown : Grown s t
  pub labels : t.labels ≡ s.labels
  pub last : t.last ≡ s.last
  pub loops : t.loops ≡ s.loops
  pub locals : s.locals ≤ t.locals
  pub clean : Clean t → Clean s

unfoldable pub adds_on : (s t u : Buffer) → Adds s t → Adds t u → Adds s u
adds_on s t u a b =
    let one = a.locals in
    let two = b.locals in
    record { grown = grown_on s t u a.grown b.grown; labels = b.labels ∙ a.labels; last = b.last ∙ a.last; loops = b.loops ∙ a.loops; locals = omega (arith, one, two); clean = λ c. a.clean (b.clean c) }

unfoldable pub adds_none : (s : Buffer) → Adds s s
adds_none s = record { grown = grown_none s s refl refl refl; labels = refl; last = refl; loops = refl; locals = omega arith; clean = λ c. c }

unfoldable pub adds_flaw : (flaw : TextFlaw) (s : Buffer) → Adds s (noted flaw s)
adds_flaw flaw s = record { grown = grown_none s (noted flaw s) refl refl refl; labels = refl; last = refl; loops = refl; locals = omega arith; clean = λ c. never_noted flaw s c }

-- an op, where the scope may change too
unfoldable pub adds_op : (op : Op) (s t : Buffer) (scope : Scope) (locals : ℕ) → s.locals ≤ locals → t ≡ record s { ops = s.ops ++ op ∷ []; scope = scope; locals = locals } → Adds s t
adds_op op s t scope locals le is = record {
  grown = record {
    ops = op ∷ [];
    ops_are = ap (λ (x : Buffer). x.ops) is;
    texts = [];
    texts_are = ap (λ (x : Buffer). x.texts) is ∙ sym (append-nil s.texts);
    queries = [];
    queries_are = ap (λ (x : Buffer). x.queries) is ∙ sym (append-nil s.queries);
  };
  labels = ap (λ (x : Buffer). x.labels) is;
  last = ap (λ (x : Buffer). x.last) is;
  loops = ap (λ (x : Buffer). x.loops) is;
  locals = let e : t.locals ≡ locals = ap (λ (x : Buffer). x.locals) is in omega (arith, e, le);
  clean = λ c. sym (ap (λ (x : Buffer). x.flaw) is) ∙ c;
}
