-- Scopes and names of buffers within the limits of codes.
use Rattle.std.proofs.Common.{◌≡◌, ℕ, ◌+◌, ◌≤◌, ◌<◌, true, List, Option, Some, None, refl, arith}
use Rattle.std.specs.Prelude.{max, set, position}
use Rattle.bb_code.specs.declared.parts.TheConstants.{LOCAL_LIMIT}
use Rattle.bb_code.specs.declared.frame.Kind.{Kind}
use Rattle.bb_code.specs.declared.op.Op.TheVariants as ops
use Rattle.bb_compile_scope.specs.LocalKinds.{is_free}
use Rattle.bb_compile_scope.specs.Scope.{with_name}
use Rattle.bb_compile_scope.specs.declared.scope.Scope.{Scope}
use Rattle.bb_compile_buffer.specs.declared.buffer.Buffer.{Buffer}
use Rattle.bb_compile_buffer.specs.Buffers.{put, taken, take_local, declare}
use Rattle.bb_compile_buffer.specs.Within.{kind_within}
use Rattle.bb_theorem_grammar.proofs.judged_lemmas.within.FineLemmas.{Fine, Onto, Gone, Goes, goes_then, goes_from, itself, second, HasOp, put_goes}
use Rattle.bb_theorem_grammar.proofs.judged_lemmas.within.FineScopes.{all_set_kind, Scoped, free_within, scoped_named}
use Rattle.bb_theorem_grammar.proofs.judged_lemmas.within.WithinLists.{byte_within}

-- another scope within the limits, and the number of locals
pub onto_scope : (s : Buffer) (scope : Scope) (locals : ℕ) → Scoped scope → 1 ≤ locals → locals ≤ LOCAL_LIMIT → Fine s → Onto s (record s { scope = scope; locals = locals })
onto_scope s scope locals scoped some few f = record {
  back = λ clean. clean;
  fine = record {
    few_ops = f.few_ops;
    few_texts = f.few_texts;
    few_queries = f.few_queries;
    few_loops = f.few_loops;
    ops_are = f.ops_are;
    texts_are = f.texts_are;
    queries_are = f.queries_are;
    loops_are = f.loops_are;
    some_local = some;
    few_locals = few;
    scoped = scoped;
    labelled_are = f.labelled_are;
  };
  grows = omega arith;
}

pub onto_scoped : (s : Buffer) (scope : Scope) → Scoped scope → Fine s → Onto s (record s { scope = scope })
onto_scoped s scope scoped f = onto_scope s scope s.locals scoped f.some_local f.few_locals f

max_some : (m n : ℕ) → 1 ≤ max m (n + 1)
max_some m n = omega arith

max_few : (m n limit : ℕ) → m ≤ limit → n + 1 ≤ limit → max m (n + 1) ≤ limit
max_few m n limit a b = omega (arith, a, b)

-- a local is taken
abbrev pub Located : ℕ × Buffer → Type 0
Located p = p.0 < LOCAL_LIMIT

pub take_goes : (kind : Kind) (s : Buffer) → kind_within kind ≡ true → Goes second Located s (take_local kind s)
unfolding take_local
take_goes kind s small f = by_first (position is_free s.scope.kinds) refl
  where
    by_first : (o : Option ℕ) → position is_free s.scope.kinds ≡ o → Gone second Located s (taken o kind s)
    by_first None at = tt
    by_first (Some local) at =
        let lt = free_within s.scope local f.scoped at in (
          onto_scope s (record { names = s.scope.names; kinds = set s.scope.kinds local kind }) (max s.locals (local + 1))
              (record { kinds_are = all_set_kind s.scope.kinds local kind f.scoped.kinds_are small; locals_are = f.scoped.locals_are })
              (max_some s.locals local) (max_few s.locals local LOCAL_LIMIT f.few_locals (omega (arith, lt))) f,
          lt,
        )

-- a name is declared
pub declare_goes : (name : List ℕ) (kind : Kind) (s : Buffer) → kind_within kind ≡ true → Goes itself HasOp s (declare name kind s)
unfolding declare
declare_goes name kind s small =
    goes_then second itself Located HasOp s (take_local kind s) _ (take_goes kind s small)
    (λ p lt. goes_from itself HasOp p.1 (record p.1 { scope = with_name name p.0 kind p.1.scope }) (put (ops.Store p.0) (record p.1 { scope = with_name name p.0 kind p.1.scope }))
    (λ f. onto_scoped p.1 (with_name name p.0 kind p.1.scope) (scoped_named p.1.scope name p.0 kind f.scoped lt small) f)
    (put_goes (ops.Store p.0) (record p.1 { scope = with_name name p.0 kind p.1.scope }) (λ clean. byte_within p.0 LOCAL_LIMIT lt (omega arith))))
