-- The test of an `if` guides the verifier.
use Rattle.std.proofs.Common.{◌≡◌, ℕ, ◌+◌, ◌<◌, ◌≤◌, true, List, ◌∷◌, ◌++◌, length, Option, Some, None, Ok, refl, subst, sym, ap, ◌∙◌, arith}
use Rattle.bb_verify_effect.specs.Kinds.{is_same_plain}
use Rattle.bb_compile_scope.specs.declared.scope.Scope.{Scope}
use Rattle.bb_code.specs.declared.parts.TheConstants.{STACK_LIMIT}
use Rattle.bb_schema.specs.Schema.{Schema}
use Rattle.bb_schema.specs.Fits as schemas
use Rattle.bb_code.specs.Code.{Code}
use Rattle.bb_code.specs.declared.frame.Kind.TheVariants as kinds
use Rattle.bb_code.specs.declared.op.Op.{Op}
use Rattle.bb_code.specs.declared.op.Op.TheVariants as ops
use Rattle.bb_lang.specs.Trees.{ExprTree}
use Rattle.bb_compile_buffer.specs.declared.buffer.Buffer.{Buffer}
use Rattle.bb_compile_buffer.specs.Buffers.{due}
use Rattle.bb_compile.specs.declared.exits.Exits.{Exits}
use Rattle.bb_verify_effect.specs.declared.frame.Frame.{Frame}
use Rattle.bb_verify_effect.specs.Frame.{with_stack}
use Rattle.bb_verify_effect.specs.declared.part.Part.{Part}
use Rattle.bb_verify.specs.Places.{frame_at, on_due, target_due}
use Rattle.bb_theorem_accepted.proofs.kinds.UnderLemmas.{is_due}
use Rattle.bb_theorem_accepted.proofs.buffers.BufferLemmas.{Clean, Has, grown_none, count_of, count_op}
use Rattle.bb_theorem_accepted.proofs.buffers.PutLemmas.{due_kind}
use Rattle.bb_theorem_accepted.proofs.buffers.LayLemmas.{Lays}
use Rattle.bb_theorem_accepted.proofs.straight.PatternLemmas.{AreSmall}
use Rattle.bb_theorem_accepted.proofs.straight.ExprLemmas.{expr_lays}
use Rattle.bb_theorem_accepted.proofs.straight.StoreLemmas.{all_room}
use Rattle.bb_theorem_accepted.proofs.blocks.BranchLemmas.{TestLaid}
use Rattle.bb_theorem_accepted.proofs.blocks.GuardLemmas.{test_guard}
use Rattle.bb_theorem_accepted.proofs.kinds.MoveLemmas.{moves_same}
use Rattle.bb_theorem_accepted.proofs.walks.WalkLemmas.{Walks, leads_then, unless_visit, At}
use Rattle.bb_theorem_accepted.proofs.kinds.KnowLemmas.{knows_sequences}
use Rattle.bb_theorem_accepted.proofs.walks.JoinLemmas.{HasFrame, Sound, known_there}
use Rattle.bb_theorem_accepted.proofs.walks.GuideLemmas.{Guides}

module _ (schema : Schema) (sf : schemas.Fits schema) (part : Part) (code : Code) where
  abbrev WalksHere : ℕ → List Op → (next out : Option Frame) → Type 0
  WalksHere place listed next out = Walks schema part code place listed next out

  module _ (small : AreSmall schema sf part code) (test : ExprTree) (s u : Buffer) (exits : Exits) (l : TestLaid schema test s u exits) where
    abbrev a : Buffer
    a = l.behind

    put_count : length u.ops ≡ length a.ops + 1
    put_count = count_op a u (ops.Unless 0) l.put_is

    module _ (m : Lays schema sf part code STACK_LIMIT s a l.made) where
      in_scope : u.scope ≡ s.scope
      in_scope = ap (λ (x : Buffer). x.scope) l.put_is ∙ ap (λ (x : Buffer). x.scope) m.same

      in_locals : u.locals ≡ s.locals
      in_locals = ap (λ (x : Buffer). x.locals) l.put_is ∙ ap (λ (x : Buffer). x.locals) m.same

      same_kind : is_same_plain m.kind kinds.Bool ≡ true
      same_kind = due_kind m.kind kinds.Bool a (subst (λ k. Clean (due k kinds.Bool a)) m.made_is l.due_clean)

      -- the test, its op, and what comes after
      test_walks : (at : ℕ) (rest : List Op) (next out : Option Frame) (f : Frame) → Sound schema sf part code s → frame_at (At schema part code (length s.ops)) next ≡ Ok f → HasFrame schema sf part code f s.scope.kinds → s.locals ≤ code.locals
          → ((p : ℕ) → length s.ops < p → p < length u.ops → At schema part code p ≡ None) → length a.ops < at → at < length code.ops → length u.ops < length code.ops
          → on_due schema (Some f) (At schema part code (length u.ops)) ≡ Ok tt → target_due schema (Some f) (At schema part code at) ≡ Ok tt → WalksHere (length u.ops) rest (Some f) out
          → WalksHere (length s.ops) (m.grown.ops ++ ops.Unless at ∷ rest) next out
      test_walks at rest next out f sound found has few none low high lt on target behind =
          let known = known_there schema sf part code s f sound few has in
          let x = m.leads f (has.1, known, knows_sequences schema sf f.locals s.scope.kinds has.2) (all_room schema sf part code small f has.0) in
          let count = count_of s a m.grown in
          let put = put_count in
          leads_then schema part code m.grown.ops (ops.Unless at ∷ rest) (length s.ops) f (with_stack (x.0 ∷ f.stack) f) next out found (λ i low high. none i low (omega (arith, high, count, put))) (omega (arith, count, put, lt)) x.2
          (λ last found_here.
          subst (λ p. WalksHere p (ops.Unless at ∷ rest) last out) count (
            Some f,
            unless_visit schema part code (length a.ops) at f x.0 last (subst (λ p. frame_at (At schema part code p) last ≡ Ok (with_stack (x.0 ∷ f.stack) f)) (sym count) found_here) (is_due schema sf x.0 m.kind kinds.Bool x.1 same_kind) low high (omega (arith, put, lt))
                (subst (λ p. on_due schema (Some f) (At schema part code p) ≡ Ok tt) put on) target,
            subst (λ p. WalksHere p rest (Some f) out) put behind,
          ))

    pub test_guides : Has code a → Guides schema sf part code s u exits (test_guard schema test s u exits l)
    unfolding test_guard grown_none
    test_guides has =
        let m = expr_lays schema sf part code small test STACK_LIMIT s a l.made l.code_is (sym (ap (λ (x : Buffer). x.flaw) l.put_is) ∙ l.clean) has in
        record {
          grown = m.grown;
          scope = in_scope m;
          locals = in_locals m;
          moves = moves_same schema sf u u refl refl;
          leads = λ sound few few_u f has. (
            f,
            subst (λ (c : Scope). HasFrame schema sf part code f c.kinds) (sym (in_scope m)) has,
            λ at rest listed next out is found none low high lt on target behind.
                subst (λ l. WalksHere (length s.ops) (m.grown.ops ++ ops.Unless at ∷ l) next out) (sym is)
                (test_walks m at rest next out f sound found has few none (let put = put_count in omega (arith, put, low)) high lt on target behind),
          );
        }
