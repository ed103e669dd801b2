-- A text without `for` lays out no loop: no place of its code is held by one.
use Rattle.std.proofs.Common.{◌≡◌, ℕ, Bool, true, false, ◌||◌, [], ◌++◌, length, Result, Ok, Err, refl, sym, ap, ◌∙◌, arith}
use Rattle.std.specs.Prelude.{filter}
use Rattle.bb_basis.specs.Results.{◌>>=◌}
use Rattle.bb_basis.proofs.BoolLemmas.{and_first, and_second}
use Rattle.bb_code.specs.Code.{Code}
use Rattle.bb_verify_effect.specs.declared.part.Part.{Part}
use Rattle.bb_schema.specs.Schema.{Schema}
use Rattle.bb_lang.specs.Blocks.{BlockTree, StatementTree, no_statement, before_others, action, if_of, with_of, for_of, absent, otherwise}
use Rattle.bb_compile_scope.specs.Place.{Place}
use Rattle.bb_compile_scope.specs.Scope.{mark_of}
use Rattle.bb_compile_buffer.specs.declared.buffer.Buffer.{Buffer}
use Rattle.bb_compile.specs.declared.branches.Branch.{Branch}
use Rattle.bb_compile.specs.Statements.{if_code, with_code, else_begun, left, after_end, statement_code, otherwise_code, statements_code}
use Rattle.bb_verify.specs.nesting.Loops.{holds, depth}
use Rattle.bb_theorem_accepted.specs.Loopless.{is_loopless, is_loopless_statement}
use Rattle.bb_theorem_accepted.proofs.buffers.BufferLemmas.{Has}
use Rattle.bb_theorem_accepted.proofs.nests.LoopOrder.{around, depth_is}
use Rattle.bb_theorem_accepted.proofs.kinds.MoveLemmas.{Sole}
use Rattle.bb_theorem_accepted.proofs.nests.NestTexts.{block_nests}

bind_alike : {A B E : Type 0} (r q : Result A E) (f g : A → Result B E) → r ≡ q → ((x : A) → f x ≡ g x) → (r >>= f) ≡ (q >>= g)
bind_alike r q f g same each = ap (λ r. r >>= f) same ∙ by_result q
  where
    by_result : (q : Result _ _) → (q >>= f) ≡ (q >>= g)
    by_result (Ok x) = each x
    by_result (Err e) = refl

module _ (schema : Schema) (part : Part) (n m : ℕ) where
  other_alike : (b : BlockTree) (branch : Branch) (s : Buffer) → ((x : Buffer) → statements_code schema part n false b x ≡ statements_code schema part m false b x) → otherwise_code schema part n branch (otherwise b) s ≡ otherwise_code schema part m branch (otherwise b) s
  unfolding otherwise_code
  other_alike b branch s same =
      bind_alike (else_begun branch s) (else_begun branch s) _ _ refl
      (λ p. bind_alike (statements_code schema part n false b p.1 >>= left (mark_of p.1.scope)) (statements_code schema part m false b p.1 >>= left (mark_of p.1.scope)) _ _
      (ap (λ r. r >>= left (mark_of p.1.scope)) (same p.1)) (λ q. refl))

  none_alike : (branch : Branch) (s : Buffer) → otherwise_code schema part n branch absent s ≡ otherwise_code schema part m branch absent s
  unfolding otherwise_code
  none_alike branch s = refl

  mutual
    unfolding statements_code statement_code

    -- how many loops may be nested makes no difference
    block_alike : (b : BlockTree) (was : Bool) (s : Buffer) → is_loopless b ≡ true → statements_code schema part n was b s ≡ statements_code schema part m was b s
    block_alike no_statement was s ok = refl
    block_alike (before_others place x others) was s ok =
        bind_alike (statement_code schema part n place x (after_end was s)) (statement_code schema part m place x (after_end was s)) _ _
        (statement_alike x place (after_end was s) (and_first (is_loopless_statement x) (is_loopless others) ok))
        (λ p. block_alike others (was || p.0) p.1 (and_second (is_loopless_statement x) (is_loopless others) ok))

    statement_alike : (x : StatementTree) (place : Place) (s : Buffer) → is_loopless_statement x ≡ true → statement_code schema part n place x s ≡ statement_code schema part m place x s
    statement_alike (action a) place s ok = refl
    statement_alike (if_of test first absent) place s ok =
        bind_alike (if_code schema test place s) (if_code schema test place s) _ _ refl
        (λ p. bind_alike (statements_code schema part n false first p.1 >>= left (mark_of p.1.scope)) (statements_code schema part m false first p.1 >>= left (mark_of p.1.scope)) _ _
        (ap (λ r. r >>= left (mark_of p.1.scope)) (block_alike first false p.1 (and_first (is_loopless first) true ok))) (λ q. none_alike _ _))
    statement_alike (if_of test first (otherwise b)) place s ok =
        bind_alike (if_code schema test place s) (if_code schema test place s) _ _ refl
        (λ p. bind_alike (statements_code schema part n false first p.1 >>= left (mark_of p.1.scope)) (statements_code schema part m false first p.1 >>= left (mark_of p.1.scope)) _ _
        (ap (λ r. r >>= left (mark_of p.1.scope)) (block_alike first false p.1 (and_first (is_loopless first) (is_loopless b) ok)))
        (λ q. other_alike b _ _ (λ x. block_alike b false x (and_second (is_loopless first) (is_loopless b) ok))))
    statement_alike (with_of binding first absent) place s ok =
        bind_alike (with_code schema binding place s) (with_code schema binding place s) _ _ refl
        (λ p. bind_alike (statements_code schema part n false first p.1 >>= left (mark_of p.1.scope)) (statements_code schema part m false first p.1 >>= left (mark_of p.1.scope)) _ _
        (ap (λ r. r >>= left (mark_of p.1.scope)) (block_alike first false p.1 (and_first (is_loopless first) true ok))) (λ q. none_alike _ _))
    statement_alike (with_of binding first (otherwise b)) place s ok =
        bind_alike (with_code schema binding place s) (with_code schema binding place s) _ _ refl
        (λ p. bind_alike (statements_code schema part n false first p.1 >>= left (mark_of p.1.scope)) (statements_code schema part m false first p.1 >>= left (mark_of p.1.scope)) _ _
        (ap (λ r. r >>= left (mark_of p.1.scope)) (block_alike first false p.1 (and_first (is_loopless first) (is_loopless b) ok)))
        (λ q. other_alike b _ _ (λ x. block_alike b false x (and_second (is_loopless first) (is_loopless b) ok))))
    statement_alike (for_of name sequence body) place s ok = absurd cc

-- no loop holds a place
pub loopless_depth : (schema : Schema) (part : Part) (n : ℕ) (b : BlockTree) (now : Bool) (s t : Buffer) (code : Code) → is_loopless b ≡ true → statements_code schema part n false b s ≡ Ok (now, t) → Sole s.scope.kinds s.scope.names → Has code t
    → s.loops ≡ [] → code.loops ≡ t.loops → (place : ℕ) → depth code place ≡ 0
loopless_depth schema part n b now s t code ok h sole has none same place =
    let nested = block_nests code schema part b 0 false now s t (sym (block_alike schema part n 0 b false s ok) ∙ h) sole has in
    let all : code.loops ≡ nested.loops = same ∙ (nested.loops_are ∙ ap (λ l. l ++ nested.loops) none) in
    let few = nested.shallow place in
    ap (λ ls. length (filter (holds place) ls)) all ∙ (depth_is place nested.loops ∙ (let e : around place nested.loops ≡ 0 = omega (arith, few) in e))
