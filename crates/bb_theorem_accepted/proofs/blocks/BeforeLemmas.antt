-- What holds of the buffer before each statement with blocks of a text.
use Rattle.std.proofs.Common.{◌≡◌, ◌⊎◌, inl, inr, ℕ, ◌-◌, Bool, true, false, ◌||◌, length, Ok}
use Rattle.bb_basis.proofs.ResultLemmas.{bind_ok}
use Rattle.bb_verify_effect.specs.declared.part.Part.{Part}
use Rattle.bb_schema.specs.Schema.{Schema}
use Rattle.bb_lang.specs.Blocks.{BlockTree, StatementTree, no_statement, before_others, action, if_of, with_of, for_of, absent, otherwise}
use Rattle.bb_compile_scope.specs.Place.{Place}
use Rattle.bb_compile_scope.specs.declared.scope.Mark.{Mark}
use Rattle.bb_compile_scope.specs.Scope.{mark_of}
use Rattle.bb_compile_buffer.specs.declared.buffer.Buffer.{Buffer}
use Rattle.bb_compile.specs.Statements.{after_end, statement_code, statements_code}
use Rattle.bb_theorem_accepted.proofs.blocks.BranchLemmas.{ElseEnded, ElseOn, if_laid, with_laid}
use Rattle.bb_theorem_accepted.proofs.blocks.LoopLaid.{for_laid}
use Rattle.bb_theorem_accepted.proofs.blocks.GuardLemmas.{Branches, behind_first, if_branches, with_branches, branches_else}

module _ (schema : Schema) (part : Part) where
  -- what holds of the second block, whether the first ended or not
  abbrev pub InEither : (loops : ℕ) (before : Mark) (at count : ℕ) (b : BlockTree) (ended : Bool) (w t : Buffer) (now : Bool) → ((d : Bool) (x y : Buffer) → statements_code schema part loops false b x ≡ Ok (d, y) → Type 0)
      → ((ended ≡ true) × ElseEnded schema part loops before at count b w t now) ⊎ ((ended ≡ false) × ElseOn schema part loops before at count b w t now) → Type 0
  InEither loops before at count b ended w t now P (inl (e, el)) = P now el.inner el.end el.block_is
  InEither loops before at count b ended w t now P (inr (e, el)) = P el.ended el.inner el.end el.block_is

  abbrev pub InOther : (loops : ℕ) (first b : BlockTree) (s t : Buffer) (now : Bool) → Branches schema part loops first (otherwise b) s t now → ((d : Bool) (x y : Buffer) → statements_code schema part loops false b x ≡ Ok (d, y) → Type 0) → Type 0
  InOther loops first b s t now br P =
      InEither loops (mark_of br.guard.tested.scope) (length br.guard.behind.ops) (length br.guard.es) b br.blocks.ended (behind_first schema part loops first (otherwise b) s t now br) t now P (branches_else schema part loops first b s t now br)

  module _ (K : Buffer → Type 0) where
    unfoldable mutual
      unfolding statements_code

      pub InBlock : (b : BlockTree) (loops : ℕ) (was now : Bool) (s t : Buffer) → statements_code schema part loops was b s ≡ Ok (now, t) → Type 0
      InBlock no_statement loops was now s t h = Unit {0}
      InBlock (before_others place x others) loops was now s t h =
          let one = bind_ok (statement_code schema part loops place x (after_end was s)) (λ p. statements_code schema part loops (was || p.0) others p.1) (now, t) h in
          InStatement x loops place one.0.0 (after_end was s) one.0.1 one.1 × InBlock others loops (was || one.0.0) now one.0.1 t one.2

      pub InStatement : (x : StatementTree) (loops : ℕ) (place : Place) (now : Bool) (s t : Buffer) → statement_code schema part loops place x s ≡ Ok (now, t) → Type 0
      InStatement (action a) loops place now s t h = Unit {0}
      InStatement (if_of test first absent) loops place now s t h =
          let br = if_branches schema part loops test first absent s t now (if_laid schema part loops place test first absent s t now h) in
          K s × InBlock first loops false br.blocks.ended br.inner br.blocks.end br.blocks.block_is
      InStatement (if_of test first (otherwise b)) loops place now s t h =
          let br = if_branches schema part loops test first (otherwise b) s t now (if_laid schema part loops place test first (otherwise b) s t now h) in
          K s × (InBlock first loops false br.blocks.ended br.inner br.blocks.end br.blocks.block_is × InOther loops first b s t now br (λ d x y is. InBlock b loops false d x y is))
      InStatement (with_of binding first absent) loops place now s t h =
          let br = with_branches schema part loops binding place first absent s t now (with_laid schema part loops place binding first absent s t now h) in
          K s × InBlock first loops false br.blocks.ended br.inner br.blocks.end br.blocks.block_is
      InStatement (with_of binding first (otherwise b)) loops place now s t h =
          let br = with_branches schema part loops binding place first (otherwise b) s t now (with_laid schema part loops place binding first (otherwise b) s t now h) in
          K s × (InBlock first loops false br.blocks.ended br.inner br.blocks.end br.blocks.block_is × InOther loops first b s t now br (λ d x y is. InBlock b loops false d x y is))
      InStatement (for_of name sequence body) loops place now s t h =
          let f = for_laid schema part loops place name sequence body s t now h in
          K s × InBlock body (loops - 1) false f.ended f.inner f.end f.block_is
