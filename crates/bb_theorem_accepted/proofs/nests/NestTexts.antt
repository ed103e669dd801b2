-- The loops of a text are in order, and its ops stand between them as they may.
use Rattle.std.proofs.Common.{◌≡◌, ℕ, ◌-◌, Bool, true, false, ◌||◌, Ok, subst, arith}
use Rattle.bb_basis.proofs.ResultLemmas.{bind_ok}
use Rattle.bb_code.specs.Code.{Code}
use Rattle.bb_verify_effect.specs.declared.part.Part.{Part}
use Rattle.bb_schema.specs.Schema.{Schema}
use Rattle.bb_lang.specs.Blocks.{BlockTree, StatementTree, no_statement, before_others, action, if_of, with_of, for_of, absent, otherwise}
use Rattle.bb_compile_scope.specs.Place.{Place}
use Rattle.bb_compile_scope.specs.declared.fault.TextFlaw.TheVariants.{NoEnd}
use Rattle.bb_compile_buffer.specs.declared.buffer.Buffer.{Buffer}
use Rattle.bb_compile.specs.Statements.{after_end, statement_code, statements_code}
use Rattle.bb_theorem_accepted.proofs.blocks.BlockLemmas.{stated}
use Rattle.bb_theorem_accepted.proofs.sparing.BranchActs.{second_sole}
use Rattle.bb_theorem_accepted.proofs.blocks.BranchLemmas.{if_laid, with_laid}
use Rattle.bb_theorem_accepted.proofs.buffers.BufferLemmas.{Has, has_before, never_noted, count_of}
use Rattle.bb_theorem_accepted.proofs.blocks.CalmLemmas.{Tests, action_calm, test_tests, head_tests}
use Rattle.bb_theorem_accepted.proofs.sparing.ForActs.{sole_inner}
use Rattle.bb_theorem_accepted.proofs.blocks.ForLays.{end_has}
use Rattle.bb_theorem_accepted.proofs.blocks.GuardLemmas.{Branches, if_branches, with_branches}
use Rattle.bb_theorem_accepted.proofs.blocks.HeadLemmas.{binding_laid}
use Rattle.bb_theorem_accepted.proofs.blocks.LoopLaid.{for_laid}
use Rattle.bb_theorem_accepted.proofs.kinds.MoveLemmas.{Sole}
use Rattle.bb_theorem_accepted.proofs.nests.NestBranches.{Nested, nested_none, nested_calm, nested_on, one_nests, both_nest}
use Rattle.bb_theorem_accepted.proofs.nests.NestFor.{for_nests}
use Rattle.bb_theorem_accepted.proofs.buffers.PutLemmas.{pair_ok}
use Rattle.bb_theorem_accepted.proofs.sparing.ScopeLemmas.{Onto, onto_same}
use Rattle.bb_theorem_accepted.proofs.sparing.ShapeLemmas.{Spares, All, spares_same}
use Rattle.bb_theorem_accepted.proofs.sparing.TextActs.{head_acts, if_scope, block_acts, statement_acts}
use Rattle.bb_theorem_accepted.proofs.blocks.TextLays.{block_lays, statement_lays}

module _ (code : Code) (schema : Schema) (part : Part) where
  abbrev Blocks : (b : BlockTree) (loops : ℕ) → Type 0
  Blocks b loops = (d : Bool) (x y : Buffer) → statements_code schema part loops false b x ≡ Ok (d, y) → Sole x.scope.kinds x.scope.names → Has code y → Nested code loops x y

  -- a test and its blocks
  module _ (loops : ℕ) (first : BlockTree) (s t : Buffer) (now : Bool) (sole : Sole s.scope.kinds s.scope.names) (has : Has code t) (own : Blocks first loops) where
    one_block : (br : Branches schema part loops first absent s t now) → Tests s br.inner br.exits br.guard → Onto s.scope br.inner.scope → Nested code loops s t
    one_block br tests enters =
        let blocks = br.blocks in
        one_nests code schema part loops first s t now has br tests enters.agree (block_lays schema part first loops false blocks.ended br.inner blocks.end blocks.block_is)
        (λ end. own blocks.ended br.inner blocks.end blocks.block_is (enters.sole sole) end)

    two_blocks : (b : BlockTree) → Blocks b loops → (br : Branches schema part loops first (otherwise b) s t now) → Tests s br.inner br.exits br.guard → Onto s.scope br.inner.scope → Spares s.scope br.inner.scope All → Nested code loops s t
    two_blocks b other br tests enters kept =
        let blocks = br.blocks in
        let acted = block_acts schema part first loops false blocks.ended br.inner blocks.end blocks.block_is (enters.sole sole) in
        both_nest code schema part loops first s t now has b br tests enters.agree (block_lays schema part first loops false blocks.ended br.inner blocks.end blocks.block_is)
        (λ end. own blocks.ended br.inner blocks.end blocks.block_is (enters.sole sole) end)
        (λ d x y is names kinds_are end. (block_lays schema part b loops false d x y is, other d x y is (second_sole schema part loops first s t now sole b br tests.scope enters kept acted x names kinds_are) end))

  mutual
    unfolding statements_code statement_code if_branches with_branches

    pub block_nests : (b : BlockTree) (loops : ℕ) (was now : Bool) (s t : Buffer) → statements_code schema part loops was b s ≡ Ok (now, t) → Sole s.scope.kinds s.scope.names → Has code t → Nested code loops s t
    block_nests no_statement loops was now s t h sole has = subst (Nested code loops s) (pair_ok was now s t h).1 (nested_none code loops s)
    block_nests (before_others place x others) loops true now s t h sole has =
        let here = after_end true s in
        let one = bind_ok (statement_code schema part loops place x here) (λ p. statements_code schema part loops (true || p.0) others p.1) (now, t) h in
        never_noted NoEnd s (statement_lays schema part x loops place one.0.0 here one.0.1 one.1).clean
    block_nests (before_others place x others) loops false now s t h sole has =
        let one = bind_ok (statement_code schema part loops place x s) (λ p. statements_code schema part loops (false || p.0) others p.1) (now, t) h in
        let u = one.0.1 in
        let grown = (block_lays schema part others loops one.0.0 now u t one.2).grown in
        let onto = (statement_acts schema part x loops place one.0.0 s u one.1 sole).acts.onto in
        let a = count_of s u (statement_lays schema part x loops place one.0.0 s u one.1).grown in
        let b = count_of u t grown in
        nested_on code loops s u t (omega (arith, a)) (omega (arith, b)) onto.agree (statement_nests x loops place one.0.0 s u one.1 sole (has_before code u t grown has)) (block_nests others loops one.0.0 now u t one.2 (onto.sole sole) has)

    statement_nests : (x : StatementTree) (loops : ℕ) (place : Place) (now : Bool) (s t : Buffer) → statement_code schema part loops place x s ≡ Ok (now, t) → Sole s.scope.kinds s.scope.names → Has code t → Nested code loops s t
    statement_nests (action a) loops place now s t h sole has =
        let is = stated schema part place a s t now h in
        nested_calm code loops s t (action_calm schema part s t a is.code_is) has
    statement_nests (if_of test first absent) loops place now s t h sole has =
        let laid = if_laid schema part loops place test first absent s t now h in
        let same = if_scope schema part loops test first absent s t now laid in
        one_block loops first s t now sole has (λ d x y is own end. block_nests first loops false d x y is own end) (if_branches schema part loops test first absent s t now laid)
        (test_tests schema test s laid.inner laid.exits laid.test_is) (onto_same s.scope laid.inner.scope same)
    statement_nests (if_of test first (otherwise b)) loops place now s t h sole has =
        let laid = if_laid schema part loops place test first (otherwise b) s t now h in
        let same = if_scope schema part loops test first (otherwise b) s t now laid in
        two_blocks loops first s t now sole has (λ d x y is own end. block_nests first loops false d x y is own end) b (λ d x y is own end. block_nests b loops false d x y is own end) (if_branches schema part loops test first (otherwise b) s t now laid)
        (test_tests schema test s laid.inner laid.exits laid.test_is) (onto_same s.scope laid.inner.scope same) (spares_same s.scope laid.inner.scope same)
    statement_nests (with_of binding first absent) loops place now s t h sole has =
        let laid = with_laid schema part loops place binding first absent s t now h in
        let head = binding_laid schema binding place s laid.inner laid.exits laid.test_is in
        let named = head_acts schema binding s laid.inner laid.exits sole head.0 head.1 in
        one_block loops first s t now sole has (λ d x y is own end. block_nests first loops false d x y is own end) (with_branches schema part loops binding place first absent s t now laid)
        (head_tests schema binding s laid.inner laid.exits head.0 head.1) named.1.onto
    statement_nests (with_of binding first (otherwise b)) loops place now s t h sole has =
        let laid = with_laid schema part loops place binding first (otherwise b) s t now h in
        let head = binding_laid schema binding place s laid.inner laid.exits laid.test_is in
        let named = head_acts schema binding s laid.inner laid.exits sole head.0 head.1 in
        two_blocks loops first s t now sole has (λ d x y is own end. block_nests first loops false d x y is own end) b (λ d x y is own end. block_nests b loops false d x y is own end) (with_branches schema part loops binding place first (otherwise b) s t now laid)
        (head_tests schema binding s laid.inner laid.exits head.0 head.1) named.1.onto named.1.spares
    statement_nests (for_of name sequence body) loops place now s t h sole has =
        let f = for_laid schema part loops place name sequence body s t now h in
        let block = block_lays schema part body (loops - 1) false f.ended f.inner f.end f.block_is in
        let inner = sole_inner schema part loops name sequence body s t now sole f in
        for_nests code schema part loops name sequence body s t now sole f block has (block_nests body (loops - 1) false f.ended f.inner f.end f.block_is inner (end_has schema part loops name sequence body s t now f block code has))
