-- Whole texts do what they mean.
use Rattle.std.proofs.Common.{◌≡◌, ℕ, ◌-◌, Bool, false, ◌||◌, List, length, Ok, subst}
use Rattle.bb_basis.specs.Results.{◌>>=◌}
use Rattle.bb_basis.proofs.ResultLemmas.{bind_ok}
use Rattle.bb_code.specs.Code.{Code}
use Rattle.bb_verify_effect.specs.declared.part.Part.{Part}
use Rattle.bb_schema.specs.Schema.{Schema}
use Rattle.bb_schema.specs.Fits as schemas
use Rattle.bb_lang.specs.Blocks.{BlockTree, StatementTree, no_statement, before_others, action, if_of, with_of, for_of, absent, otherwise}
use Rattle.bb_compile_scope.specs.Place.{Place}
use Rattle.bb_compile_scope.specs.declared.fault.TextFlaw.TheVariants.{NoEnd}
use Rattle.bb_theorem_accepted.specs.Buffer.{Buffer}
use Rattle.bb_compile.specs.Statements.{after_end, statement_code, statements_code}
use Rattle.bb_machine.specs.Changing.{State}
use Rattle.bb_theorem_machine.specs.NeverWrong.{Stands}
use Rattle.bb_verify_effect.specs.declared.frame.Frame.{Frame}
use Rattle.bb_theorem_accepted.proofs.Laws.{Clean, Has, not_failed, has_before, pair_ok, stated, if_laid, with_laid, binding_laid, if_branches, with_branches, Finds, InBlock, InStatement, statement_clean, block_grown, for_laid, loop_clean, inner_clean, loop_has}
use Rattle.bb_theorem_meaning.specs.Expressions.{value_of}
use Rattle.bb_theorem_meaning.specs.Statements.{bound, left, otherwise_done, statement, statements}
use Rattle.bb_theorem_meaning.proofs.ComeLemmas.{Comes}
use Rattle.bb_theorem_meaning.proofs.AtomLemmas.{Good}
use Rattle.bb_theorem_meaning.proofs.ActLemmas.{Acts}
use Rattle.bb_theorem_meaning.proofs.ActionLemmas.{action_does}
use Rattle.bb_theorem_meaning.proofs.LoopLemmas.{Reached}
use Rattle.bb_theorem_meaning.proofs.ForLemmas.{for_does}
use Rattle.bb_theorem_meaning.proofs.BlockLemmas.{acts_on, acts_none, acts_same, one_does, both_do}
use Rattle.bb_theorem_meaning.proofs.ClassLemmas.{found_below}
use Rattle.bb_theorem_meaning.proofs.HeadLemmas.{where_found, with_means, head_tests}
use Rattle.bb_theorem_meaning.proofs.TestLemmas.{chosen, where_true, if_tests, if_means}

module _ (schema : Schema) (sf : schemas.Fits schema) (part : Part) (code : Code) (frames : List Frame) where
  goods : (start : State) → Reached schema code frames start → (n : ℕ) (st : State) → Comes code start n (Ok st) → Good schema st.1
  goods start reached n st c = (reached c.1 st c.3).0

  all_stand : (start : State) → Reached schema code frames start → (n : ℕ) (st : State) → Comes code start n (Ok st) → Stands schema code frames st
  all_stand start reached n st c = (reached c.1 st c.3).1

  -- the frame where a statement with blocks begins is known to fit
  abbrev Before : Buffer → Type 0
  Before x = Finds schema sf frames (length x.ops) x.scope.kinds

  -- what is known before each statement with blocks of a text
  abbrev Told : (b : BlockTree) (loops : ℕ) (was now : Bool) (s t : Buffer) → statements_code schema part loops was b s ≡ Ok (now, t) → Type 0
  Told b loops was now s t h = InBlock schema part Before b loops was now s t h

  mutual
    unfolding statements_code statement_code statements statement otherwise_done if_branches with_branches InBlock InStatement

    pub block_does : (start : State) → Reached schema code frames start → (b : BlockTree) (loops : ℕ) (was now : Bool) (s t : Buffer) → Clean s → (h : statements_code schema part loops was b s ≡ Ok (now, t)) → Told b loops was now s t h → Has code t → Acts code start s t (statements b)
    block_does start reached no_statement loops was now s t clean h told has = acts_none schema sf part code start (goods start reached) s t (pair_ok was now s t h).1 clean
    block_does start reached (before_others place x others) loops was now s t clean h told has =
        let here = after_end was s in
        let one = bind_ok (statement_code schema part loops place x here) (λ p. statements_code schema part loops (was || p.0) others p.1) (now, t) h in
        let behind = block_grown schema part others loops (was || one.0.0) now one.0.1 t one.2 in
        let first = statement_does start reached x loops place one.0.0 here one.0.1 one.1 told.0 (has_before code one.0.1 t behind has) in
        let rest = block_does start reached others loops (was || one.0.0) now one.0.1 t (statement_clean schema part x loops place one.0.0 here one.0.1 one.1) one.2 told.1 has in
        let free = not_failed was NoEnd s first.clean in
        acts_on schema sf part code start (goods start reached) s one.0.1 t (statement x) (statements others) (subst (λ y. Acts code start y one.0.1 (statement x)) free.1 first) rest

    statement_does : (start : State) → Reached schema code frames start → (x : StatementTree) (loops : ℕ) (place : Place) (now : Bool) (s t : Buffer) → (h : statement_code schema part loops place x s ≡ Ok (now, t)) → InStatement schema part Before x loops place now s t h → Has code t → Acts code start s t (statement x)
    statement_does start reached (action a) loops place now s t h told has = let is = stated schema part place a s t now h in action_does schema sf code start (goods start reached) part a s t is.code_is is.clean has
    statement_does start reached (if_of test first absent) loops place now s t h told has =
        let laid = if_laid schema part loops place test first absent s t now h in
        let br = if_branches schema part loops test first absent s t now laid in
        let tests = if_tests code start schema sf (goods start reached) test s laid.inner laid.exits laid.test_is in
        acts_same schema sf part code start (goods start reached) s t (λ scene. where_true code start test scene >>= chosen (statements first) (λ sc. Ok sc) scene) (statement (if_of test first absent)) (λ scene. if_means scene (value_of scene.board scene.names test) (statements first) (λ sc. Ok sc))
        (one_does schema sf part code start (goods start reached) (where_true code start test) first loops s t now br tests (block_grown schema part first loops false br.blocks.ended br.inner br.blocks.end br.blocks.block_is)
        (λ has. block_does start reached first loops false br.blocks.ended br.inner br.blocks.end br.guard.clean br.blocks.block_is told.1 has) has)
    statement_does start reached (if_of test first (otherwise b)) loops place now s t h told has =
        let laid = if_laid schema part loops place test first (otherwise b) s t now h in
        let br = if_branches schema part loops test first (otherwise b) s t now laid in
        let tests = if_tests code start schema sf (goods start reached) test s laid.inner laid.exits laid.test_is in
        acts_same schema sf part code start (goods start reached) s t (λ scene. where_true code start test scene >>= chosen (statements first) (λ sc. left sc (statements b sc)) scene) (statement (if_of test first (otherwise b))) (λ scene. if_means scene (value_of scene.board scene.names test) (statements first) (λ sc. left sc (statements b sc)))
        (both_do schema sf part code start (goods start reached) (where_true code start test) first loops s t now b br tests (λ has. block_does start reached first loops false br.blocks.ended br.inner br.blocks.end br.guard.clean br.blocks.block_is told.1.0 has) (λ d x y is. Told b loops false d x y is) told.1.1
        (λ d x y clean is told has. block_does start reached b loops false d x y clean is told has) (λ d x y is. block_grown schema part b loops false d x y is) has)
    statement_does start reached (with_of binding first absent) loops place now s t h told has =
        let laid = with_laid schema part loops place binding first absent s t now h in
        let br = with_branches schema part loops binding place first absent s t now laid in
        let head = binding_laid schema binding place s laid.inner laid.exits laid.test_is in
        let tests = head_tests schema sf code start (goods start reached) binding s laid.inner laid.exits head.0 head.1 (found_below schema sf code start frames (all_stand start reached) s told.0) in
        acts_same schema sf part code start (goods start reached) s t (λ scene. where_found binding scene >>= chosen (statements first) (λ sc. Ok sc) scene) (statement (with_of binding first absent)) (λ scene. with_means scene (bound binding scene) (statements first) (λ sc. Ok sc))
        (one_does schema sf part code start (goods start reached) (where_found binding) first loops s t now br tests (block_grown schema part first loops false br.blocks.ended br.inner br.blocks.end br.blocks.block_is)
        (λ has. block_does start reached first loops false br.blocks.ended br.inner br.blocks.end br.guard.clean br.blocks.block_is told.1 has) has)
    statement_does start reached (with_of binding first (otherwise b)) loops place now s t h told has =
        let laid = with_laid schema part loops place binding first (otherwise b) s t now h in
        let br = with_branches schema part loops binding place first (otherwise b) s t now laid in
        let head = binding_laid schema binding place s laid.inner laid.exits laid.test_is in
        let tests = head_tests schema sf code start (goods start reached) binding s laid.inner laid.exits head.0 head.1 (found_below schema sf code start frames (all_stand start reached) s told.0) in
        acts_same schema sf part code start (goods start reached) s t (λ scene. where_found binding scene >>= chosen (statements first) (λ sc. left sc (statements b sc)) scene) (statement (with_of binding first (otherwise b))) (λ scene. with_means scene (bound binding scene) (statements first) (λ sc. left sc (statements b sc)))
        (both_do schema sf part code start (goods start reached) (where_found binding) first loops s t now b br tests (λ has. block_does start reached first loops false br.blocks.ended br.inner br.blocks.end br.guard.clean br.blocks.block_is told.1.0 has) (λ d x y is. Told b loops false d x y is) told.1.1
        (λ d x y clean is told has. block_does start reached b loops false d x y clean is told has) (λ d x y is. block_grown schema part b loops false d x y is) has)
    statement_does start reached (for_of name sequence body) loops place now s t h told has =
        let f = for_laid schema part loops place name sequence body s t now h in
        for_does schema sf part code frames start reached loops name sequence body s t now f has
        (λ from there. block_does from there body (loops - 1) false f.ended f.inner f.end (inner_clean schema part loops name sequence body s t now f) f.block_is told.1 (loop_has schema part loops name sequence body s t now f code has))
        (loop_clean schema part loops name sequence body s t now f)
