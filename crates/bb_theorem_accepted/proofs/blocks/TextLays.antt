-- What holds of a text by the answer of the compiler alone: that it leaves no flaw, whether it ends, and that it only
-- adds.
use Rattle.std.proofs.Common.{◌≡◌, ℕ, ◌-◌, Bool, true, false, ◌&&◌, ◌||◌, length, List, Option, Some, None, Ok, refl, subst, sym, ap, ◌∙◌}
use Rattle.bb_basis.proofs.BoolLemmas.{or_false}
use Rattle.bb_basis.proofs.ResultLemmas.{bind_ok, same_ok}
use Rattle.bb_verify_effect.specs.declared.part.Part.{Part}
use Rattle.bb_code.specs.declared.frame.Kind.{Kind}
use Rattle.bb_code.specs.declared.op.Op.TheVariants as ops
use Rattle.bb_schema.specs.Schema.{Schema}
use Rattle.bb_compile_scope.specs.declared.fault.TextFlaw.TheVariants.{NoEnd}
use Rattle.bb_lang.specs.Blocks.{BlockTree, StatementTree, OtherwiseTree, no_statement, before_others, action, if_of, with_of, for_of, absent, otherwise}
use Rattle.bb_compile_scope.specs.Place.{Place}
use Rattle.bb_compile_scope.specs.Ending.{always_ends, otherwise_ends, block_ends}
use Rattle.bb_compile_scope.specs.Scope.{mark_of}
use Rattle.bb_compile_buffer.specs.declared.buffer.Buffer.{Buffer}
use Rattle.bb_compile_buffer.specs.Buffers.{aim, labelled, with_kinds, leave, met}
use Rattle.bb_compile.specs.declared.branches.Branch.{Branch}
use Rattle.bb_compile.specs.Bindings.{second_aimed, exits_aimed}
use Rattle.bb_compile.specs.Statements.{after_end, jumped, else_begun, else_ended, if_ended, statement_code, otherwise_code, statements_code}
use Rattle.bb_theorem_accepted.proofs.buffers.BufferLemmas.{Clean, Grown, put_ok}
use Rattle.bb_theorem_accepted.proofs.buffers.PutLemmas.{pair_ok}
use Rattle.bb_theorem_accepted.proofs.blocks.BranchLemmas.{if_laid, with_laid, else_laid}
use Rattle.bb_theorem_accepted.proofs.blocks.GuardLemmas.{if_branches, with_branches}
use Rattle.bb_theorem_accepted.proofs.buffers.StayLemmas.{if_flawed}
use Rattle.bb_theorem_accepted.proofs.blocks.CalmLemmas.{action_calm}
use Rattle.bb_theorem_accepted.proofs.blocks.BlockLemmas.{Lays, LaysOne, stated, lays_none, lays_added, lays_noted, lays_then, one_lays, both_lay}
use Rattle.bb_theorem_accepted.proofs.blocks.LoopLaid.{for_laid}
use Rattle.bb_theorem_accepted.proofs.blocks.ForLays.{for_clean, inner_clean, for_lays}

or_assoc : (a b c : Bool) → ((a || b) || c) ≡ (a || (b || c))
or_assoc true b c = refl
or_assoc false b c = refl

-- ---- flaws

same_aimed : (o : Option ℕ) (s : Buffer) → (second_aimed o s).flaw ≡ s.flaw
same_aimed None s = refl
same_aimed (Some at) s = refl

same_met : (e o : Bool) (kinds : List Kind) (s : Buffer) → (met e kinds o s).flaw ≡ s.flaw
unfolding met
same_met true o kinds s = refl
same_met false true kinds s = refl
same_met false false kinds s = refl

same_end : (branch : Branch) (s : Buffer) → (if_ended branch s).flaw ≡ s.flaw
unfolding if_ended labelled
same_end branch s = same_met branch.ended false branch.before.kinds (exits_aimed branch.exits s) ∙ same_aimed branch.exits.second (aim branch.exits.first s)

same_begun : (branch : Branch) (jump : ℕ) (w x : Buffer) → else_begun branch w ≡ Ok (jump, x) → x.flaw ≡ w.flaw
unfolding else_begun labelled
same_begun branch jump w x h =
    let one = bind_ok (jumped branch w) (λ p. Ok (length w.ops, labelled (with_kinds branch.before.kinds (exits_aimed branch.exits p)))) (jump, x) h in
    ap (λ (y : Buffer). y.flaw) (sym (pair_ok (length w.ops) jump (labelled (with_kinds branch.before.kinds (exits_aimed branch.exits one.0))) x one.2).1)
    ∙ (same_aimed branch.exits.second (aim branch.exits.first one.0) ∙ by_end branch.ended one.0 one.1)
  where
    by_end : (e : Bool) (p : Buffer) → jumped (record branch { ended = e }) w ≡ Ok p → p.flaw ≡ w.flaw
    by_end true p h = ap (λ (y : Buffer). y.flaw) (sym (same_ok w p h))
    by_end false p h = ap (λ (y : Buffer). y.flaw) (put_ok (ops.Jump 0) w p h)

same_ended : (branch : Branch) (jump : ℕ) (kinds : List Kind) (d : Bool) (s : Buffer) → (else_ended branch jump kinds d s).flaw ≡ s.flaw
unfolding else_ended labelled
same_ended branch jump kinds d s = by_end branch.ended
  where
    by_end : (e : Bool) → (else_ended (record branch { ended = e }) jump kinds d s).flaw ≡ s.flaw
    by_end true = same_met d true kinds s
    by_end false = same_met d false kinds s

module _ (schema : Schema) (part : Part) where
  mutual
    unfolding statements_code statement_code otherwise_code

    -- a statement with a flaw is refused, so there is none after a block
    pub block_clean : (b : BlockTree) (loops : ℕ) (was now : Bool) (s t : Buffer) → Clean s → statements_code schema part loops was b s ≡ Ok (now, t) → Clean t
    block_clean no_statement loops was now s t clean h = ap (λ (x : Buffer). x.flaw) (sym (pair_ok was now s t h).1) ∙ clean
    block_clean (before_others place x others) loops was now s t clean h =
        let here = after_end was s in
        let one = bind_ok (statement_code schema part loops place x here) (λ p. statements_code schema part loops (was || p.0) others p.1) (now, t) h in
        let own = statement_clean x loops place one.0.0 here one.0.1 one.1 in
        block_clean others loops (was || one.0.0) now one.0.1 t own one.2

    pub statement_clean : (x : StatementTree) (loops : ℕ) (place : Place) (now : Bool) (s t : Buffer) → statement_code schema part loops place x s ≡ Ok (now, t) → Clean t
    statement_clean (action a) loops place now s t h = (stated schema part place a s t now h).clean
    statement_clean (if_of test first other) loops place now s t h =
        let br = if_branches schema part loops test first other s t now (if_laid schema part loops place test first other s t now h) in
        let blocks = br.blocks in
        let before = mark_of br.guard.tested.scope in
        let behind = block_clean first loops false blocks.ended br.inner blocks.end br.guard.clean blocks.block_is in
        other_clean other loops (record { before = before; exits = br.exits; ended = blocks.ended }) now (leave before (leave (mark_of br.inner.scope) blocks.end)) t behind blocks.rest
    statement_clean (with_of binding first other) loops place now s t h =
        let br = with_branches schema part loops binding place first other s t now (with_laid schema part loops place binding first other s t now h) in
        let blocks = br.blocks in
        let before = mark_of br.guard.tested.scope in
        let behind = block_clean first loops false blocks.ended br.inner blocks.end br.guard.clean blocks.block_is in
        other_clean other loops (record { before = before; exits = br.exits; ended = blocks.ended }) now (leave before (leave (mark_of br.inner.scope) blocks.end)) t behind blocks.rest
    statement_clean (for_of name sequence body) loops place now s t h =
        let f = for_laid schema part loops place name sequence body s t now h in
        for_clean schema part loops name sequence body s t now f (block_clean body (loops - 1) false f.ended f.inner f.end (inner_clean schema part loops name sequence body s t now f) f.block_is)

    other_clean : (o : OtherwiseTree) (loops : ℕ) (branch : Branch) (now : Bool) (w t : Buffer) → Clean w → otherwise_code schema part loops branch o w ≡ Ok (now, t) → Clean t
    other_clean absent loops branch now w t clean h = ap (λ (x : Buffer). x.flaw) (sym (pair_ok false now (if_ended branch w) t h).1) ∙ (same_end branch w ∙ clean)
    other_clean (otherwise b) loops branch now w t clean h =
        let laid = else_laid schema part loops branch b w t now h in
        let behind = block_clean b loops false laid.ended laid.inner laid.end (same_begun branch laid.jump w laid.inner laid.begun ∙ clean) laid.block_is in
        ap (λ (x : Buffer). x.flaw) laid.is ∙ (same_ended branch laid.jump w.scope.kinds laid.ended (leave (mark_of laid.inner.scope) laid.end) ∙ behind)

  mutual
    unfolding statements_code statement_code otherwise_code block_ends always_ends otherwise_ends

    -- whether a block ends
    pub block_now : (b : BlockTree) (loops : ℕ) (was now : Bool) (s t : Buffer) → statements_code schema part loops was b s ≡ Ok (now, t) → now ≡ (was || block_ends b)
    block_now no_statement loops was now s t h = sym (pair_ok was now s t h).0 ∙ sym (or_false was)
    block_now (before_others place x others) loops was now s t h =
        let here = after_end was s in
        let one = bind_ok (statement_code schema part loops place x here) (λ p. statements_code schema part loops (was || p.0) others p.1) (now, t) h in
        let own = statement_now x loops place one.0.0 here one.0.1 one.1 in
        let rest = block_now others loops (was || one.0.0) now one.0.1 t one.2 in
        rest ∙ (or_assoc was one.0.0 (block_ends others) ∙ ap (λ b. was || (b || block_ends others)) own)

    pub statement_now : (x : StatementTree) (loops : ℕ) (place : Place) (now : Bool) (s t : Buffer) → statement_code schema part loops place x s ≡ Ok (now, t) → now ≡ always_ends x
    statement_now (action a) loops place now s t h = sym (stated schema part place a s t now h).now_is
    statement_now (if_of test first other) loops place now s t h =
        let br = if_branches schema part loops test first other s t now (if_laid schema part loops place test first other s t now h) in
        let blocks = br.blocks in
        let before = mark_of br.guard.tested.scope in
        let own = block_now first loops false blocks.ended br.inner blocks.end blocks.block_is in
        let rest = other_now other loops (record { before = before; exits = br.exits; ended = blocks.ended }) now (leave before (leave (mark_of br.inner.scope) blocks.end)) t blocks.rest in
        rest ∙ ap (λ e. e && otherwise_ends other) own
    statement_now (with_of binding first other) loops place now s t h =
        let br = with_branches schema part loops binding place first other s t now (with_laid schema part loops place binding first other s t now h) in
        let blocks = br.blocks in
        let before = mark_of br.guard.tested.scope in
        let own = block_now first loops false blocks.ended br.inner blocks.end blocks.block_is in
        let rest = other_now other loops (record { before = before; exits = br.exits; ended = blocks.ended }) now (leave before (leave (mark_of br.inner.scope) blocks.end)) t blocks.rest in
        rest ∙ ap (λ e. e && otherwise_ends other) own
    statement_now (for_of name sequence body) loops place now s t h = (for_laid schema part loops place name sequence body s t now h).now_is

    other_now : (o : OtherwiseTree) (loops : ℕ) (branch : Branch) (now : Bool) (w t : Buffer) → otherwise_code schema part loops branch o w ≡ Ok (now, t) → now ≡ (branch.ended && otherwise_ends o)
    other_now absent loops branch now w t h = sym (pair_ok false now (if_ended branch w) t h).0 ∙ sym (and_false branch.ended)
      where
        and_false : (b : Bool) → (b && false) ≡ false
        and_false true = refl
        and_false false = refl
    other_now (otherwise b) loops branch now w t h =
        let laid = else_laid schema part loops branch b w t now h in
        laid.now_is ∙ ap (λ e. branch.ended && e) (block_now b loops false laid.ended laid.inner laid.end laid.block_is)

  mutual
    unfolding statements_code statement_code

    -- a block only adds ops, and all that it adds are aimed; labels that stood before its first op stay
    pub block_lays : (b : BlockTree) (loops : ℕ) (was now : Bool) (s t : Buffer) → statements_code schema part loops was b s ≡ Ok (now, t) → Lays s t
    block_lays no_statement loops was now s t h = subst (Lays s) (pair_ok was now s t h).1 (lays_none s)
    block_lays (before_others place x others) loops was now s t h =
        let here = after_end was s in
        let one = bind_ok (statement_code schema part loops place x here) (λ p. statements_code schema part loops (was || p.0) others p.1) (now, t) h in
        let own = statement_lays x loops place one.0.0 here one.0.1 one.1 in
        let rest = block_lays others loops (was || one.0.0) now one.0.1 t one.2 in
        lays_noted s here t (if_flawed was NoEnd s).adds (lays_then here one.0.1 t own rest)

    pub statement_lays : (x : StatementTree) (loops : ℕ) (place : Place) (now : Bool) (s t : Buffer) → statement_code schema part loops place x s ≡ Ok (now, t) → LaysOne s t
    statement_lays (action a) loops place now s t h = lays_added s t (action_calm schema part s t a (stated schema part place a s t now h).code_is).adds (stated schema part place a s t now h).clean
    statement_lays (if_of test first absent) loops place now s t h =
        let br = if_branches schema part loops test first absent s t now (if_laid schema part loops place test first absent s t now h) in
        one_lays schema part loops first s t now br (block_lays first loops false br.blocks.ended br.inner br.blocks.end br.blocks.block_is)
    statement_lays (if_of test first (otherwise b)) loops place now s t h =
        let br = if_branches schema part loops test first (otherwise b) s t now (if_laid schema part loops place test first (otherwise b) s t now h) in
        both_lay schema part loops first s t now b br (block_lays first loops false br.blocks.ended br.inner br.blocks.end br.blocks.block_is)
        (λ d inner end is. block_lays b loops false d inner end is)
    statement_lays (with_of binding first absent) loops place now s t h =
        let br = with_branches schema part loops binding place first absent s t now (with_laid schema part loops place binding first absent s t now h) in
        one_lays schema part loops first s t now br (block_lays first loops false br.blocks.ended br.inner br.blocks.end br.blocks.block_is)
    statement_lays (with_of binding first (otherwise b)) loops place now s t h =
        let br = with_branches schema part loops binding place first (otherwise b) s t now (with_laid schema part loops place binding first (otherwise b) s t now h) in
        both_lay schema part loops first s t now b br (block_lays first loops false br.blocks.ended br.inner br.blocks.end br.blocks.block_is)
        (λ d inner end is. block_lays b loops false d inner end is)
    statement_lays (for_of name sequence body) loops place now s t h =
        let f = for_laid schema part loops place name sequence body s t now h in
        for_lays schema part loops name sequence body s t now f (block_lays body (loops - 1) false f.ended f.inner f.end f.block_is)

  pub block_grown : (b : BlockTree) (loops : ℕ) (was now : Bool) (s t : Buffer) → statements_code schema part loops was b s ≡ Ok (now, t) → Grown s t
  block_grown b loops was now s t h = (block_lays b loops was now s t h).grown
