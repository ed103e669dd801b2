-- The numbers and the text constants of an expression that stands in a text.
use Rattle.std.proofs.Common.{◌≡◌, ℕ, zero, suc, ◌≤◌, ◌-◌, true, List, [], ◌∷◌, refl, ap, ◌∙◌, arith}
use Rattle.std.specs.Prelude.{ℤ, pos, neg_ℤ, ◌^◌}
use Rattle.std.specs.Str.{is_utf8}
use Rattle.std.proofs.lemmas.Bool.{and_from, lt-ltb}
use Rattle.bb_compile_buffer.specs.Within.{eight_bytes}
use Rattle.bb_lang_tree.specs.State.{State}
use Rattle.bb_lang_tree.specs.Trees.{ExprTree, PatternTree}
use Rattle.bb_lang_tree.specs.View.{steps_of, patterns_of, sequence_of}
use Rattle.bb_lang_tree.specs.declared.tree.Sequence.{Sequence}
use Rattle.bb_lang_tree.specs.declared.tree.Step.{Step}
use Rattle.bb_lang.specs.Expressions.{chained}
use Rattle.bb_theorem_grammar.specs.Words.{IsInt, IsDivisor, IsText}
use Rattle.bb_theorem_grammar.specs.Expressions.{IsExpr, AreOrs, IsConj, AreAnds, IsCmp, IsSum, AreTerms, IsTerm, AreFacts, IsFact, IsSeq, IsCondition, IsPat, ArePats, AreMorePats}
use Rattle.bb_theorem_grammar.specs.judged.Held.{expr_held, steps_held, sequence_held, pattern_held, patterns_held}
use Rattle.bb_theorem_grammar.proofs.judged_lemmas.parsed.LossyLemmas.{lossy_utf8}

-- ---- numbers and text constants

minus_held : (n : ℕ) → n ≤ 2 ^ 63 → eight_bytes (neg_ℤ (pos n)) ≡ true
minus_held zero le = refl
minus_held (suc n) le = lt-ltb n (2 ^ 63) (omega (arith, le))

plain_held : (n : ℕ) → n ≤ 2 ^ 63 - 1 → eight_bytes (pos n) ≡ true
plain_held n le = lt-ltb n (2 ^ 63) (omega (arith, le))

int_holds : {i : ℤ} {s t : State} → IsInt i s t → eight_bytes i ≡ true
int_holds (IsInt.plain {n = n} d) = plain_held n d.within
int_holds (IsInt.minus {n = n} k d) = minus_held n d.within

divisor_holds : {i : ℤ} {s t : State} → IsDivisor i s t → eight_bytes i ≡ true
divisor_holds (IsDivisor.above_zero {n = n} some d) = plain_held n d.within

text_holds : {x : List ℕ} {s t : State} → IsText x s t → is_utf8 x ≡ true
text_holds d = ap is_utf8 d.is ∙ lossy_utf8 d.value

-- ---- expressions, sequences and patterns

chain_held : (e : ExprTree) (es : List Step) → expr_held e ≡ true → steps_held (steps_of es) ≡ true → expr_held (chained e es) ≡ true
unfolding expr_held
chain_held e [] one rest = one
chain_held e (x ∷ xs) one rest = and_from (expr_held e) (steps_held (steps_of (x ∷ xs))) one rest

mutual
  unfolding expr_held steps_held sequence_held pattern_held patterns_held

  pub expr_holds : {n : ℕ} {e : ExprTree} {s t : State} → IsExpr n e s t → expr_held e ≡ true
  expr_holds (IsExpr.by_or {e = e} {es = es} c os) = chain_held e es (conj_holds c) (ors_hold os)

  ors_hold : {n : ℕ} {es : List Step} {s t : State} → AreOrs n es s t → steps_held (steps_of es) ≡ true
  ors_hold AreOrs.no_or = refl
  ors_hold (AreOrs.or {e = e} {es = es} k c os) = and_from (expr_held e) (steps_held (steps_of es)) (conj_holds c) (ors_hold os)

  conj_holds : {n : ℕ} {e : ExprTree} {s t : State} → IsConj n e s t → expr_held e ≡ true
  conj_holds (IsConj.by_and {e = e} {es = es} c os) = chain_held e es (cmp_holds c) (ands_hold os)

  ands_hold : {n : ℕ} {es : List Step} {s t : State} → AreAnds n es s t → steps_held (steps_of es) ≡ true
  ands_hold AreAnds.no_and = refl
  ands_hold (AreAnds.and {e = e} {es = es} k c os) = and_from (expr_held e) (steps_held (steps_of es)) (cmp_holds c) (ands_hold os)

  cmp_holds : {n : ℕ} {e : ExprTree} {s t : State} → IsCmp n e s t → expr_held e ≡ true
  cmp_holds (IsCmp.alone c) = sum_holds c
  cmp_holds (IsCmp.compared {l = l} {r = r} x w k y) = and_from (expr_held l) (expr_held r) (sum_holds x) (sum_holds y)

  sum_holds : {n : ℕ} {e : ExprTree} {s t : State} → IsSum n e s t → expr_held e ≡ true
  sum_holds (IsSum.by_terms {e = e} {es = es} c os) = chain_held e es (term_holds c) (terms_hold os)

  terms_hold : {n : ℕ} {es : List Step} {s t : State} → AreTerms n es s t → steps_held (steps_of es) ≡ true
  terms_hold AreTerms.no_term = refl
  terms_hold (AreTerms.plus {e = e} {es = es} k c os) = and_from (expr_held e) (steps_held (steps_of es)) (term_holds c) (terms_hold os)
  terms_hold (AreTerms.minus {e = e} {es = es} k c os) = and_from (expr_held e) (steps_held (steps_of es)) (term_holds c) (terms_hold os)

  term_holds : {n : ℕ} {e : ExprTree} {s t : State} → IsTerm n e s t → expr_held e ≡ true
  term_holds (IsTerm.by_facts {e = e} {es = es} c os) = chain_held e es (fact_holds c) (facts_hold os)

  facts_hold : {n : ℕ} {es : List Step} {s t : State} → AreFacts n es s t → steps_held (steps_of es) ≡ true
  facts_hold AreFacts.no_fact = refl
  facts_hold (AreFacts.times {e = e} {es = es} k c os) = and_from (expr_held e) (steps_held (steps_of es)) (fact_holds c) (facts_hold os)
  facts_hold (AreFacts.quotient {d = d} {es = es} k c os) = and_from (eight_bytes d) (steps_held (steps_of es)) (divisor_holds c) (facts_hold os)
  facts_hold (AreFacts.remainder {d = d} {es = es} k c os) = and_from (eight_bytes d) (steps_held (steps_of es)) (divisor_holds c) (facts_hold os)

  fact_holds : {n : ℕ} {e : ExprTree} {s t : State} → IsFact n e s t → expr_held e ≡ true
  fact_holds (IsFact.int d) = int_holds d
  fact_holds (IsFact.text d) = text_holds d
  fact_holds (IsFact.yes k) = refl
  fact_holds (IsFact.no k) = refl
  fact_holds (IsFact.one w k o d c) = expr_holds d
  fact_holds (IsFact.two {l = l} {r = r} w k o a c b d) = and_from (expr_held l) (expr_held r) (expr_holds a) (expr_holds b)
  fact_holds (IsFact.interval {l = l} {r = r} o a c b d) = and_from (expr_held l) (expr_held r) (expr_holds a) (expr_holds b)
  fact_holds (IsFact.size k o d c) = seq_holds d
  fact_holds (IsFact.label a k b) = refl
  fact_holds (IsFact.slot a k b) = refl
  fact_holds (IsFact.variable a) = refl
  fact_holds (IsFact.grouped o d c) = expr_holds d

  pub seq_holds : {n : ℕ} {q : Sequence} {s t : State} → IsSeq n q s t → sequence_held (sequence_of q) ≡ true
  seq_holds (IsSeq.find a b c d e) = condition_holds e
  seq_holds (IsSeq.links a k b) = refl

  condition_holds : {n : ℕ} {p : PatternTree} {s t : State} → IsCondition n p s t → pattern_held p ≡ true
  condition_holds IsCondition.anywhere = refl
  condition_holds (IsCondition.filtered k d) = pat_holds d

  pat_holds : {n : ℕ} {p : PatternTree} {s t : State} → IsPat n p s t → pattern_held p ≡ true
  pat_holds (IsPat.each k) = refl
  pat_holds (IsPat.both k o ps c) = pats_hold ps
  pat_holds (IsPat.either k o ps c) = pats_hold ps
  pat_holds (IsPat.neither k o d c) = pat_holds d
  pat_holds (IsPat.tested a w k d) = expr_holds d

  pats_hold : {n : ℕ} {ps : List PatternTree} {s t : State} → ArePats n ps s t → patterns_held (patterns_of ps) ≡ true
  pats_hold ArePats.no_pat = refl
  pats_hold (ArePats.pats {p = p} {ps = ps} d ds) = and_from (pattern_held p) (patterns_held (patterns_of ps)) (pat_holds d) (more_pats_hold ds)

  more_pats_hold : {n : ℕ} {ps : List PatternTree} {s t : State} → AreMorePats n ps s t → patterns_held (patterns_of ps) ≡ true
  more_pats_hold AreMorePats.no_more_pat = refl
  more_pats_hold (AreMorePats.more_pats {p = p} {ps = ps} k d ds) = and_from (pattern_held p) (patterns_held (patterns_of ps)) (pat_holds d) (more_pats_hold ds)
