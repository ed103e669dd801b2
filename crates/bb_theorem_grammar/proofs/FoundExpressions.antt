-- Expressions, sequences and patterns that stand in a text are read.
use Rattle.std.proofs.Common.{◌≡◌, ℕ, zero, suc, ◌+◌, ◌<◌, ◌≤◌, true, false, List, [], ◌∷◌, length, Option, Some, Ok, refl, ap, codes, arith}
use Rattle.std.specs.Prelude.{ℤ}
use Rattle.bb_basis.specs.Names.{is_name}
use Rattle.bb_lang_tree.specs.State.{State, Reader, at, left}
use Rattle.bb_lang_tree.specs.Words.{is_reserved}
use Rattle.bb_lang_tree.specs.declared.atom.Atom.TheVariants as atoms
use Rattle.bb_lang_tree.specs.declared.atom.Binary.TheVariants as binaries
use Rattle.bb_lang_tree.specs.declared.atom.Operator.TheVariants as operators
use Rattle.bb_lang_tree.specs.declared.atom.Division.TheVariants.{Quotient, Remainder}
use Rattle.bb_lang_tree.specs.declared.tree.Step.{Step}
use Rattle.bb_lang_tree.specs.declared.tree.Step.TheVariants.{Apply, Divide}
use Rattle.bb_lang_tree.specs.declared.tree.Sequence.{Sequence}
use Rattle.bb_lang_tree.specs.Trees.{ExprTree, PatternTree, unary, binary, size_of, test}
use Rattle.bb_lang_tree.specs.View.{sequence_of}
use Rattle.bb_lang.specs.Repeats.{repeated, next_item, items}
use Rattle.bb_lang.specs.Expressions.{condition, sequence, unary_at, binary_at, factor, term, sum, comparison, conjunction, expr_in, pattern_in, inside, inner_of}
use Rattle.bb_lang.specs.declared.sources.TheConstants.{NESTING_LIMIT}
use Rattle.bb_theorem_grammar.specs.Tokens.{Takes}
use Rattle.bb_theorem_grammar.specs.Words.{IsDivisor}
use Rattle.bb_theorem_grammar.specs.Expressions.{IsExpr, AreOrs, IsConj, AreAnds, IsCmp, IsSum, AreTerms, IsTerm, AreFacts, IsFact, IsSeq, IsCondition, IsPat, ArePats, AreMorePats}
use Rattle.bb_theorem_grammar.proofs.SoundLemmas.{next_left}
use Rattle.bb_theorem_grammar.proofs.NameLemmas.{divisor_read}
use Rattle.bb_theorem_grammar.proofs.ExpressionLemmas.{fact_read, term_read, cmp_read, conj_read, pattern_in_read, all_ready}
use Rattle.bb_theorem_grammar.proofs.FoundTokens.{NotAt, none_pass, at_its_token, missed}
use Rattle.bb_theorem_grammar.proofs.FoundNames.{Stands, is_free, name_others, quote_others, divisor_found}
use Rattle.bb_theorem_grammar.proofs.FoundParts.{fact_ends, term_ends, sum_ends, cmp_ends, conj_ends, expr_ends, seq_ends, none_found, more_found, or_reader, and_reader, term_reader, fact_reader, no_or_found, no_and_found, no_term_found, no_fact_found, or_found, and_found, plus_found, minus_found, times_found, quotient_found, remainder_found, opened_found, part_words, unary_found, binary_found, no_comparison, comparison_found, int_atom, text_atom, true_atom, false_atom, slot_atom, label_atom, variable_atom, variable_first, name_first, int_first}
use Rattle.bb_theorem_grammar.proofs.FoundProductions.{expr_whole, conj_whole, sum_whole, term_whole, alone_whole, compared_whole, group_whole, pair_whole, sized_whole, parts_whole, part_whole, grouped_fact, interval_fact, size_fact, other_fact, one_by, two_by, atom_fact, all_pat, both_pat, either_pat, neither_pat, tested_whole, tested_pat, where_found, anywhere_found, find_found, links_found, comma_found, no_comma_found, no_items_found, items_found}

-- ---- what comes after an operand

ors_after : {n : ℕ} {es : List Step} {s t : State} → AreOrs n es s t → NotAt expr_ends t → NotAt conj_ends s
ors_after AreOrs.no_or ends = ends.1
ors_after (AreOrs.or {s = s} k c os) ends = missed (codes "or") s k.is conj_ends refl

ands_after : {n : ℕ} {es : List Step} {s t : State} → AreAnds n es s t → NotAt conj_ends t → NotAt cmp_ends s
ands_after AreAnds.no_and ends = ends.1
ands_after (AreAnds.and {s = s} k c os) ends = missed (codes "and") s k.is cmp_ends refl

terms_after : {n : ℕ} {es : List Step} {s t : State} → AreTerms n es s t → NotAt sum_ends t → NotAt term_ends s
terms_after AreTerms.no_term ends = ends.1.1
terms_after (AreTerms.plus {s = s} k c os) ends = missed (codes "+") s k.is term_ends refl
terms_after (AreTerms.minus {s = s} k c os) ends = missed (codes "-") s k.is term_ends refl

facts_after : {n : ℕ} {es : List Step} {s t : State} → AreFacts n es s t → NotAt term_ends t → NotAt fact_ends s
facts_after AreFacts.no_fact ends = ends.1.1.1
facts_after (AreFacts.times {s = s} k c os) ends = missed (codes "*") s k.is fact_ends refl
facts_after (AreFacts.quotient {s = s} k c os) ends = missed (codes "/") s k.is fact_ends refl
facts_after (AreFacts.remainder {s = s} k c os) ends = missed (codes "%") s k.is fact_ends refl

more_pats_after : {n : ℕ} {ps : List PatternTree} {s t : State} → AreMorePats n ps s t → t.token ≡ codes ")" → NotAt expr_ends s
more_pats_after (AreMorePats.no_more_pat {s = s}) is = missed (codes ")") s is expr_ends refl
more_pats_after (AreMorePats.more_pats {s = s} k p ps) is = missed (codes ",") s k.is expr_ends refl

-- ---- steps: each takes a byte at least, so no bound is met

pub step_more : {X : Type 0} (read : Reader (Option X)) (word : List ℕ) (s t u v : State) (x : X) (xs : List X) (k : ℕ) → left s ≤ k → 0 < length word → Takes word s t → left u ≤ left t → read s ≡ Ok (Some x, u)
    → ((j : ℕ) → left u ≤ j → repeated j read u ≡ Ok (xs, v)) → repeated k read s ≡ Ok (x ∷ xs, v)
step_more read word s t u v x xs zero le some takes later h more =
    let same : length s.token ≡ length word = ap length takes.is in
    absurd (omega (arith, le, some, same))
step_more read word s t u v x xs (suc j) le some takes later h more =
    let same : length s.token ≡ length word = ap length takes.is in
    let fewer = next_left s t takes.next in
    more_found read s u v x xs j h (more j (omega (arith, le, some, same, fewer, later)))

module _ (n m : ℕ) (lim : n + m ≡ NESTING_LIMIT) where
  conj_left : (e : ExprTree) (s t : State) → Stands s → conjunction (inside m) s ≡ Ok (e, t) → left t ≤ left s
  conj_left e s t stands h = (conj_read n (inside m) (all_ready m n lim) s stands).later e t h

  cmp_left : (e : ExprTree) (s t : State) → Stands s → comparison (inside m) s ≡ Ok (e, t) → left t ≤ left s
  cmp_left e s t stands h = (cmp_read n (inside m) (all_ready m n lim) s stands).later e t h

  term_left : (e : ExprTree) (s t : State) → Stands s → term (inside m) s ≡ Ok (e, t) → left t ≤ left s
  term_left e s t stands h = (term_read n (inside m) (all_ready m n lim) s stands).later e t h

  fact_left : (e : ExprTree) (s t : State) → Stands s → factor (inside m) s ≡ Ok (e, t) → left t ≤ left s
  fact_left e s t stands h = (fact_read n (inside m) (all_ready m n lim) s stands).later e t h

  pattern_left : (p : PatternTree) (s t : State) → pattern_in (inside m) s ≡ Ok (p, t) → left t ≤ left s
  pattern_left p s t h = (pattern_in_read n (inside m) (all_ready m n lim) s).later p t h

  -- one more step of each chain
  or_step : (e : ExprTree) (es : List Step) (s t u v : State) (k : ℕ) → left s ≤ k → Takes (codes "or") s t → conjunction (inside m) t ≡ Ok (e, u)
      → ((j : ℕ) → left u ≤ j → repeated j (or_reader (conjunction (inside m))) u ≡ Ok (es, v)) → repeated k (or_reader (conjunction (inside m))) s ≡ Ok (Apply operators.Or e ∷ es, v)
  or_step e es s t u v k le a h more = step_more (or_reader (conjunction (inside m))) (codes "or") s t u v (Apply operators.Or e) es k le (omega arith) a (conj_left e t u a.next.is_token h) (or_found (conjunction (inside m)) s t u e h a) more

  and_step : (e : ExprTree) (es : List Step) (s t u v : State) (k : ℕ) → left s ≤ k → Takes (codes "and") s t → comparison (inside m) t ≡ Ok (e, u)
      → ((j : ℕ) → left u ≤ j → repeated j (and_reader (comparison (inside m))) u ≡ Ok (es, v)) → repeated k (and_reader (comparison (inside m))) s ≡ Ok (Apply operators.And e ∷ es, v)
  and_step e es s t u v k le a h more = step_more (and_reader (comparison (inside m))) (codes "and") s t u v (Apply operators.And e) es k le (omega arith) a (cmp_left e t u a.next.is_token h) (and_found (comparison (inside m)) s t u e h a) more

  plus_step : (e : ExprTree) (es : List Step) (s t u v : State) (k : ℕ) → left s ≤ k → Takes (codes "+") s t → term (inside m) t ≡ Ok (e, u)
      → ((j : ℕ) → left u ≤ j → repeated j (term_reader (term (inside m))) u ≡ Ok (es, v)) → repeated k (term_reader (term (inside m))) s ≡ Ok (Apply operators.Plus e ∷ es, v)
  plus_step e es s t u v k le a h more = step_more (term_reader (term (inside m))) (codes "+") s t u v (Apply operators.Plus e) es k le (omega arith) a (term_left e t u a.next.is_token h) (plus_found (term (inside m)) s t u e h a) more

  minus_step : (e : ExprTree) (es : List Step) (s t u v : State) (k : ℕ) → left s ≤ k → Takes (codes "-") s t → term (inside m) t ≡ Ok (e, u)
      → ((j : ℕ) → left u ≤ j → repeated j (term_reader (term (inside m))) u ≡ Ok (es, v)) → repeated k (term_reader (term (inside m))) s ≡ Ok (Apply operators.Minus e ∷ es, v)
  minus_step e es s t u v k le a h more = step_more (term_reader (term (inside m))) (codes "-") s t u v (Apply operators.Minus e) es k le (omega arith) a (term_left e t u a.next.is_token h) (minus_found (term (inside m)) s t u e h a) more

  times_step : (e : ExprTree) (es : List Step) (s t u v : State) (k : ℕ) → left s ≤ k → Takes (codes "*") s t → factor (inside m) t ≡ Ok (e, u)
      → ((j : ℕ) → left u ≤ j → repeated j (fact_reader (factor (inside m))) u ≡ Ok (es, v)) → repeated k (fact_reader (factor (inside m))) s ≡ Ok (Apply operators.Times e ∷ es, v)
  times_step e es s t u v k le a h more = step_more (fact_reader (factor (inside m))) (codes "*") s t u v (Apply operators.Times e) es k le (omega arith) a (fact_left e t u a.next.is_token h) (times_found (factor (inside m)) s t u e h a) more

  quotient_step : (i : ℤ) (es : List Step) (s t u v : State) (k : ℕ) → left s ≤ k → Takes (codes "/") s t → IsDivisor i t u
      → ((j : ℕ) → left u ≤ j → repeated j (fact_reader (factor (inside m))) u ≡ Ok (es, v)) → repeated k (fact_reader (factor (inside m))) s ≡ Ok (Divide Quotient i ∷ es, v)
  quotient_step i es s t u v k le a h more = step_more (fact_reader (factor (inside m))) (codes "/") s t u v (Divide Quotient i) es k le (omega arith) a ((divisor_read t).later i u (divisor_found i t u h)) (quotient_found (factor (inside m)) s t u i h a) more

  remainder_step : (i : ℤ) (es : List Step) (s t u v : State) (k : ℕ) → left s ≤ k → Takes (codes "%") s t → IsDivisor i t u
      → ((j : ℕ) → left u ≤ j → repeated j (fact_reader (factor (inside m))) u ≡ Ok (es, v)) → repeated k (fact_reader (factor (inside m))) s ≡ Ok (Divide Remainder i ∷ es, v)
  remainder_step i es s t u v k le a h more = step_more (fact_reader (factor (inside m))) (codes "%") s t u v (Divide Remainder i) es k le (omega arith) a ((divisor_read t).later i u (divisor_found i t u h)) (remainder_found (factor (inside m)) s t u i h a) more

  comma_step : (p : PatternTree) (ps : List PatternTree) (s t u v : State) (k : ℕ) → left s ≤ k → Takes (codes ",") s t → pattern_in (inside m) t ≡ Ok (p, u)
      → ((j : ℕ) → left u ≤ j → repeated j (next_item (pattern_in (inside m))) u ≡ Ok (ps, v)) → repeated k (next_item (pattern_in (inside m))) s ≡ Ok (p ∷ ps, v)
  comma_step p ps s t u v k le a h more = step_more (next_item (pattern_in (inside m))) (codes ",") s t u v p ps k le (omega arith) a (pattern_left p t u h) (comma_found (pattern_in (inside m)) p s t u a h) more

-- ---- what a pattern does not begin with

close_free : none_pass is_free (codes ")" ∷ []) ≡ true
unfolding is_name is_reserved
close_free = refl

no_close : {n : ℕ} {p : PatternTree} {s t : State} → IsPat n p s t → at (codes ")") s ≡ false
no_close (IsPat.each {s = s} k) = (missed (codes "all") s k.is (codes ")" ∷ []) refl).0
no_close (IsPat.both {s = s} k o ps c) = (missed (codes "and") s k.is (codes ")" ∷ []) refl).0
no_close (IsPat.either {s = s} k o ps c) = (missed (codes "or") s k.is (codes ")" ∷ []) refl).0
no_close (IsPat.neither {s = s} k o p c) = (missed (codes "not") s k.is (codes ")" ∷ []) refl).0
no_close (IsPat.tested {x = x} {s = s} {t = t} a w k e) = (name_others s t x a (codes ")" ∷ []) close_free).0

-- ---- all of them

mutual
  pub expr_found : {n : ℕ} {e : ExprTree} {s t : State} → IsExpr n e s t → (m : ℕ) → n + m ≡ NESTING_LIMIT → Stands s → NotAt expr_ends t → expr_in (inside m) s ≡ Ok (e, t)
  expr_found (IsExpr.by_or {e = e} {es = es} {s = s} {t = t} {u = u} c os) m lim st ends = expr_whole (inside m) e es s t u (conj_found c m lim st (ors_after os ends)) (ors_found os m lim ends (left t) (omega arith))

  ors_found : {n : ℕ} {es : List Step} {s t : State} → AreOrs n es s t → (m : ℕ) → n + m ≡ NESTING_LIMIT → NotAt expr_ends t → (k : ℕ) → left s ≤ k → repeated k (or_reader (conjunction (inside m))) s ≡ Ok (es, t)
  ors_found (AreOrs.no_or {s = s}) m lim ends k le = none_found (or_reader (conjunction (inside m))) s (no_or_found (conjunction (inside m)) s ends) k
  ors_found (AreOrs.or {n = n} {e = e} {es = es} {s = s} {t = t} {u = u} {v = v} a c os) m lim ends k le =
      or_step n m lim e es s t u v k le a (conj_found c m lim a.next.is_token (ors_after os ends)) (λ j later. ors_found os m lim ends j later)

  conj_found : {n : ℕ} {e : ExprTree} {s t : State} → IsConj n e s t → (m : ℕ) → n + m ≡ NESTING_LIMIT → Stands s → NotAt conj_ends t → conjunction (inside m) s ≡ Ok (e, t)
  conj_found (IsConj.by_and {e = e} {es = es} {s = s} {t = t} {u = u} c os) m lim st ends = conj_whole (inside m) e es s t u (cmp_found c m lim st (ands_after os ends)) (ands_found os m lim ends (left t) (omega arith))

  ands_found : {n : ℕ} {es : List Step} {s t : State} → AreAnds n es s t → (m : ℕ) → n + m ≡ NESTING_LIMIT → NotAt conj_ends t → (k : ℕ) → left s ≤ k → repeated k (and_reader (comparison (inside m))) s ≡ Ok (es, t)
  ands_found (AreAnds.no_and {s = s}) m lim ends k le = none_found (and_reader (comparison (inside m))) s (no_and_found (comparison (inside m)) s ends) k
  ands_found (AreAnds.and {n = n} {e = e} {es = es} {s = s} {t = t} {u = u} {v = v} a c os) m lim ends k le =
      and_step n m lim e es s t u v k le a (cmp_found c m lim a.next.is_token (ands_after os ends)) (λ j later. ands_found os m lim ends j later)

  cmp_found : {n : ℕ} {e : ExprTree} {s t : State} → IsCmp n e s t → (m : ℕ) → n + m ≡ NESTING_LIMIT → Stands s → NotAt cmp_ends t → comparison (inside m) s ≡ Ok (e, t)
  cmp_found (IsCmp.alone {e = e} {s = s} {t = t} x) m lim st ends = alone_whole (inside m) e s t (sum_found x m lim st ends.1.1.1) (no_comparison t ends)
  cmp_found (IsCmp.compared {operation = operation} {word = word} {l = l} {r = r} {s = s} {t = t} {u = u} {v = v} x w k y) m lim st ends =
      compared_whole (inside m) operation l r s t u v (sum_found x m lim st (comparison_found operation word t w k.is).1) (comparison_found operation word t w k.is).0 k.next (sum_found y m lim k.next.is_token ends.1.1.1)

  sum_found : {n : ℕ} {e : ExprTree} {s t : State} → IsSum n e s t → (m : ℕ) → n + m ≡ NESTING_LIMIT → Stands s → NotAt sum_ends t → sum (inside m) s ≡ Ok (e, t)
  sum_found (IsSum.by_terms {e = e} {es = es} {s = s} {t = t} {u = u} c os) m lim st ends = sum_whole (inside m) e es s t u (term_found c m lim st (terms_after os ends)) (terms_found os m lim ends (left t) (omega arith))

  terms_found : {n : ℕ} {es : List Step} {s t : State} → AreTerms n es s t → (m : ℕ) → n + m ≡ NESTING_LIMIT → NotAt sum_ends t → (k : ℕ) → left s ≤ k → repeated k (term_reader (term (inside m))) s ≡ Ok (es, t)
  terms_found (AreTerms.no_term {s = s}) m lim ends k le = none_found (term_reader (term (inside m))) s (no_term_found (term (inside m)) s ends) k
  terms_found (AreTerms.plus {n = n} {e = e} {es = es} {s = s} {t = t} {u = u} {v = v} a c os) m lim ends k le =
      plus_step n m lim e es s t u v k le a (term_found c m lim a.next.is_token (terms_after os ends)) (λ j later. terms_found os m lim ends j later)
  terms_found (AreTerms.minus {n = n} {e = e} {es = es} {s = s} {t = t} {u = u} {v = v} a c os) m lim ends k le =
      minus_step n m lim e es s t u v k le a (term_found c m lim a.next.is_token (terms_after os ends)) (λ j later. terms_found os m lim ends j later)

  term_found : {n : ℕ} {e : ExprTree} {s t : State} → IsTerm n e s t → (m : ℕ) → n + m ≡ NESTING_LIMIT → Stands s → NotAt term_ends t → term (inside m) s ≡ Ok (e, t)
  term_found (IsTerm.by_facts {e = e} {es = es} {s = s} {t = t} {u = u} c os) m lim st ends = term_whole (inside m) e es s t u (fact_found c m lim st (facts_after os ends)) (facts_found os m lim ends (left t) (omega arith))

  facts_found : {n : ℕ} {es : List Step} {s t : State} → AreFacts n es s t → (m : ℕ) → n + m ≡ NESTING_LIMIT → NotAt term_ends t → (k : ℕ) → left s ≤ k → repeated k (fact_reader (factor (inside m))) s ≡ Ok (es, t)
  facts_found (AreFacts.no_fact {s = s}) m lim ends k le = none_found (fact_reader (factor (inside m))) s (no_fact_found (factor (inside m)) s ends) k
  facts_found (AreFacts.times {n = n} {e = e} {es = es} {s = s} {t = t} {u = u} {v = v} a c os) m lim ends k le =
      times_step n m lim e es s t u v k le a (fact_found c m lim a.next.is_token (facts_after os ends)) (λ j later. facts_found os m lim ends j later)
  facts_found (AreFacts.quotient {n = n} {d = d} {es = es} {s = s} {t = t} {u = u} {v = v} a c os) m lim ends k le = quotient_step n m lim d es s t u v k le a c (λ j later. facts_found os m lim ends j later)
  facts_found (AreFacts.remainder {n = n} {d = d} {es = es} {s = s} {t = t} {u = u} {v = v} a c os) m lim ends k le = remainder_step n m lim d es s t u v k le a c (λ j later. facts_found os m lim ends j later)

  fact_found : {n : ℕ} {e : ExprTree} {s t : State} → IsFact n e s t → (m : ℕ) → n + m ≡ NESTING_LIMIT → Stands s → NotAt fact_ends t → factor (inside m) s ≡ Ok (e, t)
  fact_found (IsFact.int {i = i} {s = s} {t = t} d) m lim st ends = atom_fact (inside m) (atoms.Int i) s t (int_first i s t d st) (int_atom s t i d st)
  fact_found (IsFact.text {x = x} {s = s} {t = t} d) m lim st ends = atom_fact (inside m) (atoms.Text x) s t (quote_others s st d.kind part_words refl) (text_atom s t x d st)
  fact_found (IsFact.yes {s = s} {t = t} k) m lim st ends = atom_fact (inside m) (atoms.Bool true) s t (missed (codes "true") s k.is part_words refl) (true_atom s t k st)
  fact_found (IsFact.no {s = s} {t = t} k) m lim st ends = atom_fact (inside m) (atoms.Bool false) s t (missed (codes "false") s k.is part_words refl) (false_atom s t k st)
  fact_found (IsFact.one {n = n} {operation = operation} {word = word} {e = e} {s = s} {t = t} {u = u} {v = v} {w = y} w k o d c) m lim st ends =
      let r = unary_found operation word s w k.is in
      let p = opened_found n m (codes "(") t u lim o in
      other_fact (inside m) (unary operation e) s y r.1 (one_by (inside m) (unary_at s) (binary_at s) operation e s t y r.0 k.next
      (group_whole (inside m) (inner_of p.0) e t u v y p.2 (expr_found d p.0 p.1 o.takes.next.is_token (missed (codes ")") v c.is expr_ends refl)) c))
  fact_found (IsFact.two {n = n} {operation = operation} {word = word} {l = l} {r = r} {s = s} {t = t} {u = u} {v = v} {w = w} {x = x} {y = y} b k o a c d f) m lim st ends =
      let q = binary_found operation word s b k.is in
      let p = opened_found n m (codes "(") t u lim o in
      other_fact (inside m) (binary operation l r) s y q.2 (two_by (inside m) (unary_at s) (binary_at s) operation (binary operation l r) s t y q.0 q.1 k.next
      (pair_whole (inside m) (inner_of p.0) operation (codes "(") (codes ")") l r t u v w x y p.2 (expr_found a p.0 p.1 o.takes.next.is_token (missed (codes ",") v c.is expr_ends refl)) c
      (expr_found d p.0 p.1 c.next.is_token (missed (codes ")") x f.is expr_ends refl)) f))
  fact_found (IsFact.interval {n = n} {l = l} {r = r} {s = s} {t = t} {u = u} {v = v} {w = w} {x = x} o a c d f) m lim st ends =
      let p = opened_found n m (codes "[") s t lim o in
      interval_fact (inside m) l r s t x o.takes
      (pair_whole (inside m) (inner_of p.0) binaries.Interval (codes "[") (codes "]") l r s t u v w x p.2 (expr_found a p.0 p.1 o.takes.next.is_token (missed (codes ",") u c.is expr_ends refl)) c
      (expr_found d p.0 p.1 c.next.is_token (missed (codes "]") w f.is expr_ends refl)) f)
  fact_found (IsFact.size {n = n} {q = q} {s = s} {t = t} {u = u} {v = v} {w = w} k o d c) m lim st ends =
      let p = opened_found n m (codes "(") t u lim o in
      size_fact (inside m) (size_of (sequence_of q)) s t w k (sized_whole (inside m) (inner_of p.0) q s t u v w k.next p.2 (seq_found d p.0 p.1 (missed (codes ")") v c.is seq_ends refl)) c)
  fact_found (IsFact.label {set = set} {x = x} {s = s} {t = t} {u = u} {v = v} a b c) m lim st ends = atom_fact (inside m) (atoms.Label set x) s v (name_first set s t a) (label_atom set x s t u v a b c st)
  fact_found (IsFact.slot {unit = unit} {x = x} {s = s} {t = t} {u = u} {v = v} a b c) m lim st ends = atom_fact (inside m) (atoms.Slot unit x) s v (variable_first unit s t a) (slot_atom unit x s t u v a b c st)
  fact_found (IsFact.variable {x = x} {s = s} {t = t} a) m lim st ends = atom_fact (inside m) (atoms.Variable x) s t (variable_first x s t a) (variable_atom x s t a st ends)
  fact_found (IsFact.grouped {n = n} {e = e} {s = s} {t = t} {u = u} {v = v} o d c) m lim st ends =
      let p = opened_found n m (codes "(") s t lim o in
      grouped_fact (inside m) e s t v o.takes (group_whole (inside m) (inner_of p.0) e s t u v p.2 (expr_found d p.0 p.1 o.takes.next.is_token (missed (codes ")") u c.is expr_ends refl)) c)

  pub seq_found : {n : ℕ} {q : Sequence} {s t : State} → IsSeq n q s t → (m : ℕ) → n + m ≡ NESTING_LIMIT → NotAt seq_ends t → sequence (pattern_in (inside m)) s ≡ Ok (q, t)
  seq_found (IsSeq.find {class = class} {space = space} {p = p} {s = s} {t = t} {u = u} {v = v} {w = w} {x = x} a b c d e) m lim ends =
      find_found (pattern_in (inside m)) class space p s t u v w x a b c d (condition_found e m lim ends)
  seq_found (IsSeq.links {unit = unit} {x = x} {s = s} {t = t} {u = u} {v = v} a b c) m lim ends = links_found (pattern_in (inside m)) unit x s t u v a b c

  condition_found : {n : ℕ} {p : PatternTree} {s t : State} → IsCondition n p s t → (m : ℕ) → n + m ≡ NESTING_LIMIT → NotAt seq_ends t → condition (pattern_in (inside m)) s ≡ Ok (p, t)
  condition_found (IsCondition.anywhere {s = s}) m lim ends = anywhere_found (pattern_in (inside m)) s ends.0
  condition_found (IsCondition.filtered {p = p} {s = s} {t = t} {u = u} k d) m lim ends = where_found (pattern_in (inside m)) p s t u k (pat_found d m lim ends.1)

  pat_found : {n : ℕ} {p : PatternTree} {s t : State} → IsPat n p s t → (m : ℕ) → n + m ≡ NESTING_LIMIT → NotAt expr_ends t → pattern_in (inside m) s ≡ Ok (p, t)
  pat_found (IsPat.each {s = s} {t = t} k) m lim ends = all_pat (inside m) s t k
  pat_found (IsPat.both {n = n} {ps = ps} {s = s} {t = t} {u = u} {v = v} {w = w} k o d c) m lim ends =
      let p = opened_found n m (codes "(") t u lim o in
      both_pat (inside m) ps s t w k (parts_whole (inside m) (inner_of p.0) ps t u v w p.2 (pats_found d p.0 p.1 c.is) c)
  pat_found (IsPat.either {n = n} {ps = ps} {s = s} {t = t} {u = u} {v = v} {w = w} k o d c) m lim ends =
      let p = opened_found n m (codes "(") t u lim o in
      either_pat (inside m) ps s t w k (parts_whole (inside m) (inner_of p.0) ps t u v w p.2 (pats_found d p.0 p.1 c.is) c)
  pat_found (IsPat.neither {n = n} {p = x} {s = s} {t = t} {u = u} {v = v} {w = w} k o d c) m lim ends =
      let p = opened_found n m (codes "(") t u lim o in
      neither_pat (inside m) x s t w k (part_whole (inside m) (inner_of p.0) x t u v w p.2 (pat_found d p.0 p.1 (missed (codes ")") v c.is expr_ends refl)) c)
  pat_found (IsPat.tested {x = x} {relation = relation} {word = word} {e = e} {s = s} {t = t} {u = u} {v = v} a w k d) m lim ends =
      tested_pat (inside m) (test x relation e) x s t v a (tested_whole (inside m) x relation word e s t u v a w k (expr_found d m lim k.next.is_token ends))

  pats_found : {n : ℕ} {ps : List PatternTree} {s t : State} → ArePats n ps s t → (m : ℕ) → n + m ≡ NESTING_LIMIT → t.token ≡ codes ")" → items (codes ")") (pattern_in (inside m)) s ≡ Ok (ps, t)
  pats_found (ArePats.no_pat {s = s}) m lim is = no_items_found (pattern_in (inside m)) (codes ")") s (at_its_token (codes ")") s is)
  pats_found (ArePats.pats {p = p} {ps = ps} {s = s} {t = t} {u = u} d ds) m lim is =
      items_found (pattern_in (inside m)) (codes ")") p ps s t u (no_close d) (pat_found d m lim (more_pats_after ds is)) (more_pats_found ds m lim is (left t) (omega arith))

  more_pats_found : {n : ℕ} {ps : List PatternTree} {s t : State} → AreMorePats n ps s t → (m : ℕ) → n + m ≡ NESTING_LIMIT → t.token ≡ codes ")" → (k : ℕ) → left s ≤ k → repeated k (next_item (pattern_in (inside m))) s ≡ Ok (ps, t)
  more_pats_found (AreMorePats.no_more_pat {s = s}) m lim is k le = none_found (next_item (pattern_in (inside m))) s (no_comma_found (pattern_in (inside m)) s (missed (codes ")") s is (codes "," ∷ []) refl).0) k
  more_pats_found (AreMorePats.more_pats {n = n} {p = p} {ps = ps} {s = s} {t = t} {u = u} {v = v} a d ds) m lim is k le =
      comma_step n m lim p ps s t u v k le a (pat_found d m lim (more_pats_after ds is)) (λ j later. more_pats_found ds m lim is j later)
