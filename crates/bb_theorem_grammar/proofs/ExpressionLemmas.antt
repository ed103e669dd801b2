-- Expressions, sequences and patterns that are read stand there.
use Rattle.std.proofs.Common.{◌≡◌, ◌+◌, ℕ, zero, suc, Bool, true, false, cond, List, Option, Some, None, refl, subst, codes, arith}
use Rattle.bb_basis.specs.Results.{ok_or}
use Rattle.bb_basis.proofs.ResultLemmas.{ok_or_ok}
use Rattle.bb_lang_tree.specs.declared.fault.LangFault.TheVariants.{Token}
use Rattle.bb_lang_tree.specs.State.{State, Reader, at}
use Rattle.bb_lang_tree.specs.declared.atom.Unary.{Unary}
use Rattle.bb_lang_tree.specs.declared.atom.Binary.{Binary}
use Rattle.bb_lang_tree.specs.declared.atom.Binary.TheVariants as binaries
use Rattle.bb_lang_tree.specs.declared.atom.Operator.TheVariants as operators
use Rattle.bb_lang_tree.specs.declared.atom.Division.TheVariants.{Quotient, Remainder}
use Rattle.bb_lang_tree.specs.Trees.{ExprTree, PatternTree, binary, and_of, or_of, not_of}
use Rattle.bb_lang_tree.specs.View.{patterns_of}
use Rattle.bb_lang.specs.Repeats.{items}
use Rattle.bb_lang.specs.Expressions.{Inner, step_by, step, operator_at, division_at, chain_of, condition, found_in, linked_to, sequence, grouped, pair_of, interval, sized, unary_at, binary_at, applied, factor, term, sum, comparison_at, compared, comparison, conjunction, expr_in, relation_at, tested, parts, part, pattern_in, inside}
use Rattle.bb_lang.specs.declared.sources.TheConstants.{NESTING_LIMIT}
use Rattle.bb_theorem_grammar.specs.Tokens.{Takes}
use Rattle.bb_theorem_grammar.specs.Expressions.{Opens, IsExpr, AreOrs, IsConj, AreAnds, IsCmp, IsSum, AreTerms, IsTerm, AreFacts, IsFact, IsSeq, IsCondition, IsPat, ArePats, AreMorePats}
use Rattle.bb_theorem_grammar.proofs.SoundLemmas.{Stands, Sound, by_move, by_value, by_if, by_read, done, weaker, next_moves, skip_moves, takes}
use Rattle.bb_theorem_grammar.proofs.NameLemmas.{name_read, member_read, divisor_read}
use Rattle.bb_theorem_grammar.proofs.RepeatLemmas.{Joins, many_read, comma_read}
use Rattle.bb_theorem_grammar.proofs.WordLemmas.{some_is, unary_word, binary_word, comparison_word, relation_word}
use Rattle.bb_theorem_grammar.proofs.AtomLemmas.{variable_read, atom_read, InnerRead, Ready, opened_read}

module _ (n : ℕ) where
  -- ---- sequences

  pub condition_read : (pattern : Reader PatternTree) → ((s : State) → Sound s (λ p t. IsPat n p s t) (pattern s)) → (s : State) → Sound s (λ p t. IsCondition n p s t) (condition pattern s)
  unfolding condition
  condition_read pattern read s =
      by_if (at (codes "where") s) _ _
      (λ is. by_move _ (next_moves s) (λ t m. weaker (read t) (λ p u d. IsCondition.filtered (takes (codes "where") s t is m) d)))
      (λ _. done IsCondition.anywhere)

  pub sequence_read : (pattern : Reader PatternTree) → ((s : State) → Sound s (λ p t. IsPat n p s t) (pattern s)) → (s : State) → Sound s (λ q t. IsSeq n q s t) (sequence pattern s)
  unfolding sequence found_in linked_to
  sequence_read pattern read s =
      by_if (at (codes "find") s) _ _
      (λ _. by_move _ (skip_moves (codes "find") s) (λ t a. by_read _ (name_read t) (λ class u b. by_move _ (skip_moves (codes "in") u) (λ v c. by_read _ (name_read v) (λ space w d.
      by_read _ (condition_read pattern read w) (λ p x e. done (IsSeq.find a b c d e)))))))
      (λ _. by_read _ (variable_read s) (λ unit t a. by_move _ (skip_moves (codes ".") t) (λ u b. by_read _ (member_read u) (λ x v c. done (IsSeq.links a b c)))))

  -- ---- chains of operands

  ors_read : (operand : Reader ExprTree) → ((s : State) → Stands s → Sound s (λ e t. IsConj n e s t) (operand s)) → (s : State) → Sound s (Joins (AreOrs n) s) (step_by None (cond (at (codes "or") s) (Some operators.Or) None) operand s)
  unfolding step_by
  ors_read operand read s = by_word (at (codes "or") s) refl
    where
      by_word : (b : Bool) → at (codes "or") s ≡ b → Sound s (Joins (AreOrs n) s) (step_by None (cond b (Some operators.Or) None) operand s)
      by_word true is = by_move _ (next_moves s) (λ t m. by_read _ (read t m.is_token) (λ e u d. done (λ es v more. AreOrs.or (takes (codes "or") s t is m) d more)))
      by_word false is = done AreOrs.no_or

  ands_read : (operand : Reader ExprTree) → ((s : State) → Stands s → Sound s (λ e t. IsCmp n e s t) (operand s)) → (s : State) → Sound s (Joins (AreAnds n) s) (step_by None (cond (at (codes "and") s) (Some operators.And) None) operand s)
  unfolding step_by
  ands_read operand read s = by_word (at (codes "and") s) refl
    where
      by_word : (b : Bool) → at (codes "and") s ≡ b → Sound s (Joins (AreAnds n) s) (step_by None (cond b (Some operators.And) None) operand s)
      by_word true is = by_move _ (next_moves s) (λ t m. by_read _ (read t m.is_token) (λ e u d. done (λ es v more. AreAnds.and (takes (codes "and") s t is m) d more)))
      by_word false is = done AreAnds.no_and

  terms_read : (operand : Reader ExprTree) → ((s : State) → Stands s → Sound s (λ e t. IsTerm n e s t) (operand s))
      → (s : State) → Sound s (Joins (AreTerms n) s) (step_by None (cond (at (codes "+") s) (Some operators.Plus) (cond (at (codes "-") s) (Some operators.Minus) None)) operand s)
  unfolding step_by
  terms_read operand read s = by_word (at (codes "+") s) (at (codes "-") s) refl refl
    where
      by_word : (b c : Bool) → at (codes "+") s ≡ b → at (codes "-") s ≡ c → Sound s (Joins (AreTerms n) s) (step_by None (cond b (Some operators.Plus) (cond c (Some operators.Minus) None)) operand s)
      by_word true c is not_is = by_move _ (next_moves s) (λ t m. by_read _ (read t m.is_token) (λ e u d. done (λ es v more. AreTerms.plus (takes (codes "+") s t is m) d more)))
      by_word false true no_is is = by_move _ (next_moves s) (λ t m. by_read _ (read t m.is_token) (λ e u d. done (λ es v more. AreTerms.minus (takes (codes "-") s t is m) d more)))
      by_word false false no_is not_is = done AreTerms.no_term

  facts_read : (operand : Reader ExprTree) → ((s : State) → Stands s → Sound s (λ e t. IsFact n e s t) (operand s))
      → (s : State) → Sound s (Joins (AreFacts n) s) (step_by (cond (at (codes "/") s) (Some Quotient) (cond (at (codes "%") s) (Some Remainder) None)) (cond (at (codes "*") s) (Some operators.Times) None) operand s)
  unfolding step_by
  facts_read operand read s = by_word (at (codes "/") s) (at (codes "%") s) (at (codes "*") s) refl refl refl
    where
      by_word : (b c d : Bool) → at (codes "/") s ≡ b → at (codes "%") s ≡ c → at (codes "*") s ≡ d
          → Sound s (Joins (AreFacts n) s) (step_by (cond b (Some Quotient) (cond c (Some Remainder) None)) (cond d (Some operators.Times) None) operand s)
      by_word true c d is two three = by_move _ (next_moves s) (λ t m. by_read _ (divisor_read t) (λ i u e. done (λ es v more. AreFacts.quotient (takes (codes "/") s t is m) e more)))
      by_word false true d one is three = by_move _ (next_moves s) (λ t m. by_read _ (divisor_read t) (λ i u e. done (λ es v more. AreFacts.remainder (takes (codes "%") s t is m) e more)))
      by_word false false true one two is = by_move _ (next_moves s) (λ t m. by_read _ (read t m.is_token) (λ e u d. done (λ es v more. AreFacts.times (takes (codes "*") s t is m) d more)))
      by_word false false false one two three = done AreFacts.no_fact

-- ---- expressions and patterns

-- from s to v stands an expression in round brackets
record IsGroup (n : ℕ) (s : State) (e : ExprTree) (v : State) : Type 0 where
  t : State
  u : State
  opens : Opens n (codes "(") s t
  expr : IsExpr (suc n) e t u
  closes : Takes (codes ")") u v

-- from s to x stand two expressions in brackets, with a comma between them
record IsPair (n : ℕ) (opening closing : List ℕ) (s : State) (l r : ExprTree) (x : State) : Type 0 where
  t : State
  u : State
  v : State
  w : State
  opens : Opens n opening s t
  left : IsExpr (suc n) l t u
  comma : Takes (codes ",") u v
  right : IsExpr (suc n) r v w
  closes : Takes closing w x

module _ (n : ℕ) (i : Option Inner) (ready : Ready n i) where
  group_read : (s : State) → Sound s (IsGroup n s) (grouped i s)
  unfolding grouped
  group_read s = by_read _ (opened_read n i ready (codes "(") s) (λ inner t o. by_read _ (o.1.expr t o.0.takes.next.is_token) (λ e u d. by_move _ (skip_moves (codes ")") u) (λ v c.
      done (record { t = t; u = u; opens = o.0; expr = d; closes = c }))))

  pair_read : (operation : Binary) (opening closing : List ℕ) (s : State) (Q : ExprTree → State → Type 0) → ((l r : ExprTree) (x : State) → IsPair n opening closing s l r x → Q (binary operation l r) x)
      → Sound s Q (pair_of operation opening closing i s)
  unfolding pair_of
  pair_read operation opening closing s Q makes =
      by_read _ (opened_read n i ready opening s) (λ inner t o. by_read _ (o.1.expr t o.0.takes.next.is_token) (λ l u a. by_move _ (skip_moves (codes ",") u) (λ v b. by_read _ (o.1.expr v b.next.is_token) (λ r w c.
      by_move _ (skip_moves closing w) (λ x d. done (makes l r x (record { t = t; u = u; v = v; w = w; opens = o.0; left = a; comma = b; right = c; closes = d })))))))

  sized_read : (s : State) → at (codes "size") s ≡ true → Sound s (λ e t. IsFact n e s t) (sized i s)
  unfolding sized
  sized_read s is = by_move _ (next_moves s) (λ t m. by_read _ (opened_read n i ready (codes "(") t) (λ inner u o. by_read _ (sequence_read (suc n) inner.pattern o.1.pattern u) (λ q v d.
      by_move _ (skip_moves (codes ")") v) (λ w c. done (IsFact.size (takes (codes "size") s t is m) o.0 d c)))))

  applied_read : (one : Option Unary) (two : Option Binary) (s : State) → Stands s → unary_at s ≡ one → binary_at s ≡ two → Sound s (λ e t. IsFact n e s t) (applied one two i s)
  unfolding applied
  applied_read (Some operation) two s stands is_one is_two =
      let w = (unary_word s).holds operation is_one in
      by_move _ (next_moves s) (λ t m. by_read _ (group_read t) (λ e u d. done (IsFact.one w.1 (record { is = w.2; next = m }) d.opens d.expr d.closes)))
  applied_read None (Some operation) s stands is_one is_two =
      let w = (binary_word s).holds operation is_two in
      by_move _ (next_moves s) (λ t m. pair_read operation (codes "(") (codes ")") t (λ e u. IsFact n e s u) (λ l r u d.
      IsFact.two w.1 (record { is = w.2; next = m }) d.opens d.left d.comma d.right d.closes))
  applied_read None None s stands is_one is_two = by_read _ (atom_read n s stands) (λ a t d. done d)

  pub fact_read : (s : State) → Stands s → Sound s (λ e t. IsFact n e s t) (factor i s)
  unfolding factor interval
  fact_read s stands =
      by_if (at (codes "(") s) _ _ (λ _. weaker (group_read s) (λ e v d. IsFact.grouped d.opens d.expr d.closes))
      (λ _. by_if (at (codes "[") s) _ _ (λ _. pair_read binaries.Interval (codes "[") (codes "]") s (λ e t. IsFact n e s t) (λ l r x d. IsFact.interval d.opens d.left d.comma d.right d.closes))
      (λ _. by_if (at (codes "size") s) _ _ (λ is. sized_read s is)
      (λ _. applied_read (unary_at s) (binary_at s) s stands refl refl)))

  pub term_read : (s : State) → Stands s → Sound s (λ e t. IsTerm n e s t) (term i s)
  unfolding term chain_of step operator_at division_at
  term_read s stands = by_read _ (fact_read s stands) (λ e t d. by_read _ (many_read (AreFacts n) (λ _. AreFacts.no_fact) _ (facts_read n (factor i) fact_read) t) (λ es u ds. done (IsTerm.by_facts d ds)))

  sum_read : (s : State) → Stands s → Sound s (λ e t. IsSum n e s t) (sum i s)
  unfolding sum chain_of step operator_at division_at
  sum_read s stands = by_read _ (term_read s stands) (λ e t d. by_read _ (many_read (AreTerms n) (λ _. AreTerms.no_term) _ (terms_read n (term i) term_read) t) (λ es u ds. done (IsSum.by_terms d ds)))

  compared_read : (o : Option Binary) (s t : State) (l : ExprTree) → comparison_at t ≡ o → IsSum n l s t → Sound t (λ e u. IsCmp n e s u) (compared o l (sum i) t)
  unfolding compared
  compared_read (Some operation) s t l is d =
      let w = (comparison_word t).holds operation is in
      by_move _ (next_moves t) (λ u m. by_read _ (sum_read u m.is_token) (λ r v e. done (IsCmp.compared d w.1 (record { is = w.2; next = m }) e)))
  compared_read None s t l is d = done (IsCmp.alone d)

  pub cmp_read : (s : State) → Stands s → Sound s (λ e t. IsCmp n e s t) (comparison i s)
  unfolding comparison
  cmp_read s stands = by_read _ (sum_read s stands) (λ l t d. compared_read (comparison_at t) s t l refl d)

  pub conj_read : (s : State) → Stands s → Sound s (λ e t. IsConj n e s t) (conjunction i s)
  unfolding conjunction chain_of step operator_at division_at
  conj_read s stands = by_read _ (cmp_read s stands) (λ e t d. by_read _ (many_read (AreAnds n) (λ _. AreAnds.no_and) _ (ands_read n (comparison i) cmp_read) t) (λ es u ds. done (IsConj.by_and d ds)))

  pub expr_in_read : (s : State) → Stands s → Sound s (λ e t. IsExpr n e s t) (expr_in i s)
  unfolding expr_in chain_of step operator_at division_at
  expr_in_read s stands = by_read _ (conj_read s stands) (λ e t d. by_read _ (many_read (AreOrs n) (λ _. AreOrs.no_or) _ (ors_read n (conjunction i) conj_read) t) (λ es u ds. done (IsExpr.by_or d ds)))

  -- ---- patterns

  pats_read : (pattern : Reader PatternTree) → ((s : State) → Sound s (λ p t. IsPat (suc n) p s t) (pattern s)) → (s : State) → Sound s (λ ps t. ArePats (suc n) ps s t) (items (codes ")") pattern s)
  unfolding items
  pats_read pattern read s =
      by_if (at (codes ")") s) _ _
      (λ _. done ArePats.no_pat)
      (λ _. by_read _ (read s) (λ p t d. by_read _ (many_read (AreMorePats (suc n)) (λ _. AreMorePats.no_more_pat) _
      (comma_read (IsPat (suc n)) pattern (λ t _. read t) (AreMorePats (suc n)) (λ _. AreMorePats.no_more_pat) (λ _ _ _ _ _ _ c e more. AreMorePats.more_pats c e more)) t)
      (λ ps u ds. done (ArePats.pats d ds))))

  -- patterns in brackets, after a word
  parts_read : (s : State) (Q : List PatternTree → State → Type 0) → ((ps : List PatternTree) (t u v : State) → Opens n (codes "(") s t → ArePats (suc n) ps t u → Takes (codes ")") u v → Q ps v) → Sound s Q (parts i s)
  unfolding parts
  parts_read s Q makes = by_read _ (opened_read n i ready (codes "(") s) (λ inner t o. by_read _ (pats_read inner.pattern o.1.pattern t) (λ ps u d. by_move _ (skip_moves (codes ")") u) (λ v c. done (makes ps t u v o.0 d c))))

  part_read : (s : State) (Q : PatternTree → State → Type 0) → ((p : PatternTree) (t u v : State) → Opens n (codes "(") s t → IsPat (suc n) p t u → Takes (codes ")") u v → Q p v) → Sound s Q (part i s)
  unfolding part
  part_read s Q makes = by_read _ (opened_read n i ready (codes "(") s) (λ inner t o. by_read _ (o.1.pattern t) (λ p u d. by_move _ (skip_moves (codes ")") u) (λ v c. done (makes p t u v o.0 d c))))

  tested_read : (s : State) → Sound s (λ p t. IsPat n p s t) (tested (expr_in i) s)
  unfolding tested
  tested_read s = by_read _ (name_read s) (λ x t a. by_value (ok_or (relation_at t) (Token t.place)) _ (λ relation is.
      let w = (relation_word t).holds relation (ok_or_ok (Token t.place) (relation_at t) relation is) in
      by_move _ (next_moves t) (λ u m. by_read _ (expr_in_read u m.is_token) (λ e v d. done (IsPat.tested a w.1 (record { is = w.2; next = m }) d)))))

  pub pattern_in_read : (s : State) → Sound s (λ p t. IsPat n p s t) (pattern_in i s)
  unfolding pattern_in
  pattern_in_read s =
      by_if (at (codes "all") s) _ _ (λ is. by_move _ (next_moves s) (λ t m. done (IsPat.each (takes (codes "all") s t is m))))
      (λ _. by_if (at (codes "and") s) _ _ (λ is. by_move _ (next_moves s) (λ t m. by_read _ (parts_read t (λ ps u. IsPat n (and_of (patterns_of ps)) s u) (λ ps _ _ _ o d c. IsPat.both (takes (codes "and") s t is m) o d c)) (λ ps u d. done d)))
      (λ _. by_if (at (codes "or") s) _ _ (λ is. by_move _ (next_moves s) (λ t m. by_read _ (parts_read t (λ ps u. IsPat n (or_of (patterns_of ps)) s u) (λ ps _ _ _ o d c. IsPat.either (takes (codes "or") s t is m) o d c)) (λ ps u d. done d)))
      (λ _. by_if (at (codes "not") s) _ _ (λ is. by_move _ (next_moves s) (λ t m. by_read _ (part_read t (λ p u. IsPat n (not_of p) s u) (λ p _ _ _ o d c. IsPat.neither (takes (codes "not") s t is m) o d c)) (λ p u d. done d)))
      (λ _. tested_read s))))

-- ---- brackets

-- where n brackets are open, m more may be
pub all_ready : (m n : ℕ) → n + m ≡ NESTING_LIMIT → Ready n (inside m)
unfolding inside
all_ready zero n is = record { holds = λ inner h. absurd cc }
all_ready (suc m) n is =
    let there = all_ready m (suc n) (omega (arith, is)) in
    record { holds = λ inner h. (omega (arith, is), subst (InnerRead (suc n)) (some_is _ inner h) (record { expr = expr_in_read (suc n) (inside m) there; pattern = pattern_in_read (suc n) (inside m) there })) }
