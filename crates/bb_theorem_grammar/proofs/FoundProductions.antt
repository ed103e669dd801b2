-- Expressions, sequences and patterns are read where their parts are.
use Rattle.std.proofs.Common.{◌≡◌, ℕ, true, false, List, [], ◌∷◌, Option, Some, None, Ok, refl, ap, codes}
use Rattle.bb_basis.specs.Names.{is_name}
use Rattle.bb_basis.specs.Results.{ok_or}
use Rattle.bb_lang_tree.specs.declared.fault.LangFault.TheVariants.{Token}
use Rattle.bb_lang_tree.specs.State.{State, Reader, at, left}
use Rattle.bb_lang_tree.specs.Words.{is_reserved}
use Rattle.bb_lang_tree.specs.declared.atom.Atom.{Atom}
use Rattle.bb_lang_tree.specs.declared.atom.Variable.{Variable}
use Rattle.bb_lang_tree.specs.declared.atom.Unary.{Unary}
use Rattle.bb_lang_tree.specs.declared.atom.Binary.{Binary}
use Rattle.bb_lang_tree.specs.declared.atom.Binary.TheVariants as binaries
use Rattle.bb_lang_tree.specs.declared.atom.Relation.{Relation}
use Rattle.bb_lang_tree.specs.declared.tree.Step.{Step}
use Rattle.bb_lang_tree.specs.declared.tree.Sequence.{Sequence}
use Rattle.bb_lang_tree.specs.declared.tree.Sequence.TheVariants.{Find, Links}
use Rattle.bb_lang_tree.specs.Trees.{ExprTree, PatternTree, atom, unary, binary, size_of, all, and_of, or_of, not_of, test}
use Rattle.bb_lang_tree.specs.View.{sequence_of, patterns_of}
use Rattle.bb_lang.specs.Repeats.{repeated, as_many, next_item, items}
use Rattle.bb_lang.specs.Expressions.{Inner, opened, chained, step, operator_at, division_at, chain_of, condition, found_in, linked_to, sequence, grouped, pair_of, interval, sized, unary_at, binary_at, atom_of, applied, factor, term, sum, comparison_at, compared, comparison, conjunction, expr_in, tested, parts, part, pattern_in}
use Rattle.bb_theorem_grammar.specs.Tokens.{Next, Takes}
use Rattle.bb_theorem_grammar.specs.Words.{IsMember, IsName}
use Rattle.bb_theorem_grammar.specs.Expressions.{IsRelation, IsVariable}
use Rattle.bb_theorem_grammar.proofs.FoundTokens.{next_found, yes_is, no_is, ok_then, at_its_token, skip_found, NotAt, none_pass, missed}
use Rattle.bb_theorem_grammar.proofs.FoundNames.{member_found, name_found, is_free, name_others}
use Rattle.bb_theorem_grammar.proofs.FoundParts.{or_reader, and_reader, term_reader, fact_reader, part_words, bracket_words, no_unary, no_binary, relation_found, variable_found, variable_others}

-- ---- names that begin a pattern or a sequence

abbrev pattern_words : List (List ℕ)
pattern_words = codes "all" ∷ codes "and" ∷ codes "or" ∷ codes "not" ∷ []

pattern_words_free : none_pass is_free pattern_words ≡ true
unfolding is_name is_reserved
pattern_words_free = refl

find_free : none_pass is_free (codes "find" ∷ []) ≡ true
unfolding is_name is_reserved
find_free = refl

-- ---- productions, by what they are made of

module _ (i : Option Inner) where
  -- ---- chains

  pub expr_whole : (e : ExprTree) (es : List Step) (s t u : State) → conjunction i s ≡ Ok (e, t) → repeated (left t) (or_reader (conjunction i)) t ≡ Ok (es, u) → expr_in i s ≡ Ok (chained e es, u)
  unfolding expr_in chain_of step operator_at division_at as_many
  expr_whole e es s t u a b = ok_then _ a (ok_then _ b refl)

  pub conj_whole : (e : ExprTree) (es : List Step) (s t u : State) → comparison i s ≡ Ok (e, t) → repeated (left t) (and_reader (comparison i)) t ≡ Ok (es, u) → conjunction i s ≡ Ok (chained e es, u)
  unfolding conjunction chain_of step operator_at division_at as_many
  conj_whole e es s t u a b = ok_then _ a (ok_then _ b refl)

  pub sum_whole : (e : ExprTree) (es : List Step) (s t u : State) → term i s ≡ Ok (e, t) → repeated (left t) (term_reader (term i)) t ≡ Ok (es, u) → sum i s ≡ Ok (chained e es, u)
  unfolding sum chain_of step operator_at division_at as_many
  sum_whole e es s t u a b = ok_then _ a (ok_then _ b refl)

  pub term_whole : (e : ExprTree) (es : List Step) (s t u : State) → factor i s ≡ Ok (e, t) → repeated (left t) (fact_reader (factor i)) t ≡ Ok (es, u) → term i s ≡ Ok (chained e es, u)
  unfolding term chain_of step operator_at division_at as_many
  term_whole e es s t u a b = ok_then _ a (ok_then _ b refl)

  -- ---- comparisons

  alone_by : (o : Option Binary) (l : ExprTree) (t : State) → o ≡ None → compared o l (sum i) t ≡ Ok (l, t)
  unfolding compared
  alone_by o l t is = rw is refl

  pub alone_whole : (l : ExprTree) (s t : State) → sum i s ≡ Ok (l, t) → comparison_at t ≡ None → comparison i s ≡ Ok (l, t)
  unfolding comparison
  alone_whole l s t a is = ok_then _ a (alone_by (comparison_at t) l t is)

  compared_by : (o : Option Binary) (operation : Binary) (l r : ExprTree) (t u v : State) → o ≡ Some operation → Next t u → sum i u ≡ Ok (r, v) → compared o l (sum i) t ≡ Ok (binary operation l r, v)
  unfolding compared
  compared_by o operation l r t u v is n b = rw is (ok_then _ (next_found t u n) (ok_then _ b refl))

  pub compared_whole : (operation : Binary) (l r : ExprTree) (s t u v : State) → sum i s ≡ Ok (l, t) → comparison_at t ≡ Some operation → Next t u → sum i u ≡ Ok (r, v) → comparison i s ≡ Ok (binary operation l r, v)
  unfolding comparison
  compared_whole operation l r s t u v a is n b = ok_then _ a (compared_by (comparison_at t) operation l r t u v is n b)

  -- ---- brackets

  module _ (inner : Inner) where
    pub group_whole : (e : ExprTree) (s t u v : State) → opened (codes "(") i s ≡ Ok (inner, t) → inner.expr t ≡ Ok (e, u) → Takes (codes ")") u v → grouped i s ≡ Ok (e, v)
    unfolding grouped
    group_whole e s t u v a b c = ok_then _ a (ok_then _ b (ok_then _ (skip_found (codes ")") u v c) refl))

    pub pair_whole : (operation : Binary) (opening closing : List ℕ) (l r : ExprTree) (s t u v w x : State) → opened opening i s ≡ Ok (inner, t) → inner.expr t ≡ Ok (l, u) → Takes (codes ",") u v → inner.expr v ≡ Ok (r, w)
        → Takes closing w x → pair_of operation opening closing i s ≡ Ok (binary operation l r, x)
    unfolding pair_of
    pair_whole operation opening closing l r s t u v w x a b c d e = ok_then _ a (ok_then _ b (ok_then _ (skip_found (codes ",") u v c) (ok_then _ d (ok_then _ (skip_found closing w x e) refl))))

    pub sized_whole : (q : Sequence) (s t u v w : State) → Next s t → opened (codes "(") i t ≡ Ok (inner, u) → sequence inner.pattern u ≡ Ok (q, v) → Takes (codes ")") v w → sized i s ≡ Ok (size_of (sequence_of q), w)
    unfolding sized
    sized_whole q s t u v w n a b c = ok_then _ (next_found s t n) (ok_then _ a (ok_then _ b (ok_then _ (skip_found (codes ")") v w c) refl)))

    pub parts_whole : (ps : List PatternTree) (s t u v : State) → opened (codes "(") i s ≡ Ok (inner, t) → items (codes ")") inner.pattern t ≡ Ok (ps, u) → Takes (codes ")") u v → parts i s ≡ Ok (ps, v)
    unfolding parts
    parts_whole ps s t u v a b c = ok_then _ a (ok_then _ b (ok_then _ (skip_found (codes ")") u v c) refl))

    pub part_whole : (p : PatternTree) (s t u v : State) → opened (codes "(") i s ≡ Ok (inner, t) → inner.pattern t ≡ Ok (p, u) → Takes (codes ")") u v → part i s ≡ Ok (p, v)
    unfolding part
    part_whole p s t u v a b c = ok_then _ a (ok_then _ b (ok_then _ (skip_found (codes ")") u v c) refl))

  -- ---- operands

  pub grouped_fact : (e : ExprTree) (s t v : State) → Takes (codes "(") s t → grouped i s ≡ Ok (e, v) → factor i s ≡ Ok (e, v)
  unfolding factor
  grouped_fact e s t v k h = yes_is (at (codes "(") s) _ _ (at_its_token (codes "(") s k.is) h

  pub interval_fact : (l r : ExprTree) (s t x : State) → Takes (codes "[") s t → pair_of binaries.Interval (codes "[") (codes "]") i s ≡ Ok (binary binaries.Interval l r, x) → factor i s ≡ Ok (binary binaries.Interval l r, x)
  unfolding factor interval
  interval_fact l r s t x k h = no_is (at (codes "(") s) _ _ (missed (codes "[") s k.is (codes "(" ∷ []) refl).0 (yes_is (at (codes "[") s) _ _ (at_its_token (codes "[") s k.is) h)

  pub size_fact : (e : ExprTree) (s t w : State) → Takes (codes "size") s t → sized i s ≡ Ok (e, w) → factor i s ≡ Ok (e, w)
  unfolding factor
  size_fact e s t w k h =
      let others = missed (codes "size") s k.is (codes "(" ∷ codes "[" ∷ []) refl in
      no_is (at (codes "(") s) _ _ others.0 (no_is (at (codes "[") s) _ _ others.1.0 (yes_is (at (codes "size") s) _ _ (at_its_token (codes "size") s k.is) h))

  pub other_fact : (e : ExprTree) (s v : State) → NotAt bracket_words s → applied (unary_at s) (binary_at s) i s ≡ Ok (e, v) → factor i s ≡ Ok (e, v)
  unfolding factor
  other_fact e s v others h = no_is (at (codes "(") s) _ _ others.0 (no_is (at (codes "[") s) _ _ others.1.0 (no_is (at (codes "size") s) _ _ others.1.1.0 h))

  pub one_by : (o : Option Unary) (p : Option Binary) (operation : Unary) (e : ExprTree) (s t v : State) → o ≡ Some operation → Next s t → grouped i t ≡ Ok (e, v) → applied o p i s ≡ Ok (unary operation e, v)
  unfolding applied
  one_by o p operation e s t v is n h = rw is (ok_then _ (next_found s t n) (ok_then _ h refl))

  pub two_by : (o : Option Unary) (p : Option Binary) (operation : Binary) (e : ExprTree) (s t v : State) → o ≡ None → p ≡ Some operation → Next s t → pair_of operation (codes "(") (codes ")") i t ≡ Ok (e, v) → applied o p i s ≡ Ok (e, v)
  unfolding applied
  two_by o p operation e s t v none is n h = rw (none, is) (ok_then _ (next_found s t n) h)

  none_by : (o : Option Unary) (p : Option Binary) (a : Atom) (s t : State) → o ≡ None → p ≡ None → atom_of s ≡ Ok (a, t) → applied o p i s ≡ Ok (atom a, t)
  unfolding applied
  none_by o p a s t one two h = rw (one, two) (ok_then _ h refl)

  pub atom_fact : (a : Atom) (s t : State) → NotAt part_words s → atom_of s ≡ Ok (a, t) → factor i s ≡ Ok (atom a, t)
  atom_fact a s t others h = other_fact (atom a) s t (others.0, (others.1.0, (others.1.1.0, tt))) (none_by (unary_at s) (binary_at s) a s t (no_unary s others) (no_binary s others) h)

  -- ---- patterns

  pub all_pat : (s t : State) → Takes (codes "all") s t → pattern_in i s ≡ Ok (all, t)
  unfolding pattern_in
  all_pat s t k = yes_is (at (codes "all") s) _ _ (at_its_token (codes "all") s k.is) (ok_then _ (next_found s t k.next) refl)

  pub both_pat : (ps : List PatternTree) (s t v : State) → Takes (codes "and") s t → parts i t ≡ Ok (ps, v) → pattern_in i s ≡ Ok (and_of (patterns_of ps), v)
  unfolding pattern_in
  both_pat ps s t v k h =
      no_is (at (codes "all") s) _ _ (missed (codes "and") s k.is (codes "all" ∷ []) refl).0
      (yes_is (at (codes "and") s) _ _ (at_its_token (codes "and") s k.is) (ok_then _ (next_found s t k.next) (ok_then _ h refl)))

  pub either_pat : (ps : List PatternTree) (s t v : State) → Takes (codes "or") s t → parts i t ≡ Ok (ps, v) → pattern_in i s ≡ Ok (or_of (patterns_of ps), v)
  unfolding pattern_in
  either_pat ps s t v k h =
      let others = missed (codes "or") s k.is (codes "all" ∷ codes "and" ∷ []) refl in
      no_is (at (codes "all") s) _ _ others.0 (no_is (at (codes "and") s) _ _ others.1.0
      (yes_is (at (codes "or") s) _ _ (at_its_token (codes "or") s k.is) (ok_then _ (next_found s t k.next) (ok_then _ h refl))))

  pub neither_pat : (p : PatternTree) (s t v : State) → Takes (codes "not") s t → part i t ≡ Ok (p, v) → pattern_in i s ≡ Ok (not_of p, v)
  unfolding pattern_in
  neither_pat p s t v k h =
      let others = missed (codes "not") s k.is (codes "all" ∷ codes "and" ∷ codes "or" ∷ []) refl in
      no_is (at (codes "all") s) _ _ others.0 (no_is (at (codes "and") s) _ _ others.1.0 (no_is (at (codes "or") s) _ _ others.1.1.0
      (yes_is (at (codes "not") s) _ _ (at_its_token (codes "not") s k.is) (ok_then _ (next_found s t k.next) (ok_then _ h refl)))))

  pub tested_whole : (x : List ℕ) (relation : Relation) (word : List ℕ) (e : ExprTree) (s t u v : State) → IsName x s t → IsRelation relation word → Takes word t u → expr_in i u ≡ Ok (e, v) → tested (expr_in i) s ≡ Ok (test x relation e, v)
  unfolding tested
  tested_whole x relation word e s t u v a w k h =
      ok_then _ (name_found s t x a) (ok_then _ (ap (λ o. ok_or o (Token t.place)) (relation_found relation word t w k.is)) (ok_then _ (next_found t u k.next) (ok_then _ h refl)))

  pub tested_pat : (p : PatternTree) (x : List ℕ) (s t v : State) → IsName x s t → tested (expr_in i) s ≡ Ok (p, v) → pattern_in i s ≡ Ok (p, v)
  unfolding pattern_in
  tested_pat p x s t v a h =
      let others = name_others s t x a pattern_words pattern_words_free in
      no_is (at (codes "all") s) _ _ others.0 (no_is (at (codes "and") s) _ _ others.1.0 (no_is (at (codes "or") s) _ _ others.1.1.0 (no_is (at (codes "not") s) _ _ others.1.1.1.0 h)))

-- ---- sequences

module _ (pattern : Reader PatternTree) where
  pub where_found : (p : PatternTree) (s t u : State) → Takes (codes "where") s t → pattern t ≡ Ok (p, u) → condition pattern s ≡ Ok (p, u)
  unfolding condition
  where_found p s t u k h = yes_is (at (codes "where") s) _ _ (at_its_token (codes "where") s k.is) (ok_then _ (next_found s t k.next) h)

  pub anywhere_found : (s : State) → at (codes "where") s ≡ false → condition pattern s ≡ Ok (all, s)
  unfolding condition
  anywhere_found s other = no_is (at (codes "where") s) _ _ other refl

  pub find_found : (class space : List ℕ) (p : PatternTree) (s t u v w x : State) → Takes (codes "find") s t → IsName class t u → Takes (codes "in") u v → IsName space v w → condition pattern w ≡ Ok (p, x)
      → sequence pattern s ≡ Ok (Find class space p, x)
  unfolding sequence found_in
  find_found class space p s t u v w x a b c d h =
      yes_is (at (codes "find") s) _ _ (at_its_token (codes "find") s a.is) (ok_then _ (skip_found (codes "find") s t a) (ok_then _ (name_found t u class b) (ok_then _ (skip_found (codes "in") u v c)
      (ok_then _ (name_found v w space d) (ok_then _ h refl)))))

  pub links_found : (unit : Variable) (x : List ℕ) (s t u v : State) → IsVariable unit s t → Takes (codes ".") t u → IsMember x u v → sequence pattern s ≡ Ok (Links unit x, v)
  unfolding sequence linked_to
  links_found unit x s t u v a b c =
      no_is (at (codes "find") s) _ _ (variable_others unit s t a (codes "find" ∷ []) find_free refl refl).0
      (ok_then _ (variable_found unit s t a) (ok_then _ (skip_found (codes ".") t u b) (ok_then _ (member_found u v x c) refl)))

-- ---- items with commas between them

module _ {X : Type 0} (item : Reader X) where
  pub comma_found : (x : X) (s t u : State) → Takes (codes ",") s t → item t ≡ Ok (x, u) → next_item item s ≡ Ok (Some x, u)
  unfolding next_item
  comma_found x s t u k h = yes_is (at (codes ",") s) _ _ (at_its_token (codes ",") s k.is) (ok_then _ (next_found s t k.next) (ok_then _ h refl))

  pub no_comma_found : (s : State) → at (codes ",") s ≡ false → next_item item s ≡ Ok (None, s)
  unfolding next_item
  no_comma_found s other = no_is (at (codes ",") s) _ _ other refl

  pub no_items_found : (close : List ℕ) (s : State) → at close s ≡ true → items close item s ≡ Ok ([], s)
  unfolding items
  no_items_found close s is = yes_is (at close s) _ _ is refl

  pub items_found : (close : List ℕ) (x : X) (xs : List X) (s t u : State) → at close s ≡ false → item s ≡ Ok (x, t) → repeated (left t) (next_item item) t ≡ Ok (xs, u) → items close item s ≡ Ok (x ∷ xs, u)
  unfolding items as_many
  items_found close x xs s t u other h g = no_is (at close s) _ _ other (ok_then _ h (ok_then _ g refl))
