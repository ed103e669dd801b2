-- Statements without blocks that stand in a text are read.
use Rattle.std.proofs.Common.{◌≡◌, ℕ, ◌+◌, ◌≤◌, true, false, List, [], ◌∷◌, Result, Ok, refl, ap, ◌∙◌, codes, arith}
use Rattle.bb_basis.specs.Names.{is_name}
use Rattle.bb_basis.specs.Results.{◌>>=◌}
use Rattle.bb_lang_tree.specs.declared.fault.LangFault.{LangFault}
use Rattle.bb_lang_tree.specs.State.{State, at, left}
use Rattle.bb_lang_tree.specs.Words.{is_reserved}
use Rattle.bb_lang_tree.specs.declared.atom.Unary.{Unary}
use Rattle.bb_lang_tree.specs.declared.atom.Binary.{Binary}
use Rattle.bb_lang_tree.specs.declared.block.Action.{Action}
use Rattle.bb_lang_tree.specs.Trees.{ExprTree}
use Rattle.bb_lang.specs.Repeats.{repeated, next_item, items}
use Rattle.bb_lang.specs.Expressions.{expr, inside}
use Rattle.bb_lang.specs.Statements.{slot_of, space_of, let_of, assign_of, new_of, set_of, link_of, unlink_of, enter_of, leave_of, delete_of, say_of, rate_of, decline_of, answer_of, change_of, action_of}
use Rattle.bb_lang.specs.declared.sources.TheConstants.{NESTING_LIMIT}
use Rattle.bb_theorem_grammar.specs.Tokens.{Takes}
use Rattle.bb_theorem_grammar.specs.Repeats.{AreMany, IsNextItem, AreListed}
use Rattle.bb_theorem_grammar.specs.Expressions.{IsUnary, IsBinary, IsExpr, IsConj, IsCmp, IsSum, IsTerm, IsFact}
use Rattle.bb_theorem_grammar.specs.Actions.{IsSlot, IsAction}
use Rattle.bb_theorem_grammar.proofs.ExpressionLemmas.{expr_in_read, all_ready}
use Rattle.bb_theorem_grammar.proofs.FoundTokens.{next_found, yes_is, no_is, ok_then, at_its_token, skip_found, NotAt, none_pass, missed}
use Rattle.bb_theorem_grammar.proofs.FoundNames.{Stands, member_found, name_found, declared_found, is_free, name_others, quote_others}
use Rattle.bb_theorem_grammar.proofs.FoundParts.{expr_ends, none_found, variable_found, variable_others, int_first_than}
use Rattle.bb_theorem_grammar.proofs.FoundProductions.{comma_found, no_comma_found, no_items_found, items_found}
use Rattle.bb_theorem_grammar.proofs.FoundExpressions.{step_more, expr_found}

-- a step in a part of what is read, and what comes after it
pub ok_within : {A B C E : Type 0} {r : Result A E} {x : A} {y : Result C E} (f : A → Result B E) (k : B → Result C E) → r ≡ Ok x → (f x >>= k) ≡ y → ((r >>= f) >>= k) ≡ y
ok_within f k e h = ap (λ r. (r >>= f) >>= k) e ∙ h

-- ---- what an expression does not begin with

semicolon_free : none_pass is_free (codes ";" ∷ []) ≡ true
unfolding is_name is_reserved
semicolon_free = refl

unary_start : (operation : Unary) (word : List ℕ) (s : State) → IsUnary operation word → s.token ≡ word → at (codes ";") s ≡ false
unary_start operation word s IsUnary.not is = (missed (codes "not") s is (codes ";" ∷ []) refl).0
unary_start operation word s IsUnary.low is = (missed (codes "low") s is (codes ";" ∷ []) refl).0
unary_start operation word s IsUnary.high is = (missed (codes "high") s is (codes ";" ∷ []) refl).0

binary_start : (operation : Binary) (word : List ℕ) (s : State) → IsBinary operation word → s.token ≡ word → at (codes ";") s ≡ false
binary_start operation word s IsBinary.min is = (missed (codes "min") s is (codes ";" ∷ []) refl).0
binary_start operation word s IsBinary.max is = (missed (codes "max") s is (codes ";" ∷ []) refl).0

fact_start : {n : ℕ} {e : ExprTree} {s t : State} → IsFact n e s t → Stands s → at (codes ";") s ≡ false
fact_start (IsFact.int {i = i} {s = s} {t = t} d) st = (int_first_than i s t d st (codes ";" ∷ []) refl refl).0
fact_start (IsFact.text {s = s} d) st = (quote_others s st d.kind (codes ";" ∷ []) refl).0
fact_start (IsFact.yes {s = s} k) st = (missed (codes "true") s k.is (codes ";" ∷ []) refl).0
fact_start (IsFact.no {s = s} k) st = (missed (codes "false") s k.is (codes ";" ∷ []) refl).0
fact_start (IsFact.one {operation = operation} {word = word} {s = s} w k o d c) st = unary_start operation word s w k.is
fact_start (IsFact.two {operation = operation} {word = word} {s = s} w k o a b c d) st = binary_start operation word s w k.is
fact_start (IsFact.interval {s = s} o a b c d) st = (missed (codes "[") s o.takes.is (codes ";" ∷ []) refl).0
fact_start (IsFact.size {s = s} k o q c) st = (missed (codes "size") s k.is (codes ";" ∷ []) refl).0
fact_start (IsFact.label {set = set} {s = s} {t = t} a b c) st = (name_others s t set a (codes ";" ∷ []) semicolon_free).0
fact_start (IsFact.slot {unit = unit} {s = s} {t = t} a b c) st = (variable_others unit s t a (codes ";" ∷ []) semicolon_free refl refl).0
fact_start (IsFact.variable {x = x} {s = s} {t = t} a) st = (variable_others x s t a (codes ";" ∷ []) semicolon_free refl refl).0
fact_start (IsFact.grouped {s = s} o d c) st = (missed (codes "(") s o.takes.is (codes ";" ∷ []) refl).0

term_start : {n : ℕ} {e : ExprTree} {s t : State} → IsTerm n e s t → Stands s → at (codes ";") s ≡ false
term_start (IsTerm.by_facts c os) st = fact_start c st

sum_start : {n : ℕ} {e : ExprTree} {s t : State} → IsSum n e s t → Stands s → at (codes ";") s ≡ false
sum_start (IsSum.by_terms c os) st = term_start c st

cmp_start : {n : ℕ} {e : ExprTree} {s t : State} → IsCmp n e s t → Stands s → at (codes ";") s ≡ false
cmp_start (IsCmp.alone c) st = sum_start c st
cmp_start (IsCmp.compared c w k d) st = sum_start c st

conj_start : {n : ℕ} {e : ExprTree} {s t : State} → IsConj n e s t → Stands s → at (codes ";") s ≡ false
conj_start (IsConj.by_and c os) st = cmp_start c st

expr_start : {n : ℕ} {e : ExprTree} {s t : State} → IsExpr n e s t → Stands s → at (codes ";") s ≡ false
expr_start (IsExpr.by_or c os) st = conj_start c st

-- ---- words

abbrev action_words : List (List ℕ)
action_words = codes "let" ∷ codes "new" ∷ codes "say" ∷ codes "rate" ∷ codes "decline" ∷ codes "answer" ∷ []

abbrev change_words : List (List ℕ)
change_words = codes "set" ∷ codes "link" ∷ codes "unlink" ∷ codes "enter" ∷ codes "leave" ∷ codes "delete" ∷ []

action_words_free : none_pass is_free action_words ≡ true
unfolding is_name is_reserved
action_words_free = refl

change_words_free : none_pass is_free change_words ≡ true
unfolding is_name is_reserved
change_words_free = refl

-- ---- expressions with commas between them

module _ (n m : ℕ) (lim : n + m ≡ NESTING_LIMIT) where
  more_after : {es : List ExprTree} {s t : State} → AreMany (IsNextItem (IsExpr n)) es s t → t.token ≡ codes ";" → NotAt expr_ends s
  more_after (AreMany.no_item {s = s}) is = missed (codes ";") s is expr_ends refl
  more_after (AreMany.items {s = s} (IsNextItem.next_item c e) more) is = missed (codes ",") s c.is expr_ends refl

  comma_step : (e : ExprTree) (es : List ExprTree) (s t u v : State) (k : ℕ) → left s ≤ k → Takes (codes ",") s t → expr m t ≡ Ok (e, u)
      → ((j : ℕ) → left u ≤ j → repeated j (next_item (expr m)) u ≡ Ok (es, v)) → repeated k (next_item (expr m)) s ≡ Ok (e ∷ es, v)
  comma_step e es s t u v k le a h more =
      step_more (next_item (expr m)) (codes ",") s t u v e es k le (omega arith) a ((expr_in_read n (inside m) (all_ready m n lim) t a.next.is_token).later e u h) (comma_found (expr m) e s t u a h) more

  more_exprs : {es : List ExprTree} {s t : State} → AreMany (IsNextItem (IsExpr n)) es s t → t.token ≡ codes ";" → (k : ℕ) → left s ≤ k → repeated k (next_item (expr m)) s ≡ Ok (es, t)
  more_exprs (AreMany.no_item {s = s}) is k le = none_found (next_item (expr m)) s (no_comma_found (expr m) s (missed (codes ";") s is (codes "," ∷ []) refl).0) k
  more_exprs (AreMany.items {x = e} {xs = es} {s = s} {t = u} {u = v} (IsNextItem.next_item {t = t} c d) more) is k le =
      comma_step e es s t u v k le c (expr_found d m lim c.next.is_token (more_after more is)) (λ j later. more_exprs more is j later)

  listed_found : (es : List ExprTree) (s t : State) → AreListed (IsExpr n) es s t → Stands s → t.token ≡ codes ";" → items (codes ";") (expr m) s ≡ Ok (es, t)
  listed_found es s t AreListed.none_listed st is = no_items_found (expr m) (codes ";") s (at_its_token (codes ";") s is)
  listed_found es s t (AreListed.listed {x = x} {xs = xs} {t = u} d ds) st is =
      items_found (expr m) (codes ";") x xs s u t (expr_start d st) (expr_found d m lim st (more_after ds is)) (more_exprs ds is (left u) (omega arith))

-- ---- statements, by their words

module _ (m : ℕ) (s : State) (r : Result (Action × State) LangFault) where
  let_word : s.token ≡ codes "let" → let_of m s ≡ r → action_of m s ≡ r
  unfolding action_of
  let_word is h = yes_is (at (codes "let") s) _ _ (at_its_token (codes "let") s is) h

  new_word : s.token ≡ codes "new" → new_of s ≡ r → action_of m s ≡ r
  unfolding action_of
  new_word is h =
      let others = missed (codes "new") s is (codes "let" ∷ []) refl in
      no_is (at (codes "let") s) _ _ others.0 (yes_is (at (codes "new") s) _ _ (at_its_token (codes "new") s is) h)

  say_word : s.token ≡ codes "say" → say_of m s ≡ r → action_of m s ≡ r
  unfolding action_of
  say_word is h =
      let others = missed (codes "say") s is (codes "let" ∷ codes "new" ∷ []) refl in
      no_is (at (codes "let") s) _ _ others.0 (no_is (at (codes "new") s) _ _ others.1.0 (yes_is (at (codes "say") s) _ _ (at_its_token (codes "say") s is) h))

  rate_word : s.token ≡ codes "rate" → rate_of m s ≡ r → action_of m s ≡ r
  unfolding action_of
  rate_word is h =
      let others = missed (codes "rate") s is (codes "let" ∷ codes "new" ∷ codes "say" ∷ []) refl in
      no_is (at (codes "let") s) _ _ others.0 (no_is (at (codes "new") s) _ _ others.1.0 (no_is (at (codes "say") s) _ _ others.1.1.0 (yes_is (at (codes "rate") s) _ _ (at_its_token (codes "rate") s is) h)))

  decline_word : s.token ≡ codes "decline" → decline_of s ≡ r → action_of m s ≡ r
  unfolding action_of
  decline_word is h =
      let others = missed (codes "decline") s is (codes "let" ∷ codes "new" ∷ codes "say" ∷ codes "rate" ∷ []) refl in
      no_is (at (codes "let") s) _ _ others.0 (no_is (at (codes "new") s) _ _ others.1.0 (no_is (at (codes "say") s) _ _ others.1.1.0 (no_is (at (codes "rate") s) _ _ others.1.1.1.0
      (yes_is (at (codes "decline") s) _ _ (at_its_token (codes "decline") s is) h))))

  answer_word : s.token ≡ codes "answer" → answer_of m s ≡ r → action_of m s ≡ r
  unfolding action_of
  answer_word is h =
      let others = missed (codes "answer") s is (codes "let" ∷ codes "new" ∷ codes "say" ∷ codes "rate" ∷ codes "decline" ∷ []) refl in
      no_is (at (codes "let") s) _ _ others.0 (no_is (at (codes "new") s) _ _ others.1.0 (no_is (at (codes "say") s) _ _ others.1.1.0 (no_is (at (codes "rate") s) _ _ others.1.1.1.0
      (no_is (at (codes "decline") s) _ _ others.1.1.1.1.0 (yes_is (at (codes "answer") s) _ _ (at_its_token (codes "answer") s is) h)))))

  change_word : NotAt action_words s → change_of m s ≡ r → action_of m s ≡ r
  unfolding action_of
  change_word others h =
      no_is (at (codes "let") s) _ _ others.0 (no_is (at (codes "new") s) _ _ others.1.0 (no_is (at (codes "say") s) _ _ others.1.1.0 (no_is (at (codes "rate") s) _ _ others.1.1.1.0
      (no_is (at (codes "decline") s) _ _ others.1.1.1.1.0 (no_is (at (codes "answer") s) _ _ others.1.1.1.1.1.0 h)))))

  set_word : s.token ≡ codes "set" → set_of m s ≡ r → change_of m s ≡ r
  unfolding change_of
  set_word is h = yes_is (at (codes "set") s) _ _ (at_its_token (codes "set") s is) h

  link_word : s.token ≡ codes "link" → link_of s ≡ r → change_of m s ≡ r
  unfolding change_of
  link_word is h =
      let others = missed (codes "link") s is (codes "set" ∷ []) refl in
      no_is (at (codes "set") s) _ _ others.0 (yes_is (at (codes "link") s) _ _ (at_its_token (codes "link") s is) h)

  unlink_word : s.token ≡ codes "unlink" → unlink_of s ≡ r → change_of m s ≡ r
  unfolding change_of
  unlink_word is h =
      let others = missed (codes "unlink") s is (codes "set" ∷ codes "link" ∷ []) refl in
      no_is (at (codes "set") s) _ _ others.0 (no_is (at (codes "link") s) _ _ others.1.0 (yes_is (at (codes "unlink") s) _ _ (at_its_token (codes "unlink") s is) h))

  enter_word : s.token ≡ codes "enter" → enter_of s ≡ r → change_of m s ≡ r
  unfolding change_of
  enter_word is h =
      let others = missed (codes "enter") s is (codes "set" ∷ codes "link" ∷ codes "unlink" ∷ []) refl in
      no_is (at (codes "set") s) _ _ others.0 (no_is (at (codes "link") s) _ _ others.1.0 (no_is (at (codes "unlink") s) _ _ others.1.1.0 (yes_is (at (codes "enter") s) _ _ (at_its_token (codes "enter") s is) h)))

  leave_word : s.token ≡ codes "leave" → leave_of s ≡ r → change_of m s ≡ r
  unfolding change_of
  leave_word is h =
      let others = missed (codes "leave") s is (codes "set" ∷ codes "link" ∷ codes "unlink" ∷ codes "enter" ∷ []) refl in
      no_is (at (codes "set") s) _ _ others.0 (no_is (at (codes "link") s) _ _ others.1.0 (no_is (at (codes "unlink") s) _ _ others.1.1.0 (no_is (at (codes "enter") s) _ _ others.1.1.1.0
      (yes_is (at (codes "leave") s) _ _ (at_its_token (codes "leave") s is) h))))

  delete_word : s.token ≡ codes "delete" → delete_of s ≡ r → change_of m s ≡ r
  unfolding change_of
  delete_word is h =
      let others = missed (codes "delete") s is (codes "set" ∷ codes "link" ∷ codes "unlink" ∷ codes "enter" ∷ codes "leave" ∷ []) refl in
      no_is (at (codes "set") s) _ _ others.0 (no_is (at (codes "link") s) _ _ others.1.0 (no_is (at (codes "unlink") s) _ _ others.1.1.0 (no_is (at (codes "enter") s) _ _ others.1.1.1.0
      (no_is (at (codes "leave") s) _ _ others.1.1.1.1.0 (yes_is (at (codes "delete") s) _ _ (at_its_token (codes "delete") s is) h)))))

  assign_word : NotAt change_words s → assign_of m s ≡ r → change_of m s ≡ r
  unfolding change_of
  assign_word others h =
      no_is (at (codes "set") s) _ _ others.0 (no_is (at (codes "link") s) _ _ others.1.0 (no_is (at (codes "unlink") s) _ _ others.1.1.0 (no_is (at (codes "enter") s) _ _ others.1.1.1.0
      (no_is (at (codes "leave") s) _ _ others.1.1.1.1.0 (no_is (at (codes "delete") s) _ _ others.1.1.1.1.1.0 h)))))

-- ---- statements

module _ (n m : ℕ) (lim : n + m ≡ NESTING_LIMIT) where
  -- an expression before a semicolon
  value_found : (e : ExprTree) (s t : State) → IsExpr n e s t → Stands s → t.token ≡ codes ";" → expr m s ≡ Ok (e, t)
  value_found e s t d st is = expr_found d m lim st (missed (codes ";") t is expr_ends refl)

  action_by : (a : Action) (s t : State) → IsAction n a s t → t.token ≡ codes ";" → action_of m s ≡ Ok (a, t)
  unfolding let_of assign_of new_of set_of link_of unlink_of enter_of leave_of delete_of say_of rate_of decline_of answer_of slot_of space_of
  action_by a s t (IsAction.let_is {x = x} {e = e} {t = t1} {u = u} {v = v} k b c d) is =
      let_word m s (Ok (a, t)) k.is (ok_then _ (next_found s t1 k.next) (ok_then _ (declared_found t1 u x b) (ok_then _ (skip_found (codes "=") u v c) (ok_then _ (value_found e v t d c.next.is_token is) refl))))
  action_by a s t (IsAction.assign {x = x} {e = e} {t = u} {u = v} b c d) is =
      change_word m s (Ok (a, t)) (name_others s u x b action_words action_words_free) (assign_word m s (Ok (a, t)) (name_others s u x b change_words change_words_free)
      (ok_then _ (name_found s u x b) (ok_then _ (skip_found (codes "=") u v c) (ok_then _ (value_found e v t d c.next.is_token is) refl))))
  action_by a s t (IsAction.new {x = x} {class = class} {t = t1} {u = u} {v = v} k b c d) is =
      new_word m s (Ok (a, t)) k.is (ok_then _ (next_found s t1 k.next) (ok_then _ (declared_found t1 u x b) (ok_then _ (skip_found (codes ":") u v c) (ok_then _ (name_found v t class d) refl))))
  action_by a s t (IsAction.set {unit = unit} {x = x} {e = e} {t = t1} {u = u} {v = v} k (IsSlot.slot {t = t2} {u = t3} f g h) c d) is =
      change_word m s (Ok (a, t)) (missed (codes "set") s k.is action_words refl) (set_word m s (Ok (a, t)) k.is
      (ok_then _ (next_found s t1 k.next) (ok_within _ _ (variable_found unit t1 t2 f) (ok_within _ _ (skip_found (codes ".") t2 t3 g) (ok_within _ _ (member_found t3 u x h)
      (ok_then _ (skip_found (codes "=") u v c) (ok_then _ (value_found e v t d c.next.is_token is) refl)))))))
  action_by a s t (IsAction.link {unit = unit} {other = other} {x = x} {t = t1} {u = u} k (IsSlot.slot {t = t2} {u = t3} f g h) d) is =
      change_word m s (Ok (a, t)) (missed (codes "link") s k.is action_words refl) (link_word m s (Ok (a, t)) k.is
      (ok_then _ (next_found s t1 k.next) (ok_within _ _ (variable_found unit t1 t2 f) (ok_within _ _ (skip_found (codes ".") t2 t3 g) (ok_within _ _ (member_found t3 u x h)
      (ok_then _ (variable_found other u t d) refl))))))
  action_by a s t (IsAction.unlink {unit = unit} {other = other} {x = x} {t = t1} {u = u} k (IsSlot.slot {t = t2} {u = t3} f g h) d) is =
      change_word m s (Ok (a, t)) (missed (codes "unlink") s k.is action_words refl) (unlink_word m s (Ok (a, t)) k.is
      (ok_then _ (next_found s t1 k.next) (ok_within _ _ (variable_found unit t1 t2 f) (ok_within _ _ (skip_found (codes ".") t2 t3 g) (ok_within _ _ (member_found t3 u x h)
      (ok_then _ (variable_found other u t d) refl))))))
  action_by a s t (IsAction.enter {unit = unit} {space = space} {t = t1} {u = u} k b c) is =
      change_word m s (Ok (a, t)) (missed (codes "enter") s k.is action_words refl) (enter_word m s (Ok (a, t)) k.is
      (ok_then _ (next_found s t1 k.next) (ok_within _ _ (variable_found unit t1 u b) (ok_within _ _ (name_found u t space c) refl))))
  action_by a s t (IsAction.leave {unit = unit} {space = space} {t = t1} {u = u} k b c) is =
      change_word m s (Ok (a, t)) (missed (codes "leave") s k.is action_words refl) (leave_word m s (Ok (a, t)) k.is
      (ok_then _ (next_found s t1 k.next) (ok_within _ _ (variable_found unit t1 u b) (ok_within _ _ (name_found u t space c) refl))))
  action_by a s t (IsAction.delete {unit = unit} {t = t1} k b) is =
      change_word m s (Ok (a, t)) (missed (codes "delete") s k.is action_words refl) (delete_word m s (Ok (a, t)) k.is (ok_then _ (next_found s t1 k.next) (ok_then _ (variable_found unit t1 t b) refl)))
  action_by a s t (IsAction.say {es = es} {t = t1} k b) is = say_word m s (Ok (a, t)) k.is (ok_then _ (next_found s t1 k.next) (ok_then _ (listed_found n m lim es t1 t b k.next.is_token is) refl))
  action_by a s t (IsAction.rate {e = e} {t = t1} k b) is = rate_word m s (Ok (a, t)) k.is (ok_then _ (next_found s t1 k.next) (ok_then _ (value_found e t1 t b k.next.is_token is) refl))
  action_by a s t (IsAction.decline k) is = decline_word m s (Ok (a, t)) k.is (ok_then _ (next_found s t k.next) refl)
  action_by a s t (IsAction.answer {e = e} {t = t1} k b) is = answer_word m s (Ok (a, t)) k.is (ok_then _ (next_found s t1 k.next) (ok_then _ (value_found e t1 t b k.next.is_token is) refl))

  pub action_found : (a : Action) (s t : State) → IsAction n a s t → t.token ≡ codes ";" → action_of m s ≡ Ok (a, t)
  action_found a s t d is = action_by a s t d is

-- ---- what a statement begins with

-- the words that no statement without blocks begins with
abbrev pub block_words : List (List ℕ)
block_words = codes "}" ∷ codes "else" ∷ codes "if" ∷ codes "with" ∷ codes "for" ∷ []

block_words_free : none_pass is_free block_words ≡ true
unfolding is_name is_reserved
block_words_free = refl

pub action_others : {n : ℕ} {a : Action} {s t : State} → IsAction n a s t → NotAt block_words s
action_others (IsAction.let_is {s = s} k b c d) = missed (codes "let") s k.is block_words refl
action_others (IsAction.assign {x = x} {s = s} {t = t} b c d) = name_others s t x b block_words block_words_free
action_others (IsAction.new {s = s} k b c d) = missed (codes "new") s k.is block_words refl
action_others (IsAction.set {s = s} k b c d) = missed (codes "set") s k.is block_words refl
action_others (IsAction.link {s = s} k b c) = missed (codes "link") s k.is block_words refl
action_others (IsAction.unlink {s = s} k b c) = missed (codes "unlink") s k.is block_words refl
action_others (IsAction.enter {s = s} k b c) = missed (codes "enter") s k.is block_words refl
action_others (IsAction.leave {s = s} k b c) = missed (codes "leave") s k.is block_words refl
action_others (IsAction.delete {s = s} k b) = missed (codes "delete") s k.is block_words refl
action_others (IsAction.say {s = s} k b) = missed (codes "say") s k.is block_words refl
action_others (IsAction.rate {s = s} k b) = missed (codes "rate") s k.is block_words refl
action_others (IsAction.decline {s = s} k) = missed (codes "decline") s k.is block_words refl
action_others (IsAction.answer {s = s} k b) = missed (codes "answer") s k.is block_words refl
