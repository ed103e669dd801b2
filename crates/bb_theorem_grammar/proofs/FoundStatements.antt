-- Statements and blocks that stand in a text are read.
use Rattle.std.proofs.Common.{◌≡◌, ℕ, zero, suc, ◌+◌, ◌<◌, ◌≤◌, Bool, true, false, cond, List, [], ◌∷◌, length, Some, None, Result, Ok, Err, refl, ap, ◌∙◌, codes, arith}
use Rattle.bb_basis.specs.Names.{is_name}
use Rattle.bb_basis.specs.Results.{◌>>=◌}
use Rattle.bb_basis.proofs.ResultLemmas.{same_ok}
use Rattle.bb_lang_tree.specs.declared.fault.LangFault.{LangFault}
use Rattle.bb_lang_tree.specs.State.{State, Reader, at, left}
use Rattle.bb_lang_tree.specs.declared.block.Action.{Action}
use Rattle.bb_lang_tree.specs.declared.block.Binding.{Binding}
use Rattle.bb_lang_tree.specs.declared.tree.Sequence.{Sequence}
use Rattle.bb_lang_tree.specs.Trees.{ExprTree}
use Rattle.bb_lang_tree.specs.Blocks.{BlockTree, StatementTree, OtherwiseTree, no_statement, before_others, action, if_of, with_of, for_of, absent, otherwise}
use Rattle.bb_lang_tree.specs.BlockView.{otherwise_of, statement_of, block_of}
use Rattle.bb_lang.specs.Repeats.{repeated, as_many}
use Rattle.bb_lang.specs.Expressions.{expr, pattern, sequence}
use Rattle.bb_lang.specs.Statements.{plain, leave_scope, otherwise_in, if_in, bound, binding, with_in, for_in, statement_in, next_statement, block}
use Rattle.bb_lang.specs.declared.sources.TheConstants.{NESTING_LIMIT}
use Rattle.bb_theorem_grammar.specs.Tokens.{Takes}
use Rattle.bb_theorem_grammar.specs.Words.{Declares}
use Rattle.bb_theorem_grammar.specs.Expressions.{Opens}
use Rattle.bb_theorem_grammar.specs.Actions.{IsAction}
use Rattle.bb_theorem_grammar.specs.Statements.{IsBinding, IsStatement, IsElse, IsBlock, AreStatements}
use Rattle.bb_theorem_grammar.proofs.StatementLemmas.{statement_read, block_read}
use Rattle.bb_theorem_grammar.proofs.FoundTokens.{next_found, yes_is, no_is, ok_then, at_its_token, skip_found, NotAt, missed}
use Rattle.bb_theorem_grammar.proofs.FoundNames.{member_found, name_found, declared_found}
use Rattle.bb_theorem_grammar.proofs.FoundParts.{expr_ends, seq_ends, none_found, more_found, variable_found}
use Rattle.bb_theorem_grammar.proofs.FoundExpressions.{expr_found, seq_found}
use Rattle.bb_theorem_grammar.proofs.FoundActions.{action_found, action_others}

-- ---- what is read, seen as a tree

abbrev seen_at : {X Y : Type 0} → (X → Y) → X × State → Result (Y × State) LangFault
seen_at view p = Ok (view p.0, p.1)

abbrev pub seen : {X Y : Type 0} → (X → Y) → Result (X × State) LangFault → Result (Y × State) LangFault
seen view r = r >>= seen_at view

-- what is seen so was read
pub record WasRead {X Y : Type 0} (view : X → Y) (r : Result (X × State) LangFault) (y : Y) (t : State) : Type 0 where
  pub value : X
  pub is : r ≡ Ok (value, t)
  pub view_is : view value ≡ y

pub was_read : {X Y : Type 0} (view : X → Y) (r : Result (X × State) LangFault) (y : Y) (t : State) → seen view r ≡ Ok (y, t) → WasRead view r y t
was_read view (Err e) y t h = absurd cc
was_read view (Ok p) y t h =
    let same = same_ok (view p.0, p.1) (y, t) h in
    record { value = p.0; is = ap (λ u. Ok (p.0, u)) (ap (λ q. q.1) same); view_is = ap (λ q. q.0) same }

yes_seen : {X Y : Type 0} {z : Result (Y × State) LangFault} (view : X → Y) (b : Bool) (x y : Result (X × State) LangFault) → b ≡ true → seen view x ≡ z → seen view (cond b x y) ≡ z
yes_seen view true x y is h = h
yes_seen view false x y is h = absurd cc

no_seen : {X Y : Type 0} {z : Result (Y × State) LangFault} (view : X → Y) (b : Bool) (x y : Result (X × State) LangFault) → b ≡ false → seen view y ≡ z → seen view (cond b x y) ≡ z
no_seen view true x y is h = absurd cc
no_seen view false x y is h = h

-- a step of what is seen, and what comes after it
ok_seen : {A X Y : Type 0} {r : Result A LangFault} {x : A} {z : Result (Y × State) LangFault} (view : X → Y) (f : A → Result (X × State) LangFault) → r ≡ Ok x → seen view (f x) ≡ z → seen view (r >>= f) ≡ z
ok_seen view f e h = ap (λ r. seen view (r >>= f)) e ∙ h

-- ---- what a `with` declares

binding_found : (b : Binding) (s t : State) → IsBinding b s t → binding s ≡ Ok (b, t)
unfolding binding bound
binding_found b s t (IsBinding.as_class {x = x} {class = class} {unit = unit} {t = t1} {u = u} {v = v} {w = w} a c d k e) =
    ok_then _ (declared_found s t1 x a) (ok_then _ (skip_found (codes "=") t1 u c) (ok_then _ (variable_found unit u v d)
    (yes_is (at (codes "as") v) _ _ (at_its_token (codes "as") v k.is) (ok_then _ (next_found v w k.next) (ok_then _ (name_found w t class e) refl)))))
binding_found b s t (IsBinding.linked_by {x = x} {by = by} {unit = unit} {t = t1} {u = u} {v = v} {w = w} a c d k e) =
    ok_then _ (declared_found s t1 x a) (ok_then _ (skip_found (codes "=") t1 u c) (ok_then _ (variable_found unit u v d)
    (no_is (at (codes "as") v) _ _ (missed (codes ".") v k.is (codes "as" ∷ []) refl).0 (ok_then _ (skip_found (codes ".") v w k) (ok_then _ (member_found w t by e) refl)))))

-- ---- what statements begin with

pub block_at : {n : ℕ} {b : BlockTree} {s t : State} → IsBlock n b s t → s.token ≡ codes "{"
block_at (IsBlock.block o ss c) = o.takes.is

-- neither a closing bracket nor `else`
abbrev ending_words : List (List ℕ)
ending_words = codes "}" ∷ codes "else" ∷ []

statement_others : {n : ℕ} {x : StatementTree} {s t : State} → IsStatement n x s t → NotAt ending_words s
statement_others (IsStatement.plain a k) = let others = action_others a in (others.0, (others.1.0, tt))
statement_others (IsStatement.if_then {s = s} k e b o) = missed (codes "if") s k.is ending_words refl
statement_others (IsStatement.with_name {s = s} k e b o) = missed (codes "with") s k.is ending_words refl
statement_others (IsStatement.for_each {s = s} k a c q b) = missed (codes "for") s k.is ending_words refl

no_else_before : {n : ℕ} {b : BlockTree} {s t : State} → AreStatements n b s t → t.token ≡ codes "}" → at (codes "else") s ≡ false
no_else_before (AreStatements.none {s = s}) is = (missed (codes "}") s is (codes "else" ∷ []) refl).0
no_else_before (AreStatements.one_more d ds) is = (statement_others d).1.0

-- ---- productions, by what they are made of

module _ (n m : ℕ) (lim : n + m ≡ NESTING_LIMIT) (block : Reader BlockTree) where
  plain_whole : (a : Action) (s t u : State) → IsAction n a s t → Takes (codes ";") t u → seen statement_of (statement_in m block s) ≡ Ok (action a, u)
  unfolding statement_in plain
  plain_whole a s t u d k =
      let others = action_others d in
      no_seen statement_of (at (codes "if") s) _ _ others.1.1.0 (no_seen statement_of (at (codes "with") s) _ _ others.1.1.1.0 (no_seen statement_of (at (codes "for") s) _ _ others.1.1.1.1.0
      (ok_seen statement_of _ (action_found n m lim a s t d k.is) (ok_seen statement_of _ (skip_found (codes ";") t u k) refl))))

  no_else_whole : (s : State) → at (codes "else") s ≡ false → seen otherwise_of (otherwise_in block s) ≡ Ok (absent, s)
  unfolding otherwise_in
  no_else_whole s other = no_seen otherwise_of (at (codes "else") s) _ _ other refl

  else_whole : (b : BlockTree) (s t u : State) → Takes (codes "else") s t → block t ≡ Ok (b, u) → seen otherwise_of (otherwise_in block s) ≡ Ok (otherwise b, u)
  unfolding otherwise_in
  else_whole b s t u k h = yes_seen otherwise_of (at (codes "else") s) _ _ (at_its_token (codes "else") s k.is) (ok_seen otherwise_of _ (next_found s t k.next) (ok_seen otherwise_of _ h refl))

  if_whole : (e : ExprTree) (b : BlockTree) (o : OtherwiseTree) (s t u v w : State) → Takes (codes "if") s t → expr m t ≡ Ok (e, u) → block u ≡ Ok (b, v) → WasRead otherwise_of (otherwise_in block v) o w
      → seen statement_of (statement_in m block s) ≡ Ok (if_of e b o, w)
  unfolding statement_in if_in
  if_whole e b o s t u v w k h g d =
      yes_seen statement_of (at (codes "if") s) _ _ (at_its_token (codes "if") s k.is) (ok_seen statement_of _ (next_found s t k.next) (ok_seen statement_of _ h (ok_seen statement_of _ g (ok_seen statement_of _ d.is
      (ap (λ x. Ok (if_of e b x, w)) d.view_is)))))

  with_whole : (found : Binding) (b : BlockTree) (o : OtherwiseTree) (s t u v w : State) → Takes (codes "with") s t → IsBinding found t u → block u ≡ Ok (b, v) → WasRead otherwise_of (otherwise_in block (leave_scope s v)) o w
      → seen statement_of (statement_in m block s) ≡ Ok (with_of found b o, w)
  unfolding statement_in with_in
  with_whole found b o s t u v w k h g d =
      no_seen statement_of (at (codes "if") s) _ _ (missed (codes "with") s k.is (codes "if" ∷ []) refl).0
      (yes_seen statement_of (at (codes "with") s) _ _ (at_its_token (codes "with") s k.is) (ok_seen statement_of _ (next_found s t k.next) (ok_seen statement_of _ (binding_found found t u h) (ok_seen statement_of _ g (ok_seen statement_of _ d.is
      (ap (λ x. Ok (with_of found b x, w)) d.view_is))))))

  for_whole : (x : List ℕ) (q : Sequence) (b : BlockTree) (s t u v w y : State) → Takes (codes "for") s t → Declares x t u → Takes (codes "in") u v → sequence (pattern m) v ≡ Ok (q, w) → block w ≡ Ok (b, y)
      → seen statement_of (statement_in m block s) ≡ Ok (for_of x q b, leave_scope s y)
  unfolding statement_in for_in
  for_whole x q b s t u v w y k d c h g =
      let others = missed (codes "for") s k.is (codes "if" ∷ codes "with" ∷ []) refl in
      no_seen statement_of (at (codes "if") s) _ _ others.0 (no_seen statement_of (at (codes "with") s) _ _ others.1.0
      (yes_seen statement_of (at (codes "for") s) _ _ (at_its_token (codes "for") s k.is) (ok_seen statement_of _ (next_found s t k.next) (ok_seen statement_of _ (declared_found t u x d)
      (ok_seen statement_of _ (skip_found (codes "in") u v c) (ok_seen statement_of _ h (ok_seen statement_of _ g refl)))))))

  -- ---- as many as come

  ended : (s : State) → s.token ≡ codes "}" → next_statement m block s ≡ Ok (None, s)
  unfolding next_statement
  ended s is = yes_is (at (codes "}") s) _ _ (at_its_token (codes "}") s is) refl

  none_whole : (s : State) → s.token ≡ codes "}" → (k : ℕ) → seen block_of (repeated k (next_statement m block) s) ≡ Ok (no_statement, s)
  none_whole s is k = ap (seen block_of) (none_found (next_statement m block) s (ended s is) k)

  -- one more, and those after it
  placed_whole : (x : StatementTree) (s t : State) (place : WasRead statement_of (statement_in m block s) x t) → at (codes "}") s ≡ false → next_statement m block s ≡ Ok (Some (record { place = s.place; statement = place.value }), t)
  unfolding next_statement
  placed_whole x s t d other = no_is (at (codes "}") s) _ _ other (ok_then _ d.is refl)

  more_whole : (x : StatementTree) (others : BlockTree) (s t u : State) (k : ℕ) (d : WasRead statement_of (statement_in m block s) x t) → at (codes "}") s ≡ false
      → WasRead block_of (repeated k (next_statement m block) t) others u → seen block_of (repeated (suc k) (next_statement m block) s) ≡ Ok (before_others s.place x others, u)
  more_whole x others s t u k d other ds =
      ap (seen block_of) (more_found (next_statement m block) s t u (record { place = s.place; statement = d.value }) ds.value k (placed_whole x s t d other) ds.is)
      ∙ ap (λ y. Ok (before_others s.place y (block_of ds.value), u)) d.view_is ∙ ap (λ b. Ok (before_others s.place x b, u)) ds.view_is

-- a block, by its statements
block_whole : (j : ℕ) (b : BlockTree) (s t u v : State) → Takes (codes "{") s t → WasRead block_of (repeated (left t) (next_statement j (block j)) t) b u → Takes (codes "}") u v → block (suc j) s ≡ Ok (b, leave_scope s v)
unfolding block as_many
block_whole j b s t u v k d c = ok_then _ (skip_found (codes "{") s t k) (ok_then _ d.is (ok_then _ (skip_found (codes "}") u v c) (ap (λ x. Ok (x, leave_scope s v)) d.view_is)))

block_by : (m n : ℕ) → n + m ≡ NESTING_LIMIT → (b : BlockTree) (s t u v : State) → Opens n (codes "{") s t → Takes (codes "}") u v
    → ((j : ℕ) → suc n + j ≡ NESTING_LIMIT → seen block_of (repeated (left t) (next_statement j (block j)) t) ≡ Ok (b, u)) → block m s ≡ Ok (b, leave_scope s v)
block_by zero n lim b s t u v o c h = absurd (let within = o.within in omega (arith, lim, within))
block_by (suc j) n lim b s t u v o c h = block_whole j b s t u v o.takes (was_read block_of (repeated (left t) (next_statement j (block j)) t) b u (h j (omega (arith, lim)))) c

-- ---- a statement takes a byte at least

some_name : (x : List ℕ) → is_name x ≡ true → 0 < length x
unfolding is_name
some_name [] h = absurd cc
some_name (b ∷ bs) h = omega arith

some_word : (word : List ℕ) (s : State) → 0 < length word → s.token ≡ word → 0 < length s.token
some_word word s some is = let same : length s.token ≡ length word = ap length is in omega (arith, some, same)

action_some : {n : ℕ} {a : Action} {s t : State} → IsAction n a s t → 0 < length s.token
action_some (IsAction.let_is {s = s} k b c d) = some_word (codes "let") s (omega arith) k.is
action_some (IsAction.assign {x = x} {s = s} b c d) = some_word x s (some_name x b.member.is_name) b.member.takes.is
action_some (IsAction.new {s = s} k b c d) = some_word (codes "new") s (omega arith) k.is
action_some (IsAction.set {s = s} k b c d) = some_word (codes "set") s (omega arith) k.is
action_some (IsAction.link {s = s} k b c) = some_word (codes "link") s (omega arith) k.is
action_some (IsAction.unlink {s = s} k b c) = some_word (codes "unlink") s (omega arith) k.is
action_some (IsAction.enter {s = s} k b c) = some_word (codes "enter") s (omega arith) k.is
action_some (IsAction.leave {s = s} k b c) = some_word (codes "leave") s (omega arith) k.is
action_some (IsAction.delete {s = s} k b) = some_word (codes "delete") s (omega arith) k.is
action_some (IsAction.say {s = s} k b) = some_word (codes "say") s (omega arith) k.is
action_some (IsAction.rate {s = s} k b) = some_word (codes "rate") s (omega arith) k.is
action_some (IsAction.decline {s = s} k) = some_word (codes "decline") s (omega arith) k.is
action_some (IsAction.answer {s = s} k b) = some_word (codes "answer") s (omega arith) k.is

statement_some : {n : ℕ} {x : StatementTree} {s t : State} → IsStatement n x s t → 0 < length s.token
statement_some (IsStatement.plain a k) = action_some a
statement_some (IsStatement.if_then {s = s} k e b o) = some_word (codes "if") s (omega arith) k.is
statement_some (IsStatement.with_name {s = s} k e b o) = some_word (codes "with") s (omega arith) k.is
statement_some (IsStatement.for_each {s = s} k a c q b) = some_word (codes "for") s (omega arith) k.is

-- one more statement, where as many are read as there are bytes
statement_more : (n m : ℕ) → n + m ≡ NESTING_LIMIT → (x : StatementTree) (others : BlockTree) (s t u : State) (k : ℕ) → left s ≤ k → IsStatement n x s t → seen statement_of (statement_in m (block m) s) ≡ Ok (x, t)
    → ((j : ℕ) → left t ≤ j → seen block_of (repeated j (next_statement m (block m)) t) ≡ Ok (others, u)) → seen block_of (repeated k (next_statement m (block m)) s) ≡ Ok (before_others s.place x others, u)
statement_more n m lim x others s t u zero le d h more = let some = statement_some d in absurd (omega (arith, le, some))
statement_more n m lim x others s t u (suc j) le d h more =
    let some = statement_some d in
    let one = was_read statement_of (statement_in m (block m) s) x t h in
    let later = (statement_read n m lim (block m) (block_read m n lim) s).later one.value t one.is in
    let rest = more j (omega (arith, le, some, later)) in
    more_whole n m lim (block m) x others s t u j one (statement_others d).0 (was_read block_of (repeated j (next_statement m (block m)) t) others u rest)

-- ---- all of them

mutual
  statement_found : {n : ℕ} {x : StatementTree} {s t : State} → IsStatement n x s t → (m : ℕ) → n + m ≡ NESTING_LIMIT → at (codes "else") t ≡ false → seen statement_of (statement_in m (block m) s) ≡ Ok (x, t)
  statement_found (IsStatement.plain {n = n} {a = a} {s = s} {t = t} {u = u} d k) m lim ends = plain_whole n m lim (block m) a s t u d k
  statement_found (IsStatement.if_then {n = n} {e = e} {b = b} {o = o} {s = s} {t = t} {u = u} {v = v} {w = w} k d g f) m lim ends =
      if_whole n m lim (block m) e b o s t u v w k (expr_found d m lim k.next.is_token (missed (codes "{") u (block_at g) expr_ends refl)) (block_found g m lim) (was_read otherwise_of (otherwise_in (block m) v) o w (else_found f m lim ends))
  statement_found (IsStatement.with_name {n = n} {found = found} {b = b} {o = o} {s = s} {t = t} {u = u} {v = v} {w = w} k d g f) m lim ends =
      with_whole n m lim (block m) found b o s t u v w k d (block_found g m lim) (was_read otherwise_of (otherwise_in (block m) (leave_scope s v)) o w (else_found f m lim ends))
  statement_found (IsStatement.for_each {n = n} {x = x} {q = q} {b = b} {s = s} {t = t} {u = u} {v = v} {w = w} {y = y} k d c f g) m lim ends =
      for_whole n m lim (block m) x q b s t u v w y k d c (seq_found f m lim (missed (codes "{") w (block_at g) seq_ends refl)) (block_found g m lim)

  else_found : {n : ℕ} {o : OtherwiseTree} {s t : State} → IsElse n o s t → (m : ℕ) → n + m ≡ NESTING_LIMIT → at (codes "else") t ≡ false → seen otherwise_of (otherwise_in (block m) s) ≡ Ok (o, t)
  else_found (IsElse.no_else {n = n} {s = s}) m lim ends = no_else_whole n m lim (block m) s ends
  else_found (IsElse.else_block {n = n} {b = b} {s = s} {t = t} {u = u} k g) m lim ends = else_whole n m lim (block m) b s t u k (block_found g m lim)

  pub block_found : {n : ℕ} {b : BlockTree} {s t : State} → IsBlock n b s t → (m : ℕ) → n + m ≡ NESTING_LIMIT → block m s ≡ Ok (b, t)
  block_found (IsBlock.block {n = n} {b = b} {s = s} {t = t} {u = u} {v = v} o ss c) m lim =
      block_by m n lim b s t u v o c (λ j more. statements_found ss j more c.is (left t) (omega arith))

  statements_found : {n : ℕ} {b : BlockTree} {s t : State} → AreStatements n b s t → (m : ℕ) → n + m ≡ NESTING_LIMIT → t.token ≡ codes "}" → (k : ℕ) → left s ≤ k → seen block_of (repeated k (next_statement m (block m)) s) ≡ Ok (b, t)
  statements_found (AreStatements.none {n = n} {s = s}) m lim is k le = none_whole n m lim (block m) s is k
  statements_found (AreStatements.one_more {n = n} {one = x} {others = others} {s = s} {t = t} {u = u} d ds) m lim is k le =
      statement_more n m lim x others s t u k le d (statement_found d m lim (no_else_before ds is)) (λ j later. statements_found ds m lim is j later)
