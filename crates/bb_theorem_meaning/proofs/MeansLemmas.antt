-- Parts of an expression mean what their ops do, one after another.
use Rattle.std.proofs.Common.{◌≡◌, ℕ, ◌+◌, false, List, ◌∷◌, length, Option, Some, None, Result, Ok, Err, refl, subst, sym, ap, ◌∙◌, arith}
use Rattle.bb_basis.specs.Results.{◌>>=◌}
use Rattle.bb_code.specs.Code.{Code}
use Rattle.bb_code.specs.declared.frame.Kind.{Kind}
use Rattle.bb_code.specs.declared.op.Op.{Op}
use Rattle.bb_compile_scope.specs.LocalKinds.{is_free}
use Rattle.bb_compile_scope.specs.declared.scope.Scope.{Scope}
use Rattle.bb_theorem_accepted.specs.Buffer.{Buffer}
use Rattle.bb_board.specs.Board.{Board}
use Rattle.bb_machine.specs.Changing.{State}
use Rattle.bb_machine.specs.Machine.{Machine, with_stack, go_to}
use Rattle.bb_machine.specs.Step.{step}
use Rattle.bb_machine.specs.declared.value.Value.{Value}
use Rattle.bb_theorem_accepted.proofs.Laws.{Clean, Grown, Has, is_open, with_op, grown_on, grown_op, count_op, count_of, op_at}
use Rattle.bb_theorem_meaning.specs.Meaning.{Meaning, Name}
use Rattle.bb_theorem_meaning.proofs.ComeLemmas.{Leaves, done_on, Comes, Gets, gets_then, gets_op}
use Rattle.bb_theorem_meaning.proofs.NameLemmas.{AreHeld, AreTaken}
use Rattle.bb_theorem_meaning.proofs.OpLemmas.{Pushed, Like}

pub bind_assoc : {A B C E : Type 0} (r : Result A E) (f : A → Result B E) (g : B → Result C E) → ((r >>= f) >>= g) ≡ (r >>= λ x. f x >>= g)
bind_assoc (Ok x) f g = refl
bind_assoc (Err e) f g = refl

-- what the names and the blackboard make of a value, or of nothing
abbrev pub Value₀ : Type 0
Value₀ = Board → List Name → Meaning Value

abbrev pub Value₁ : Type 0
Value₁ = Board → List Name → Value → Meaning Value

-- a kind that is known is that of a value
abbrev pub IsKind : Option Kind → Type 0
IsKind None = Unit {0}
IsKind (Some k) = is_free k ≡ false

-- the kind is known
abbrev pub IsMade : Option Kind → Type 0
IsMade made = (k : Kind) × (made ≡ Some k)

-- an op on the newest entry, and one on the two newest
abbrev pub OneOp : Code → Op → (Board → Value → Meaning Value) → Type 0
OneOp code op f = (n : ℕ) (base : State) (m : Machine) (b : Board) (v : Value) (rest : List Value) → m.stack ≡ v ∷ rest → Like n base (with_stack rest m) b
    → Leaves (Pushed n base) (f b v) (done_on b (step code op (m, b)))

-- an op on the newest entry, where something is known of the blackboard
abbrev pub OneOpOn : (Board → Type 0) → Code → Op → (Board → Value → Meaning Value) → Type 0
OneOpOn P code op f = (n : ℕ) (base : State) (m : Machine) (b : Board) (v : Value) (rest : List Value) → P b → m.stack ≡ v ∷ rest → Like n base (with_stack rest m) b
    → Leaves (Pushed n base) (f b v) (done_on b (step code op (m, b)))

abbrev pub TwoOp : Code → Op → (Value → Value → Meaning Value) → Type 0
TwoOp code op f = (n : ℕ) (base : State) (m : Machine) (b : Board) (v w : Value) (rest : List Value) → m.stack ≡ w ∷ v ∷ rest → Like n base (with_stack rest m) b
    → Leaves (Pushed n base) (f v w) (done_on b (step code op (m, b)))

module _ (code : Code) (start : State) where
  -- what is laid out from one buffer to another pushes the value that a meaning says
  pub record Means (s t : Buffer) (made : Option Kind) (value : Value₀) : Type 0 where
    pub grown : Grown s t
    pub clean : Clean s
    pub scope : t.scope ≡ s.scope
    pub some : IsMade made
    pub kind : AreTaken s.scope.kinds s.scope.names → IsKind made
    pub gets : (st : State) (names : List Name) → Comes code start (length s.ops) (Ok st) → AreHeld st.0.locals s.scope.names names
        → Gets code start (Pushed (length t.ops) st) (value st.1 names) (length t.ops)

  -- what is laid out from one buffer to another makes of the newest entry the value that a meaning says
  pub record Turns (s t : Buffer) (made : Option Kind) (turn : Value₁) : Type 0 where
    pub grown : Grown s t
    pub clean : Clean s
    pub scope : t.scope ≡ s.scope
    pub some : IsMade made
    pub kind : AreTaken s.scope.kinds s.scope.names → IsKind made
    pub gets : (st base : State) (v : Value) (names : List Name) → Comes code start (length s.ops) (Ok st) → Pushed (length s.ops) base v st → AreHeld base.0.locals s.scope.names names
        → Gets code start (Pushed (length t.ops) base) (turn base.1 names v) (length t.ops)

  -- a part after another
  pub part_gets : {X Y : Type 0} (s t : Buffer) (P : X → State → Type 0) (Q : Y → State → Type 0) (r : Meaning X) (f : X → Meaning Y) → Grown s t → Gets code start P r (length s.ops)
      → ((x : X) (st : State) → Comes code start (length s.ops) (Ok st) → P x st → Gets code start Q (f x) (length t.ops)) → Gets code start Q (r >>= f) (length t.ops)
  part_gets s t P Q r f g first next =
      let count = count_of s t g in gets_then code start P Q r f (length s.ops) (length t.ops) (omega (arith, count)) first next

  -- an op
  pub op_gets : {X : Type 0} (s t : Buffer) (op : Op) (P : ℕ → X → State → Type 0) (r : Meaning X) (st : State) → t ≡ with_op op s → is_open op ≡ false → Has code t → Comes code start (length s.ops) (Ok st)
      → ((n : ℕ) (x : X) (next : State) → P n x next → next.0.place ≡ n) → Leaves (P (length s.ops + 1)) r (done_on st.1 (step code op (go_to (length s.ops + 1) st.0, st.1)))
      → Gets code start (P (length t.ops)) r (length t.ops)
  op_gets s t op P r st is closed has c place leaves =
      subst (λ n. Gets code start (P n) r n) (sym (count_op s t op is))
      (gets_op code start (P (length s.ops + 1)) r (length s.ops) st op c (op_at code s t op is closed has) (place (length s.ops + 1)) leaves)

  pub means_on : (s t u : Buffer) (made kind : Option Kind) (value : Value₀) (turn : Value₁) → Means s t made value → Turns t u kind turn → Means s u kind (λ b names. value b names >>= turn b names)
  means_on s t u made kind value turn first then = record {
    grown = grown_on s t u first.grown then.grown;
    clean = first.clean;
    scope = then.scope ∙ first.scope;
    some = then.some;
    kind = λ taken. then.kind (subst (λ (c : Scope). AreTaken c.kinds c.names) (sym first.scope) taken);
    gets = λ st names c held.
        part_gets t u (Pushed (length t.ops) st) (Pushed (length u.ops) st) (value st.1 names) (turn st.1 names) then.grown (first.gets st names c held)
        (λ v next here p. then.gets next st v names here p (subst (λ (d : Scope). AreHeld st.0.locals d.names names) (sym first.scope) held));
  }

  pub turns_on : (s t u : Buffer) (made kind : Option Kind) (f g : Value₁) → Turns s t made f → Turns t u kind g → Turns s u kind (λ b names v. f b names v >>= g b names)
  turns_on s t u made kind f g first then = record {
    grown = grown_on s t u first.grown then.grown;
    clean = first.clean;
    scope = then.scope ∙ first.scope;
    some = then.some;
    kind = λ taken. then.kind (subst (λ (c : Scope). AreTaken c.kinds c.names) (sym first.scope) taken);
    gets = λ st base v names c p held.
        part_gets t u (Pushed (length t.ops) base) (Pushed (length u.ops) base) (f base.1 names v) (g base.1 names) then.grown (first.gets st base v names c p held)
        (λ w next here q. then.gets next base w names here q (subst (λ (d : Scope). AreHeld base.0.locals d.names names) (sym first.scope) held));
  }

  -- an op on the newest entry
  pub one_turns_on : (P : Board → Type 0) (s t : Buffer) (op : Op) (made : Option Kind) (f : Board → Value → Meaning Value) → ((n : ℕ) (st : State) → Comes code start n (Ok st) → P st.1) → Clean s → t ≡ with_op op s → is_open op ≡ false → Has code t
      → IsMade made → IsKind made → OneOpOn P code op f → Turns s t made (λ b names v. f b v)
  one_turns_on P s t op made f good clean is closed has some kind does = record {
    grown = grown_op op s t is;
    clean = clean;
    scope = ap (λ (u : Buffer). u.scope) is;
    some = some;
    kind = λ taken. kind;
    gets = λ st base v names c p held.
        op_gets s t op (λ n. Pushed n base) (f base.1 v) st is closed has c (λ n x next q. q.place)
        (subst (λ b. Leaves (Pushed (length s.ops + 1) base) (f b v) (done_on st.1 (step code op (go_to (length s.ops + 1) st.0, st.1)))) p.board
        (does (length s.ops + 1) base (go_to (length s.ops + 1) st.0) st.1 v base.0.stack (good (length s.ops) st c) p.stack (record { place = refl; locals = p.locals; stack = refl; board = p.board })));
  }

  pub one_turns : (s t : Buffer) (op : Op) (made : Option Kind) (f : Board → Value → Meaning Value) → Clean s → t ≡ with_op op s → is_open op ≡ false → Has code t → IsMade made → IsKind made → OneOp code op f → Turns s t made (λ b names v. f b v)
  one_turns s t op made f clean is closed has some kind does =
      one_turns_on (λ b. Unit {0}) s t op made f (λ n st c. tt) clean is closed has some kind (λ n base m b v rest good stack like. does n base m b v rest stack like)

  -- an operand more, and an op on both
  pub two_turns : (s t u : Buffer) (op : Op) (made kind : Option Kind) (value : Value₀) (f : Value → Value → Meaning Value) → Means s t made value → u ≡ with_op op t → is_open op ≡ false → Has code u → IsMade kind → IsKind kind → TwoOp code op f
      → Turns s u kind (λ b names v. value b names >>= f v)
  two_turns s t u op made kind value f right is closed has some known does = record {
    grown = grown_on s t u right.grown (grown_op op t u is);
    clean = right.clean;
    scope = ap (λ (x : Buffer). x.scope) is ∙ right.scope;
    some = some;
    kind = λ taken. known;
    gets = λ st base v names c p held.
        part_gets t u (Pushed (length t.ops) st) (Pushed (length u.ops) base) (value base.1 names) (f v) (grown_op op t u is)
        (subst (λ b. Gets code start (Pushed (length t.ops) st) (value b names) (length t.ops)) p.board
        (right.gets st names c (subst (λ l. AreHeld l s.scope.names names) (sym p.locals) held)))
        (λ w next here q.
        op_gets t u op (λ n. Pushed n base) (f v w) next is closed has here (λ n x after r. r.place)
        (does (length t.ops + 1) base (go_to (length t.ops + 1) next.0) next.1 v w base.0.stack (q.stack ∙ ap (λ vs. w ∷ vs) p.stack)
        (record { place = refl; locals = q.locals ∙ p.locals; stack = refl; board = q.board ∙ p.board })));
  }

  -- an op that pushes a value
  pub push_means : (s t : Buffer) (op : Op) (made : Option Kind) (value : Value₀) → Clean s → t ≡ with_op op s → is_open op ≡ false → Has code t → IsMade made → (AreTaken s.scope.kinds s.scope.names → IsKind made)
      → ((st : State) (names : List Name) → Comes code start (length s.ops) (Ok st) → AreHeld st.0.locals s.scope.names names → Leaves (Pushed (length s.ops + 1) st) (value st.1 names) (done_on st.1 (step code op (go_to (length s.ops + 1) st.0, st.1))))
      → Means s t made value
  push_means s t op made value clean is closed has some kind does = record {
    grown = grown_op op s t is;
    clean = clean;
    scope = ap (λ (u : Buffer). u.scope) is;
    some = some;
    kind = kind;
    gets = λ st names c held. op_gets s t op (λ n. Pushed n st) (value st.1 names) st is closed has c (λ n x next q. q.place) (does st names c held);
  }

  -- a meaning may be replaced by an equal one, and its kind by an equal one
  pub means_as : (s t : Buffer) (made kind : Option Kind) (a b : Value₀) → made ≡ kind → ((board : Board) (names : List Name) → a board names ≡ b board names) → Means s t made a → Means s t kind b
  means_as s t made kind a b is same m = record {
    grown = m.grown;
    clean = m.clean;
    scope = m.scope;
    some = (m.some.0, sym is ∙ m.some.1);
    kind = λ taken. subst IsKind is (m.kind taken);
    gets = λ st names c held. subst (λ r. Gets code start (Pushed (length t.ops) st) r (length t.ops)) (same st.1 names) (m.gets st names c held);
  }

  pub turns_as : (s t : Buffer) (made kind : Option Kind) (f g : Value₁) → made ≡ kind → ((board : Board) (names : List Name) (v : Value) → f board names v ≡ g board names v) → Turns s t made f → Turns s t kind g
  turns_as s t made kind f g is same m = record {
    grown = m.grown;
    clean = m.clean;
    scope = m.scope;
    some = (m.some.0, sym is ∙ m.some.1);
    kind = λ taken. subst IsKind is (m.kind taken);
    gets = λ st base v names c p held. subst (λ r. Gets code start (Pushed (length t.ops) base) r (length t.ops)) (same base.1 names v) (m.gets st base v names c p held);
  }
