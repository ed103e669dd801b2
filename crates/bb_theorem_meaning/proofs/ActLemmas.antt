-- What statements without blocks lay out does what they mean: the parts of the proof that all share.
use Rattle.std.proofs.Common.{◌≡◌, ℕ, ◌+◌, ◌<◌, Bool, true, false, cond, List, [], ◌∷◌, ◌++◌, length, Option, Some, Result, Ok, refl, subst, sym, ap, ◌∙◌, arith, length-append}
use Rattle.std.specs.Prelude.{slice_get, set, position, nat_le}
use Rattle.std.proofs.lemmas.Bool.{leb-false}
use Rattle.bb_basis.specs.Results.{◌>>=◌}
use Rattle.bb_basis.proofs.PositionLemmas.{position_within}
use Rattle.bb_code.specs.Code.{Code}
use Rattle.bb_code.specs.declared.frame.Kind.{Kind}
use Rattle.bb_code.specs.declared.op.Op.{Op}
use Rattle.bb_code.specs.declared.op.Op.TheVariants as ops
use Rattle.bb_compile_scope.specs.declared.scope.NamedLocal.{NamedLocal}
use Rattle.bb_compile_scope.specs.declared.scope.Scope.{Scope}
use Rattle.bb_compile_scope.specs.LocalKinds.{is_free, kind_at}
use Rattle.bb_compile_scope.proofs.Laws.{free_first}
use Rattle.bb_theorem_accepted.specs.Buffer.{Buffer}
use Rattle.bb_theorem_accepted.specs.Buffers.{declare}
use Rattle.bb_board.specs.Board.{Board}
use Rattle.bb_machine.specs.Changing.{State}
use Rattle.bb_machine.specs.declared.halt.Halt.{Halt}
use Rattle.bb_machine.specs.Machine.{Machine, with_stack, with_local, go_to, pop, store}
use Rattle.bb_machine.specs.Reading.{store_local}
use Rattle.bb_machine.specs.Step.{step, keeps}
use Rattle.bb_machine.specs.declared.outcome.Stuck.TheVariants as reasons
use Rattle.bb_machine.specs.Value.{stuck}
use Rattle.bb_machine.specs.declared.value.Value.{Value}
use Rattle.bb_theorem_accepted.proofs.Laws.{Clean, Grown, Has, is_open, with_op, grown_on, count_of, seam, declare_is}
use Rattle.bb_theorem_meaning.specs.Meaning.{Meaning, Name}
use Rattle.bb_theorem_meaning.specs.Meaning as names
use Rattle.bb_theorem_meaning.specs.Statements.{Scene, where_named}
use Rattle.bb_theorem_meaning.proofs.ComeLemmas.{Leaves, done_on, Comes, Gets, gets_as, gets_op}
use Rattle.bb_theorem_meaning.proofs.MeansLemmas.{Means, part_gets, Value₀}
use Rattle.bb_theorem_meaning.proofs.NameLemmas.{AreHeld, AreTaken}
use Rattle.bb_theorem_meaning.proofs.OpLemmas.{Pushed}
use Rattle.bb_theorem_meaning.proofs.SceneLemmas.{AreApart, known_set, all_known, known_new, taken_more, free_other, apart_more, held_declared}
use Rattle.bb_theorem_meaning.proofs.KeepLemmas.{Keeps, Moves, moves_same, moves_kept}
use Rattle.std.proofs.lemmas.List.{append-nil, length-set}

-- what the names hold is known, and each name has a local of its own
pub record IsTidy (scope : Scope) : Type 0 where
  pub taken : AreTaken scope.kinds scope.names
  pub apart : AreApart scope.names

-- a state between statements: the locals hold the values of the names, and the stack is empty
pub record IsScene (n : ℕ) (ns : List NamedLocal) (scene : Scene) (next : State) : Type 0 where
  pub place : next.0.place ≡ n
  pub held : AreHeld next.0.locals ns scene.names
  pub stack : next.0.stack ≡ []
  pub board : next.1 ≡ scene.board

-- one op is put, and nothing else but what the scope knows changes
pub record Last (op : Op) (s t : Buffer) : Type 0 where
  pub ops : t.ops ≡ s.ops ++ op ∷ []
  pub texts : t.texts ≡ s.texts
  pub queries : t.queries ≡ s.queries
  pub flaw : t.flaw ≡ s.flaw

pub last_grown : (op : Op) (s t : Buffer) → Last op s t → Grown s t
last_grown op s t l = record {
  ops = op ∷ [];
  ops_are = l.ops;
  texts = [];
  texts_are = l.texts ∙ sym (append-nil s.texts);
  queries = [];
  queries_are = l.queries ∙ sym (append-nil s.queries);
}

pub last_put : (op : Op) (s t : Buffer) → t ≡ with_op op s → Last op s t
last_put op s t is = record { ops = ap (λ (u : Buffer). u.ops) is; texts = ap (λ (u : Buffer). u.texts) is; queries = ap (λ (u : Buffer). u.queries) is; flaw = ap (λ (u : Buffer). u.flaw) is }

pub last_clean : (op : Op) (s t : Buffer) → Last op s t → Clean t → Clean s
last_clean op s t l clean = sym l.flaw ∙ clean

-- ---- a name is declared

-- the lowest free local takes the value
pub record Declares (name : List ℕ) (kind : Kind) (s t : Buffer) : Type 0 where
  pub local : ℕ
  pub free : position is_free s.scope.kinds ≡ Some local
  pub last : Last (ops.Store local) s t
  pub names : t.scope.names ≡ s.scope.names ++ record { name = name; local = local } ∷ []
  pub kinds : t.scope.kinds ≡ set (set s.scope.kinds local kind) local kind

pub declare_ok : (name : List ℕ) (kind : Kind) (s t : Buffer) → declare name kind s ≡ Ok t → Declares name kind s t
declare_ok name kind s t h =
    let d = declare_is name kind s t h in
    record {
      local = d.0;
      free = d.1;
      last = record { ops = ap (λ (x : Buffer). x.ops) d.2; texts = ap (λ (x : Buffer). x.texts) d.2; queries = ap (λ (x : Buffer). x.queries) d.2; flaw = ap (λ (x : Buffer). x.flaw) d.2 };
      names = ap (λ (x : Buffer). x.scope.names) d.2;
      kinds = ap (λ (x : Buffer). x.scope.kinds) d.2;
    }

pub declared_tidy : (name : List ℕ) (kind : Kind) (s t : Buffer) → Declares name kind s t → is_free kind ≡ false → IsTidy s.scope → IsTidy t.scope
declared_tidy name kind s t d known tidy =
    let n : NamedLocal = record { name = name; local = d.local } in
    let lt = position_within is_free s.scope.kinds d.local d.free in
    let once = all_known s.scope.names s.scope.kinds d.local kind known tidy.taken in
    let twice = all_known s.scope.names (set s.scope.kinds d.local kind) d.local kind known once in
    let own : is_free (kind_at (set (set s.scope.kinds d.local kind) d.local kind) d.local) ≡ false = known_new (set s.scope.kinds d.local kind) d.local kind known (omega (arith, lt, length-set s.scope.kinds d.local kind)) in
    record {
      taken = subst (λ ks. AreTaken ks t.scope.names) (sym d.kinds) (subst (AreTaken (set (set s.scope.kinds d.local kind) d.local kind)) (sym d.names) (taken_more s.scope.names (set (set s.scope.kinds d.local kind) d.local kind) n twice own));
      apart = subst AreApart (sym d.names) (apart_more s.scope.names n tidy.apart (free_other s.scope.names s.scope.kinds d.local tidy.taken (free_first s.scope.kinds d.local d.free)));
    }

pub declared_moves : (name : List ℕ) (kind : Kind) (s t : Buffer) → Declares name kind s t → is_free kind ≡ false → Moves s.scope t.scope
declared_moves name kind s t d known = record {
  more = record { name = name; local = d.local } ∷ [];
  names = d.names;
  keeps = λ i taken. subst (λ ks. is_free (kind_at ks i) ≡ false) (sym d.kinds) (known_set (set s.scope.kinds d.local kind) d.local i kind known (known_set s.scope.kinds d.local i kind known taken));
}

module _ (code : Code) (start : State) where
  -- what is laid out from one buffer to another does what a statement means
  pub record Acts (s t : Buffer) (act : Scene → Meaning Scene) : Type 0 where
    pub grown : Grown s t
    pub clean : Clean s
    pub tidy : IsTidy s.scope → IsTidy t.scope
    pub moves : IsTidy s.scope → Moves s.scope t.scope
    pub gets : IsTidy s.scope → (st : State) (scene : Scene) → Comes code start (length s.ops) (Ok st) → IsScene (length s.ops) s.scope.names scene st → Gets code start (IsScene (length t.ops) t.scope.names) (act scene) (length t.ops)

  -- the last op
  pub last_gets : {X : Type 0} (op : Op) (s t : Buffer) (P : ℕ → X → State → Type 0) (r : Meaning X) (st : State) → Last op s t → is_open op ≡ false → Has code t → Comes code start (length s.ops) (Ok st)
      → ((n : ℕ) (x : X) (next : State) → P n x next → next.0.place ≡ n) → Leaves (P (length s.ops + 1)) r (done_on st.1 (step code op (go_to (length s.ops + 1) st.0, st.1)))
      → Gets code start (P (length t.ops)) r (length t.ops)
  last_gets op s t P r st last closed has c place leaves =
      let count : length t.ops ≡ length s.ops + 1 = ap length last.ops ∙ length-append s.ops (op ∷ []) in
      let at : slice_get code.ops (length s.ops) ≡ Some op = has.ops (length s.ops) op (ap (λ l. slice_get l (length s.ops)) last.ops ∙ seam s.ops [] op) closed in
      subst (λ n. Gets code start (P n) r n) (sym count) (gets_op code start (P (length s.ops + 1)) r (length s.ops) st op c at (place (length s.ops + 1)) leaves)

  -- a state with the values of names in its locals and one value on its stack
  pub record Holds (n : ℕ) (ns : List NamedLocal) (scene : Scene) (v : Value) (st : State) : Type 0 where
    pub place : st.0.place ≡ n
    pub held : AreHeld st.0.locals ns scene.names
    pub stack : st.0.stack ≡ v ∷ []
    pub board : st.1 ≡ scene.board

  -- an expression, and what comes of its value in a scene
  pub act_in : (s t u : Buffer) (made : Option Kind) (value : Value₀) (st : State) (scene : Scene) (f : Value → Meaning Scene) → Means code start s t made value → Grown t u → Comes code start (length s.ops) (Ok st) → IsScene (length s.ops) s.scope.names scene st
      → ((after : State) (v : Value) → value scene.board scene.names ≡ Ok v → Comes code start (length t.ops) (Ok after) → Holds (length t.ops) s.scope.names scene v after → Gets code start (IsScene (length u.ops) u.scope.names) (f v) (length u.ops))
      → Gets code start (IsScene (length u.ops) u.scope.names) (value scene.board scene.names >>= f) (length u.ops)
  act_in s t u made value st scene f m g c is next =
      let count = count_of t u g in
      gets_as code start (Pushed (length t.ops) st) (IsScene (length u.ops) u.scope.names) (value scene.board scene.names) f (length t.ops) (length u.ops) (omega (arith, count))
      (subst (λ b. Gets code start (Pushed (length t.ops) st) (value b scene.names) (length t.ops)) is.board (m.gets st scene.names c is.held))
      (λ v after same here p. next after v same here (record {
        place = p.place;
        held = subst (λ l. AreHeld l s.scope.names scene.names) (sym p.locals) is.held;
        stack = p.stack ∙ ap (λ l. v ∷ l) is.stack;
        board = p.board ∙ is.board;
      }))

  -- and in each
  pub act_one : (s t u : Buffer) (made : Option Kind) (value : Value₀) (f : Scene → Value → Meaning Scene) → Means code start s t made value → Grown t u
      → ((st : State) (scene : Scene) (v : Value) → Comes code start (length t.ops) (Ok st) → Holds (length t.ops) s.scope.names scene v st → Gets code start (IsScene (length u.ops) u.scope.names) (f scene v) (length u.ops))
      → (st : State) (scene : Scene) → Comes code start (length s.ops) (Ok st) → IsScene (length s.ops) s.scope.names scene st
      → Gets code start (IsScene (length u.ops) u.scope.names) (value scene.board scene.names >>= f scene) (length u.ops)
  act_one s t u made value f m g next st scene c is = act_in s t u made value st scene (f scene) m g c is (λ after v same here h. next after scene v here h)

  -- ---- a value becomes that of a local

  pub store_on : (local : ℕ) (m : Machine) (b : Board) (v : Value) → m.stack ≡ v ∷ [] → step code (ops.Store local) (m, b) ≡ keeps b (store local v (with_stack [] m))
  unfolding step store_local pop
  store_on local m b v is = rw is refl

  store_leaves : (local n : ℕ) (ns : List NamedLocal) (scene : Scene) (m : Machine) (b : Board) (v : Value) → m.place ≡ n → m.stack ≡ v ∷ [] → b ≡ scene.board
      → (local < length m.locals → AreHeld (set m.locals local (Some v)) ns scene.names) → Leaves (IsScene n ns) (Ok scene) (done_on b (step code (ops.Store local) (m, b)))
  unfolding store
  store_leaves local n ns scene m b v place stack board held =
      subst (λ r. Leaves (IsScene n ns) (Ok scene) (done_on b r)) (sym (store_on local m b v stack)) (by_few (nat_le (length m.locals) local) refl)
    where
      by_few : (few : Bool) → nat_le (length m.locals) local ≡ few → Leaves (IsScene n ns) (Ok scene) (done_on b (keeps b (let r : Result Machine Halt = cond few (stuck reasons.Missing) (Ok (with_local local v (with_stack [] m))) in r)))
      by_few true few = tt
      by_few false few = (scene, refl, record { place = place; held = held (leb-false (length m.locals) local few); stack = refl; board = board })

  -- the value on the stack gets a name
  pub declare_gets : (name : List ℕ) (kind : Kind) (s t : Buffer) → Declares name kind s t → Has code t → IsTidy s.scope → (st : State) (scene : Scene) (v : Value) → Comes code start (length s.ops) (Ok st) → Holds (length s.ops) s.scope.names scene v st
      → Gets code start (IsScene (length t.ops) t.scope.names) (Ok (where_named name v scene)) (length t.ops)
  declare_gets name kind s t d has tidy st scene v c h =
      last_gets (ops.Store d.local) s t (λ n. IsScene n t.scope.names) (Ok (where_named name v scene)) st d.last refl has c (λ n x next i. i.place)
      (store_leaves d.local (length s.ops + 1) t.scope.names (where_named name v scene) (go_to (length s.ops + 1) st.0) st.1 v refl h.stack h.board
      (λ lt. subst (λ ns. AreHeld (set st.0.locals d.local (Some v)) ns (names.with_name name v scene.names)) (sym d.names)
      (held_declared st.0.locals s.scope.names scene.names name d.local v (free_other s.scope.names s.scope.kinds d.local tidy.taken (free_first s.scope.kinds d.local d.free)) h.held lt)))

  -- a name that is there gets the value on the stack
  pub assign_gets : (local : ℕ) (s t : Buffer) → Last (ops.Store local) s t → Has code t → (st : State) (scene after : Scene) (v : Value) → Comes code start (length s.ops) (Ok st) → Holds (length s.ops) s.scope.names scene v st → after.board ≡ scene.board
      → (local < length st.0.locals → AreHeld (set st.0.locals local (Some v)) t.scope.names after.names) → Gets code start (IsScene (length t.ops) t.scope.names) (Ok after) (length t.ops)
  assign_gets local s t last has st scene after v c h same held =
      last_gets (ops.Store local) s t (λ n. IsScene n t.scope.names) (Ok after) st last refl has c (λ n x next i. i.place)
      (store_leaves local (length s.ops + 1) t.scope.names after (go_to (length s.ops + 1) st.0) st.1 v refl h.stack (h.board ∙ sym same) held)

  -- ---- an op on one value, and one on two

  abbrev pub OneLeaf : (ns : List NamedLocal) → Op → (Board → Type 0) → (Scene → Value → Meaning Scene) → Type 0
  OneLeaf ns op P f = (n : ℕ) (m : Machine) (b : Board) (v : Value) (ms : List Name) → P b → m.place ≡ n → AreHeld m.locals ns ms → m.stack ≡ v ∷ []
      → Leaves (IsScene n ns) (f (record { names = ms; board = b }) v) (done_on b (step code op (m, b)))

  pub one_gets : (ns : List NamedLocal) (op : Op) (P : Board → Type 0) (f : Scene → Value → Meaning Scene) (t u : Buffer) → ((n : ℕ) (st : State) → Comes code start n (Ok st) → P st.1) → Last op t u → is_open op ≡ false → Has code u → OneLeaf ns op P f
      → (st : State) (scene : Scene) (v : Value) → Comes code start (length t.ops) (Ok st) → Holds (length t.ops) ns scene v st → Gets code start (IsScene (length u.ops) ns) (f scene v) (length u.ops)
  one_gets ns op P f t u good last closed has leaf st scene v c h =
      subst (λ b. Gets code start (IsScene (length u.ops) ns) (f (record { names = scene.names; board = b }) v) (length u.ops)) h.board
      (last_gets op t u (λ n. IsScene n ns) (f (record { names = scene.names; board = st.1 }) v) st last closed has c (λ n x next i. i.place)
      (leaf (length t.ops + 1) (go_to (length t.ops + 1) st.0) st.1 v scene.names (good (length t.ops) st c) refl h.held h.stack))

  abbrev pub TwoLeaf : (ns : List NamedLocal) → Op → (Board → Type 0) → (Scene → (v w : Value) → Meaning Scene) → Type 0
  TwoLeaf ns op P f = (n : ℕ) (m : Machine) (b : Board) (v w : Value) (ms : List Name) → P b → m.place ≡ n → AreHeld m.locals ns ms → m.stack ≡ w ∷ v ∷ []
      → Leaves (IsScene n ns) (f (record { names = ms; board = b }) v w) (done_on b (step code op (m, b)))

  -- two values, and an op on both
  pub two_act : (op : Op) (P : Board → Type 0) (s t u w : Buffer) (made kind : Option Kind) (one other : Value₀) (f : Scene → (v w : Value) → Meaning Scene) → ((n : ℕ) (st : State) → Comes code start n (Ok st) → P st.1)
      → Means code start s t made one → Means code start t u kind other → Last op u w → is_open op ≡ false → w.scope ≡ u.scope → Has code w → TwoLeaf s.scope.names op P f → Acts s w (λ scene. one scene.board scene.names >>= λ v. other scene.board scene.names >>= f scene v)
  two_act op P s t u w made kind one other f good first second last closed scope has leaf =
      let all : w.scope ≡ s.scope = scope ∙ (second.scope ∙ first.scope) in
      let rest = grown_on t u w second.grown (last_grown op u w last) in
      record {
        grown = grown_on s t w first.grown rest;
        clean = first.clean;
        tidy = λ tidy. subst IsTidy (sym all) tidy;
        moves = λ tidy. moves_same s.scope w.scope all;
        gets = λ tidy st scene c is.
            act_one s t w made one (λ sc v. other sc.board sc.names >>= f sc v) first rest
            (λ st' sc v here h.
            part_gets code start u w (Pushed (length u.ops) st') (IsScene (length w.ops) w.scope.names) (other sc.board sc.names) (f sc v) (last_grown op u w last)
            (subst (λ b. Gets code start (Pushed (length u.ops) st') (other b sc.names) (length u.ops)) h.board (second.gets st' sc.names here (subst (λ (d : Scope). AreHeld st'.0.locals d.names sc.names) (sym first.scope) h.held)))
            (λ x next there p.
            subst (λ (d : Scope). Gets code start (IsScene (length w.ops) d.names) (f sc v x) (length w.ops)) (sym all)
            (subst (λ b. Gets code start (IsScene (length w.ops) s.scope.names) (f (record { names = sc.names; board = b }) v x) (length w.ops)) (p.board ∙ h.board)
            (last_gets op u w (λ n. IsScene n s.scope.names) (f (record { names = sc.names; board = next.1 }) v x) next last closed has there (λ n y after i. i.place)
            (leaf (length u.ops + 1) (go_to (length u.ops + 1) next.0) next.1 v x sc.names (good (length u.ops) next there) refl (subst (λ l. AreHeld l s.scope.names sc.names) (sym p.locals) h.held)
            (p.stack ∙ ap (λ l. x ∷ l) h.stack))))))
            st scene c is;
      }

  -- a value, and an op on it
  pub one_act : (op : Op) (P : Board → Type 0) (s t u : Buffer) (made : Option Kind) (one : Value₀) (f : Scene → Value → Meaning Scene) → ((n : ℕ) (st : State) → Comes code start n (Ok st) → P st.1)
      → Means code start s t made one → Last op t u → is_open op ≡ false → u.scope.names ≡ s.scope.names → Keeps s.scope.kinds u.scope.kinds → (IsTidy s.scope → IsTidy u.scope) → Has code u → OneLeaf s.scope.names op P f → Acts s u (λ scene. one scene.board scene.names >>= f scene)
  one_act op P s t u made one f good first last closed names keeps tidy has leaf = record {
    grown = grown_on s t u first.grown (last_grown op t u last);
    clean = first.clean;
    tidy = tidy;
    moves = λ is_tidy. moves_kept s.scope u.scope names keeps;
    gets = λ is_tidy st scene c is.
        act_one s t u made one f first (last_grown op t u last)
        (λ st' sc v here h. subst (λ ns. Gets code start (IsScene (length u.ops) ns) (f sc v) (length u.ops)) (sym names) (one_gets s.scope.names op P f t u good last closed has leaf st' sc v here h))
        st scene c is;
  }

  -- what acts from a buffer acts from any that is equal to it where no flaw was noted
  pub acts_as : (was s t : Buffer) (f : Scene → Meaning Scene) → (Clean was → was ≡ s) → Acts was t f → Acts s t f
  acts_as was s t f same a = subst (λ u. Acts u t f) (same a.clean) a
