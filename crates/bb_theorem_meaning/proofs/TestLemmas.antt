-- A test before a first block does what it means: it goes on to the block, where a name may be declared, or elsewhere.
use Rattle.std.proofs.Common.{◌≡◌, ℕ, ◌+◌, ◌≤◌, Bool, true, false, cond, List, length, Option, Some, None, Ok, Err, refl, subst, sym, ap, ◌∙◌, arith}
use Rattle.bb_basis.specs.Results.{◌>>=◌}
use Rattle.bb_code.specs.Code.{Code}
use Rattle.bb_code.specs.declared.parts.TheConstants.{STACK_LIMIT}
use Rattle.bb_code.specs.declared.op.Op.{Op}
use Rattle.bb_code.specs.declared.op.Op.TheVariants as ops
use Rattle.bb_schema.specs.Schema.{Schema}
use Rattle.bb_schema.specs.Fits as schemas
use Rattle.bb_lang.specs.Trees.{ExprTree}
use Rattle.bb_compile_scope.specs.declared.scope.Scope.{Scope}
use Rattle.bb_theorem_accepted.specs.Buffer.{Buffer}
use Rattle.bb_compile.specs.declared.exits.Exits.{Exits}
use Rattle.bb_machine.specs.Changing.{State}
use Rattle.bb_machine.specs.declared.value.Value.{Value}
use Rattle.bb_theorem_accepted.proofs.Laws.{Grown, Has, AreAimed, count_op, TestLaid, Guard, test_guard}
use Rattle.bb_theorem_meaning.specs.Meaning.{Meaning}
use Rattle.bb_theorem_meaning.specs.Expressions.{value_of}
use Rattle.bb_theorem_meaning.specs.Values.{truth}
use Rattle.bb_theorem_meaning.specs.Statements.{Scene, left}
use Rattle.bb_theorem_meaning.proofs.ComeLemmas.{Comes, Gets}
use Rattle.bb_theorem_meaning.proofs.AtomLemmas.{Good}
use Rattle.bb_theorem_meaning.proofs.ExprLemmas.{expr_means}
use Rattle.bb_theorem_meaning.proofs.KeepLemmas.{Moves, moves_same}
use Rattle.bb_theorem_meaning.proofs.ActLemmas.{IsTidy, IsScene, act_in}
use Rattle.bb_theorem_meaning.proofs.BranchLemmas.{after_test}

-- what a text does after a test: the first block where the test leaves a scene, and the other where it leaves none
abbrev pub chosen : (first other : Scene → Meaning Scene) → Scene → Option Scene → Meaning Scene
chosen first other s None = other s
chosen first other s (Some t) = left s (first t)

module _ (code : Code) (start : State) where
  -- from the scene before a test to the one after it, or to the place where its ops go that go elsewhere
  abbrev pub Chooses : (s u behind tested : Buffer) → List Op → (test : Scene → Meaning (Option Scene)) → Type 0
  Chooses s u behind tested es test =
      (t : Buffer) (f : Option Scene → Meaning Scene) (at : ℕ) → Grown behind t → AreAimed code at (length behind.ops) es → Has code u → IsTidy s.scope → length tested.ops ≤ at → at ≤ length t.ops → length u.ops ≤ length t.ops
      → (st : State) (scene : Scene) → Comes code start (length s.ops) (Ok st) → IsScene (length s.ops) s.scope.names scene st
      → ((after : Scene) (next : State) → Comes code start (length u.ops) (Ok next) → IsScene (length u.ops) u.scope.names after next → Gets code start (IsScene (length t.ops) t.scope.names) (f (Some after)) (length t.ops))
      → ((next : State) → Comes code start at (Ok next) → IsScene at s.scope.names scene next → Gets code start (IsScene (length t.ops) t.scope.names) (f None) (length t.ops))
      → Gets code start (IsScene (length t.ops) t.scope.names) (test scene >>= f) (length t.ops)

  pub record Tests (s u : Buffer) (exits : Exits) (gd : Guard s u exits) (test : Scene → Meaning (Option Scene)) : Type 0 where
    pub grown : Grown s gd.behind
    pub scope : gd.tested.scope ≡ s.scope
    pub tidy : IsTidy gd.tested.scope → IsTidy u.scope
    pub moves : Moves gd.tested.scope u.scope
    pub gets : Chooses s u gd.behind gd.tested gd.es test

  -- ---- the test of an `if`

  -- the scene as it is, where the value is true
  abbrev pub where_true : ExprTree → Scene → Meaning (Option Scene)
  where_true test s = value_of s.board s.names test >>= λ v. truth v >>= λ b. Ok (cond b (Some s) None)

  true_then : (s : Scene) (r : Meaning Value) (f : Option Scene → Meaning Scene) → ((let q : Meaning (Option Scene) = r >>= λ v. truth v >>= λ b. Ok (cond b (Some s) None) in q) >>= f) ≡ (r >>= λ v. truth v >>= λ b. f (cond b (Some s) None))
  true_then s (Ok v) f = by_truth (truth v)
    where
      by_truth : (r : Meaning Bool) → ((let q : Meaning (Option Scene) = r >>= λ b. Ok (cond b (Some s) None) in q) >>= f) ≡ (r >>= λ b. f (cond b (Some s) None))
      by_truth (Ok b) = refl
      by_truth (Err e) = refl
  true_then s (Err e) f = refl

  pub if_tests : (schema : Schema) (sf : schemas.Fits schema) → ((n : ℕ) (st : State) → Comes code start n (Ok st) → Good schema st.1) → (test : ExprTree) (s u : Buffer) (exits : Exits) (l : TestLaid schema test s u exits) → Has code l.behind
      → Tests s u exits (test_guard schema test s u exits l) (where_true test)
  unfolding test_guard
  if_tests schema sf good test s u exits l has =
      let m = expr_means schema sf code start good test STACK_LIMIT s l.behind l.made l.code_is (sym (ap (λ (x : Buffer). x.flaw) l.put_is) ∙ l.clean) has in
      let scope : u.scope ≡ s.scope = ap (λ (x : Buffer). x.scope) l.put_is ∙ m.scope in
      let put : length u.ops ≡ length l.behind.ops + 1 = count_op l.behind u (ops.Unless 0) l.put_is in
      record {
        grown = m.grown;
        scope = scope;
        tidy = λ tidy. tidy;
        moves = moves_same u.scope u.scope refl;
        gets = λ t f at grown aimed has_u tidy low high le st scene c here onward elsewhere.
            subst (λ r. Gets code start (IsScene (length t.ops) t.scope.names) r (length t.ops)) (sym (true_then scene (value_of scene.board scene.names test) f))
            (act_in code start s l.behind t l.made (λ b names. value_of b names test) st scene (λ v. truth v >>= λ b. f (cond b (Some scene) None)) m grown c here
            (λ after v is c' h.
            after_test code start (IsScene (length t.ops) t.scope.names) (λ b. f (cond b (Some scene) None)) s.scope.names (length l.behind.ops) at (length t.ops) scene after (omega (arith, put, low)) high v c' h aimed.0
            (λ next c'' is.
            onward scene next (subst (λ n. Comes code start n (Ok next)) (sym put) c'')
            (subst (λ n. IsScene n u.scope.names scene next) (sym put) (subst (λ ns. IsScene (length l.behind.ops + 1) ns scene next) (sym (ap (λ (c : Scope). c.names) scope)) is)))
            (λ next c'' is. elsewhere next c'' is)));
      }

-- an `if` means what its test chooses
pub if_means : (s : Scene) (r : Meaning Value) (first other : Scene → Meaning Scene)
    → ((let q : Meaning (Option Scene) = r >>= λ v. truth v >>= λ b. Ok (cond b (Some s) None) in q) >>= chosen first other s) ≡ (r >>= λ v. truth v >>= λ b. cond b (left s (first s)) (other s))
if_means s (Err e) first other = refl
if_means s (Ok v) first other = by_truth (truth v)
  where
    by_truth : (r : Meaning Bool) → ((let q : Meaning (Option Scene) = r >>= λ b. Ok (cond b (Some s) None) in q) >>= chosen first other s) ≡ (r >>= λ b. cond b (left s (first s)) (other s))
    by_truth (Ok true) = refl
    by_truth (Ok false) = refl
    by_truth (Err e) = refl
