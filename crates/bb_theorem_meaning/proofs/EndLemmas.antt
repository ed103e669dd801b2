-- A block that always ends comes to an end, so what stands after it is never reached.
use Rattle.std.proofs.Common.{◌≡◌, Bool, true, false, cond, ◌||◌, List, ℕ, Option, Some, None, Ok, Err, length, refl}
use Rattle.std.specs.Prelude.{take}
use Rattle.bb_basis.proofs.BoolLemmas.{and_first, and_second}
use Rattle.bb_basis.specs.Results.{◌>>=◌}
use Rattle.bb_basis.proofs.ResultLemmas.{bind_ok}
use Rattle.bb_lang.specs.Action.{Action}
use Rattle.bb_lang.specs.Action.TheVariants as actions
use Rattle.bb_lang.specs.Blocks.{BlockTree, StatementTree, OtherwiseTree, no_statement, before_others, action, if_of, with_of, for_of, absent, otherwise}
use Rattle.bb_compile_scope.specs.Ending.{ends, always_ends, otherwise_ends, block_ends}
use Rattle.bb_machine.specs.declared.outcome.Answer.TheVariants.{Rated}
use Rattle.bb_machine.specs.declared.value.Value.TheVariants.{Unit as One}
use Rattle.bb_theorem_meaning.specs.Meaning.{Meaning, answered}
use Rattle.bb_theorem_meaning.specs.Values.{number, truth}
use Rattle.bb_theorem_meaning.specs.Statements.{Scene, value, yes_or_no, acted, bound, where_named, left, with_unit, statement, otherwise_done, statements}

-- nothing comes of it but an end
abbrev pub Never : Meaning Scene → Type 0
Never r = (s : Scene) → r ≡ Ok s → ⊥

ends_never : (a : Action) (s : Scene) → ends a ≡ true → Never (acted a s)
unfolding acted
ends_never (actions.Rate e) s h x is =
    let one = bind_ok (value s e) (λ v. number v >>= λ n. Err (answered (Rated n) s.board)) x is in
    let two = bind_ok (number one.0) (λ n. Err (answered (Rated n) s.board)) x one.2 in
    let no = two.2 in cc
ends_never actions.Decline s h x is = cc
ends_never (actions.Answer e) s h x is =
    let one = bind_ok (value s e) (λ v. truth v >>= λ b. Err (yes_or_no s.board b)) x is in
    let two = bind_ok (truth one.0) (λ b. Err (yes_or_no s.board b)) x one.2 in
    let no = two.2 in cc
ends_never (actions.Let name e) s h x is = absurd cc
ends_never (actions.Assign name e) s h x is = absurd cc
ends_never (actions.New name class) s h x is = absurd cc
ends_never (actions.Set unit slot e) s h x is = absurd cc
ends_never (actions.Link unit slot other) s h x is = absurd cc
ends_never (actions.Unlink unit slot other) s h x is = absurd cc
ends_never (actions.Enter unit space) s h x is = absurd cc
ends_never (actions.Leave unit space) s h x is = absurd cc
ends_never (actions.Delete unit) s h x is = absurd cc
ends_never (actions.Say es) s h x is = absurd cc

left_never : (before : Scene) (r : Meaning Scene) → Never r → Never (left before r)
left_never before r never x is =
    let one = bind_ok r (λ s. Ok (record { names = take (length before.names) s.names; board = s.board })) x is in never one.0 one.1

if_never : (b : Bool) (r q : Meaning Scene) → Never r → Never q → Never (cond b r q)
if_never true r q one other = one
if_never false r q one other = other

or_never : (a b : Bool) (r : Meaning Scene) (f : Scene → Meaning Scene) → (a || b) ≡ true → (a ≡ true → Never r) → (b ≡ true → (s : Scene) → Never (f s)) → Never (r >>= f)
or_never true b r f h one other x is = let p = bind_ok r f x is in one refl p.0 p.1
or_never false b r f h one other x is = let p = bind_ok r f x is in other h p.0 x p.2

with_never : (first : BlockTree) (other : Meaning Scene) (name : List ℕ) (o : Option ℕ) (s : Scene) → ((t : Scene) → Never (statements first t)) → Never other → Never (with_unit (statements first) other (name, o) s)
with_never first other name None s one two = two
with_never first other name (Some n) s one two = left_never s (statements first (where_named name (One n) s)) (one (where_named name (One n) s))

mutual
  unfolding always_ends otherwise_ends block_ends statement otherwise_done statements

  statement_never : (x : StatementTree) (s : Scene) → always_ends x ≡ true → Never (statement x s)
  statement_never (action a) s h x is = ends_never a s h x is
  statement_never (if_of test first other) s h x is =
      let one = bind_ok (value s test) (λ v. truth v >>= λ b. cond b (left s (statements first s)) (otherwise_done other s)) x is in
      let two = bind_ok (truth one.0) (λ b. cond b (left s (statements first s)) (otherwise_done other s)) x one.2 in
      if_never two.0 (left s (statements first s)) (otherwise_done other s) (left_never s (statements first s) (block_never first s (and_first (block_ends first) (otherwise_ends other) h)))
      (other_never other s (and_second (block_ends first) (otherwise_ends other) h)) x two.2
  statement_never (with_of binding first other) s h x is =
      let one = bind_ok (bound binding s) (λ test. with_unit (statements first) (otherwise_done other s) test s) x is in
      with_never first (otherwise_done other s) one.0.0 one.0.1 s (λ t. block_never first t (and_first (block_ends first) (otherwise_ends other) h)) (other_never other s (and_second (block_ends first) (otherwise_ends other) h)) x one.2
  statement_never (for_of name sequence body) s h x is = absurd cc

  other_never : (o : OtherwiseTree) (s : Scene) → otherwise_ends o ≡ true → Never (otherwise_done o s)
  other_never absent s h x is = absurd cc
  other_never (otherwise b) s h x is = left_never s (statements b s) (block_never b s h) x is

  pub block_never : (b : BlockTree) (s : Scene) → block_ends b ≡ true → Never (statements b s)
  block_never no_statement s h x is = absurd cc
  block_never (before_others place first others) s h x is =
      or_never (always_ends first) (block_ends others) (statement first s) (λ t. statements others t) h (λ own. statement_never first s own) (λ rest t. block_never others t rest) x is
