-- What an `if` lays out does what it means: its test, and the end of a block.
use Rattle.std.proofs.Common.{◌≡◌, ℕ, ◌+◌, ◌≤◌, Bool, true, false, cond, List, [], ◌∷◌, ◌++◌, length, Some, Ok, Err, refl, subst, sym, arith}
use Rattle.std.specs.Prelude.{slice_get, take}
use Rattle.bb_basis.specs.Results.{◌>>=◌}
use Rattle.bb_code.specs.Code.{Code}
use Rattle.bb_code.specs.declared.op.Op.TheVariants as ops
use Rattle.bb_compile_scope.specs.declared.scope.NamedLocal.{NamedLocal}
use Rattle.bb_board.specs.Board.{Board}
use Rattle.bb_machine.specs.Value.{bool_of}
use Rattle.bb_machine.specs.Changing.{State}
use Rattle.bb_machine.specs.declared.halt.Halt.{Halt}
use Rattle.bb_machine.specs.declared.halt.Halt.TheVariants as halts
use Rattle.bb_machine.specs.Jumping.{unless}
use Rattle.bb_machine.specs.Machine.{Machine, with_stack, go_to, pop}
use Rattle.bb_machine.specs.Step.{step, keeps}
use Rattle.bb_machine.specs.declared.outcome.Stuck.TheVariants as reasons
use Rattle.bb_machine.specs.declared.value.Value.{Value}
use Rattle.bb_machine.specs.declared.value.Value.TheVariants.{Int, Text, Bool as Truth, Label, Interval, Unit as One, Seq}
use Rattle.bb_theorem_meaning.specs.Meaning.{Meaning}
use Rattle.bb_theorem_meaning.specs.Values.{truth}
use Rattle.bb_theorem_meaning.specs.Statements.{Scene, left}
use Rattle.bb_theorem_meaning.proofs.ComeLemmas.{Leaves, Comes, Gets, ended_by, leaves_on, comes_to, gets_then, gets_none}
use Rattle.bb_theorem_meaning.proofs.NameLemmas.{AreHeld}
use Rattle.bb_theorem_meaning.proofs.KeepLemmas.{held_front}
use Rattle.bb_theorem_meaning.proofs.ActLemmas.{IsScene, Holds}
use Rattle.bb_theorem_meaning.proofs.EndLemmas.{Never}

module _ (code : Code) (start : State) where
  -- ---- the test

  unless_on : (at : ℕ) (m : Machine) (b : Board) (v : Value) → m.stack ≡ v ∷ [] → step code (ops.Unless at) (m, b) ≡ keeps b (bool_of v >>= λ t. Ok (cond t (with_stack [] m) (go_to at (with_stack [] m))))
  unfolding step unless pop
  unless_on at m b v is = rw is refl

  module _ {Y : Type 0} (Q : Y → State → Type 0) (f : Bool → Meaning Y) (ns : List NamedLocal) (n at last : ℕ) (scene : Scene) (st : State) (ahead : n + 1 ≤ at) (within : at ≤ last) where
    -- the next op comes where the truth value holds, and the op at the place where it does not
    pub after_test : (v : Value) → Comes code start n (Ok st) → Holds code start n ns scene v st → slice_get code.ops n ≡ Some (ops.Unless at)
        → ((next : State) → Comes code start (n + 1) (Ok next) → IsScene (n + 1) ns scene next → Gets code start Q (f true) last)
        → ((next : State) → Comes code start at (Ok next) → IsScene at ns scene next → Gets code start Q (f false) last)
        → Gets code start Q (truth v >>= f) last
    after_test (Truth true) c h there onward elsewhere =
        let m = go_to (n + 1) st.0 in
        let next : State = (with_stack [] m, st.1) in
        onward next (comes_to code start n (n + 1) st (ops.Unless at) (Ok next) (omega arith) c there (unless_on at m st.1 (Truth true) h.stack) refl) (record { place = refl; held = h.held; stack = refl; board = h.board })
    after_test (Truth false) c h there onward elsewhere =
        let m = go_to (n + 1) st.0 in
        let next : State = (go_to at (with_stack [] m), st.1) in
        elsewhere next (comes_to code start n at st (ops.Unless at) (Ok next) ahead c there (unless_on at m st.1 (Truth false) h.stack) refl) (record { place = refl; held = h.held; stack = refl; board = h.board })
    after_test (Int k) c h there onward elsewhere =
        (Err (halts.Stuck reasons.Kind, st.1), comes_to code start n last st (ops.Unless at) (Err (halts.Stuck reasons.Kind)) (omega (arith, ahead, within)) c there (unless_on at (go_to (n + 1) st.0) st.1 (Int k) h.stack) tt, tt)
    after_test (Text k) c h there onward elsewhere =
        (Err (halts.Stuck reasons.Kind, st.1), comes_to code start n last st (ops.Unless at) (Err (halts.Stuck reasons.Kind)) (omega (arith, ahead, within)) c there (unless_on at (go_to (n + 1) st.0) st.1 (Text k) h.stack) tt, tt)
    after_test (Label set k) c h there onward elsewhere =
        (Err (halts.Stuck reasons.Kind, st.1), comes_to code start n last st (ops.Unless at) (Err (halts.Stuck reasons.Kind)) (omega (arith, ahead, within)) c there (unless_on at (go_to (n + 1) st.0) st.1 (Label set k) h.stack) tt, tt)
    after_test (Interval i k) c h there onward elsewhere =
        (Err (halts.Stuck reasons.Kind, st.1), comes_to code start n last st (ops.Unless at) (Err (halts.Stuck reasons.Kind)) (omega (arith, ahead, within)) c there (unless_on at (go_to (n + 1) st.0) st.1 (Interval i k) h.stack) tt, tt)
    after_test (One k) c h there onward elsewhere =
        (Err (halts.Stuck reasons.Kind, st.1), comes_to code start n last st (ops.Unless at) (Err (halts.Stuck reasons.Kind)) (omega (arith, ahead, within)) c there (unless_on at (go_to (n + 1) st.0) st.1 (One k) h.stack) tt, tt)
    after_test (Seq k) c h there onward elsewhere =
        (Err (halts.Stuck reasons.Kind, st.1), comes_to code start n last st (ops.Unless at) (Err (halts.Stuck reasons.Kind)) (omega (arith, ahead, within)) c there (unless_on at (go_to (n + 1) st.0) st.1 (Seq k) h.stack) tt, tt)

  -- ---- the end of a block

  -- its names are forgotten
  pub left_gets : (ns more : List NamedLocal) (n : ℕ) (before : Scene) (r : Meaning Scene) → length before.names ≡ length ns → Gets code start (IsScene n (ns ++ more)) r n → Gets code start (IsScene n ns) (left before r) n
  left_gets ns more n before r count g =
      gets_then code start (IsScene n (ns ++ more)) (IsScene n ns) r (λ s. Ok (record { names = take (length before.names) s.names; board = s.board })) n n (omega arith) g
      (λ x st c p.
      gets_none code start (IsScene n ns) (record { names = take (length before.names) x.names; board = x.board }) n st c
      (record { place = p.place; held = subst (λ k. AreHeld st.0.locals ns (take k x.names)) (sym count) (held_front st.0.locals ns more x.names p.held); stack = p.stack; board = p.board }))

  jump_on : (at : ℕ) (m : Machine) (b : Board) → step code (ops.Jump at) (m, b) ≡ Ok (go_to at m, b)
  unfolding step
  jump_on at m b = refl

  -- a jump after a block goes ahead
  pub jump_gets : (ns : List NamedLocal) (n at : ℕ) (r : Meaning Scene) → n + 1 ≤ at → slice_get code.ops n ≡ Some (ops.Jump at) → Gets code start (IsScene n ns) r n → Gets code start (IsScene at ns) r at
  jump_gets ns n at r ahead there (Ok st, c, l) = (
    Ok (go_to at (go_to (n + 1) st.0), st.1),
    comes_to code start n at st (ops.Jump at) (Ok (go_to at (go_to (n + 1) st.0), st.1)) ahead c there (jump_on at (go_to (n + 1) st.0) st.1) refl,
    (l.0, l.1, record { place = refl; held = l.2.held; stack = l.2.stack; board = l.2.board }),
  )
  jump_gets ns n at r ahead there (Err e, c, l) = (Err e, ended_by code start n at e (omega (arith, ahead)) c, ends_alike e l)
    where
      ends_alike : (e : Halt × Board) → Leaves (IsScene n ns) r (Err e) → Leaves (IsScene at ns) r (Err e)
      ends_alike (halts.Answered a, b) h = h
      ends_alike (halts.Full, b) h = h
      ends_alike (halts.Stuck reason, b) h = h
      ends_alike (halts.Memory, b) h = h

  -- a block that always ends is not left, wherever what stands after it ends
  pub never_gets : (P Q : Scene → State → Type 0) (n at : ℕ) (r : Meaning Scene) (f : Scene → Meaning Scene) → n ≤ at → Never r → Gets code start P r n → Gets code start Q (r >>= f) at
  never_gets P Q n at r f le never (Ok st, c, l) = absurd (never l.0 l.1)
  never_gets P Q n at r f le never (Err e, c, l) = (Err e, ended_by code start n at e le c, leaves_on P Q r f e l)
