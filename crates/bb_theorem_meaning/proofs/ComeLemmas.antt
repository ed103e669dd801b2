-- What comes of the ops of a code at its places, whether an op goes on, goes ahead, or goes back; and that a local
-- which no op from a place on takes holds there what it held.
use Rattle.std.proofs.Common.{◌≡◌, ℕ, zero, suc, ◌+◌, ◌<◌, ◌≤◌, Option, Some, None, Result, Ok, Err, refl, subst, sym, ap, ◌∙◌, arith}
use Rattle.std.specs.Prelude.{slice_get, set}
use Rattle.bb_schema.specs.Fits as schemas
use Rattle.bb_basis.specs.Results.{◌>>=◌}
use Rattle.bb_code.specs.Code.{Code}
use Rattle.bb_code.specs.declared.op.Op.{Op}
use Rattle.bb_code.specs.declared.op.Op.TheVariants as ops
use Rattle.bb_board.specs.Fits.{Fits}
use Rattle.bb_board.specs.Board.{Board}
use Rattle.bb_machine.specs.Activation.{halted, steps_from}
use Rattle.bb_machine.specs.Changing.{State}
use Rattle.bb_machine.specs.declared.halt.Halt.{Halt}
use Rattle.bb_machine.specs.declared.halt.Halt.TheVariants as halts
use Rattle.bb_machine.specs.Machine.{Machine, go_to}
use Rattle.bb_machine.specs.Step.{step}
use Rattle.bb_machine.proofs.Laws.{after_op, by_op}
use Rattle.bb_theorem_machine.specs.NeverWrong.{after}
use Rattle.bb_theorem_machine.specs.proving.Sequences.{Moved}
use Rattle.bb_theorem_machine.proofs.Laws.{After, step_moves, goes_on_from}
use Rattle.bb_theorem_meaning.specs.Meaning.{Meaning, answered, full}
use Rattle.bb_theorem_meaning.proofs.SceneLemmas.{set_apart}

-- the state after some ops, or how the last of them ended, with the blackboard then
abbrev pub Came : Type 0
Came = Result State (Halt × Board)

-- what an op gave, where it was done on this blackboard
abbrev pub done_on : Board → Result State Halt → Came
done_on b (Ok next) = Ok next
done_on b (Err halt) = Err (halt, b)

-- a meaning, and what came of the ops that were laid out for it: where they were done they leave what it says, and
-- where one ended the execution it says so. Where one was stuck nothing is said.
abbrev pub Leaves : {X : Type 0} → (X → State → Type 0) → Meaning X → Came → Type 0
Leaves P r (Ok next) = (x : _) × (r ≡ Ok x) × P x next
Leaves P r (Err (halts.Answered a, b)) = r ≡ Err (answered a b)
Leaves P r (Err (halts.Full, b)) = r ≡ Err (full b)
Leaves P r (Err (halts.Stuck reason, b)) = Unit {0}
Leaves P r (Err (halts.Memory, b)) = ⊥

-- an end stays one
pub leaves_on : {X Y : Type 0} (P : X → State → Type 0) (Q : Y → State → Type 0) (r : Meaning X) (f : X → Meaning Y) (e : Halt × Board) → Leaves P r (Err e) → Leaves Q (r >>= f) (Err e)
leaves_on P Q r f (halts.Answered a, b) h = ap (λ r. r >>= f) h
leaves_on P Q r f (halts.Full, b) h = ap (λ r. r >>= f) h
leaves_on P Q r f (halts.Stuck reason, b) h = tt
leaves_on P Q r f (halts.Memory, b) h = h

-- ---- one step more

-- what comes of what an op gave
abbrev after_next : Code → ℕ → Result State Halt → Option State
after_next code n (Ok next) = after n code next
after_next code n (Err halt) = None

-- what comes of the op at a place, if there is one
abbrev after_by : Code → ℕ → Machine → Board → Option Op → Option State
after_by code n m b None = None
after_by code n m b (Some op) = after_next code n (step code op (go_to (m.place + 1) m, b))

after_at : (code : Code) (n : ℕ) (m : Machine) (b : Board) (o : Option Op) → slice_get code.ops m.place ≡ o → after (suc n) code (m, b) ≡ after_by code n m b o
unfolding after
after_at code n m b o at = ap (after_by code n m b) at

after_first : (code : Code) (st later : State) → after zero code st ≡ Some later → st ≡ later
unfolding after
after_first code st later h = cc

result_more : (code : Code) (j i : ℕ) (st next : State) (r : Result State Halt) → ((later : State) → after j code later ≡ Some st → after i code later ≡ Some next) → after_next code j r ≡ Some st → after_next code i r ≡ Some next
result_more code j i st next (Ok later) again h = again later h
result_more code j i st next (Err halt) again h = absurd cc

by_more : (code : Code) (j i : ℕ) (m : Machine) (b : Board) (st next : State) (o : Option Op) → ((later : State) → after j code later ≡ Some st → after i code later ≡ Some next) → after_by code j m b o ≡ Some st → after_by code i m b o ≡ Some next
by_more code j i m b st next None again h = absurd cc
by_more code j i m b st next (Some op) again h = result_more code j i st next (step code op (go_to (m.place + 1) m, b)) again h

pub more_after : (code : Code) (j : ℕ) (from st : State) (op : Op) (next : State) → after j code from ≡ Some st → slice_get code.ops st.0.place ≡ Some op → step code op (go_to (st.0.place + 1) st.0, st.1) ≡ Ok next → after (j + 1) code from ≡ Some next
unfolding after
more_after code zero from st op next h at is =
    let one : zero + 1 ≡ suc zero = omega arith in
    ap (λ n. after n code from) one ∙ (ap (after (suc zero) code) (after_first code from st h) ∙ (after_at code zero st.0 st.1 (Some op) at ∙ ap (after_next code zero) is))
more_after code (suc j) from st op next h at is =
    let more : suc j + 1 ≡ suc (j + 1) = omega arith in
    let o = slice_get code.ops from.0.place in
    ap (λ n. after n code from) more
    ∙ (after_at code (j + 1) from.0 from.1 o refl ∙ by_more code j (j + 1) from.0 from.1 st next o (λ later there. more_after code j later st op next there at is) (sym (after_at code j from.0 from.1 o refl) ∙ h))

-- steps after steps
pub then_after : (code : Code) (j k : ℕ) (from st next : State) → after j code from ≡ Some st → after k code st ≡ Some next → after (j + k) code from ≡ Some next
then_after code zero k from st next h rest =
    let none : zero + k ≡ k = omega arith in
    ap (λ n. after n code from) none ∙ (ap (after k code) (after_first code from st h) ∙ rest)
then_after code (suc j) k from st next h rest =
    let more : suc j + k ≡ suc (j + k) = omega arith in
    let o = slice_get code.ops from.0.place in
    ap (λ n. after n code from) more
    ∙ (after_at code (j + k) from.0 from.1 o refl ∙ by_more code j (j + k) from.0 from.1 st next o (λ later there. then_after code j k later st next there rest) (sym (after_at code j from.0 from.1 o refl) ∙ h))

-- there were fewer steps before
abbrev Was : Code → ℕ → State → Type 0
Was code j from = (mid : State) × (after j code from ≡ Some mid)

result_before : (code : Code) (i j : ℕ) (st : State) (r : Result State Halt) → ((later : State) → after i code later ≡ Some st → Was code j later) → after_next code i r ≡ Some st → (mid : State) × (after_next code j r ≡ Some mid)
result_before code i j st (Ok later) again h = again later h
result_before code i j st (Err halt) again h = absurd cc

by_before : (code : Code) (i j : ℕ) (m : Machine) (b : Board) (st : State) (o : Option Op) → ((later : State) → after i code later ≡ Some st → Was code j later) → after_by code i m b o ≡ Some st → (mid : State) × (after_by code j m b o ≡ Some mid)
by_before code i j m b st None again h = absurd cc
by_before code i j m b st (Some op) again h = result_before code i j st (step code op (go_to (m.place + 1) m, b)) again h

pub was_before : (code : Code) (j k : ℕ) (from st : State) → after (j + k) code from ≡ Some st → Was code j from
unfolding after
was_before code zero k from st h = (from, refl)
was_before code (suc j) k from st h =
    let more : suc (j + k) ≡ suc j + k = omega arith in
    let o = slice_get code.ops from.0.place in
    let one = by_before code (j + k) j from.0 from.1 st o (λ later there. was_before code j k later st there) (sym (after_at code (j + k) from.0 from.1 o refl) ∙ (ap (λ n. after n code from) more ∙ h)) in
    (one.0, after_at code j from.0 from.1 o refl ∙ one.1)

-- ---- locals

-- the op takes another local, or none
abbrev pub Misses : Op → ℕ → Type 0
Misses op l = (op ≡ ops.Store l → ⊥) × ((q : ℕ) → op ≡ ops.Next l q → ⊥)

moved_local : (op : Op) (m : Machine) (next : State) (l : ℕ) → Moved op m next → Misses op l → slice_get next.0.locals l ≡ slice_get m.locals l
moved_local (ops.Store k) m next l moved other =
    ap (λ ls. slice_get ls l) moved.locals ∙ set_apart m.locals k l (Some moved.value) (λ e. other.0 (ap ops.Store e))
moved_local (ops.Next k q) m next l moved other =
    let apart : k ≡ l → ⊥ = λ e. other.1 q (ap (λ n. ops.Next n q) e) in
    ap (λ ls. slice_get ls l) moved.locals ∙ (set_apart (set m.locals k None) k l _ apart ∙ set_apart m.locals k l None apart)
moved_local (ops.Back q) m next l moved other = ap (λ ls. slice_get ls l) moved.0.locals
moved_local _ m next l moved other = ap (λ ls. slice_get ls l) moved.locals

-- a blackboard that fits its schema
abbrev pub Fitting : Board → Type 0
Fitting b = schemas.Fits b.schema × Fits b.schema b.world

step_local : (code : Code) (op : Op) (m : Machine) (b : Board) (next : State) (l : ℕ) → Fitting b → step code op (m, b) ≡ Ok next → Misses op l → slice_get next.0.locals l ≡ slice_get m.locals l
step_local code op m b next l fit is other = moved_local op m next l (subst (After (Moved op m)) is (step_moves b m fit.0 fit.1 code op)) other

-- no op from a place up to another takes the local
abbrev pub Spares : Code → (from to l : ℕ) → Type 0
Spares code from to l = (p : ℕ) (op : Op) → from ≤ p → p < to → slice_get code.ops p ≡ Some op → Misses op l

module _ (code : Code) (start : State) where
  -- each blackboard that is met fits
  abbrev pub AllFit : Type 0
  AllFit = (i : ℕ) (st : State) → after i code start ≡ Some st → Fitting st.1

  -- a local that no op before a place takes holds what it held at the start
  abbrev pub Stays : ℕ → State → Type 0
  Stays n st = AllFit → (l : ℕ) → Spares code start.0.place n l → slice_get st.0.locals l ≡ slice_get start.0.locals l

  -- what came at a place, from a start that is not after it; or the op with which the execution ended
  abbrev pub Comes : ℕ → Came → Type 0
  Comes n (Ok next) = (next.0.place ≡ n) × (j : ℕ) × (start.0.place ≤ n) × (after j code start ≡ Some next) × Stays n next
  Comes n (Err (halt, b)) = (j : ℕ) × (last : State) × (op : Op) × (after j code start ≡ Some last) × (slice_get code.ops last.0.place ≡ Some op) × (step code op (go_to (last.0.place + 1) last.0, last.1) ≡ Err halt) × (last.1 ≡ b)

  -- the execution goes on from there
  pub goes_there : (j k : ℕ) (next : State) → after j code start ≡ Some next → steps_from (j + k) 0 code start ≡ steps_from k j code next
  goes_there j k next h = goes_on_from j k 0 code start next h ∙ ap (λ i. steps_from k i code next) (let e : 0 + j ≡ j = omega arith in e)

  -- where an execution ended it stays ended
  pub ended_by : (n m : ℕ) (e : Halt × Board) → n ≤ m → Comes n (Err e) → Comes m (Err e)
  ended_by n m (halt, b) le c = c

  -- what an op that was done leaves stands at a place
  abbrev pub IsPlaced : ℕ → Result State Halt → Type 0
  IsPlaced n (Ok next) = next.0.place ≡ n
  IsPlaced n (Err halt) = Unit {0}

  -- an op that ends the execution is a step too
  pub ended_steps : (j k : ℕ) (last : State) (op : Op) (halt : Halt) → after j code start ≡ Some last → slice_get code.ops last.0.place ≡ Some op → step code op (go_to (last.0.place + 1) last.0, last.1) ≡ Err halt
      → steps_from (j + 1 + k) 0 code start ≡ (halted halt (j + 1) last.0.found, last.1)
  ended_steps j k last op halt h at is =
      let more : j + 1 + k ≡ j + suc k = omega arith in
      ap (λ i. steps_from i 0 code start) more ∙ (goes_there j (suc k) last h ∙ (by_op k j code last.0 last.1 (Some op) (sym at) ∙ ap (after_op k j code last.0 last.1) is))

  -- one op more, at a place before the new bound
  pub stays_on : (was at now j : ℕ) (st : State) (op : Op) (next : State) → was ≤ now → at < now → start.0.place ≤ at → after j code start ≡ Some st → Stays was st → slice_get code.ops at ≡ Some op → step code op (go_to (at + 1) st.0, st.1) ≡ Ok next → Stays now next
  stays_on was at now j st op next le lt low h stays there is fit l spares =
      step_local code op (go_to (at + 1) st.0) st.1 next l (fit j st h) is (spares at op low lt there)
      ∙ stays fit l (λ i o from to here. spares i o from (omega (arith, le, to)) here)

  -- one op more, which goes on to the next place, or to one ahead
  pub comes_to : (n p : ℕ) (st : State) (op : Op) (r : Result State Halt) → n + 1 ≤ p → Comes n (Ok st) → slice_get code.ops n ≡ Some op → step code op (go_to (n + 1) st.0, st.1) ≡ r → IsPlaced p r → Comes p (done_on st.1 r)
  comes_to n p st op (Ok next) le c at is place =
      let low = c.2 in (
        place,
        c.1 + 1,
        omega (arith, le, low),
        more_after code c.1 start st op next c.3 (ap (slice_get code.ops) c.0 ∙ at) (ap (λ i. step code op (go_to (i + 1) st.0, st.1)) c.0 ∙ is),
        stays_on n n p c.1 st op next (omega (arith, le)) (omega (arith, le)) c.2 c.3 c.4 at is,
      )
  comes_to n p st op (Err halt) le c at is place = (c.1, st, op, c.3, ap (slice_get code.ops) c.0 ∙ at, ap (λ i. step code op (go_to (i + 1) st.0, st.1)) c.0 ∙ is, refl)

  pub comes_on : (n : ℕ) (st : State) (op : Op) (r : Result State Halt) → Comes n (Ok st) → slice_get code.ops n ≡ Some op → step code op (go_to (n + 1) st.0, st.1) ≡ r → IsPlaced (n + 1) r → Comes (n + 1) (done_on st.1 r)
  comes_on n st op r c at is place = comes_to n (n + 1) st op r (omega arith) c at is place

  -- at the start
  pub comes_first : Comes start.0.place (Ok start)
  unfolding after
  comes_first = (refl, 0, omega arith, refl, λ fit l spares. refl)

  -- what comes at a place is what a meaning says
  abbrev pub Gets : {X : Type 0} → (X → State → Type 0) → Meaning X → ℕ → Type 0
  Gets P r n = (came : Came) × Comes n came × Leaves P r came

  gets_by : {X Y : Type 0} (P : X → State → Type 0) (Q : Y → State → Type 0) (r : Meaning X) (f : X → Meaning Y) (n m : ℕ) (came : Came) → n ≤ m → Comes n came → Leaves P r came
      → ((x : X) (st : State) → r ≡ Ok x → Comes n (Ok st) → P x st → Gets Q (f x) m) → Gets Q (r >>= f) m
  gets_by P Q r f n m (Ok st) le c h next = subst (λ r. Gets Q (r >>= f) m) (sym h.1) (next h.0 st h.1 c h.2)
  gets_by P Q r f n m (Err e) le c h next = (Err e, ended_by n m e le c, leaves_on P Q r f e h)

  -- one part after another, which may ask what the first came to
  pub gets_as : {X Y : Type 0} (P : X → State → Type 0) (Q : Y → State → Type 0) (r : Meaning X) (f : X → Meaning Y) (n m : ℕ) → n ≤ m → Gets P r n
      → ((x : X) (st : State) → r ≡ Ok x → Comes n (Ok st) → P x st → Gets Q (f x) m) → Gets Q (r >>= f) m
  gets_as P Q r f n m le g next = gets_by P Q r f n m g.0 le g.1 g.2 next

  pub gets_then : {X Y : Type 0} (P : X → State → Type 0) (Q : Y → State → Type 0) (r : Meaning X) (f : X → Meaning Y) (n m : ℕ) → n ≤ m → Gets P r n
      → ((x : X) (st : State) → Comes n (Ok st) → P x st → Gets Q (f x) m) → Gets Q (r >>= f) m
  gets_then P Q r f n m le g next = gets_as P Q r f n m le g (λ x st is c p. next x st c p)

  placed_by : {X : Type 0} (P : X → State → Type 0) (r : Meaning X) (n : ℕ) (b : Board) (given : Result State Halt) → ((x : X) (next : State) → P x next → next.0.place ≡ n) → Leaves P r (done_on b given) → IsPlaced n given
  placed_by P r n b (Ok next) place h = place h.0 next h.2
  placed_by P r n b (Err halt) place h = tt

  -- an op
  pub gets_op : {X : Type 0} (P : X → State → Type 0) (r : Meaning X) (n : ℕ) (st : State) (op : Op) → Comes n (Ok st) → slice_get code.ops n ≡ Some op → ((x : X) (next : State) → P x next → next.0.place ≡ n + 1)
      → Leaves P r (done_on st.1 (step code op (go_to (n + 1) st.0, st.1))) → Gets P r (n + 1)
  gets_op P r n st op c at place h = (
    done_on st.1 (step code op (go_to (n + 1) st.0, st.1)),
    comes_on n st op (step code op (go_to (n + 1) st.0, st.1)) c at refl (placed_by P r (n + 1) st.1 (step code op (go_to (n + 1) st.0, st.1)) place h),
    h,
  )

  -- no op at all
  pub gets_none : {X : Type 0} (P : X → State → Type 0) (x : X) (n : ℕ) (st : State) → Comes n (Ok st) → P x st → Gets P (Ok x) n
  gets_none P x n st c h = (Ok st, c, (x, refl, h))
