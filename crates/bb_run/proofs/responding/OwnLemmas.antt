-- A reaction that says no about every unit but the event's need be asked about the activations for that unit alone.
use Rattle.std.proofs.Common.{◌≡◌, ◌≤◌, ◌<◌, ◌⊎◌, inl, inr, ℕ, suc, ◌+◌, ◌-◌, ◌==◌, Bool, true, false, cond, List, [], ◌∷◌, length, filter, fold, Option, Some, Ok, Err, refl, subst, sym, ap, ◌∙◌, arith, eqb-true, eq-eqb, ne_eqb}
use Rattle.std.specs.Prelude.{◌&&◌, ◌||◌, nat_le, nat_lt, slice_get}
use Rattle.std.proofs.Math.Nat.{pow-le-pow_right, pow-zero}
use Rattle.std.proofs.lemmas.Bool.{and_parts}
use Rattle.std.proofs.lemmas.Bool.Decides.{nat_tests}
use Rattle.std.proofs.lemmas.List.FromFn.{length-range_with_len}
use Rattle.bb_basis.proofs.AppendLemmas.{some_within}
use Rattle.bb_trace.specs.Board.{Board as Blackboard}
use Rattle.bb_trace.specs.Event.{Event}
use Rattle.bb_trace.specs.Events.{unit_of}
use Rattle.bb_rules.specs.declared.source.Reaction.{Reaction}
use Rattle.bb_agenda.specs.declared.focusing.activation.Activation.{Activation}
use Rattle.bb_agenda.specs.Agenda.{is_on}
use Rattle.bb_code.specs.Code.{Code, places}
use Rattle.bb_code.specs.declared.parts.TheConstants.{STACK_LIMIT}
use Rattle.bb_code.specs.declared.op.Op.{Op}
use Rattle.bb_code.specs.declared.op.Op.TheVariants as ops
use Rattle.bb_verify.specs.Budget.{budget, turns}
use Rattle.bb_verify.specs.nesting.Loops.{depth}
use Rattle.bb_verify.specs.declared.checked.TheConstants.{FOUND_LIMIT}
use Rattle.bb_machine.specs.Activation.{Execution, steps_from}
use Rattle.bb_machine.specs.declared.outcome.Answer.{Answer}
use Rattle.bb_machine.specs.declared.outcome.Answer.TheVariants.{Declined, No}
use Rattle.bb_machine.specs.Arithmetic.{eq_unit}
use Rattle.bb_machine.specs.Changing.{State as Stood}
use Rattle.bb_machine.specs.declared.halt.Halt.TheVariants.{Answered}
use Rattle.bb_machine.specs.Jumping.{answer, unless}
use Rattle.bb_machine.specs.Machine.{Machine, entry_state, go_to, local_at, pop, pop_two, push, room}
use Rattle.bb_machine.specs.Reading.{load}
use Rattle.bb_machine.specs.Step.{step}
use Rattle.bb_machine.specs.declared.value.Value.{Value}
use Rattle.bb_machine.specs.declared.value.Value.TheVariants.{Unit as One, Bool as Truth}
use Rattle.bb_machine.proofs.Laws.{after_op, by_op}
use Rattle.bb_rules.specs.Own.{IT, EV, answers, asks_own, begins_with_own, compares_units, loads, refuses, says_no}
use Rattle.bb_run.specs.State.{State, with_board}
use Rattle.bb_run.specs.Emission.{Response, and_then, idle}
use Rattle.bb_run.specs.Asking.{attempt, entry_of, reply_by, upon}
use Rattle.bb_run.specs.Processing.{obviated_by, reacting_to, reacting_to_each, rerated_by}
use Rattle.bb_run.specs.proving.Own.{asked_about}
use Rattle.bb_run.proofs.responding.ConcernedLemmas.{then_same}

-- ---- the ops that the tests name

load_is : (l : ℕ) (o : Option Op) → loads l o ≡ true → o ≡ Some (ops.Load l)
load_is l (Some (ops.Load k)) is = ap (λ j. Some (ops.Load j)) (eqb-true k l is)
load_is l _ is = absurd cc

comparison_is : (o : Option Op) → compares_units o ≡ true → o ≡ Some ops.EqUnit
comparison_is (Some ops.EqUnit) is = refl
comparison_is _ is = absurd cc

answer_is : (o : Option Op) → answers o ≡ true → o ≡ Some ops.Answer
answer_is (Some ops.Answer) is = refl
answer_is _ is = absurd cc

-- ---- an execution says no, and leaves the blackboard as it was

pub record SaysNo (e : Execution) (b : Blackboard) : Type 0 where
  pub answer : Answer
  pub steps : ℕ
  pub found : ℕ
  pub is : e ≡ (Ok (record { answer = answer; steps = steps; found = found }), b)
  pub no : (answer ≡ No) ⊎ (answer ≡ Declined)

module _ (code : Code) (it ev : ℕ) (b : Blackboard) where
  abbrev start : Machine
  start = entry_state code (entry_of it (Some ev))

  -- the state at a place, with this stack
  abbrev standing : ℕ → List Value → Machine
  standing place stack = record { place = place; locals = start.locals; stack = stack; found = 0 }

  go_on : (n steps : ℕ) (m : Machine) (op : Op) (next : Stood) → slice_get code.ops m.place ≡ Some op → step code op (go_to (m.place + 1) m, b) ≡ Ok next → steps_from (suc n) steps code (m, b) ≡ steps_from n (steps + 1) code next
  go_on n steps m op next at is = by_op n steps code m b (Some op) (sym at) ∙ ap (after_op n steps code m b) is

  ends : (n steps : ℕ) (m : Machine) (op : Op) (a : Answer) → slice_get code.ops m.place ≡ Some op → step code op (go_to (m.place + 1) m, b) ≡ Err (Answered a) → steps_from (suc n) steps code (m, b) ≡ (Ok (record { answer = a; steps = steps + 1; found = m.found }), b)
  ends n steps m op a at is = by_op n steps code m b (Some op) (sym at) ∙ ap (after_op n steps code m b) is

  loads_unit : (place : ℕ) (stack : List Value) (l n : ℕ) → slice_get start.locals l ≡ Some (Some (One n)) → nat_le STACK_LIMIT (length stack) ≡ false
      → step code (ops.Load l) (go_to (place + 1) (standing place stack), b) ≡ Ok (standing (place + 1) (One n ∷ stack), b)
  unfolding step load local_at push room
  loads_unit place stack l n held free = rw (held, free) refl

  compares : (place x y : ℕ) → step code ops.EqUnit (go_to (place + 1) (standing place (One y ∷ One x ∷ [])), b) ≡ Ok (standing (place + 1) (Truth (x == y) ∷ []), b)
  unfolding step eq_unit pop_two pop push room
  compares place x y = refl

  goes_where_false : (place target : ℕ) → step code (ops.Unless target) (go_to (place + 1) (standing place (Truth false ∷ [])), b) ≡ Ok (standing target [], b)
  unfolding step unless pop
  goes_where_false place target = refl

  pushes_false : (place : ℕ) → step code (ops.PushBool false) (go_to (place + 1) (standing place []), b) ≡ Ok (standing (place + 1) (Truth false ∷ []), b)
  unfolding step push room
  pushes_false place = refl

  answers_no : (place : ℕ) → step code ops.Answer (go_to (place + 1) (standing place (Truth false ∷ [])), b) ≡ Err (Answered No)
  unfolding step answer pop
  answers_no place = refl

  declines : (place : ℕ) → step code ops.Decline (go_to (place + 1) (standing place []), b) ≡ Err (Answered Declined)
  unfolding step
  declines place = refl

  -- ---- the comparison

  compared_in_order : (n k l x y : ℕ) → slice_get start.locals k ≡ Some (Some (One x)) → slice_get start.locals l ≡ Some (Some (One y)) → (x == y) ≡ false
      → slice_get code.ops 0 ≡ Some (ops.Load k) → slice_get code.ops 1 ≡ Some (ops.Load l) → slice_get code.ops 2 ≡ Some ops.EqUnit
      → steps_from (suc (suc (suc n))) 0 code (start, b) ≡ steps_from n 3 code (standing 3 (Truth false ∷ []), b)
  compared_in_order n k l x y x_held y_held apart first second third =
      go_on (suc (suc n)) 0 (standing 0 []) (ops.Load k) (standing 1 (One x ∷ []), b) first (loads_unit 0 [] k x x_held refl)
      ∙ (go_on (suc n) 1 (standing 1 (One x ∷ [])) (ops.Load l) (standing 2 (One y ∷ One x ∷ []), b) second (loads_unit 1 (One x ∷ []) l y y_held refl)
      ∙ (go_on n 2 (standing 2 (One y ∷ One x ∷ [])) ops.EqUnit (standing 3 (Truth (x == y) ∷ []), b) third (compares 2 x y)
      ∙ ap (λ t. steps_from n 3 code (standing 3 (Truth t ∷ []), b)) apart))

  module _ (apart : (it == ev) ≡ false) where
    event_is_not_it : (ev == it) ≡ false
    event_is_not_it = ne_eqb ev it (λ same. let e : (it == ev) ≡ true = eq-eqb it ev (sym same) in absurd cc)

    compared : (n : ℕ) → begins_with_own code ≡ true → steps_from (suc (suc (suc n))) 0 code (start, b) ≡ steps_from n 3 code (standing 3 (Truth false ∷ []), b)
    compared n begins =
        let parts = and_parts (way IT EV || way EV IT) (compares_units (slice_get code.ops 2)) begins in
        by (way IT EV) refl parts.0 (comparison_is (slice_get code.ops 2) parts.1)
      where
        way : ℕ → ℕ → Bool
        way k l = loads k (slice_get code.ops 0) && loads l (slice_get code.ops 1)

        by : (first : Bool) → way IT EV ≡ first → (first || way EV IT) ≡ true → slice_get code.ops 2 ≡ Some ops.EqUnit → steps_from (suc (suc (suc n))) 0 code (start, b) ≡ steps_from n 3 code (standing 3 (Truth false ∷ []), b)
        by true h either third =
            let two = and_parts (loads IT (slice_get code.ops 0)) (loads EV (slice_get code.ops 1)) h in
            compared_in_order n IT EV it ev refl refl apart (load_is IT (slice_get code.ops 0) two.0) (load_is EV (slice_get code.ops 1) two.1) third
        by false h either third =
            let two = and_parts (loads EV (slice_get code.ops 0)) (loads IT (slice_get code.ops 1)) either in
            compared_in_order n EV IT ev it refl refl event_is_not_it (load_is EV (slice_get code.ops 0) two.0) (load_is IT (slice_get code.ops 1) two.1) third

    -- ---- what comes behind it

    -- as many steps are left as there are places from here on
    no_at : (n steps place : ℕ) → length code.ops ≤ place + n → says_no code place (slice_get code.ops place) ≡ true → SaysNo (steps_from n steps code (standing place [], b)) b
    no_at n steps place enough says = by (slice_get code.ops place) refl says
      where
        by : (o : Option Op) → slice_get code.ops place ≡ o → says_no code place o ≡ true → SaysNo (steps_from n steps code (standing place [], b)) b
        by (Some ops.Decline) at said =
            let within = some_within code.ops place ops.Decline at in
            let one : n ≡ suc (n - 1) = omega arith in
            record {
              answer = Declined;
              steps = steps + 1;
              found = 0;
              is = ap (λ k. steps_from k steps code (standing place [], b)) one ∙ ends (n - 1) steps (standing place []) ops.Decline Declined at (declines place);
              no = inr refl;
            }
        by (Some (ops.PushBool true)) at said = absurd cc
        by (Some (ops.PushBool false)) at said =
            let next = answer_is (slice_get code.ops (place + 1)) said in
            let within = some_within code.ops (place + 1) ops.Answer next in
            let two : n ≡ suc (suc (n - 2)) = omega arith in
            record {
              answer = No;
              steps = steps + 1 + 1;
              found = 0;
              is = ap (λ k. steps_from k steps code (standing place [], b)) two
                  ∙ (go_on (suc (n - 2)) steps (standing place []) (ops.PushBool false) (standing (place + 1) (Truth false ∷ []), b) at (pushes_false place)
                  ∙ ends (n - 2) (steps + 1) (standing (place + 1) (Truth false ∷ [])) ops.Answer No next (answers_no (place + 1)));
              no = inl refl;
            }
        by _ at said = absurd cc

    refused : (n : ℕ) → length code.ops ≤ 3 + n → refuses code (slice_get code.ops 3) ≡ true → SaysNo (steps_from n 3 code (standing 3 (Truth false ∷ []), b)) b
    refused n enough r = by (slice_get code.ops 3) refl r
      where
        by : (o : Option Op) → slice_get code.ops 3 ≡ o → refuses code o ≡ true → SaysNo (steps_from n 3 code (standing 3 (Truth false ∷ []), b)) b
        by (Some ops.Answer) at said =
            let within = some_within code.ops 3 ops.Answer at in
            let one : n ≡ suc (n - 1) = omega arith in
            record {
              answer = No;
              steps = 4;
              found = 0;
              is = ap (λ k. steps_from k 3 code (standing 3 (Truth false ∷ []), b)) one ∙ ends (n - 1) 3 (standing 3 (Truth false ∷ [])) ops.Answer No at (answers_no 3);
              no = inl refl;
            }
        by (Some (ops.Unless target)) at said =
            let within = some_within code.ops 3 (ops.Unless target) at in
            let one : n ≡ suc (n - 1) = omega arith in
            let parts = and_parts (nat_lt 3 target) (says_no code target (slice_get code.ops target)) said in
            let later : 3 < target = grind (arith, nat_tests) in
            let left : length code.ops ≤ target + (n - 1) = omega arith in
            let goes = ap (λ k. steps_from k 3 code (standing 3 (Truth false ∷ []), b)) one ∙ go_on (n - 1) 3 (standing 3 (Truth false ∷ [])) (ops.Unless target) (standing target [], b) at (goes_where_false 3 target) in
            subst (λ e. SaysNo e b) (sym goes) (no_at (n - 1) 4 target left parts.1)
        by _ at said = absurd cc

    from_start : (n : ℕ) → length code.ops ≤ n → begins_with_own code ≡ true → refuses code (slice_get code.ops 3) ≡ true → SaysNo (steps_from n 0 code (start, b)) b
    from_start n enough begins r =
        let parts = and_parts (way IT EV || way EV IT) (compares_units (slice_get code.ops 2)) begins in
        let within = some_within code.ops 2 ops.EqUnit (comparison_is (slice_get code.ops 2) parts.1) in
        let three : n ≡ suc (suc (suc (n - 3))) = omega arith in
        let left : length code.ops ≤ 3 + (n - 3) = omega arith in
        subst (λ e. SaysNo e b) (sym (ap (λ k. steps_from k 0 code (start, b)) three ∙ compared (n - 3) begins)) (refused (n - 3) left r)
      where
        way : ℕ → ℕ → Bool
        way k l = loads k (slice_get code.ops 0) && loads l (slice_get code.ops 1)

-- ---- within the budget

some_each : {A : Type 0} (f : A → ℕ) (a : ℕ) (xs : List A) → ((x : A) → 1 ≤ f x) → a + length xs ≤ fold (λ s x. s + f x) a xs
some_each f a [] each = omega arith
some_each f a (x ∷ xs) each =
    let one = each x in
    let rest = some_each f (a + f x) xs each in
    omega (arith, one, rest)

covers : (code : Code) (m : ℕ) → length code.ops ≤ budget code m
covers code m =
    let some : (place : ℕ) → 1 ≤ turns m (depth code place) = λ place. (let more : 0 < m + 1 = omega arith in let least : 0 ≤ depth code place = omega arith in subst (λ k. k ≤ turns m (depth code place)) (pow-zero (m + 1)) (pow-le-pow_right more least)) in
    let all = some_each (λ place. turns m (depth code place)) 0 (places code) some in
    let long = length-range_with_len 0 (length code.ops) in
    omega (arith, all, long)

pub own_says_no : (code : Code) → asks_own code ≡ true → (it ev : ℕ) → (it == ev) ≡ false → (b : Blackboard) → SaysNo (attempt code (entry_of it (Some ev)) b) b
own_says_no code own it ev apart b =
    let parts = and_parts (nat_le 2 code.locals && begins_with_own code) (refuses code (slice_get code.ops 3)) own in
    let first = and_parts (nat_le 2 code.locals) (begins_with_own code) parts.0 in
    let room_for : nat_lt code.locals 2 ≡ false = grind (arith, nat_tests) in
    rw room_for (from_start code it ev b apart (budget code FOUND_LIMIT) (covers code FOUND_LIMIT) first.1 parts.1)

-- ---- reactions

-- a no brings nothing about
pub record IgnoresNo (by : Activation → Answer → State → Response) : Type 0 where
  pub no : (a : Activation) (s : State) → by a No s ≡ idle s
  pub declined : (a : Activation) (s : State) → by a Declined s ≡ idle s

pub obviating_ignores : IgnoresNo obviated_by
obviating_ignores = record { no = λ a s. refl; declined = λ a s. refl }

pub rerating_ignores : IgnoresNo rerated_by
rerating_ignores = record { no = λ a s. refl; declined = λ a s. refl }

module _ (event : Event) (by : Activation → Answer → State → Response) (ignores : IgnoresNo by) (reaction : Reaction) (own : asks_own reaction.code.code ≡ true) where
  says_nothing : (a : Activation) (s : State) → is_on (unit_of event) a ≡ false → reacting_to event by reaction a s ≡ idle s
  says_nothing a s apart =
      let e = own_says_no reaction.code.code own a.unit (unit_of event) apart s.board in
      ap (λ (x : Execution). upon (reply_by x.0) (by a) (with_board s x.1)) e.is ∙ at e.answer e.no
    where
      at : (answer : Answer) → (answer ≡ No) ⊎ (answer ≡ Declined) → by a answer s ≡ idle s
      at answer (inl is_no) = ap (λ x. by a x s) is_no ∙ ignores.no a s
      at answer (inr declined) = ap (λ x. by a x s) declined ∙ ignores.declined a s

  own_alone : (waiting : List Activation) (s : State) → reacting_to_each event by reaction (filter (is_on (unit_of event)) waiting) s ≡ reacting_to_each event by reaction waiting s
  unfolding reacting_to_each
  own_alone [] s = refl
  own_alone (a ∷ more) s = at (is_on (unit_of event) a) refl (own_alone more)
    where
      at : (here : Bool) → is_on (unit_of event) a ≡ here → ((t : State) → reacting_to_each event by reaction (filter (is_on (unit_of event)) more) t ≡ reacting_to_each event by reaction more t)
          → reacting_to_each event by reaction (cond here (a ∷ filter (is_on (unit_of event)) more) (filter (is_on (unit_of event)) more)) s ≡ and_then (reacting_to event by reaction a s) (reacting_to_each event by reaction more)
      at true h later = then_same (reacting_to event by reaction a s) (reacting_to_each event by reaction (filter (is_on (unit_of event)) more)) (reacting_to_each event by reaction more) later
      at false h later = later s ∙ sym (ap (λ p. and_then p (reacting_to_each event by reaction more)) (says_nothing a s h))

-- the reaction is asked about as many as can matter
pub as_asked : (event : Event) (by : Activation → Answer → State → Response) → IgnoresNo by → (reaction : Reaction) (waiting : List Activation) (s : State)
    → reacting_to_each event by reaction (asked_about reaction event waiting) s ≡ reacting_to_each event by reaction waiting s
as_asked event by ignores reaction waiting s = at (asks_own reaction.code.code) refl
  where
    at : (own : Bool) → asks_own reaction.code.code ≡ own → reacting_to_each event by reaction (cond own (filter (is_on (unit_of event)) waiting) waiting) s ≡ reacting_to_each event by reaction waiting s
    at true h = own_alone event by ignores reaction h waiting s
    at false h = refl
