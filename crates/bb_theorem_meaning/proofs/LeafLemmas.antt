-- What the ops that change the blackboard do is what their statements mean.
use Rattle.std.proofs.Common.{◌≡◌, ◌⊎◌, inl, inr, ℕ, Bool, true, false, cond, ◌&&◌, List, [], ◌∷◌, length, Option, Some, None, Result, Ok, Err, refl, subst, sym, ap, ◌∙◌}
use Rattle.std.specs.Prelude.{not, is_some, nat_lt}
use Rattle.bb_basis.specs.Results.{◌>>=◌, ok_or, map_err, try_map}
use Rattle.bb_schema_classes.specs.declared.value.Value.{Value as SlotValue}
use Rattle.bb_code.specs.Code.{Code}
use Rattle.bb_code.specs.declared.op.LinkChange.{LinkChange}
use Rattle.bb_code.specs.declared.op.Op.TheVariants as ops
use Rattle.bb_schema.specs.Schema.{Schema, slot_named, space_named, default_of}
use Rattle.bb_schema.specs.Spaces.{allowed}
use Rattle.bb_schema.specs.Fits as schemas
use Rattle.bb_units.specs.Layout.{layout_of, can_hold}
use Rattle.bb_compile_scope.specs.declared.scope.NamedLocal.{NamedLocal}
use Rattle.bb_board.specs.Board.{Board, with_world}
use Rattle.bb_units.specs.Units as units
use Rattle.bb_board.specs.World.{class_at, after_set}
use Rattle.bb_board.specs.Deletion.{after_delete}
use Rattle.bb_board.specs.Spaces.{may_enter, after_enter, after_leave}
use Rattle.bb_board.specs.May.{may_link, has_link, leads_to}
use Rattle.bb_board.specs.Fits.{is_said_of}
use Rattle.bb_board.specs.declared.reason.Reason.{Reason}
use Rattle.bb_board.specs.declared.reason.Reason.TheVariants.{Deleted, LinkClass, Space}
use Rattle.bb_board.specs.declared.reason.Reason.TheVariants as whys
use Rattle.bb_board.specs.declared.note.Said.{Said}
use Rattle.bb_board.specs.State.{World}
use Rattle.bb_board.proofs.Laws.{class_there, has_among}
use Rattle.bb_machine.specs.declared.outcome.Answer.TheVariants.{Rated}
use Rattle.bb_machine.specs.Changing.{State, halt_of, held_in, value_due, set_slot, after_change, relink, enter, right_space, leave, delete, said_due}
use Rattle.bb_machine.specs.declared.halt.Halt.{Halt}
use Rattle.bb_machine.specs.Jumping.{answered, rate, answer, yes_or_no}
use Rattle.bb_machine.specs.Machine.{Machine, with_stack, pop, pop_two}
use Rattle.bb_machine.specs.Reading.{live, pop_unit, pop_live}
use Rattle.bb_machine.specs.Step.{step, keeps}
use Rattle.bb_machine.specs.declared.outcome.Stuck.{Stuck}
use Rattle.bb_machine.specs.declared.outcome.Stuck.TheVariants as reasons
use Rattle.bb_machine.specs.Value.{stuck, unit_of, int_of, bool_of, slot_value_of, said_of}
use Rattle.bb_machine.specs.declared.value.Value.{Value}
use Rattle.bb_machine.specs.declared.value.Value.TheVariants.{Int, Text, Bool as Truth, Label, Interval, Unit as One, Seq}
use Rattle.bb_theorem_meaning.specs.Meaning.{Meaning, Name, meaningless}
use Rattle.bb_theorem_meaning.specs.Meaning as ends
use Rattle.bb_theorem_meaning.specs.Values.{number, truth}
use Rattle.bb_theorem_meaning.specs.Units.{slot_of}
use Rattle.bb_theorem_meaning.specs.Statements as says
use Rattle.bb_theorem_meaning.specs.Statements.{Scene, in_world, set_to, relinked, moved, deleted}
use Rattle.bb_theorem_meaning.proofs.ComeLemmas.{Leaves, done_on}
use Rattle.bb_theorem_meaning.proofs.NameLemmas.{AreHeld}
use Rattle.bb_theorem_meaning.proofs.AtomLemmas.{Good, live_cases}
use Rattle.bb_theorem_meaning.proofs.ActLemmas.{IsScene, OneLeaf, TwoLeaf}
use Rattle.bb_theorem_meaning.proofs.SlotLemmas.{slot_same, link_among}

module _ (code : Code) (start : State) (ns : List NamedLocal) where
  -- the blackboard changes, and the stack is empty
  changed : (n : ℕ) (m : Machine) (b : Board) (ms : List Name) (w : World) → m.place ≡ n → AreHeld m.locals ns ms → IsScene n ns (in_world (record { names = ms; board = b }) w) (with_stack [] m, with_world b w)
  changed n m b ms w place held = record { place = place; held = held; stack = refl; board = refl }

  -- ---- ends

  rate_on : (m : Machine) (b : Board) (v : Value) → m.stack ≡ v ∷ [] → step code ops.Rate (m, b) ≡ keeps b (int_of v >>= λ n. answered (Rated n))
  unfolding step rate pop
  rate_on m b v is = rw is refl

  pub rates : OneLeaf code start ns ops.Rate (λ b. Unit {0}) (λ scene v. number v >>= λ n. Err (ends.answered (Rated n) scene.board))
  rates n m b v ms good place held stack = subst (λ r. Leaves (IsScene n ns) (number v >>= λ n. Err (ends.answered (Rated n) b)) (done_on b r)) (sym (rate_on m b v stack)) (by_value v)
    where
      by_value : (w : Value) → Leaves (IsScene n ns) (number w >>= λ k. Err (ends.answered (Rated k) b)) (done_on b (keeps b (int_of w >>= λ k. answered (Rated k))))
      by_value (Int k) = refl
      by_value _ = tt

  answer_on : (m : Machine) (b : Board) (v : Value) → m.stack ≡ v ∷ [] → step code ops.Answer (m, b) ≡ keeps b (bool_of v >>= λ t. answered (yes_or_no t))
  unfolding step answer pop
  answer_on m b v is = rw is refl

  pub answers : OneLeaf code start ns ops.Answer (λ b. Unit {0}) (λ scene v. truth v >>= λ t. Err (says.yes_or_no scene.board t))
  answers n m b v ms good place held stack = subst (λ r. Leaves (IsScene n ns) (truth v >>= λ t. Err (says.yes_or_no b t)) (done_on b r)) (sym (answer_on m b v stack)) (by_value v)
    where
      by_value : (w : Value) → Leaves (IsScene n ns) (truth w >>= λ t. Err (says.yes_or_no b t)) (done_on b (keeps b (bool_of w >>= λ t. answered (yes_or_no t))))
      by_value (Truth true) = refl
      by_value (Truth false) = refl
      by_value _ = tt

  -- ---- a unit that is live, alone

  module _ (n : ℕ) (m : Machine) (b : Board) (v : Value) (ms : List Name) (place : m.place ≡ n) (held : AreHeld m.locals ns ms) (stack : m.stack ≡ v ∷ []) where
    abbrev scene : Scene
    scene = record { names = ms; board = b }

    -- what is done with a live unit
    with_live : (f : Value → Meaning Scene) (g : ℕ × Machine → Result State Halt) → ((k : ℕ) → units.is_live b.world.units k ≡ true → Leaves (IsScene n ns) (f (One k)) (done_on b (g (k, with_stack [] m)))) → Leaves (IsScene n ns) (f v) (done_on b (pop_live b m >>= g))
    with_live f g does = by_unit (live_cases m b v [] stack)
      where
        by_unit : ((k : ℕ) × (v ≡ One k) × (units.is_live b.world.units k ≡ true) × (pop_live b m ≡ Ok (k, with_stack [] m))) ⊎ ((reason : Stuck) × (pop_live b m ≡ stuck reason)) → Leaves (IsScene n ns) (f v) (done_on b (pop_live b m >>= g))
        by_unit (inl live) =
            subst (λ r. Leaves (IsScene n ns) (f v) (done_on b (r >>= g))) (sym live.3)
            (subst (λ w. Leaves (IsScene n ns) (f w) (done_on b (g (live.0, with_stack [] m)))) (sym live.1) (does live.0 live.2))
        by_unit (inr dead) = subst (λ r. Leaves (IsScene n ns) (f v) (done_on b (r >>= g))) (sym dead.1) tt

    delete_on : step code ops.Delete (m, b) ≡ (pop_live b m >>= λ u. Ok (u.1, with_world b (after_delete b.schema b.world u.0)))
    unfolding step delete
    delete_on = refl

    delete_does : Leaves (IsScene n ns) (deleted v scene) (done_on b (step code ops.Delete (m, b)))
    unfolding deleted
    delete_does = subst (λ r. Leaves (IsScene n ns) (deleted v scene) (done_on b r)) (sym delete_on) (with_live (λ u. deleted u scene) (λ u. Ok (u.1, with_world b (after_delete b.schema b.world u.0)))
        (λ k live. (in_world scene (after_delete b.schema b.world k), rw live refl, changed n m b ms (after_delete b.schema b.world k) place held)))

    leave_on : (space : ℕ) → step code (ops.Leave space) (m, b) ≡ (pop_live b m >>= λ u. right_space b space >>= λ _. Ok (u.1, with_world b (after_leave b.world u.0 space)))
    unfolding step leave
    leave_on space = refl

    leave_does : (name : List ℕ) (space : ℕ) → space_named b.schema name ≡ Some space → Leaves (IsScene n ns) (moved after_leave name v scene) (done_on b (step code (ops.Leave space) (m, b)))
    unfolding moved right_space
    leave_does name space is = subst (λ r. Leaves (IsScene n ns) (moved after_leave name v scene) (done_on b r)) (sym (leave_on space))
        (with_live (λ u. moved after_leave name u scene) (λ u. right_space b space >>= λ _. Ok (u.1, with_world b (after_leave b.world u.0 space))) (λ k live. by_space k live (nat_lt space (length b.schema.spaces))))
      where
        by_space : (k : ℕ) → units.is_live b.world.units k ≡ true → (there : Bool)
            → Leaves (IsScene n ns) (moved after_leave name (One k) scene) (done_on b ((let r : Result (Unit {0}) Halt = cond there (Ok tt) (stuck reasons.Slot) in r) >>= λ _. Ok (with_stack [] m, with_world b (after_leave b.world k space))))
        by_space k live true = (in_world scene (after_leave b.world k space), rw (live, is) refl, changed n m b ms (after_leave b.world k space) place held)
        by_space k live false = tt

    enter_on : (space : ℕ) → step code (ops.Enter space) (m, b) ≡ (unit_of v >>= λ k. map_err halt_of (may_enter b.schema b.world k space) >>= λ _. Ok (with_stack [] m, with_world b (after_enter b.schema b.world k space)))
    unfolding step enter pop_unit pop
    enter_on space = by_value v stack
      where
        by_value : (w : Value) → m.stack ≡ w ∷ [] → enter b space m ≡ (unit_of w >>= λ k. map_err halt_of (may_enter b.schema b.world k space) >>= λ _. Ok (with_stack [] m, with_world b (after_enter b.schema b.world k space)))
        by_value (One k) is = rw is refl
        by_value (Int x) is = rw is refl
        by_value (Text x) is = rw is refl
        by_value (Truth x) is = rw is refl
        by_value (Label x y) is = rw is refl
        by_value (Interval x y) is = rw is refl
        by_value (Seq x) is = rw is refl

    enter_does : (name : List ℕ) (space : ℕ) → space_named b.schema name ≡ Some space → Leaves (IsScene n ns) (moved (after_enter b.schema) name v scene) (done_on b (step code (ops.Enter space) (m, b)))
    unfolding moved
    enter_does name space is = subst (λ r. Leaves (IsScene n ns) (moved (after_enter b.schema) name v scene) (done_on b r)) (sym (enter_on space)) (by_value v)
      where
        by_tests : (k : ℕ) (live may : Bool) → units.is_live b.world.units k ≡ live
            → Leaves (IsScene n ns) (moved (after_enter b.schema) name (One k) scene)
            (done_on b (map_err halt_of (let r : Result (Unit {0}) Reason = cond (not live) (Err Deleted) (cond (not may) (Err Space) (Ok tt)) in r) >>= λ _. Ok (with_stack [] m, with_world b (after_enter b.schema b.world k space))))
        by_tests k true true live = (in_world scene (after_enter b.schema b.world k space), rw (live, is) refl, changed n m b ms (after_enter b.schema b.world k space) place held)
        by_tests k true false live = tt
        by_tests k false may live = tt

        by_value : (w : Value) → Leaves (IsScene n ns) (moved (after_enter b.schema) name w scene) (done_on b (unit_of w >>= λ k. map_err halt_of (may_enter b.schema b.world k space) >>= λ _. Ok (with_stack [] m, with_world b (after_enter b.schema b.world k space))))
        by_value (One k) = by_tests k (units.is_live b.world.units k) (allowed b.schema space (class_at b.world k)) refl
        by_value _ = tt

  pub deletes : OneLeaf code start ns ops.Delete (λ b. Unit {0}) (λ scene v. deleted v scene)
  deletes n m b v ms good place held stack = delete_does n m b v ms place held stack

  pub leaves_space : (schema : Schema) (name : List ℕ) (space : ℕ) → space_named schema name ≡ Some space → OneLeaf code start ns (ops.Leave space) (Good schema) (λ scene v. moved after_leave name v scene)
  leaves_space schema name space is n m b v ms good place held stack = leave_does n m b v ms place held stack name space (ap (λ z. space_named z name) good.schema ∙ is)

  pub enters_space : (schema : Schema) (name : List ℕ) (space : ℕ) → space_named schema name ≡ Some space → OneLeaf code start ns (ops.Enter space) (Good schema) (λ scene v. moved (after_enter scene.board.schema) name v scene)
  enters_space schema name space is n m b v ms good place held stack = enter_does n m b v ms place held stack name space (ap (λ z. space_named z name) good.schema ∙ is)

  -- ---- two values

  module _ (schema : Schema) (sf : schemas.Fits schema) (c slot : ℕ) (name : List ℕ) (named : slot_named schema c name ≡ Some slot) where
    -- the slot that the name means for a unit that has it
    slot_is : (b : Board) (k : ℕ) → Good schema b → units.is_live b.world.units k ≡ true → units.has_slot b.world.units k slot ≡ true → slot_of b k name ≡ Ok slot
    slot_is b k good live has =
        let same = slot_same schema c (class_at b.world k) slot name sf (class_there schema b.world k good.fits live).1 named (has_among schema b.world good.fits k slot has) in
        ap (λ s. ok_or (slot_named s (class_at b.world k) name) meaningless) good.schema ∙ ap (λ o. ok_or o meaningless) same

    link_is : (b : Board) (k : ℕ) → Good schema b → units.is_live b.world.units k ≡ true → has_link b.schema (class_at b.world k) slot ≡ true → slot_of b k name ≡ Ok slot
    link_is b k good live has =
        let own : has_link schema (class_at b.world k) slot ≡ true = ap (λ z. has_link z (class_at b.world k) slot) (sym good.schema) ∙ has in
        let same = slot_same schema c (class_at b.world k) slot name sf (class_there schema b.world k good.fits live).1 named (link_among schema b.world sf good.fits k slot live own) in
        ap (λ s. ok_or (slot_named s (class_at b.world k) name) meaningless) good.schema ∙ ap (λ o. ok_or o meaningless) same

    set_on : (m : Machine) (b : Board) (v w : Value) → m.stack ≡ w ∷ v ∷ [] → step code (ops.Set slot) (m, b) ≡ (unit_of v >>= λ k. value_due b k slot w >>= λ x. live b k >>= λ _. Ok (with_stack [] m, with_world b (after_set b.schema b.world k slot x)))
    unfolding step set_slot pop_two pop
    set_on m b v w is = rw is refl

    pub sets : TwoLeaf code start ns (ops.Set slot) (Good schema) (λ scene v w. set_to v name w scene)
    unfolding set_to value_due live
    sets n m b v w ms good place held stack = subst (λ r. Leaves (IsScene n ns) (set_to v name w scene) (done_on b r)) (sym (set_on m b v w stack)) (by_value v)
      where
        scene : Scene
        scene = record { names = ms; board = b }

        by_hold : (k : ℕ) (x : SlotValue) (fits : Bool) → slot_value_of w ≡ Some x → units.is_live b.world.units k ≡ true → units.has_slot b.world.units k slot ≡ true
            → Leaves (IsScene n ns) (set_to (One k) name w scene) (done_on b ((let r : Result SlotValue Halt = cond fits (Ok x) (stuck reasons.Kind) in r) >>= λ y. Ok (with_stack [] m, with_world b (after_set b.schema b.world k slot y))))
        by_hold k x false is alive has = tt
        by_hold k x true is alive has = (in_world scene (after_set b.schema b.world k slot x), rw (alive, slot_is b k good alive has, is) refl, changed n m b ms (after_set b.schema b.world k slot x) place held)

        by_held : (k : ℕ) (o : Option SlotValue) → slot_value_of w ≡ o → units.is_live b.world.units k ≡ true → units.has_slot b.world.units k slot ≡ true
            → Leaves (IsScene n ns) (set_to (One k) name w scene) (done_on b (held_in b slot o >>= λ y. Ok (with_stack [] m, with_world b (after_set b.schema b.world k slot y))))
        by_held k None is alive has = tt
        by_held k (Some x) is alive has = by_hold k x (can_hold (layout_of b.schema) slot x) is alive has

        by_right : (k : ℕ) (has : Bool) → units.has_slot b.world.units k slot ≡ has → units.is_live b.world.units k ≡ true
            → Leaves (IsScene n ns) (set_to (One k) name w scene)
            (done_on b ((let r : Result SlotValue Halt = cond has (held_in b slot (slot_value_of w)) (stuck reasons.Slot) in r) >>= λ y. Ok (with_stack [] m, with_world b (after_set b.schema b.world k slot y))))
        by_right k true has alive = by_held k (slot_value_of w) refl alive has
        by_right k false has alive = tt

        by_live : (k : ℕ) (alive : Bool) → units.is_live b.world.units k ≡ alive → Leaves (IsScene n ns) (set_to (One k) name w scene)
            (done_on b ((let r : Result SlotValue Halt = cond (cond alive (units.has_slot b.world.units k slot) (is_some (default_of b.schema slot))) (held_in b slot (slot_value_of w)) ((let q : Result (Unit {0}) Halt = cond alive (Ok tt) (stuck reasons.Deleted) in q) >>= λ _. stuck reasons.Slot) in r)
            >>= λ x. (let q : Result (Unit {0}) Halt = cond alive (Ok tt) (stuck reasons.Deleted) in q) >>= λ _. Ok (with_stack [] m, with_world b (after_set b.schema b.world k slot x))))
        by_live k true alive = by_right k (units.has_slot b.world.units k slot) refl alive
        by_live k false alive = by_default (set_to (One k) name w scene) (is_some (default_of b.schema slot))
          where
            by_fit : (r : Meaning Scene) (x : SlotValue) (fits : Bool) → Leaves (IsScene n ns) r (done_on b ((let r : Result SlotValue Halt = cond fits (Ok x) (stuck reasons.Kind) in r) >>= λ y. (let r : Result State Halt = stuck reasons.Deleted in r)))
            by_fit r x true = tt
            by_fit r x false = tt

            by_some : (r : Meaning Scene) (o : Option SlotValue) → Leaves (IsScene n ns) r (done_on b (held_in b slot o >>= λ y. (let r : Result State Halt = stuck reasons.Deleted in r)))
            by_some r None = tt
            by_some r (Some x) = by_fit r x (can_hold (layout_of b.schema) slot x)

            by_default : (r : Meaning Scene) (d : Bool) → Leaves (IsScene n ns) r (done_on b ((let r : Result SlotValue Halt = cond d (held_in b slot (slot_value_of w)) (stuck reasons.Deleted) in r) >>= λ y. (let r : Result State Halt = stuck reasons.Deleted in r)))
            by_default r true = by_some r (slot_value_of w)
            by_default r false = tt

        by_value : (u : Value) → Leaves (IsScene n ns) (set_to u name w scene) (done_on b (unit_of u >>= λ k. value_due b k slot w >>= λ x. live b k >>= λ _. Ok (with_stack [] m, with_world b (after_set b.schema b.world k slot x))))
        by_value (One k) = by_live k (units.is_live b.world.units k) refl
        by_value _ = tt

    -- ---- links

    relink_on : (change : LinkChange) (m : Machine) (b : Board) (v w : Value) → m.stack ≡ w ∷ v ∷ []
        → step code (ops.Relink change slot) (m, b) ≡ (unit_of v >>= λ k. unit_of w >>= λ j. map_err halt_of (may_link b.schema b.world k slot j) >>= λ _. Ok (with_stack [] m, with_world b (after_change change b.schema b.world k slot j)))
    unfolding step relink pop_two pop
    relink_on change m b v w is = rw is refl

    pub relinks : (change : LinkChange) → TwoLeaf code start ns (ops.Relink change slot) (Good schema) (λ scene v w. relinked (after_change change scene.board.schema) name v w scene)
    unfolding relinked
    relinks change n m b v w ms good place held stack = subst (λ r. Leaves (IsScene n ns) (relinked (after_change change b.schema) name v w scene) (done_on b r)) (sym (relink_on change m b v w stack)) (by_values v w)
      where
        scene : Scene
        scene = record { names = ms; board = b }

        by_tests : (k j : ℕ) (one other has leads : Bool) → units.is_live b.world.units k ≡ one → units.is_live b.world.units j ≡ other → has_link b.schema (class_at b.world k) slot ≡ has
            → Leaves (IsScene n ns) (relinked (after_change change b.schema) name (One k) (One j) scene)
            (done_on b (map_err halt_of (let r : Result (Unit {0}) Reason = cond (not (one && other)) (Err Deleted) (cond (not has) (Err whys.Slot) (cond (not leads) (Err LinkClass) (Ok tt))) in r) >>= λ _. Ok (with_stack [] m, with_world b (after_change change b.schema b.world k slot j))))
        by_tests k j true true true true live also has =
            (in_world scene (after_change change b.schema b.world k slot j), rw (live, also, link_is b k good live has) refl, changed n m b ms (after_change change b.schema b.world k slot j) place held)
        by_tests k j true true true false live also has = tt
        by_tests k j true true false leads live also has = tt
        by_tests k j true false has' leads live also has = tt
        by_tests k j false other has' leads live also has = tt

        by_values : (x y : Value) → Leaves (IsScene n ns) (relinked (after_change change b.schema) name x y scene)
            (done_on b (unit_of x >>= λ k. unit_of y >>= λ j. map_err halt_of (may_link b.schema b.world k slot j) >>= λ _. Ok (with_stack [] m, with_world b (after_change change b.schema b.world k slot j))))
        by_values (One k) (One j) =
            by_tests k j (units.is_live b.world.units k) (units.is_live b.world.units j) (has_link b.schema (class_at b.world k) slot) (leads_to b.schema slot (class_at b.world j)) refl refl refl
        by_values (One k) _ = tt
        by_values _ y = tt

-- ---- values that are said

pub all_said : (b : Board) (vs : List Value) → ((said : List Said) × (try_map (said_due b) vs ≡ Ok said) × (try_map (λ v. let r : Meaning Said = ok_or (said_of v) meaningless in r) vs ≡ Ok said)) ⊎ (try_map (said_due b) vs ≡ stuck reasons.Kind)
unfolding try_map
all_said b [] = inl ([], refl, refl)
all_said b (v ∷ vs) = by_first (one_said (said_of v)) (all_said b vs)
  where
    one_said : (o : Option Said) → ((x : Said) × ((let r : Result Said Halt = elim o [ None ↦ stuck reasons.Kind | Some y ↦ cond (is_said_of b.schema y) (Ok y) (stuck reasons.Kind) ] in r) ≡ Ok x) × ((let r : Meaning Said = ok_or o meaningless in r) ≡ Ok x))
        ⊎ ((let r : Result Said Halt = elim o [ None ↦ stuck reasons.Kind | Some y ↦ cond (is_said_of b.schema y) (Ok y) (stuck reasons.Kind) ] in r) ≡ stuck reasons.Kind)
    one_said None = inr refl
    one_said (Some y) = by_label (is_said_of b.schema y)
      where
        by_label : (c : Bool) → ((x : Said) × ((let r : Result Said Halt = cond c (Ok y) (stuck reasons.Kind) in r) ≡ Ok x) × ((let r : Meaning Said = Ok y in r) ≡ Ok x)) ⊎ ((let r : Result Said Halt = cond c (Ok y) (stuck reasons.Kind) in r) ≡ stuck reasons.Kind)
        by_label true = inl (y, refl, refl)
        by_label false = inr refl

    by_first : ((x : Said) × (said_due b v ≡ Ok x) × ((let r : Meaning Said = ok_or (said_of v) meaningless in r) ≡ Ok x)) ⊎ (said_due b v ≡ stuck reasons.Kind)
        → ((said : List Said) × (try_map (said_due b) vs ≡ Ok said) × (try_map (λ v. let r : Meaning Said = ok_or (said_of v) meaningless in r) vs ≡ Ok said)) ⊎ (try_map (said_due b) vs ≡ stuck reasons.Kind)
        → ((said : List Said) × ((said_due b v >>= λ first. try_map (said_due b) vs >>= λ others. Ok (first ∷ others)) ≡ Ok said)
        × (((let r : Meaning Said = ok_or (said_of v) meaningless in r) >>= λ first. try_map (λ v. let r : Meaning Said = ok_or (said_of v) meaningless in r) vs >>= λ others. Ok (first ∷ others)) ≡ Ok said))
        ⊎ ((said_due b v >>= λ first. try_map (said_due b) vs >>= λ others. Ok (first ∷ others)) ≡ stuck reasons.Kind)
    by_first (inl one) (inl more) = inl (one.0 ∷ more.0, rw (one.1, more.1) refl, rw (one.2, more.2) refl)
    by_first (inl one) (inr none) = inr (rw (one.1, none) refl)
    by_first (inr none) rest = inr (rw none refl)
