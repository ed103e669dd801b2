-- The ops of a test of a `with`: each leaves a unit for the next op, or goes elsewhere.
use Rattle.std.proofs.Common.{◌≡◌, ◌⊎◌, inl, inr, ℕ, ◌+◌, ◌≤◌, Bool, true, false, cond, List, [], ◌∷◌, length, Option, Some, None, Result, Ok, Err, refl, ap, ◌∙◌, arith}
use Rattle.std.specs.Prelude.{slice_get, nat_le}
use Rattle.bb_basis.specs.Results.{◌>>=◌}
use Rattle.bb_code.specs.Code.{Code}
use Rattle.bb_code.specs.declared.parts.TheConstants.{STACK_LIMIT}
use Rattle.bb_schema_classes.specs.declared.class.Class.{Class}
use Rattle.bb_schema.specs.Schema.{descends}
use Rattle.bb_code.specs.declared.op.Op.{Op}
use Rattle.bb_code.specs.declared.op.Op.TheVariants as ops
use Rattle.bb_links.specs.Links.{ends}
use Rattle.bb_compile_scope.specs.declared.scope.NamedLocal.{NamedLocal}
use Rattle.bb_board.specs.Board.{Board}
use Rattle.bb_board.specs.May.{has_link}
use Rattle.bb_units.specs.Units as units
use Rattle.bb_board.specs.World.{class_at}
use Rattle.bb_machine.specs.Changing.{State}
use Rattle.bb_machine.specs.declared.halt.Halt.{Halt}
use Rattle.bb_machine.specs.declared.halt.Halt.TheVariants as halts
use Rattle.bb_machine.specs.Machine.{Machine, there, with_stack, go_to, pop, push, room}
use Rattle.bb_machine.specs.Reading.{live, pop_unit, pop_live, is_singular, any_link, one_link, push_partner, one, alive, as_class}
use Rattle.bb_machine.specs.Step.{step, keeps}
use Rattle.bb_machine.specs.declared.outcome.Stuck.{Stuck}
use Rattle.bb_machine.specs.declared.outcome.Stuck.TheVariants as reasons
use Rattle.bb_machine.specs.Value.{stuck, unit_of}
use Rattle.bb_machine.specs.declared.value.Value.{Value}
use Rattle.bb_machine.specs.declared.value.Value.TheVariants.{Int, Text, Bool as Truth, Label, Interval, Unit as One, Seq}
use Rattle.bb_theorem_meaning.specs.Meaning.{Meaning}
use Rattle.bb_theorem_meaning.specs.Statements.{Scene}
use Rattle.bb_theorem_meaning.proofs.ComeLemmas.{Comes, Gets, comes_to}
use Rattle.bb_theorem_meaning.proofs.AtomLemmas.{live_cases}
use Rattle.bb_theorem_meaning.proofs.ActLemmas.{IsScene, Holds}

module _ (code : Code) where
  -- the op is stuck, leaves a unit of which something holds, or goes elsewhere, where something else holds
  abbrev pub Tried : (op : Op) (at : ℕ) (m : Machine) (b : Board) → (holds : ℕ → Type 0) → (fails : Type 0) → Type 0
  Tried op at m b holds fails =
      ((reason : Stuck) × (step code op (m, b) ≡ Err (halts.Stuck reason)))
      ⊎ (((k : ℕ) × (step code op (m, b) ≡ keeps b (push (One k) (with_stack [] m))) × holds k) ⊎ ((step code op (m, b) ≡ Ok (go_to at (with_stack [] m), b)) × fails))

  module _ (start : State) {Y : Type 0} (Q : Y → State → Type 0) (r : Meaning Y) (ns : List NamedLocal) (n at last : ℕ) (scene : Scene) (st : State) (ahead : n + 1 ≤ at) (within : at ≤ last) where
    pub tried_gets : (op : Op) (v : Value) (holds : ℕ → Type 0) (fails : Type 0) → Comes code start n (Ok st) → Holds code start n ns scene v st → slice_get code.ops n ≡ Some op → Tried op at (go_to (n + 1) st.0) st.1 holds fails
        → ((k : ℕ) (next : State) → holds k → Comes code start (n + 1) (Ok next) → Holds code start (n + 1) ns scene (One k) next → Gets code start Q r last)
        → ((next : State) → fails → Comes code start at (Ok next) → IsScene at ns scene next → Gets code start Q r last) → Gets code start Q r last
    unfolding push room
    tried_gets op v holds fails c h there tried onward elsewhere = by_case tried
      where
        m : Machine
        m = go_to (n + 1) st.0

        stuck_there : (reason : Stuck) → step code op (m, st.1) ≡ Err (halts.Stuck reason) → Gets code start Q r last
        stuck_there reason is = (Err (halts.Stuck reason, st.1), comes_to code start n last st op (Err (halts.Stuck reason)) (omega (arith, ahead, within)) c there is tt, tt)

        by_room : (k : ℕ) (full : Bool) → step code op (m, st.1) ≡ keeps st.1 ((let q : Result (Unit {0}) Halt = cond full (stuck reasons.Outside) (Ok tt) in q) >>= λ _. Ok (with_stack (One k ∷ []) (with_stack [] m))) → holds k → Gets code start Q r last
        by_room k true is own = stuck_there reasons.Outside is
        by_room k false is own =
            let next : State = (with_stack (One k ∷ []) (with_stack [] m), st.1) in
            onward k next own (comes_to code start n (n + 1) st op (Ok next) (omega arith) c there is refl) (record { place = refl; held = h.held; stack = refl; board = h.board })

        by_case : Tried op at m st.1 holds fails → Gets code start Q r last
        by_case (inl (reason, is)) = stuck_there reason is
        by_case (inr (inl (k, is, own))) = by_room k (nat_le STACK_LIMIT (length (with_stack [] m).stack)) is own
        by_case (inr (inr (is, own))) =
            let next : State = (go_to at (with_stack [] m), st.1) in
            elsewhere next own (comes_to code start n at st op (Ok next) ahead c there is refl) (record { place = refl; held = h.held; stack = refl; board = h.board })

  module _ (at : ℕ) (m : Machine) (b : Board) (v : Value) (is : m.stack ≡ v ∷ []) where
    abbrev left : Machine
    left = with_stack [] m

    -- ---- whether a unit is live

    alive_of : Value → Result Machine Halt
    alive_of w = (let q : Result (ℕ × Machine) Halt = unit_of w >>= λ n. Ok (n, left) in q) >>= λ u. cond (units.is_live b.world.units u.0) (push (One u.0) u.1) (Ok (go_to at u.1))

    alive_on : step code (ops.Alive at) (m, b) ≡ keeps b (alive_of v)
    unfolding step alive pop_unit pop alive_of
    alive_on = rw is refl

    abbrev pub IsLive : ℕ → Type 0
    IsLive k = (v ≡ One k) × (units.is_live b.world.units k ≡ true)

    abbrev pub IsDead : Type 0
    IsDead = (k : ℕ) × (v ≡ One k) × (units.is_live b.world.units k ≡ false)

    pub alive_tried : Tried (ops.Alive at) at m b IsLive IsDead
    unfolding alive_of
    alive_tried = by_value v refl alive_on
      where
        by_live : (k : ℕ) (alive : Bool) → v ≡ One k → units.is_live b.world.units k ≡ alive → step code (ops.Alive at) (m, b) ≡ keeps b (cond alive (push (One k) left) (Ok (go_to at left))) → Tried (ops.Alive at) at m b IsLive IsDead
        by_live k true same live on = inr (inl (k, on, (same, live)))
        by_live k false same live on = inr (inr (on, (k, same, live)))

        by_value : (w : Value) → v ≡ w → step code (ops.Alive at) (m, b) ≡ keeps b (alive_of w) → Tried (ops.Alive at) at m b IsLive IsDead
        by_value (One k) same on = by_live k (units.is_live b.world.units k) same refl on
        by_value (Int x) same on = inl (reasons.Kind, on)
        by_value (Text x) same on = inl (reasons.Kind, on)
        by_value (Truth x) same on = inl (reasons.Kind, on)
        by_value (Label x y) same on = inl (reasons.Kind, on)
        by_value (Interval x y) same on = inl (reasons.Kind, on)
        by_value (Seq x) same on = inl (reasons.Kind, on)

    -- ---- the class of a live unit

    module _ (class : ℕ) where
      abbrev pub IsAs : ℕ → Type 0
      IsAs k = (v ≡ One k) × (units.is_live b.world.units k ≡ true) × (descends b.schema (class_at b.world k) class ≡ true)

      abbrev pub IsNot : Type 0
      IsNot = (k : ℕ) × (v ≡ One k) × (descends b.schema (class_at b.world k) class ≡ false)

      as_then : Value → Result Machine Halt
      as_then w = unit_of w >>= λ n. live b n >>= λ _. cond (descends b.schema (class_at b.world n) class) (push (One n) left) (Ok (go_to at left))

      as_on : step code (ops.As class at) (m, b) ≡ keeps b (there (slice_get b.schema.classes class) >>= λ _. as_then v)
      unfolding step as_class pop as_then
      as_on = rw is refl

      pub as_tried : Tried (ops.As class at) at m b IsAs IsNot
      unfolding as_then live
      as_tried = by_class (slice_get b.schema.classes class) as_on
        where
          by_descent : (k : ℕ) (d : Bool) → v ≡ One k → units.is_live b.world.units k ≡ true → descends b.schema (class_at b.world k) class ≡ d → step code (ops.As class at) (m, b) ≡ keeps b (cond d (push (One k) left) (Ok (go_to at left))) → Tried (ops.As class at) at m b IsAs IsNot
          by_descent k true same live up on = inr (inl (k, on, (same, live, up)))
          by_descent k false same live up on = inr (inr (on, (k, same, up)))

          by_live : (k : ℕ) (alive : Bool) → v ≡ One k → units.is_live b.world.units k ≡ alive
              → step code (ops.As class at) (m, b) ≡ keeps b ((let q : Result (Unit {0}) Halt = cond alive (Ok tt) (stuck reasons.Deleted) in q) >>= λ _. cond (descends b.schema (class_at b.world k) class) (push (One k) left) (Ok (go_to at left))) → Tried (ops.As class at) at m b IsAs IsNot
          by_live k true same live on = by_descent k (descends b.schema (class_at b.world k) class) same live refl on
          by_live k false same live on = inl (reasons.Deleted, on)

          by_value : (w : Value) → v ≡ w → step code (ops.As class at) (m, b) ≡ keeps b (as_then w) → Tried (ops.As class at) at m b IsAs IsNot
          by_value (One k) same on = by_live k (units.is_live b.world.units k) same refl on
          by_value (Int x) same on = inl (reasons.Kind, on)
          by_value (Text x) same on = inl (reasons.Kind, on)
          by_value (Truth x) same on = inl (reasons.Kind, on)
          by_value (Label x y) same on = inl (reasons.Kind, on)
          by_value (Interval x y) same on = inl (reasons.Kind, on)
          by_value (Seq x) same on = inl (reasons.Kind, on)

          by_class : (o : Option Class) → step code (ops.As class at) (m, b) ≡ keeps b (there o >>= λ _. as_then v) → Tried (ops.As class at) at m b IsAs IsNot
          by_class None on = inl (reasons.Missing, on)
          by_class (Some c) on = by_value v refl on

    -- ---- the partner of a live unit

    module _ (slot : ℕ) where
      abbrev pub HasOne : Option ℕ → Type 0
      HasOne o = (k : ℕ) × (v ≡ One k) × (units.is_live b.world.units k ≡ true) × (has_link b.schema (class_at b.world k) slot ≡ true) × (slice_get (ends b.world.links k slot) 0 ≡ o)

      one_on : step code (ops.One slot at) (m, b) ≡ keeps b (pop_live b m >>= λ u. one_link b u.0 slot >>= λ _. push_partner (slice_get (ends b.world.links u.0 slot) 0) at u.1)
      unfolding step one
      one_on = refl

      pub one_tried : Tried (ops.One slot at) at m b (λ p. HasOne (Some p)) (HasOne None)
      unfolding one_link any_link
      one_tried = by_unit (live_cases m b v [] is)
        where
          by_partner : (k : ℕ) (o : Option ℕ) → v ≡ One k → units.is_live b.world.units k ≡ true → has_link b.schema (class_at b.world k) slot ≡ true → slice_get (ends b.world.links k slot) 0 ≡ o → step code (ops.One slot at) (m, b) ≡ keeps b (push_partner o at left)
              → Tried (ops.One slot at) at m b (λ p. HasOne (Some p)) (HasOne None)
          by_partner k None same live has at_first on = inr (inr (on, (k, same, live, has, at_first)))
          by_partner k (Some p) same live has at_first on = inr (inl (p, on, (k, same, live, has, at_first)))

          by_single : (k : ℕ) (single : Bool) → v ≡ One k → units.is_live b.world.units k ≡ true → has_link b.schema (class_at b.world k) slot ≡ true
              → step code (ops.One slot at) (m, b) ≡ keeps b ((let q : Result (Unit {0}) Halt = cond single (Ok tt) (stuck reasons.Slot) in q) >>= λ _. push_partner (slice_get (ends b.world.links k slot) 0) at left) → Tried (ops.One slot at) at m b (λ p. HasOne (Some p)) (HasOne None)
          by_single k true same live has on = by_partner k (slice_get (ends b.world.links k slot) 0) same live has refl on
          by_single k false same live has on = inl (reasons.Slot, on)

          by_link : (k : ℕ) (has : Bool) → v ≡ One k → units.is_live b.world.units k ≡ true → has_link b.schema (class_at b.world k) slot ≡ has
              → step code (ops.One slot at) (m, b) ≡ keeps b (((let q : Result (Unit {0}) Halt = cond has (Ok tt) (stuck reasons.Slot) in q) >>= λ _. (let q : Result (Unit {0}) Halt = cond (is_singular b.schema slot) (Ok tt) (stuck reasons.Slot) in q)) >>= λ _. push_partner (slice_get (ends b.world.links k slot) 0) at left)
              → Tried (ops.One slot at) at m b (λ p. HasOne (Some p)) (HasOne None)
          by_link k true same live has on = by_single k (is_singular b.schema slot) same live has on
          by_link k false same live has on = inl (reasons.Slot, on)

          by_unit : ((k : ℕ) × (v ≡ One k) × (units.is_live b.world.units k ≡ true) × (pop_live b m ≡ Ok (k, left))) ⊎ ((reason : Stuck) × (pop_live b m ≡ stuck reason)) → Tried (ops.One slot at) at m b (λ p. HasOne (Some p)) (HasOne None)
          by_unit (inl (k, same, live, popped)) =
              by_link k (has_link b.schema (class_at b.world k) slot) same live refl
              (one_on ∙ ap (λ (q : Result (ℕ × Machine) Halt). keeps b (q >>= λ u. one_link b u.0 slot >>= λ _. push_partner (slice_get (ends b.world.links u.0 slot) 0) at u.1)) popped)
          by_unit (inr (reason, popped)) =
              inl (reason, one_on ∙ ap (λ (q : Result (ℕ × Machine) Halt). keeps b (q >>= λ u. one_link b u.0 slot >>= λ _. push_partner (slice_get (ends b.world.links u.0 slot) 0) at u.1)) popped)
