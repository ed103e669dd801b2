-- Ops that write to the blackboard are safe.
use Rattle.std.proofs.Common.{◌≡◌, inl, ℕ, Bool, false, true, length, List, ◌∷◌, drop, take, reverse, Option, Some, None, Result, Ok, Err, refl, sym, ap, subst, ◌∙◌}
use Rattle.std.specs.Prelude.{nat_le, slice_get, All}
use Rattle.bb_schema_classes.specs.declared.class.Class.{Class}
use Rattle.bb_schema_classes.specs.declared.value.Value.{Value as SlotValue}
use Rattle.bb_schema.specs.Fits as schemas
use Rattle.bb_units.specs.Layout.{layout_of, can_hold}
use Rattle.bb_units.specs.Units.{is_live, is_full, has_slot}
use Rattle.bb_board.specs.Board.{Board, with_world}
use Rattle.bb_board.specs.Fits.{Fits}
use Rattle.bb_board.specs.May.{may_link}
use Rattle.bb_board.specs.World.{after_create, after_set, after_say}
use Rattle.bb_board.specs.Deletion.{after_delete}
use Rattle.bb_board.specs.State.{World}
use Rattle.bb_board.proofs.Laws.{delete_keeps}
use Rattle.bb_code.specs.Code.{Code}
use Rattle.bb_code.specs.declared.parts.TheConstants.{STACK_LIMIT}
use Rattle.bb_code.specs.declared.frame.Kind.TheVariants as kinds
use Rattle.bb_code.specs.declared.op.LinkChange.{LinkChange}
use Rattle.bb_code.specs.declared.op.Op.{Op}
use Rattle.bb_code.specs.declared.op.Op.TheVariants as ops
use Rattle.bb_verify.specs.FrameType.{Frame}
use Rattle.bb_verify.specs.PartType.{Part}
use Rattle.bb_verify.specs.Facts.{is_known}
use Rattle.bb_verify.specs.Frame as frames
use Rattle.bb_verify.specs.Effect as effects
use Rattle.bb_verify.specs.Effect.{effect}
use Rattle.bb_verify.proofs.Laws.{on_edges, Pushed, new_unit_ok, set_slot_ok, relink_ok, delete_ok, say_ok}
use Rattle.bb_machine.specs.declared.halt.Halt.{Halt}
use Rattle.bb_machine.specs.declared.halt.Halt.TheVariants as halts
use Rattle.bb_machine.specs.declared.value.Value.{Value}
use Rattle.bb_machine.specs.declared.value.Value.TheVariants as values
use Rattle.bb_machine.specs.Value.{slot_value_of}
use Rattle.bb_machine.specs.Machine.{Machine, with_stack, pop, pop_two, room, push}
use Rattle.bb_machine.specs.Reading.{live}
use Rattle.bb_machine.specs.Changing.{State, new_unit, value_due, set_slot, after_change, relink, delete, say}
use Rattle.bb_machine.specs.Step.{step}
use Rattle.bb_theorem_machine.specs.Kinds.{Suits}
use Rattle.bb_theorem_machine.specs.Safe.{edges_of, IsSafe}
use Rattle.bb_theorem_machine.proofs.MoveLemmas.{has_room, pops_two, pushes}
use Rattle.bb_theorem_machine.proofs.LiveLemmas.{is_live_of}
use Rattle.bb_theorem_machine.proofs.UnitLemmas.{pops_live, pop_live_on}
use Rattle.bb_theorem_machine.proofs.changing.OutliveLemmas.{suits_persists}
use Rattle.bb_theorem_machine.proofs.changing.StruckLemmas.{suits_struck}
use Rattle.bb_theorem_machine.proofs.reading.ReadSteps.{seen}
use Rattle.bb_theorem_machine.proofs.changing.ChangeSteps.{same_outlives, same_persists, changes}
use Rattle.bb_theorem_machine.proofs.changing.CreatedLemmas.{created_outlives, created_persists, new_is_of, created_keeps}
use Rattle.bb_theorem_machine.proofs.ManyLemmas.{pops_many, pop_many_on}
use Rattle.bb_theorem_machine.proofs.changing.SayLemmas.{top_known, are_said, say_on, say_keeps}
use Rattle.bb_theorem_machine.proofs.changing.SetLemmas.{value_held, slot_there, set_outlives, set_persists, value_keeps}
use Rattle.bb_theorem_machine.proofs.changing.RelinkLemmas.{relinked_units, relinked_keeps, may_on}

-- ---- what each op makes of a stack

delete_on : (b : Board) (m : Machine) (n : ℕ) (rest : List Value) → m.stack ≡ values.Unit n ∷ rest → is_live b.world.units n ≡ true
    → delete b m ≡ Ok (with_stack rest m, with_world b (after_delete b.schema b.world n))
unfolding delete
delete_on b m n rest is alive = rw (pop_live_on b m n rest is alive) refl

new_full : (b : Board) (class : ℕ) (entry : Class) (m : Machine) → slice_get b.schema.classes class ≡ Some entry → nat_le STACK_LIMIT (length m.stack) ≡ false → is_full b.world.units ≡ true
    → new_unit b class m ≡ Err halts.Full
unfolding new_unit room
new_full b class entry m there low full = rw (there, low, full) refl

new_on : (b : Board) (class : ℕ) (entry : Class) (m next : Machine) → slice_get b.schema.classes class ≡ Some entry → nat_le STACK_LIMIT (length m.stack) ≡ false → is_full b.world.units ≡ false
    → push (values.Unit b.world.units.next) m ≡ Ok next → new_unit b class m ≡ Ok (next, with_world b (after_create b.world class))
unfolding new_unit room
new_on b class entry m next there low free pushed = rw (there, low, free, pushed) refl

relink_on : (change : LinkChange) (b : Board) (slot : ℕ) (m : Machine) (n k : ℕ) (rest : List Value) → m.stack ≡ values.Unit k ∷ values.Unit n ∷ rest → may_link b.schema b.world n slot k ≡ Ok tt
    → relink change b slot m ≡ Ok (with_stack rest m, with_world b (after_change change b.schema b.world n slot k))
unfolding relink pop_two pop
relink_on change b slot m n k rest is asked = rw (is, asked) refl

set_on : (b : Board) (slot : ℕ) (m : Machine) (n : ℕ) (v : Value) (x : SlotValue) (rest : List Value) → m.stack ≡ v ∷ values.Unit n ∷ rest → is_live b.world.units n ≡ true → has_slot b.world.units n slot ≡ true
    → slot_value_of v ≡ Some x → can_hold (layout_of b.schema) slot x ≡ true → set_slot b slot m ≡ Ok (with_stack rest m, with_world b (after_set b.schema b.world n slot x))
unfolding set_slot value_due pop_two pop live
set_on b slot m n v x rest is alive has value holds = rw (is, alive, has, value, holds) refl

-- ---- the ops

module _ (part : Part) (code : Code) (b : Board) (sf : schemas.Fits b.schema) (fits : Fits b.schema b.world) (m : Machine) (f : Frame) (suits : Suits b.schema b.world m f) (e : Option Frame × Option Frame) where
  -- an op that is safe at the state
  abbrev Safe : Op → Type 0
  Safe op = edges_of b.schema part code op f ≡ Ok e → IsSafe b.schema m.place op e (step code op (m, b))

  -- a change that fits the schema, after which the state suits a frame, leads on
  suits_on : (op : Op) (g : Frame) (left : Machine) (w : World) (r : Result State Halt) → (Some g, None) ≡ e → left.place ≡ m.place → r ≡ Ok (left, with_world b w) → Fits b.schema w → Suits b.schema w left g
      → IsSafe b.schema m.place op e r
  suits_on op g left w r edges same is kept left_suits =
      subst (λ (x : Result State Halt). IsSafe b.schema m.place op e x) (sym is)
      (subst (λ (x : Option Frame × Option Frame). IsSafe b.schema m.place op x (Ok (left, with_world b w))) edges
      (record { schema = refl; fits = kept; edge = inl (same, left_suits) }))

  pub delete_safe : Safe ops.Delete
  unfolding step effect
  delete_safe h =
      let out = on_edges (effects.delete b.schema part f) e h in
      let it = delete_ok b.schema part f out.0 out.1 in
      let p = pops_live b.schema b.world m f it.class it.rest it.stack suits in
      let alive = is_live_of b.schema b.world fits.units it.class p.n p.of in
      suits_on ops.Delete out.0 (with_stack p.rest m) (after_delete b.schema b.world p.n) (delete b m) out.2 refl (delete_on b m p.n p.rest p.stack alive)
      (delete_keeps b.schema b.world sf fits p.n)
      (subst (Suits b.schema (after_delete b.schema b.world p.n) (with_stack p.rest m)) it.left
      (suits_struck b.schema b.world sf fits p.n it.class p.of (with_stack p.rest m) (frames.with_stack it.rest f) p.suits))

  new_by : (class : ℕ) (entry : Class) (g : Frame) (full : Bool) → slice_get b.schema.classes class ≡ Some entry → nat_le STACK_LIMIT (length m.stack) ≡ false → Pushed (kinds.Ref class) f g → (Some g, None) ≡ e
      → is_full b.world.units ≡ full → IsSafe b.schema m.place (ops.New class) e (new_unit b class m)
  new_by class entry g true there low h edges full =
      subst (λ (x : Result State Halt). IsSafe b.schema m.place (ops.New class) e x) (sym (new_full b class entry m there low full)) tt
  new_by class entry g false there low h edges free =
      let before = suits_persists b.schema b.world (after_create b.world class) (created_outlives b.world.units class) (created_persists b.world.units class fits.units) m f suits in
      let made = pushes b.schema (after_create b.world class) m f g (values.Unit b.world.units.next) (kinds.Ref class) h before (b.world.units.next, refl, new_is_of b.schema b.world class sf) in
      suits_on (ops.New class) g made.next (after_create b.world class) (new_unit b class m) edges made.place (new_on b class entry m made.next there low free made.is)
      (created_keeps b.schema b.world class entry fits there free) made.suits

  pub new_safe : (class : ℕ) (entry : Class) → slice_get b.schema.classes class ≡ Some entry → Safe (ops.New class)
  unfolding step effect
  new_safe class entry there h =
      let out = on_edges (effects.new_unit part class f) e h in
      let it = new_unit_ok part class f out.0 out.1 in
      new_by class entry out.0 (is_full b.world.units) there (has_room b.schema b.world m f it.pushed.room suits) it.pushed out.2 refl

  pub relink_safe : (change : LinkChange) (slot : ℕ) → Safe (ops.Relink change slot)
  unfolding step effect
  relink_safe change slot h =
      let out = on_edges (effects.relink b.schema part slot f) e h in
      let it = relink_ok b.schema part slot f out.0 out.1 in
      let p = pops_two b.schema b.world m f (kinds.Ref it.class) (kinds.Ref it.other) it.rest it.stack suits in
      let x = p.has_first in
      let y = p.has_second in
      let asked = may_on b.schema b.world it.class it.other slot x.0 y.0 it.link sf fits it.leads it.partner x.2 y.2 in
      let same = relinked_units b.schema b.world x.0 slot y.0 change in
      changes part code b fits m f suits e (ops.Relink change slot) out.0 (with_stack p.rest m) (after_change change b.schema b.world x.0 slot y.0) (relink change b slot m) out.2 refl
      (relink_on change b slot m x.0 y.0 p.rest (seen m p.first p.second (values.Unit x.0) (values.Unit y.0) p.rest p.stack x.1 y.1) asked)
      (relinked_keeps b.schema b.world x.0 slot y.0 change sf fits asked)
      (same_outlives b.world.units (after_change change b.schema b.world x.0 slot y.0).units same) (same_persists b.world.units (after_change change b.schema b.world x.0 slot y.0).units same)
      (subst (Suits b.schema b.world (with_stack p.rest m)) it.left p.suits)

  pub set_safe : (slot : ℕ) → Safe (ops.Set slot)
  unfolding step effect
  set_safe slot h =
      let out = on_edges (effects.set_slot b.schema part slot f) e h in
      let it = set_slot_ok b.schema part slot f out.0 out.1 in
      let p = pops_two b.schema b.world m f (kinds.Ref it.class) it.held it.rest it.stack suits in
      let x = p.has_first in
      let held = value_held b.schema b.world it.class slot it.held p.second it.holds p.has_second in
      let here = is_live_of b.schema b.world fits.units it.class x.0 x.2 in
      let there = slot_there b.schema b.world it.class x.0 slot it.held sf fits it.holds x.2 in
      changes part code b fits m f suits e (ops.Set slot) out.0 (with_stack p.rest m) (after_set b.schema b.world x.0 slot held.value) (set_slot b slot m) out.2 refl
      (set_on b slot m x.0 p.second held.value p.rest (p.stack ∙ ap (λ (v : Value). p.second ∷ v ∷ p.rest) x.1) here there held.is held.holds)
      (value_keeps b.world x.0 slot held.value b.schema fits here there held.holds) (set_outlives b.world x.0 slot held.value) (set_persists b.world x.0 slot held.value)
      (subst (Suits b.schema b.world (with_stack p.rest m)) it.left p.suits)

  pub say_safe : (count : ℕ) → All (λ k. is_known k ≡ true) f.stack → Safe (ops.Say count)
  unfolding step effect
  say_safe count known h =
      let out = on_edges (effects.say part count f) e h in
      let it = say_ok part count f out.0 out.1 in
      let p = pops_many b.schema b.world count m f it.enough suits in
      let left = with_stack (drop count m.stack) m in
      let said = are_said b b.world (frames.top count f) (reverse (take count m.stack)) tt (top_known count f known) it.can p.has in
      suits_on (ops.Say count) out.0 left (after_say b.world said.0) (say b count m) out.2 refl
      (say_on b count m left (reverse (take count m.stack)) said.0 (pop_many_on count m p.enough) said.1) (say_keeps b.schema b.world said.0 fits said.2)
      (suits_persists b.schema b.world (after_say b.world said.0) (same_outlives b.world.units (after_say b.world said.0).units refl) (same_persists b.world.units (after_say b.world said.0).units refl) left out.0
      (subst (Suits b.schema b.world left) it.left p.suits))
