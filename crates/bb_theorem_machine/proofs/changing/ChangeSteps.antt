-- Ops that change the blackboard are safe.
use Rattle.std.proofs.Common.{◌≡◌, inl, ℕ, Bool, false, true, not, length, List, ◌∷◌, Option, Some, None, Result, Ok, refl, sym, subst, arith}
use Rattle.std.specs.Prelude.{nat_lt}
use Rattle.bb_basis.proofs.NumberLemmas.{nat_lt_true}
use Rattle.bb_units.specs.Units.{Units, is_live}
use Rattle.bb_space.specs.Spaces.{is_member}
use Rattle.bb_board.specs.Board.{Board, with_world}
use Rattle.bb_board.specs.Fits.{Fits}
use Rattle.bb_board.specs.Spaces.{after_leave}
use Rattle.bb_board.specs.State.{World}
use Rattle.bb_board.specs.Outlives.{Outlives}
use Rattle.bb_board.proofs.Laws.{leave_keeps}
use Rattle.bb_code.specs.Code.{Code}
use Rattle.bb_code.specs.declared.op.Op.{Op}
use Rattle.bb_code.specs.declared.op.Op.TheVariants as ops
use Rattle.bb_verify.specs.FrameType.{Frame}
use Rattle.bb_verify.specs.PartType.{Part}
use Rattle.bb_verify.specs.Effect as effects
use Rattle.bb_verify.specs.Effect.{effect}
use Rattle.bb_verify.proofs.Laws.{on_edges, leave_ok}
use Rattle.bb_machine.specs.declared.halt.Halt.{Halt}
use Rattle.bb_machine.specs.declared.value.Value.{Value}
use Rattle.bb_machine.specs.declared.value.Value.TheVariants as values
use Rattle.bb_machine.specs.Machine.{Machine, with_stack}
use Rattle.bb_machine.specs.Changing.{State, leave, right_space}
use Rattle.bb_machine.specs.Step.{step}
use Rattle.bb_theorem_machine.specs.Kinds.{Suits}
use Rattle.bb_theorem_machine.specs.Safe.{edges_of, IsSafe}
use Rattle.bb_theorem_machine.proofs.LiveLemmas.{is_live_of}
use Rattle.bb_theorem_machine.proofs.UnitLemmas.{pops_live, pop_live_on}
use Rattle.bb_theorem_machine.proofs.changing.OutliveLemmas.{Persists, suits_persists}

-- a change that leaves the units as they were
pub same_outlives : (u v : Units) → v ≡ u → Outlives u v
same_outlives u v is = subst (λ (x : Units). Outlives u x) (sym is) (record { next = omega arith; classes = λ n c lt at. at })

pub same_persists : (u v : Units) → v ≡ u → Persists u v
same_persists u v is = subst (λ (x : Units). Persists u x) (sym is) (λ n c at. at)

pub left_units : (w : World) (n space : ℕ) (b : Bool) → not (is_member w.spaces space n) ≡ b → (after_leave w n space).units ≡ w.units
left_units w n space true is = rw is refl
left_units w n space false is = rw is refl

leave_on : (b : Board) (space : ℕ) (m : Machine) (n : ℕ) (rest : List Value) → m.stack ≡ values.Unit n ∷ rest → is_live b.world.units n ≡ true → nat_lt space (length b.schema.spaces) ≡ true
    → leave b space m ≡ Ok (with_stack rest m, with_world b (after_leave b.world n space))
unfolding leave right_space
leave_on b space m n rest is alive there = rw (pop_live_on b m n rest is alive, there) refl

module _ (part : Part) (code : Code) (b : Board) (fits : Fits b.schema b.world) (m : Machine) (f : Frame) (suits : Suits b.schema b.world m f) (e : Option Frame × Option Frame) where
  -- an op that is safe at the state
  abbrev Safe : Op → Type 0
  Safe op = edges_of b.schema part code op f ≡ Ok e → IsSafe b.schema m.place op e (step code op (m, b))

  -- a change that fits the schema, and after which what was known of values still holds, leads on
  pub changes : (op : Op) (g : Frame) (left : Machine) (w : World) (r : Result State Halt) → (Some g, None) ≡ e → left.place ≡ m.place → r ≡ Ok (left, with_world b w) → Fits b.schema w
      → Outlives b.world.units w.units → Persists b.world.units w.units → Suits b.schema b.world left g → IsSafe b.schema m.place op e r
  changes op g left w r edges same is kept outlives persists left_suits =
      subst (λ (x : Result State Halt). IsSafe b.schema m.place op e x) (sym is)
      (subst (λ (x : Option Frame × Option Frame). IsSafe b.schema m.place op x (Ok (left, with_world b w))) edges
      (record { schema = refl; fits = kept; edge = inl (same, suits_persists b.schema b.world w outlives persists left g left_suits) }))

  pub leave_safe : (space : ℕ) → Safe (ops.Leave space)
  unfolding step effect
  leave_safe space h =
      let out = on_edges (effects.leave b.schema part space f) e h in
      let it = leave_ok b.schema part space f out.0 out.1 in
      let p = pops_live b.schema b.world m f it.class it.rest it.stack suits in
      let live = is_live_of b.schema b.world fits.units it.class p.n p.of in
      let same = left_units b.world p.n space (not (is_member b.world.spaces space p.n)) refl in
      changes (ops.Leave space) out.0 (with_stack p.rest m) (after_leave b.world p.n space) (leave b space m) out.2 refl (leave_on b space m p.n p.rest p.stack live it.known)
      (leave_keeps b.schema b.world fits p.n space live (nat_lt_true space (length b.schema.spaces) it.known))
      (same_outlives b.world.units (after_leave b.world p.n space).units same) (same_persists b.world.units (after_leave b.world p.n space).units same)
      (subst (Suits b.schema b.world (with_stack p.rest m)) it.left p.suits)
