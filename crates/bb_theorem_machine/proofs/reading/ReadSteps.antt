-- Ops that look at units and sequences are safe.
use Rattle.std.proofs.Common.{◌≡◌, ◌⊎◌, inl, inr, ℕ, Bool, false, true, cond, pos, List, ◌∷◌, Option, Some, Result, Ok, refl, sym, ap, ◌∙◌}
use Rattle.std.specs.Prelude.{◌==◌, slice_get}
use Rattle.std.proofs.lemmas.Bool.{eq-eqb}
use Rattle.bb_schema_classes.specs.declared.class.Class.{Class}
use Rattle.bb_schema.specs.Schema.{descends}
use Rattle.bb_units.specs.Units.{is_live}
use Rattle.bb_board.specs.Board.{Board}
use Rattle.bb_board.specs.Fits.{Fits}
use Rattle.bb_board.specs.World.{class_at}
use Rattle.bb_code.specs.Code.{Code}
use Rattle.bb_code.specs.declared.frame.Kind.TheVariants.{Int, Bool as Truth, Label, Ref, Seq}
use Rattle.bb_code.specs.declared.op.Op.{Op}
use Rattle.bb_code.specs.declared.op.Op.TheVariants as ops
use Rattle.bb_verify.specs.FrameType.{Frame}
use Rattle.bb_verify.specs.PartType.{Part}
use Rattle.bb_verify.specs.Effect as effects
use Rattle.bb_verify.specs.Effect.{effect}
use Rattle.bb_verify.specs.Frame as frames
use Rattle.bb_verify.proofs.Laws.{edges_ok, Pushed, eq_label_ok, eq_unit_ok, size_ok, as_class_ok}
use Rattle.bb_machine.specs.declared.halt.Halt.{Halt}
use Rattle.bb_machine.specs.declared.value.Value.{Value}
use Rattle.bb_machine.specs.declared.value.Value.TheVariants as values
use Rattle.bb_machine.specs.Sequence.{Sequence}
use Rattle.bb_machine.specs.Machine.{Machine, go_to, with_stack, pop, pop_two, push}
use Rattle.bb_machine.specs.Arithmetic.{eq_unit, eq_label}
use Rattle.bb_machine.specs.Reading.{size, as_class, live}
use Rattle.bb_machine.specs.Step.{step}
use Rattle.bb_theorem_machine.specs.Kinds.{IsOf, Suits}
use Rattle.bb_theorem_machine.specs.Safe.{edges_of, IsSafe}
use Rattle.bb_theorem_machine.specs.proving.Moves.{Makes}
use Rattle.bb_theorem_machine.proofs.MoveLemmas.{pushes, turns, combines}
use Rattle.bb_theorem_machine.proofs.LiveLemmas.{is_live_of, class_at_of}
use Rattle.bb_theorem_machine.proofs.UnitLemmas.{unit_was, pops_live, eq_unit_on}
use Rattle.bb_theorem_machine.proofs.EdgeLemmas.{leads_by, leads_either}
use Rattle.bb_theorem_machine.proofs.plain.RangeLemmas.{found_i64}

eq_label_on : (m : Machine) (set a b : ℕ) (rest : List Value) → m.stack ≡ values.Label set b ∷ values.Label set a ∷ rest → eq_label m ≡ push (values.Bool (a == b)) (with_stack rest m)
unfolding eq_label pop_two pop
eq_label_on m set a b rest is = rw (is, eq-eqb set set refl) refl

size_on : (m : Machine) (q : Sequence) (rest : List Value) → m.stack ≡ values.Seq q ∷ rest → size m ≡ push (values.Int (pos q.found)) (with_stack rest m)
unfolding size pop
size_on m q rest is = rw is refl

as_on : (b : Board) (class place : ℕ) (m : Machine) (n : ℕ) (rest : List Value) (entry : Class) (up : Bool) → m.stack ≡ values.Unit n ∷ rest → slice_get b.schema.classes class ≡ Some entry → is_live b.world.units n ≡ true
    → descends b.schema (class_at b.world n) class ≡ up → as_class b class place m ≡ cond up (push (values.Unit n) (with_stack rest m)) (Ok (go_to place (with_stack rest m)))
unfolding as_class pop live
as_on b class place m n rest entry up is there alive goes = rw (is, there, alive, goes) refl

-- two entries of the stack, by what they are
pub seen : (m : Machine) (v1 v2 a b : Value) (rest : List Value) → m.stack ≡ v2 ∷ v1 ∷ rest → v1 ≡ a → v2 ≡ b → m.stack ≡ b ∷ a ∷ rest
seen m v1 v2 a b rest is one other = is ∙ (ap (λ (v : Value). v ∷ v1 ∷ rest) other ∙ ap (λ (v : Value). b ∷ v ∷ rest) one)

module _ (part : Part) (code : Code) (b : Board) (fits : Fits b.schema b.world) (m : Machine) (f : Frame) (suits : Suits b.schema b.world m f) (e : Option Frame × Option Frame) where
  -- an op that is safe at the state
  abbrev Safe : Op → Type 0
  Safe op = edges_of b.schema part code op f ≡ Ok e → IsSafe b.schema m.place op e (step code op (m, b))

  eq_unit_makes : (g : Frame) → effects.eq_unit f ≡ Ok g → Makes b.schema b.world m g (eq_unit m)
  eq_unit_makes g h =
      let it = eq_unit_ok f g h in
      combines b.schema b.world m f g it.first it.second Truth (eq_unit m) it.combined suits
      (λ v1 v2 rest is one other.
      let x = unit_was b.schema b.world fits.units it.first it.class v1 it.first_of one in
      let y = unit_was b.schema b.world fits.units it.second it.other v2 it.second_of other in
      (values.Bool (x.0 == y.0), (x.0 == y.0, refl), eq_unit_on m x.0 y.0 rest (seen m v1 v2 (values.Unit x.0) (values.Unit y.0) rest is x.1 y.1)))

  pub eq_unit_safe : Safe ops.EqUnit
  unfolding step effect
  eq_unit_safe h = leads_by b fits m ops.EqUnit e (effects.eq_unit f) (eq_unit m) h eq_unit_makes

  eq_label_makes : (g : Frame) → effects.eq_label f ≡ Ok g → Makes b.schema b.world m g (eq_label m)
  eq_label_makes g h =
      let it = eq_label_ok f g h in
      combines b.schema b.world m f g (Label it.0) (Label it.0) Truth (eq_label m) it.1 suits
      (λ v1 v2 rest is one other.
      (values.Bool (one.0 == other.0), (one.0 == other.0, refl), eq_label_on m it.0 one.0 other.0 rest (seen m v1 v2 (values.Label it.0 one.0) (values.Label it.0 other.0) rest is one.1 other.1)))

  pub eq_label_safe : Safe ops.EqLabel
  unfolding step effect
  eq_label_safe h = leads_by b fits m ops.EqLabel e (effects.eq_label f) (eq_label m) h eq_label_makes

  size_makes : (g : Frame) → effects.size f ≡ Ok g → Makes b.schema b.world m g (size m)
  size_makes g h =
      let it = size_ok f g h in
      turns b.schema b.world m f g (Seq it.0) Int (size m) it.1 suits
      (λ v rest is q. (values.Int (pos q.0.found), (pos q.0.found, refl, found_i64 q.0.found q.3), size_on m q.0 rest (is ∙ ap (λ (u : Value). u ∷ rest) q.1)))

  pub size_safe : Safe ops.Size
  unfolding step effect
  size_safe h = leads_by b fits m ops.Size e (effects.size f) (size m) h size_makes

  as_by : (place class n : ℕ) (left : Machine) (old : ℕ) (g next : Frame) (up : Bool) (is : IsOf b.schema b.world old n) → descends b.schema (class_at b.world n) class ≡ up → Suits b.schema b.world left g → Pushed (Ref class) g next
      → (let r : Result Machine Halt = cond up (push (values.Unit n) left) (Ok (go_to place left)) in (Makes b.schema b.world left next r) ⊎ (r ≡ Ok (go_to place left)))
  as_by place class n left old g next true is up left_suits h =
      inl (pushes b.schema b.world left g next (values.Unit n) (Ref class) h left_suits
      (n, refl, record { own = is.own; is = is.is; under = sym (ap (λ c. descends b.schema c class) (class_at_of b.schema b.world fits.units old n is)) ∙ up }))
  as_by place class n left old g next false is up left_suits h = inr refl

  pub as_safe : (class place : ℕ) (entry : Class) → slice_get b.schema.classes class ≡ Some entry → Safe (ops.As class place)
  unfolding step effect
  as_safe class place entry there h =
      let x = edges_ok (effects.as_class class f) e h in
      let it = as_class_ok class f x.0 x.1 in
      let p = pops_live b.schema b.world m f it.own it.rest it.stack suits in
      let left = with_stack p.rest m in
      let g = frames.with_stack it.rest f in
      let goes = descends b.schema (class_at b.world p.n) class in
      let is = as_on b class place m p.n p.rest entry goes p.stack there (is_live_of b.schema b.world fits.units it.own p.n p.of) refl in
      leads_either b fits m (ops.As class place) place e x.0 left it.branched.next g (cond goes (push (values.Unit p.n) left) (Ok (go_to place left))) (as_class b class place m) refl it.branched.edges x.2 refl p.suits is
      (as_by place class p.n left it.own g it.branched.next goes p.of refl p.suits it.branched.pushed)
