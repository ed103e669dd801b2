-- Ops that go to a place, and those that end an execution, are safe.
use Rattle.std.proofs.Common.{◌≡◌, ◌⊎◌, inl, inr, ℕ, ℤ, Bool, false, true, cond, List, ◌∷◌, Option, Some, None, Result, Ok, refl, sym, ap, subst, ◌∙◌}
use Rattle.bb_basis.proofs.ResultLemmas.{same_ok}
use Rattle.bb_units.specs.Units.{is_live}
use Rattle.bb_board.specs.Board.{Board}
use Rattle.bb_board.specs.Fits.{Fits}
use Rattle.bb_code.specs.Code.{Code}
use Rattle.bb_code.specs.declared.frame.Kind.TheVariants as kinds
use Rattle.bb_code.specs.declared.op.Op.{Op}
use Rattle.bb_code.specs.declared.op.Op.TheVariants as ops
use Rattle.bb_verify.specs.FrameType.{Frame}
use Rattle.bb_verify.specs.PartType.{Part}
use Rattle.bb_verify.specs.Effect as effects
use Rattle.bb_verify.specs.Effect.{effect}
use Rattle.bb_verify.specs.Frame as frames
use Rattle.bb_verify.proofs.Laws.{edges_ok, Pushed, unless_ok, rate_ok, answer_ok, alive_ok}
use Rattle.bb_machine.specs.declared.halt.Halt.{Halt}
use Rattle.bb_machine.specs.declared.outcome.Answer.TheVariants as answers
use Rattle.bb_machine.specs.declared.value.Value.{Value}
use Rattle.bb_machine.specs.declared.value.Value.TheVariants as values
use Rattle.bb_machine.specs.Machine.{Machine, go_to, with_stack, pop, push}
use Rattle.bb_machine.specs.Jumping.{unless, rate, answer, answered, yes_or_no}
use Rattle.bb_machine.specs.Reading.{alive}
use Rattle.bb_machine.specs.Step.{step, keeps}
use Rattle.bb_theorem_machine.specs.Kinds.{WasOf, Suits}
use Rattle.bb_theorem_machine.specs.Safe.{edges_of, can_answer, IsSafe}
use Rattle.bb_theorem_machine.specs.proving.Moves.{Makes}
use Rattle.bb_theorem_machine.proofs.MoveLemmas.{pops, pushes}
use Rattle.bb_theorem_machine.proofs.LiveLemmas.{of_live}
use Rattle.bb_theorem_machine.proofs.UnitLemmas.{unit_was, pop_unit_on}
use Rattle.bb_theorem_machine.proofs.EdgeLemmas.{leads_either}

unless_on : (place : ℕ) (m : Machine) (b : Bool) (rest : List Value) → m.stack ≡ values.Bool b ∷ rest → unless place m ≡ Ok (cond b (with_stack rest m) (go_to place (with_stack rest m)))
unfolding unless pop
unless_on place m b rest is = rw is refl

rate_on : (m : Machine) (n : ℤ) (rest : List Value) → m.stack ≡ values.Int n ∷ rest → rate m ≡ answered (answers.Rated n)
unfolding rate pop
rate_on m n rest is = rw is refl

answer_on : (m : Machine) (b : Bool) (rest : List Value) → m.stack ≡ values.Bool b ∷ rest → answer m ≡ answered (yes_or_no b)
unfolding answer pop
answer_on m b rest is = rw is refl

says : (b : Bool) → can_answer ops.Answer (yes_or_no b) ≡ true
says true = refl
says false = refl

alive_on : (b : Board) (place : ℕ) (m : Machine) (n : ℕ) (rest : List Value) → m.stack ≡ values.Unit n ∷ rest → (live : Bool) → is_live b.world.units n ≡ live → alive b place m ≡ cond live (push (values.Unit n) (with_stack rest m)) (Ok (go_to place (with_stack rest m)))
unfolding alive
alive_on b place m n rest is live h = rw (pop_unit_on m n rest is, h) refl

module _ (part : Part) (code : Code) (b : Board) (fits : Fits b.schema b.world) (m : Machine) (f : Frame) (suits : Suits b.schema b.world m f) (e : Option Frame × Option Frame) where
  -- an op that is safe at the state
  abbrev Safe : Op → Type 0
  Safe op = edges_of b.schema part code op f ≡ Ok e → IsSafe b.schema m.place op e (step code op (m, b))

  pub jump_safe : (place : ℕ) → Safe (ops.Jump place)
  unfolding step effect
  jump_safe place h =
      subst (λ (x : Option Frame × Option Frame). IsSafe b.schema m.place (ops.Jump place) x (Ok (go_to place m, b))) (same_ok (None, Some f) e h)
      (record { schema = refl; fits = fits; edge = inr (refl, record { locals = suits.locals; stack = suits.stack }) })

  pub back_safe : (place : ℕ) → Safe (ops.Back place)
  unfolding step effect
  back_safe place h =
      subst (λ (x : Option Frame × Option Frame). IsSafe b.schema m.place (ops.Back place) x (Ok (go_to place m, b))) (same_ok (None, Some f) e h)
      (record { schema = refl; fits = fits; edge = inr (refl, record { locals = suits.locals; stack = suits.stack }) })

  pub done_safe : Safe ops.Done
  unfolding step
  done_safe h = refl

  pub decline_safe : Safe ops.Decline
  unfolding step
  decline_safe h = refl

  goes : (place : ℕ) (left : Machine) (g : Frame) (truth : Bool) → Suits b.schema b.world left g → (let r : Result Machine Halt = Ok (cond truth left (go_to place left)) in (Makes b.schema b.world left g r) ⊎ (r ≡ Ok (go_to place left)))
  goes place left g true left_suits = inl (record { next = left; is = refl; place = refl; suits = left_suits })
  goes place left g false left_suits = inr refl

  pub unless_safe : (place : ℕ) → Safe (ops.Unless place)
  unfolding step effect
  unless_safe place h =
      let x = edges_ok (effects.unless f) e h in
      let it = unless_ok f x.0 x.1 in
      let p = pops b.schema b.world m f kinds.Bool it.rest it.stack suits in
      let left = with_stack p.rest m in
      let g = frames.with_stack it.rest f in
      leads_either b fits m (ops.Unless place) place e x.0 left g g (Ok (cond p.has.0 left (go_to place left))) (unless place m) refl it.edges x.2 refl p.suits
      (unless_on place m p.has.0 p.rest (p.stack ∙ ap (λ (v : Value). v ∷ p.rest) p.has.1)) (goes place left g p.has.0 p.suits)

  pub rate_safe : Safe ops.Rate
  unfolding step effect
  rate_safe h =
      let x = edges_ok (effects.rate part f) e h in
      let it = rate_ok part f x.0 x.1 in
      let p = pops b.schema b.world m f kinds.Int it.rest it.stack suits in
      subst (λ (r : Result Machine Halt). IsSafe b.schema m.place ops.Rate e (keeps b r)) (sym (rate_on m p.has.0 p.rest (p.stack ∙ ap (λ (v : Value). v ∷ p.rest) p.has.1))) refl

  pub answer_safe : Safe ops.Answer
  unfolding step effect
  answer_safe h =
      let x = edges_ok (effects.answer part f) e h in
      let it = answer_ok part f x.0 x.1 in
      let p = pops b.schema b.world m f kinds.Bool it.rest it.stack suits in
      subst (λ (r : Result Machine Halt). IsSafe b.schema m.place ops.Answer e (keeps b r)) (sym (answer_on m p.has.0 p.rest (p.stack ∙ ap (λ (v : Value). v ∷ p.rest) p.has.1))) (says p.has.0)

  alive_by : (place n : ℕ) (left : Machine) (class : ℕ) (g next : Frame) (live : Bool) → is_live b.world.units n ≡ live → WasOf b.schema b.world class n → Suits b.schema b.world left g → Pushed (kinds.Ref class) g next
      → (let r : Result Machine Halt = cond live (push (values.Unit n) left) (Ok (go_to place left)) in (Makes b.schema b.world left next r) ⊎ (r ≡ Ok (go_to place left)))
  alive_by place n left class g next true live was left_suits h =
      inl (pushes b.schema b.world left g next (values.Unit n) (kinds.Ref class) h left_suits (n, refl, of_live b.schema b.world fits.units class n live was))
  alive_by place n left class g next false live was left_suits h = inr refl

  pub alive_safe : (place : ℕ) → Safe (ops.Alive place)
  unfolding step effect
  alive_safe place h =
      let x = edges_ok (effects.alive f) e h in
      let it = alive_ok f x.0 x.1 in
      let p = pops b.schema b.world m f it.kind it.rest it.stack suits in
      let unit = unit_was b.schema b.world fits.units it.kind it.class p.value it.of p.has in
      let left = with_stack p.rest m in
      let g = frames.with_stack it.rest f in
      let live = is_live b.world.units unit.0 in
      leads_either b fits m (ops.Alive place) place e x.0 left it.branched.next g (cond live (push (values.Unit unit.0) left) (Ok (go_to place left))) (alive b place m) refl it.branched.edges x.2 refl p.suits
      (alive_on b place m unit.0 p.rest (p.stack ∙ ap (λ (v : Value). v ∷ p.rest) unit.1) live refl) (alive_by place unit.0 left it.class g it.branched.next live refl unit.2 p.suits it.branched.pushed)
