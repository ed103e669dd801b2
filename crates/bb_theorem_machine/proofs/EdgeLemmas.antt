-- Steps that lead along an edge of their op.
use Rattle.std.proofs.Common.{◌≡◌, ◌⊎◌, inl, inr, ℕ, Option, Some, None, Result, Ok, refl, sym, ap, subst, ◌∙◌}
use Rattle.bb_basis.specs.Results.{◌>>=◌}
use Rattle.bb_board.specs.Board.{Board}
use Rattle.bb_board.specs.Fits.{Fits}
use Rattle.bb_code.specs.declared.op.Op.{Op}
use Rattle.bb_verify.specs.Edges.{Edges}
use Rattle.bb_code.specs.declared.flaw.Flaw.{Flaw}
use Rattle.bb_verify.specs.FrameType.{Frame}
use Rattle.bb_verify.specs.Effect as effects
use Rattle.bb_verify.specs.nesting.Jumps.{target_of}
use Rattle.bb_verify.proofs.Laws.{on_edges}
use Rattle.bb_machine.specs.declared.halt.Halt.{Halt}
use Rattle.bb_machine.specs.Machine.{Machine, go_to}
use Rattle.bb_machine.specs.Step.{keeps}
use Rattle.bb_theorem_machine.specs.Kinds.{Suits}
use Rattle.bb_theorem_machine.specs.Safe.{Leads, IsSafe}
use Rattle.bb_theorem_machine.specs.proving.Moves.{Makes}

module _ (b : Board) (fits : Fits b.schema b.world) (m : Machine) (op : Op) where
  kept_at : (e : Option Frame × Option Frame) (r : Result Machine Halt) (next : Machine) → r ≡ Ok next → Leads b.schema m.place op e (next, b) → IsSafe b.schema m.place op e (keeps b r)
  kept_at e r next is leads = subst (λ (x : Result Machine Halt). IsSafe b.schema m.place op e (keeps b x)) (sym is) leads

  -- the next op follows
  pub leads_on : (e : Option Frame × Option Frame) (g : Frame) (r : Result Machine Halt) → (Some g, None) ≡ e → Makes b.schema b.world m g r → IsSafe b.schema m.place op e (keeps b r)
  leads_on e g r is made =
      subst (λ (x : Option Frame × Option Frame). IsSafe b.schema m.place op x (keeps b r)) is
      (kept_at (Some g, None) r made.next made.is (record { schema = refl; fits = fits; edge = inl (made.place, made.suits) }))

  -- the next op follows an op that has no other edge
  pub leads_by : (e : Option Frame × Option Frame) (effect : Result Frame Flaw) (r : Result Machine Halt) → (effects.on effect >>= λ x. Ok (x.on, x.target)) ≡ Ok e
      → ((g : Frame) → effect ≡ Ok g → Makes b.schema b.world m g r) → IsSafe b.schema m.place op e (keeps b r)
  leads_by e effect r h makes = let one = on_edges effect e h in leads_on e one.0 r one.2 (makes one.0 one.1)

  -- the next op follows, or the one at the place
  pub leads_either : (place : ℕ) (e : Option Frame × Option Frame) (x : Edges) (left : Machine) (next g : Frame) (did r : Result Machine Halt) → target_of op ≡ Some place → effects.either next g ≡ x → (x.on, x.target) ≡ e
      → left.place ≡ m.place → Suits b.schema b.world left g → r ≡ did → (Makes b.schema b.world left next did) ⊎ (did ≡ Ok (go_to place left)) → IsSafe b.schema m.place op e (keeps b r)
  leads_either place e x left next g did r to is are same suits does (inl made) =
      subst (λ (y : Option Frame × Option Frame). IsSafe b.schema m.place op y (keeps b r)) (ap (λ (y : Edges). (y.on, y.target)) is ∙ are)
      (kept_at (Some next, Some g) r made.next (does ∙ made.is) (record { schema = refl; fits = fits; edge = inl (made.place ∙ same, made.suits) }))
  leads_either place e x left next g did r to is are same suits does (inr goes) =
      subst (λ (y : Option Frame × Option Frame). IsSafe b.schema m.place op y (keeps b r)) (ap (λ (y : Edges). (y.on, y.target)) is ∙ are)
      (kept_at (Some next, Some g) r (go_to place left) (does ∙ goes) (record { schema = refl; fits = fits; edge = inr (to, record { locals = suits.locals; stack = suits.stack }) }))
