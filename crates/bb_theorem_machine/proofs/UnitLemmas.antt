-- The ops that pop units and only look at them make what the verifier says.
use Rattle.std.proofs.Common.{◌≡◌, ℕ, true, List, ◌∷◌, Ok, refl, ap, subst, ◌∙◌}
use Rattle.std.specs.Prelude.{◌==◌}
use Rattle.bb_basis.proofs.ResultLemmas.{same_ok}
use Rattle.bb_schema.specs.Schema.{Schema}
use Rattle.bb_units.specs.Units.{is_live}
use Rattle.bb_units.specs.Fits as units
use Rattle.bb_board.specs.State.{World}
use Rattle.bb_board.specs.Board.{Board}
use Rattle.bb_code.specs.declared.frame.Kind.{Kind}
use Rattle.bb_code.specs.declared.frame.Kind.TheVariants.{Ref, Old}
use Rattle.bb_verify.specs.FrameType.{Frame}
use Rattle.bb_verify.specs.Due as dues
use Rattle.bb_verify.specs.Frame as frames
use Rattle.bb_machine.specs.declared.value.Value.{Value}
use Rattle.bb_machine.specs.declared.value.Value.TheVariants as values
use Rattle.bb_machine.specs.Machine.{Machine, with_stack, pop, pop_two, push}
use Rattle.bb_machine.specs.Reading.{live, pop_unit, pop_live}
use Rattle.bb_machine.specs.Arithmetic.{eq_unit}
use Rattle.bb_theorem_machine.specs.Kinds.{WasOf, HasKind, Suits}
use Rattle.bb_theorem_machine.specs.proving.Moves.{PopsLive}
use Rattle.bb_theorem_machine.proofs.MoveLemmas.{pops}
use Rattle.bb_theorem_machine.proofs.LiveLemmas.{was_of}

-- ---- units

pub unit_was : (s : Schema) (w : World) → units.Fits w.units → (k : Kind) (class : ℕ) (v : Value) → dues.class_of k ≡ Ok class → HasKind s w k v → (n : ℕ) × (v ≡ values.Unit n) × WasOf s w class n
unit_was s w uf (Ref c) class v is has = (has.0, has.1, subst (λ d. WasOf s w d has.0) (same_ok c class is) (was_of s w uf c has.0 has.2))
unit_was s w uf (Old c) class v is has = (has.0, has.1, subst (λ d. WasOf s w d has.0) (same_ok c class is) has.2)
unit_was s w uf _ class v is has = absurd cc

-- a unit that is live is the newest entry, where the verifier says so
pub pops_live : (s : Schema) (w : World) (m : Machine) (f : Frame) (class : ℕ) (rest : List Kind) → f.stack ≡ Ref class ∷ rest → Suits s w m f → PopsLive s w m (class, frames.with_stack rest f)
pops_live s w m f class rest is suits =
    let p = pops s w m f (Ref class) rest is suits in
    record { n = p.has.0; rest = p.rest; stack = p.stack ∙ ap (λ (v : Value). v ∷ p.rest) p.has.1; of = p.has.2; suits = p.suits }

pub pop_unit_on : (m : Machine) (n : ℕ) (rest : List Value) → m.stack ≡ values.Unit n ∷ rest → pop_unit m ≡ Ok (n, with_stack rest m)
unfolding pop_unit pop
pop_unit_on m n rest is = rw is refl

pub pop_live_on : (b : Board) (m : Machine) (n : ℕ) (rest : List Value) → m.stack ≡ values.Unit n ∷ rest → is_live b.world.units n ≡ true → pop_live b m ≡ Ok (n, with_stack rest m)
unfolding pop_live live
pop_live_on b m n rest is alive = rw (pop_unit_on m n rest is, alive) refl

pub eq_unit_on : (m : Machine) (a b : ℕ) (rest : List Value) → m.stack ≡ values.Unit b ∷ values.Unit a ∷ rest → eq_unit m ≡ push (values.Bool (a == b)) (with_stack rest m)
unfolding eq_unit pop_two pop
eq_unit_on m a b rest is = rw is refl
