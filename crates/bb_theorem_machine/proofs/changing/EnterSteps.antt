-- A unit that enters a space is safe.
use Rattle.std.proofs.Common.{◌≡◌, ℕ, Bool, false, true, List, [], ◌∷◌, Option, Ok, refl, ap, subst, ◌∙◌}
use Rattle.std.specs.Prelude.{◌||◌}
use Rattle.std.specs.List.{list_any}
use Rattle.bb_schema.specs.Schema.{Schema, descends}
use Rattle.bb_schema.specs.Spaces.{classes_in, allowed}
use Rattle.bb_schema.specs.Fits as schemas
use Rattle.bb_units.specs.Units.{is_live}
use Rattle.bb_space.specs.Spaces.{is_member}
use Rattle.bb_board.specs.Board.{Board, with_world}
use Rattle.bb_board.specs.Fits.{Fits}
use Rattle.bb_board.specs.Spaces.{may_enter, after_enter}
use Rattle.bb_board.specs.World.{class_at}
use Rattle.bb_board.specs.State.{World}
use Rattle.bb_board.proofs.Laws.{may_enter_facts, enter_keeps}
use Rattle.bb_code.specs.Code.{Code}
use Rattle.bb_code.specs.declared.op.Op.TheVariants as ops
use Rattle.bb_verify.specs.FrameType.{Frame}
use Rattle.bb_verify.specs.PartType.{Part}
use Rattle.bb_verify.specs.Effect as effects
use Rattle.bb_verify.specs.Effect.{effect}
use Rattle.bb_verify.proofs.Laws.{on_edges, enter_ok}
use Rattle.bb_machine.specs.declared.value.Value.{Value}
use Rattle.bb_machine.specs.declared.value.Value.TheVariants as values
use Rattle.bb_machine.specs.Machine.{Machine, with_stack}
use Rattle.bb_machine.specs.Changing.{enter}
use Rattle.bb_machine.specs.Step.{step}
use Rattle.bb_theorem_machine.specs.Kinds.{Suits}
use Rattle.bb_theorem_machine.specs.Safe.{edges_of, IsSafe}
use Rattle.bb_theorem_machine.proofs.KindLemmas.{descends_on}
use Rattle.bb_theorem_machine.proofs.LiveLemmas.{is_live_of, class_at_of}
use Rattle.bb_theorem_machine.proofs.UnitLemmas.{pops_live, pop_unit_on}
use Rattle.bb_theorem_machine.proofs.changing.ChangeSteps.{same_outlives, same_persists, changes}

or_weaker : (a b c d : Bool) → (a ≡ true → c ≡ true) → (b ≡ true → d ≡ true) → (a || b) ≡ true → (c || d) ≡ true
or_weaker true b c d from other h = rw (from refl) refl
or_weaker false b true d from other h = refl
or_weaker false b false d from other h = other h

any_up : (s : Schema) (own class : ℕ) → schemas.Fits s → descends s own class ≡ true → (ds : List ℕ) → list_any (λ d. descends s class d) ds ≡ true → list_any (λ d. descends s own d) ds ≡ true
any_up s own class fits up [] h = absurd cc
any_up s own class fits up (d ∷ ds) h =
    or_weaker (descends s class d) (list_any (λ c. descends s class c) ds) (descends s own d) (list_any (λ c. descends s own c) ds)
    (descends_on s own class d fits up) (any_up s own class fits up ds) h

pub entered_units : (s : Schema) (w : World) (n space : ℕ) (b : Bool) → is_member w.spaces space n ≡ b → (after_enter s w n space).units ≡ w.units
entered_units s w n space true is = rw is refl
entered_units s w n space false is = rw is refl

may_on : (s : Schema) (w : World) (n space : ℕ) → is_live w.units n ≡ true → allowed s space (class_at w n) ≡ true → may_enter s w n space ≡ Ok tt
may_on s w n space live admitted = rw (live, admitted) refl

enter_on : (b : Board) (space : ℕ) (m : Machine) (n : ℕ) (rest : List Value) → m.stack ≡ values.Unit n ∷ rest → may_enter b.schema b.world n space ≡ Ok tt
    → enter b space m ≡ Ok (with_stack rest m, with_world b (after_enter b.schema b.world n space))
unfolding enter
enter_on b space m n rest is asked = rw (pop_unit_on m n rest is, asked) refl

module _ (part : Part) (code : Code) (b : Board) (sf : schemas.Fits b.schema) (fits : Fits b.schema b.world) (m : Machine) (f : Frame) (suits : Suits b.schema b.world m f) (e : Option Frame × Option Frame) where
  pub enter_safe : (space : ℕ) → edges_of b.schema part code (ops.Enter space) f ≡ Ok e → IsSafe b.schema m.place (ops.Enter space) e (step code (ops.Enter space) (m, b))
  unfolding step effect
  enter_safe space h =
      let out = on_edges (effects.enter b.schema part space f) e h in
      let it = enter_ok b.schema part space f out.0 out.1 in
      let p = pops_live b.schema b.world m f it.class it.rest it.stack suits in
      let live = is_live_of b.schema b.world fits.units it.class p.n p.of in
      let admitted : allowed b.schema space (class_at b.world p.n) ≡ true =
      ap (allowed b.schema space) (class_at_of b.schema b.world fits.units it.class p.n p.of) ∙ any_up b.schema p.of.own it.class sf p.of.under (classes_in b.schema space) it.admits in
      let asked = may_on b.schema b.world p.n space live admitted in
      let same = entered_units b.schema b.world p.n space (is_member b.world.spaces space p.n) refl in
      changes part code b fits m f suits e (ops.Enter space) out.0 (with_stack p.rest m) (after_enter b.schema b.world p.n space) (enter b space m) out.2 refl (enter_on b space m p.n p.rest p.stack asked)
      (enter_keeps b.schema b.world fits p.n space (may_enter_facts b.schema b.world p.n space asked))
      (same_outlives b.world.units (after_enter b.schema b.world p.n space).units same) (same_persists b.world.units (after_enter b.schema b.world p.n space).units same)
      (subst (Suits b.schema b.world (with_stack p.rest m)) it.left p.suits)
