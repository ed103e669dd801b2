-- What a query that fits is asked with, and the units that it finds.
use Rattle.std.proofs.Common.{◌≡◌, ℕ, true, false, ◌&&◌, List, [], ◌∷◌, Option, Some, None, Result, Ok, Err, refl, sym, ap, subst, ◌∙◌}
use Rattle.std.specs.Prelude.{◌==◌, All}
use Rattle.std.specs.List.{AllZip}
use Rattle.std.specs.Option.{option_map_or}
use Rattle.std.specs.FinMap as fin
use Rattle.std.proofs.lemmas.Bool.{and_parts}
use Rattle.std.proofs.lemmas.Bool.Decides.{Decides-eqb}
use Rattle.std.proofs.lemmas.List.Elements.{All-weaker, filter_passes}
use Rattle.bb_basis.proofs.ResultLemmas.{bind_ok}
use Rattle.bb_schema.specs.Schema.{Schema, descends}
use Rattle.bb_pattern.specs.declared.fault.PatternFault.{PatternFault}
use Rattle.bb_pattern.specs.declared.query.Query.{Query}
use Rattle.bb_pattern.specs.declared.value.DimValue.{DimValue}
use Rattle.bb_pattern.specs.declared.value.DimValue.TheVariants as operands
use Rattle.bb_pattern.specs.declared.value.OperandKind.{OperandKind}
use Rattle.bb_pattern.specs.declared.value.OperandKind.TheVariants as kinds
use Rattle.bb_pattern.specs.Fits.{query_fits}
use Rattle.bb_pattern.specs.Holds.{holds}
use Rattle.bb_units.specs.Fits as units
use Rattle.bb_units.specs.Units.{class_of}
use Rattle.bb_space.specs.Spaces.{is_member}
use Rattle.bb_machine.specs.QueryAnswer.{is_of_class, answers, answer}
use Rattle.bb_machine.specs.PresentValues.{present_values}
use Rattle.bb_board.specs.Board.{Board}
use Rattle.bb_board.specs.State.{World}
use Rattle.bb_code.specs.declared.frame.Kind.{Kind}
use Rattle.bb_code.specs.declared.frame.Kind.TheVariants.{Interval, Label}
use Rattle.bb_code.specs.declared.flaw.Flaw.{Flaw}
use Rattle.bb_code.specs.declared.flaw.Flaw.TheVariants as flaws
use Rattle.bb_verify.specs.Due as dues
use Rattle.bb_verify.proofs.Laws.{due_ok}
use Rattle.bb_machine.specs.declared.halt.Halt.{Halt}
use Rattle.bb_machine.specs.declared.value.Value.{Value}
use Rattle.bb_machine.specs.declared.value.Value.TheVariants as values
use Rattle.bb_machine.specs.declared.outcome.Stuck.TheVariants as reasons
use Rattle.bb_machine.specs.Value.{stuck}
use Rattle.bb_machine.specs.Reading.{operand_due, operands_due, right_query}
use Rattle.bb_theorem_machine.specs.Kinds.{IsOf, WasOf, HasKind}
use Rattle.bb_theorem_machine.proofs.LiveLemmas.{was_of}

-- ---- the query

right_by : (r : Result (Unit {0}) PatternFault) (u : Unit {0}) → (let due : Result (Unit {0}) Flaw = elim r [ Ok _ ↦ Ok tt | Err _ ↦ Err flaws.Query ] in due) ≡ Ok u
    → (let right : Result (Unit {0}) Halt = elim r [ Ok _ ↦ Ok tt | Err _ ↦ stuck reasons.Slot ] in right) ≡ Ok tt
right_by (Ok v) u is = refl
right_by (Err fault) u is = absurd cc

pub query_right : (b : Board) (q : Query) (u : Unit {0}) → dues.query_due b.schema q ≡ Ok u → right_query b q ≡ Ok tt
unfolding dues.query_due right_query
query_right b q u h = right_by (query_fits b.schema q) u h

-- ---- its operands

label_given : (set label : ℕ) (v : Value) → v ≡ values.Label set label → operand_due (kinds.Label set) v ≡ Ok (operands.Label set label)
label_given set label v is = let same : (set == set) ≡ true = (Decides-eqb set set).1 refl in ap (operand_due (kinds.Label set)) is ∙ rw same refl

module _ (s : Schema) (w : World) where
  operand_given : (o : OperandKind) (k : Kind) (v : Value) (u : Unit {0}) → dues.operand_due o k ≡ Ok u → HasKind s w k v → (d : DimValue) × (operand_due o v ≡ Ok d)
  operand_given kinds.Interval k v u h has =
      let known : HasKind s w Interval v = subst (λ (j : Kind). HasKind s w j v) (sym (due_ok Interval k u h)) has in
      (operands.Interval known.0 known.1, ap (operand_due kinds.Interval) known.2)
  operand_given (kinds.Label set) k v u h has =
      let known : HasKind s w (Label set) v = subst (λ (j : Kind). HasKind s w j v) (sym (due_ok (Label set) k u h)) has in
      (operands.Label set known.0, label_given set known.0 v known.1)

  pub operands_given : (os : List OperandKind) (ks : List Kind) (vs : List Value) (u : Unit {0}) → dues.operands_due os ks ≡ Ok u → AllZip (HasKind s w) ks vs → (ds : List DimValue) × (operands_due os vs ≡ Ok ds)
  unfolding dues.operands_due operands_due
  operands_given [] ks vs u h has = ([], refl)
  operands_given (o ∷ os) [] [] u h has = ([], refl)
  operands_given (o ∷ os) [] (v ∷ vs) u h has = elim has [ ]
  operands_given (o ∷ os) (k ∷ ks) [] u h has = elim has [ ]
  operands_given (o ∷ os) (k ∷ ks) (v ∷ vs) u h has =
      let one = bind_ok (dues.operand_due o k) _ u h in
      let first = operand_given o k v one.0 one.1 has.0 in
      let others = operands_given os ks vs u one.2 has.1 in
      (first.0 ∷ others.0, rw (first.1, others.1) refl)

-- ---- the units that it finds

of_by : (s : Schema) (w : World) (class n : ℕ) (found : Option ℕ) → class_of w.units n ≡ found → option_map_or (λ c. descends s c class) found false ≡ true → IsOf s w class n
of_by s w class n None is up = absurd cc
of_by s w class n (Some c) is up = record { own = c; is = is; under = up }

-- the units that a query finds are of its class
pub answers_are : (b : Board) → units.Fits b.world.units → (q : Query) (ds : List DimValue) → All (WasOf b.schema b.world q.class) (answer b.schema b.world.units b.world.spaces q ds)
answers_are b uf q ds =
    let s = b.schema in
    let w = b.world in
    All-weaker (λ n. answers s w.units w.spaces q ds n ≡ true) (WasOf s w q.class)
    (λ n is.
    let both = and_parts (is_member w.spaces q.space n && is_of_class s w.units q n) (holds ds (present_values s w.units n q.space) q.pattern) is in
    let of = and_parts (is_member w.spaces q.space n) (is_of_class s w.units q n) both.0 in
    was_of s w uf q.class n (of_by s w q.class n (class_of w.units n) refl of.1))
    (answer s w.units w.spaces q ds) (filter_passes (answers s w.units w.spaces q ds) (fin.keys w.units.units))
