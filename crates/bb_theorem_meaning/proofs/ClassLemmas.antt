-- The class of a unit that is live is below the class that the compiler takes its name's unit for, as the verifier
-- knows it.
use Rattle.std.proofs.Common.{◌≡◌, ℕ, zero, suc, Bool, true, false, ◌&&◌, ◌||◌, List, [], ◌∷◌, length, Option, Some, Ok, refl, subst, sym, ap, ◌∙◌, arith}
use Rattle.std.specs.Prelude.{slice_get, nat_lt, ◌==◌}
use Rattle.std.specs.List.{AllZip}
use Rattle.std.specs.Option.{option_map_or}
use Rattle.std.proofs.lemmas.Bool.Decides.{nat_tests}
use Rattle.bb_basis.proofs.ResultLemmas.{same_ok}
use Rattle.bb_code.specs.Code.{Code}
use Rattle.bb_code.specs.declared.frame.Kind.{Kind}
use Rattle.bb_code.specs.declared.frame.Kind.TheVariants as kinds
use Rattle.bb_schema.specs.Schema.{Schema, descends}
use Rattle.bb_schema.specs.Fits as schemas
use Rattle.bb_lang.specs.Variable.{Variable}
use Rattle.bb_compile_scope.specs.Kinds.{class_of}
use Rattle.bb_compile_scope.specs.LocalKinds.{is_free, kind_at}
use Rattle.bb_compile_scope.specs.Scope.{name_of, local_of}
use Rattle.bb_theorem_accepted.specs.Buffer.{Buffer}
use Rattle.bb_board.proofs.Laws.{class_there}
use Rattle.bb_board.specs.Board.{Board}
use Rattle.bb_board.specs.Fits.{Fits}
use Rattle.bb_board.specs.State.{World}
use Rattle.bb_units.specs.Units as units
use Rattle.bb_board.specs.World.{class_at}
use Rattle.bb_machine.specs.Changing.{State}
use Rattle.bb_machine.specs.declared.value.Value.{Value}
use Rattle.bb_machine.specs.declared.value.Value.TheVariants.{Unit as One}
use Rattle.bb_theorem_machine.specs.Kinds.{HasKind, LocalHas}
use Rattle.bb_theorem_machine.specs.NeverWrong.{Stands}
use Rattle.bb_verify_effect.specs.Due as dues
use Rattle.bb_verify_effect.specs.declared.frame.Frame.{Frame}
use Rattle.bb_theorem_accepted.proofs.Laws.{Finds, kept_unit, descends_on, under_class}
use Rattle.bb_theorem_meaning.specs.Meaning.{named}
use Rattle.bb_theorem_meaning.specs.Statements.{Scene}
use Rattle.bb_theorem_meaning.proofs.ComeLemmas.{Comes}
use Rattle.bb_theorem_meaning.proofs.NameLemmas.{value_named}
use Rattle.bb_theorem_meaning.proofs.ActLemmas.{IsScene}

-- what a local holds is of the kind that the frame gives it
local_has : (s : Schema) (w : World) (ks : List Kind) (os : List (Option Value)) (i : ℕ) (v : Value) → AllZip (LocalHas s w) ks os → slice_get os i ≡ Some (Some v) → HasKind s w (kind_at ks i) v
local_has s w [] [] i v all at = absurd cc
local_has s w [] (o ∷ os) i v all at = elim all [ ]
local_has s w (k ∷ ks) [] i v all at = elim all [ ]
local_has s w (k ∷ ks) (o ∷ os) zero v all at = let e : o ≡ Some v = cc in subst (LocalHas s w k) e all.0
local_has s w (k ∷ ks) (o ∷ os) (suc i) v all at = local_has s w ks os i v all.1 at

module _ (schema : Schema) (w : World) (fits : Fits schema w) (n : ℕ) (live : units.is_live w.units n ≡ true) where
  some_unit : (n == 0) ≡ false
  some_unit = let some = (fits.units.numbers n live).0 in grind (arith, nat_tests)

  own_class : units.class_of w.units n ≡ Some (class_at w n)
  own_class = (class_there schema w n fits live).0

  last_part : (none given a : Bool) → none ≡ false → (none || (given && a)) ≡ true → a ≡ true
  last_part true given a is all = absurd cc
  last_part false true a is all = all
  last_part false false a is all = absurd cc

  -- a value of the kind of a unit
  unit_descends : (k : Kind) (c : ℕ) → dues.class_of k ≡ Ok c → HasKind schema w k (One n) → descends schema (class_at w n) c ≡ true
  unit_descends (kinds.Ref d) c of has =
      let same : d ≡ c = cc in
      let unit : has.0 ≡ n = (let e : One n ≡ One has.0 = has.1 in cc) in
      let is : Some has.2.own ≡ Some (class_at w n) = sym has.2.is ∙ (ap (units.class_of w.units) unit ∙ own_class) in
      let own : has.2.own ≡ class_at w n = cc in
      ap (λ x. descends schema x c) (sym own) ∙ (ap (descends schema has.2.own) (sym same) ∙ has.2.under)
  unit_descends (kinds.Old d) c of has =
      let same : d ≡ c = cc in
      let unit : has.0 ≡ n = (let e : One n ≡ One has.0 = has.1 in cc) in
      let was = subst (λ k. (k == 0 || (nat_lt k w.units.next && option_map_or (λ x. descends schema x d) (units.class_of w.units k) true)) ≡ true) unit has.2 in
      let under = last_part (n == 0) (nat_lt n w.units.next) (option_map_or (λ x. descends schema x d) (units.class_of w.units n) true) some_unit was in
      ap (descends schema (class_at w n)) (sym same) ∙ (sym (ap (λ (o : Option ℕ). option_map_or (λ x. descends schema x d) o true) own_class) ∙ under)
  unit_descends kinds.Any c of has = absurd cc
  unit_descends kinds.Int c of has = absurd cc
  unit_descends kinds.Text c of has = absurd cc
  unit_descends kinds.Bool c of has = absurd cc
  unit_descends (kinds.Label set) c of has = absurd cc
  unit_descends kinds.Interval c of has = absurd cc
  unit_descends (kinds.Seq d) c of has = absurd cc

unit_taken : (k : Kind) (c : ℕ) → class_of k ≡ Some c → is_free k ≡ false
unit_taken (kinds.Ref d) c of = refl
unit_taken (kinds.Old d) c of = refl
unit_taken kinds.Any c of = absurd cc
unit_taken kinds.Int c of = absurd cc
unit_taken kinds.Text c of = absurd cc
unit_taken kinds.Bool c of = absurd cc
unit_taken (kinds.Label set) c of = absurd cc
unit_taken kinds.Interval c of = absurd cc
unit_taken (kinds.Seq d) c of = absurd cc

module _ (schema : Schema) (sf : schemas.Fits schema) (code : Code) (start : State) where
  -- a name's unit that is live is of a class below that of its kind
  abbrev pub AreBelow : Buffer → Type 0
  AreBelow s =
      (v : Variable) (local own : ℕ) → local_of s.scope (name_of v) ≡ Some local → class_of (kind_at s.scope.kinds local) ≡ Some own → (st : State) (scene : Scene) → Comes code start (length s.ops) (Ok st) → IsScene (length s.ops) s.scope.names scene st
      → (k : ℕ) → named (name_of v) scene.names ≡ Ok (One k) → units.is_live scene.board.world.units k ≡ true → descends schema (class_at scene.board.world k) own ≡ true

  pub found_below : (frames : List Frame) → ((n : ℕ) (st : State) → Comes code start n (Ok st) → Stands schema code frames st) → (s : Buffer) → Finds schema sf frames (length s.ops) s.scope.kinds → AreBelow s
  found_below frames stands s finds v local own at of st scene c here k is live =
      let stand = stands (length s.ops) st c in
      let there : slice_get frames (length s.ops) ≡ Some stand.frame = ap (slice_get frames) (sym c.0) ∙ stand.there in
      let thought = kind_at s.scope.kinds local in
      let known = kind_at stand.frame.locals local in
      let unit = under_class schema sf known thought own (kept_unit schema sf known thought own of (finds stand.frame there local (unit_taken thought own of))) of in
      let value = value_named st.0.locals (name_of v) local s.scope.names scene.names here.held at in
      let same : value.0 ≡ One k = same_ok value.0 (One k) (sym value.1 ∙ is) in
      let has = local_has schema st.1.world stand.frame.locals st.0.locals local (One k) stand.suits.locals (value.2 ∙ ap (λ x. Some (Some x)) same) in
      let own_below = unit_descends schema st.1.world stand.fits k (subst (λ (b : Board). units.is_live b.world.units k ≡ true) (sym here.board) live) known unit.0 unit.1 has in
      descends_on schema sf (class_at scene.board.world k) unit.0 own (subst (λ (b : Board). descends schema (class_at b.world k) unit.0 ≡ true) here.board own_below) unit.2
