-- Expressions without parts, and operations: the compiler makes the kind of the judgement, and notes its flaws.
use Rattle.std.proofs.Common.{ℕ, Bool, true, false, cond, List, [], ◌∷◌, ◌++◌, length, Option, Some, None, Result, Ok, Err, refl, subst, sym, ap}
use Rattle.std.specs.Prelude.{nat_le, ℤ, pos, int_lt, is_some, position, option_map, option_and_then}
use Rattle.std.specs.Str.{bytes_eq}
use Rattle.bb_basis.specs.Results.{◌>>=◌}
use Rattle.bb_code.specs.declared.op.Calculation.TheVariants as calculations
use Rattle.bb_code.specs.declared.op.Bound.TheVariants as bounds
use Rattle.bb_code.specs.declared.op.Comparison.TheVariants as comparisons
use Rattle.bb_code.specs.declared.op.Logic.TheVariants as logics
use Rattle.bb_code.specs.declared.parts.TheConstants.{TEXT_BYTES_LIMIT, TEXT_COUNT_LIMIT}
use Rattle.bb_code.specs.declared.frame.Kind.{Kind}
use Rattle.bb_code.specs.declared.frame.Kind.TheVariants as kinds
use Rattle.bb_code.specs.declared.op.Op.{Op}
use Rattle.bb_code.specs.declared.op.Op.TheVariants as ops
use Rattle.bb_schema.specs.Schema.{Schema, label_set_named, label_named}
use Rattle.bb_lang.specs.Atom.{Atom}
use Rattle.bb_lang.specs.Atom.TheVariants as atoms
use Rattle.bb_lang.specs.Unary.{Unary}
use Rattle.bb_lang.specs.Unary.TheVariants as unaries
use Rattle.bb_lang.specs.Binary.{Binary}
use Rattle.bb_lang.specs.Binary.TheVariants as binaries
use Rattle.bb_lang.specs.Division.{Division}
use Rattle.bb_lang.specs.Operator.{Operator}
use Rattle.bb_lang.specs.Operator.TheVariants as operators
use Rattle.bb_lang.specs.Variable.{Variable}
use Rattle.bb_compile_scope.specs.Killed.{unless_fault}
use Rattle.bb_compile_scope.specs.Kinds.{class_of, is_live, equality}
use Rattle.bb_compile_scope.specs.LocalKinds.{kind_at}
use Rattle.bb_compile_scope.specs.Place.{Place}
use Rattle.bb_compile_scope.specs.Scope.{name_of, local_of}
use Rattle.bb_compile_scope.specs.Slots.{value_slot}
use Rattle.bb_compile_scope.specs.declared.fault.CompileFault.{CompileFault}
use Rattle.bb_compile_scope.specs.declared.fault.CompileFault.TheVariants.{At}
use Rattle.bb_compile_scope.specs.declared.fault.TextFlaw.{TextFlaw}
use Rattle.bb_compile_scope.specs.declared.fault.TextFlaw.TheVariants.{Unknown, Kind as WrongKind, DeadName, Limit}
use Rattle.bb_compile_scope.specs.declared.scope.Scope.{Scope}
use Rattle.bb_compile_buffer.specs.declared.buffer.Buffer.{Buffer}
use Rattle.bb_compile_buffer.specs.Atoms.{pushed, loaded, variable_code, live_unit, unit_of, unit_code, gotten, got_from, slot_code, text_noted, text_code, label_of, label_in, label_code, atom_code}
use Rattle.bb_compile_buffer.specs.Buffers.{due, put, put_value, text_at, text_index}
use Rattle.bb_compile_buffer.specs.Operations.{one_due, two_due, unary_code, equality_by, equality_code, binary_code, operator_code, division_op, divisor_noted, division_code}
use Rattle.bb_theorem_grammar.specs.judged.Atoms.{variable_flaws, if_no_unit, if_not_live, unit_flaws, slot_kind, slot_flaws, text_flaws, label_flaws, atom_kind, atom_flaws}
use Rattle.bb_theorem_grammar.specs.judged.Flaws.{least, unless, if_so, flaw_of, if_full, if_not_pushed, if_other}
use Rattle.bb_theorem_grammar.specs.judged.Names.{kind_of, unit_class}
use Rattle.bb_theorem_grammar.specs.judged.Operations.{unary_wants, unary_gives, if_either_other, if_unequal, binary_flaws, binary_gives, operator_kind, division_flaws}
use Rattle.bb_theorem_grammar.proofs.judged_lemmas.scopes.HoldLemmas.{least_on, Holds, Keeps, noted_flaw, noted_if, noted_unless, Made, made_then, keeps_last, put_keeps, put_value_keeps, due_keeps}
use Rattle.bb_theorem_grammar.proofs.judged_lemmas.scopes.NameLemmas.{names_of, kind_same}

module _ (scope : Scope) (place : Place) where
  -- ---- values

  pub pushed_judged : (op : Op) (gives : Kind) (room : ℕ) (s : Buffer) (seen : Option TextFlaw) → Keeps scope place seen s → Holds (Made scope place (Some gives) (least seen (if_full room))) place (pushed op gives room s)
  unfolding pushed
  pushed_judged op gives room s seen k =
      keeps_last scope place (Keeps scope place (least seen (if_full room))) (Made scope place (Some gives) (least seen (if_full room))) (put_value op room s) _
      (put_value_keeps scope place op room s seen k) (λ t kept. (refl, kept))

  loaded_judged : (o : Option ℕ) (room : ℕ) (s : Buffer) (seen : Option TextFlaw) → Keeps scope place seen s → Holds (Made scope place (option_map (kind_at scope.kinds) o) (least seen (if_not_pushed (option_map (kind_at scope.kinds) o) room))) place (loaded o room s)
  loaded_judged None room s seen k = (refl, noted_flaw scope place Unknown s seen k)
  loaded_judged (Some local) room s seen k =
      keeps_last scope place (Keeps scope place (least seen (if_full room))) (Made scope place (Some (kind_at scope.kinds local)) (least seen (if_full room))) (put_value (ops.Load local) room s) _
      (put_value_keeps scope place (ops.Load local) room s seen k) (λ t kept. (ap (λ (sc : Scope). Some (kind_at sc.kinds local)) kept.same, kept))

  pub variable_judged : (v : Variable) (room : ℕ) (s : Buffer) (seen : Option TextFlaw) → Keeps scope place seen s → Holds (Made scope place (kind_of (names_of scope) v) (least seen (variable_flaws (names_of scope) room v))) place (variable_code v room s)
  unfolding variable_code
  variable_judged v room s seen k =
      subst (λ kind. Holds (Made scope place kind (least seen (if_not_pushed kind room))) place (loaded (local_of s.scope (name_of v)) room s)) (sym (kind_same scope (name_of v)))
      (subst (λ sc. Holds (Made scope place (option_map (kind_at scope.kinds) (local_of scope (name_of v))) (least seen (if_not_pushed (option_map (kind_at scope.kinds) (local_of scope (name_of v))) room))) place (loaded (local_of sc (name_of v)) room s)) (sym k.same)
      (loaded_judged (local_of scope (name_of v)) room s seen k))

  -- ---- units

  live_judged : (o : Option ℕ) (live : Bool) (s : Buffer) (seen : Option TextFlaw) → Keeps scope place seen s → Holds (Made scope place o (least seen (if_no_unit o live))) place (live_unit o live s)
  live_judged None live s seen k = (refl, noted_flaw scope place WrongKind s seen k)
  live_judged (Some class) live s seen k = (refl, noted_unless scope place live DeadName s seen k)

  of_judged : (made : Option Kind) (s : Buffer) (seen : Option TextFlaw) → Keeps scope place seen s → Holds (Made scope place (option_and_then class_of made) (least seen (if_not_live made))) place (unit_of made s)
  unfolding least
  of_judged None s seen k = (refl, k)
  of_judged (Some kind) s seen k = live_judged (class_of kind) (is_live kind) s seen k

  pub unit_judged : (v : Variable) (room : ℕ) (s : Buffer) (seen : Option TextFlaw) → Keeps scope place seen s → Holds (Made scope place (unit_class (names_of scope) v) (least seen (unit_flaws (names_of scope) room v))) place (unit_code v room s)
  unfolding unit_code
  unit_judged v room s seen k =
      made_then scope place (kind_of (names_of scope) v) (Made scope place (unit_class (names_of scope) v)) seen (variable_flaws (names_of scope) room v) (if_not_live (kind_of (names_of scope) v)) (variable_code v room s) _
      (variable_judged v room s seen k) (λ t kept. of_judged (kind_of (names_of scope) v) t (least seen (variable_flaws (names_of scope) room v)) kept)

  -- ---- slots

  by_slot : (r : Result (ℕ × Kind) TextFlaw) (s : Buffer) (seen : Option TextFlaw) → Keeps scope place seen s → Holds (Made scope place (option_map (λ p. p.1) (unless_fault r)) (least seen (flaw_of r))) place (gotten r s)
  unfolding least
  by_slot (Err flaw) s seen k = (refl, noted_flaw scope place flaw s seen k)
  by_slot (Ok p) s seen k =
      keeps_last scope place (Keeps scope place seen) (Made scope place (Some p.1) seen) (put (ops.Get p.0) s) _ (put_keeps scope place (ops.Get p.0) s seen k) (λ t kept. (refl, kept))

  got_judged : (schema : Schema) (slot : List ℕ) (class : Option ℕ) (s : Buffer) (seen : Option TextFlaw) → Keeps scope place seen s → Holds (Made scope place (slot_kind schema class slot) (least seen (slot_flaws schema class slot))) place (got_from schema slot class s)
  unfolding least
  got_judged schema slot None s seen k = (refl, k)
  got_judged schema slot (Some class) s seen k = by_slot (value_slot schema class slot) s seen k

  slot_judged : (schema : Schema) (unit : Variable) (slot : List ℕ) (room : ℕ) (s : Buffer) (seen : Option TextFlaw) → Keeps scope place seen s → Holds (Made scope place (slot_kind schema (unit_class (names_of scope) unit) slot) (least seen (unit_flaws (names_of scope) room unit ++ slot_flaws schema (unit_class (names_of scope) unit) slot))) place (slot_code schema unit slot room s)
  unfolding slot_code
  slot_judged schema unit slot room s seen k =
      made_then scope place (unit_class (names_of scope) unit) (Made scope place (slot_kind schema (unit_class (names_of scope) unit) slot)) seen (unit_flaws (names_of scope) room unit) (slot_flaws schema (unit_class (names_of scope) unit) slot) (unit_code unit room s) _
      (unit_judged unit room s seen k) (λ t kept. got_judged schema slot (unit_class (names_of scope) unit) t (least seen (unit_flaws (names_of scope) room unit)) kept)

  -- ---- texts and labels

  index_judged : (text : List ℕ) (s : Buffer) (seen : Option TextFlaw) → Keeps scope place seen s → Holds (λ (p : ℕ × Buffer). Keeps scope place seen p.1) place (text_index text s)
  unfolding text_index
  index_judged text s seen k = by_place (position (bytes_eq text) s.texts)
    where
      by_room : (b : Bool) → Holds (λ (p : ℕ × Buffer). Keeps scope place seen p.1) place (cond b (Err (At Limit s.start)) (Ok (length s.texts, record s { texts = s.texts ++ text ∷ [] })))
      by_room true = ap (At Limit) k.begun
      by_room false = record { same = k.same; begun = k.begun; flawed = k.flawed }

      by_place : (o : Option ℕ) → Holds (λ (p : ℕ × Buffer). Keeps scope place seen p.1) place (text_at text o s)
      by_place (Some index) = k
      by_place None = by_room (nat_le TEXT_COUNT_LIMIT (length s.texts))

  after_index : (text : List ℕ) (room : ℕ) (s : Buffer) (seen : Option TextFlaw) (r : Result (ℕ × Buffer) CompileFault) → Holds (λ (p : ℕ × Buffer). Keeps scope place seen p.1) place r → Holds (Made scope place (Some kinds.Text) (least seen (if_full room))) place (r >>= λ p. pushed (ops.PushText p.0) kinds.Text room p.1)
  after_index text room s seen (Err fault) h = h
  after_index text room s seen (Ok p) h = pushed_judged (ops.PushText p.0) kinds.Text room p.1 seen h

  text_judged : (text : List ℕ) (room : ℕ) (s : Buffer) (seen : Option TextFlaw) → Keeps scope place seen s → Holds (Made scope place (Some kinds.Text) (least seen (text_flaws text room))) place (text_code text room s)
  unfolding text_code
  text_judged text room s seen k =
      let short = unless (nat_le (length text) TEXT_BYTES_LIMIT) Limit in
      let kept = noted_unless scope place (nat_le (length text) TEXT_BYTES_LIMIT) Limit s seen k in
      subst (λ flaw. Holds (Made scope place (Some kinds.Text) flaw) place (text_code text room s)) (sym (least_on seen short (if_full room)))
      (after_index text room (text_noted text s) (least seen short) (text_index text (text_noted text s)) (index_judged text (text_noted text s) (least seen short) kept))

  by_label : (set : ℕ) (o : Option ℕ) (room : ℕ) (s : Buffer) (seen : Option TextFlaw) → Keeps scope place seen s → Holds (Made scope place (Some (kinds.Label set)) (least seen (if_not_pushed o room))) place (label_of set o room s)
  by_label set None room s seen k = (refl, noted_flaw scope place Unknown s seen k)
  by_label set (Some label) room s seen k = pushed_judged (ops.PushLabel set label) (kinds.Label set) room s seen k

  label_judged : (schema : Schema) (set : Option ℕ) (label : List ℕ) (room : ℕ) (s : Buffer) (seen : Option TextFlaw) → Keeps scope place seen s → Holds (Made scope place (option_map kinds.Label set) (least seen (label_flaws schema set label room))) place (label_in schema label set room s)
  label_judged schema None label room s seen k = (refl, noted_flaw scope place Unknown s seen k)
  label_judged schema (Some set) label room s seen k = by_label set (label_named schema set label) room s seen k

  pub atom_judged : (schema : Schema) (a : Atom) (room : ℕ) (s : Buffer) (seen : Option TextFlaw) → Keeps scope place seen s → Holds (Made scope place (atom_kind schema (names_of scope) a) (least seen (atom_flaws schema (names_of scope) room a))) place (atom_code schema room a s)
  unfolding atom_code label_code
  atom_judged schema (atoms.Int n) room s seen k = pushed_judged (ops.PushInt n) kinds.Int room s seen k
  atom_judged schema (atoms.Text text) room s seen k = text_judged text room s seen k
  atom_judged schema (atoms.Bool b) room s seen k = pushed_judged (ops.PushBool b) kinds.Bool room s seen k
  atom_judged schema (atoms.Label set label) room s seen k = label_judged schema (label_set_named schema set) label room s seen k
  atom_judged schema (atoms.Variable v) room s seen k = variable_judged v room s seen k
  atom_judged schema (atoms.Slot unit slot) room s seen k = slot_judged schema unit slot room s seen k

  -- ---- operations

  one_judged : (operand : Option Kind) (wanted : Kind) (op : Op) (gives : Kind) (s : Buffer) (seen : Option TextFlaw) → Keeps scope place seen s → Holds (Made scope place (Some gives) (least seen (if_other operand wanted))) place (one_due operand wanted op gives s)
  unfolding one_due
  one_judged operand wanted op gives s seen k =
      let flaw = least seen (if_other operand wanted) in
      keeps_last scope place (Keeps scope place flaw) (Made scope place (Some gives) flaw) (put op (due operand wanted s)) _
      (put_keeps scope place op (due operand wanted s) flaw (due_keeps scope place operand wanted s seen k)) (λ t kept. (refl, kept))

  two_judged : (left right : Option Kind) (wanted : Kind) (op : Op) (gives : Kind) (s : Buffer) (seen : Option TextFlaw) → Keeps scope place seen s → Holds (Made scope place (Some gives) (least seen (if_either_other left right wanted))) place (two_due left right wanted op gives s)
  unfolding two_due
  two_judged left right wanted op gives s seen k =
      let flaw = least (least seen (if_other left wanted)) (if_other right wanted) in
      let both = due right wanted (due left wanted s) in
      let first = due_keeps scope place left wanted s seen k in
      let second = due_keeps scope place right wanted (due left wanted s) (least seen (if_other left wanted)) first in
      subst (λ f. Holds (Made scope place (Some gives) f) place (put op both >>= λ t. Ok (Some gives, t))) (sym (least_on seen (if_other left wanted) (if_other right wanted)))
      (keeps_last scope place (Keeps scope place flaw) (Made scope place (Some gives) flaw) (put op both) _ (put_keeps scope place op both flaw second) (λ t kept. (refl, kept)))

  pub unary_judged : (operation : Unary) (operand : Option Kind) (s : Buffer) (seen : Option TextFlaw) → Keeps scope place seen s → Holds (Made scope place (Some (unary_gives operation)) (least seen (if_other operand (unary_wants operation)))) place (unary_code operation operand s)
  unary_judged unaries.Not operand s seen k = one_judged operand kinds.Bool ops.Not kinds.Bool s seen k
  unary_judged unaries.Low operand s seen k = one_judged operand kinds.Interval (ops.BoundOf bounds.Low) kinds.Int s seen k
  unary_judged unaries.High operand s seen k = one_judged operand kinds.Interval (ops.BoundOf bounds.High) kinds.Int s seen k

  by_equality : (o : Option Op) (s : Buffer) (seen : Option TextFlaw) → Keeps scope place seen s → Holds (Keeps scope place (least seen (unless (is_some o) WrongKind))) place (equality_by o s)
  unfolding least
  by_equality None s seen k = noted_flaw scope place WrongKind s seen k
  by_equality (Some op) s seen k = put_keeps scope place op s seen k

  equal_judged : (left right : Option Kind) (s : Buffer) (seen : Option TextFlaw) → Keeps scope place seen s → Holds (Keeps scope place (least seen (if_unequal left right))) place (equality_code left right s)
  unfolding least
  equal_judged None right s seen k = k
  equal_judged (Some l) None s seen k = k
  equal_judged (Some l) (Some r) s seen k = by_equality (equality l r) s seen k

  pub binary_judged : (operation : Binary) (left right : Option Kind) (s : Buffer) (seen : Option TextFlaw) → Keeps scope place seen s → Holds (Made scope place (Some (binary_gives operation)) (least seen (binary_flaws operation left right))) place (binary_code operation left right s)
  unfolding binary_code
  binary_judged binaries.Less left right s seen k = two_judged left right kinds.Int (ops.Compare comparisons.Lt) kinds.Bool s seen k
  binary_judged binaries.AtMost left right s seen k = two_judged left right kinds.Int (ops.Compare comparisons.Le) kinds.Bool s seen k
  binary_judged binaries.Equal left right s seen k =
      let flaw = least seen (if_unequal left right) in
      keeps_last scope place (Keeps scope place flaw) (Made scope place (Some kinds.Bool) flaw) (equality_code left right s) _ (equal_judged left right s seen k) (λ t kept. (refl, kept))
  binary_judged binaries.Min left right s seen k = two_judged left right kinds.Int (ops.Calculate calculations.Min) kinds.Int s seen k
  binary_judged binaries.Max left right s seen k = two_judged left right kinds.Int (ops.Calculate calculations.Max) kinds.Int s seen k
  binary_judged binaries.Interval left right s seen k = two_judged left right kinds.Int ops.MakeInterval kinds.Interval s seen k

  pub operator_judged : (operator : Operator) (left right : Option Kind) (s : Buffer) (seen : Option TextFlaw) → Keeps scope place seen s → Holds (Made scope place (Some (operator_kind operator)) (least seen (if_either_other left right (operator_kind operator)))) place (operator_code operator left right s)
  operator_judged operators.Or left right s seen k = two_judged left right kinds.Bool (ops.Combine logics.Or) kinds.Bool s seen k
  operator_judged operators.And left right s seen k = two_judged left right kinds.Bool (ops.Combine logics.And) kinds.Bool s seen k
  operator_judged operators.Plus left right s seen k = two_judged left right kinds.Int (ops.Calculate calculations.Add) kinds.Int s seen k
  operator_judged operators.Minus left right s seen k = two_judged left right kinds.Int (ops.Calculate calculations.Sub) kinds.Int s seen k
  operator_judged operators.Times left right s seen k = two_judged left right kinds.Int (ops.Calculate calculations.Mul) kinds.Int s seen k

  pub division_judged : (division : Division) (divisor : ℤ) (left : Option Kind) (s : Buffer) (seen : Option TextFlaw) → Keeps scope place seen s → Holds (Made scope place (Some kinds.Int) (least seen (division_flaws divisor left))) place (division_code division divisor left s)
  unfolding division_code
  division_judged division divisor left s seen k =
      let small = if_so (int_lt divisor (pos 1)) Limit in
      let kept = noted_if scope place (int_lt divisor (pos 1)) Limit s seen k in
      subst (λ f. Holds (Made scope place (Some kinds.Int) f) place (one_due left kinds.Int (ops.Divide (division_op division) divisor) kinds.Int (divisor_noted divisor s))) (sym (least_on seen small (if_other left kinds.Int)))
      (one_judged left kinds.Int (ops.Divide (division_op division) divisor) kinds.Int (divisor_noted divisor s) (least seen small) kept)
