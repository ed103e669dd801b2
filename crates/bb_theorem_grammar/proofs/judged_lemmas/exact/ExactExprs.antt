-- What expressions, sequences and patterns lay out where nothing is noted.
use Rattle.std.proofs.Common.{ℕ, Bool, cond, List, length, Option, Some, None, Result, Ok, Err}
use Rattle.std.specs.Prelude.{nat_le, int_lt, pos, ℤ}
use Rattle.bb_code.specs.declared.op.Bound.TheVariants as bounds
use Rattle.bb_code.specs.declared.op.Calculation.TheVariants as calculations
use Rattle.bb_code.specs.declared.op.Comparison.TheVariants as comparisons
use Rattle.bb_code.specs.declared.parts.TheConstants.{TEXT_BYTES_LIMIT}
use Rattle.bb_code.specs.declared.op.Logic.TheVariants as logics
use Rattle.bb_code.specs.declared.frame.Kind.{Kind}
use Rattle.bb_code.specs.declared.frame.Kind.TheVariants as kinds
use Rattle.bb_code.specs.declared.op.Op.{Op}
use Rattle.bb_code.specs.declared.op.Op.TheVariants as put_ops
use Rattle.bb_schema.specs.Schema.{Schema, label_set_named, label_named}
use Rattle.bb_lang.specs.Atom.{Atom}
use Rattle.bb_lang.specs.Atom.TheVariants as atoms
use Rattle.bb_lang.specs.Binary.{Binary}
use Rattle.bb_lang.specs.Binary.TheVariants as binaries
use Rattle.bb_lang.specs.Division.{Division}
use Rattle.bb_lang.specs.Operator.{Operator}
use Rattle.bb_lang.specs.Operator.TheVariants as operators
use Rattle.bb_lang.specs.Unary.{Unary}
use Rattle.bb_lang.specs.Unary.TheVariants as unaries
use Rattle.bb_lang.specs.Variable.{Variable}
use Rattle.bb_compile_scope.specs.Kinds.{class_of, is_live, equality}
use Rattle.bb_compile_scope.specs.LocalKinds.{kind_at}
use Rattle.bb_compile_scope.specs.Scope.{name_of, local_of}
use Rattle.bb_compile_scope.specs.Slots.{value_slot}
use Rattle.bb_compile_scope.specs.declared.fault.TextFlaw.{TextFlaw}
use Rattle.bb_compile_scope.specs.declared.fault.TextFlaw.TheVariants.{Unknown, Kind as WrongKind, DeadName, Limit}
use Rattle.bb_compile_buffer.specs.declared.buffer.Buffer.{Buffer}
use Rattle.bb_compile_buffer.specs.Atoms.{pushed, loaded, variable_code, live_unit, unit_of, unit_code, gotten, got_from, slot_code, text_noted, text_code, label_of, label_in, label_code, atom_code}
use Rattle.bb_compile_buffer.specs.Buffers.{noted, due, put, put_value, text_index}
use Rattle.bb_compile_buffer.specs.Operations.{one_due, two_due, unary_code, equality_by, equality_code, binary_code, operator_code, division_op, divisor_noted, division_code}
use Rattle.bb_theorem_grammar.specs.judged.Sums.{plus, nothing, ops, one_text, atom_sums}
use Rattle.bb_theorem_grammar.proofs.judged_lemmas.exact.ExactLemmas.{Exact, Counted, Unless, Made, exact_none, counted_then, counted_last, exact_from, counted_from, put_counted, put_value_counted, back_if, back_unless, index_counted, flawed}
use Rattle.bb_theorem_grammar.proofs.judged_lemmas.within.FineLemmas.{Clean, Anything, itself, second, never, due_back}
use Rattle.bb_theorem_grammar.proofs.judged_lemmas.laying.LayLemmas.{counts_on, if_counts, unless_counts, due_counts}

-- nothing more is laid out, and this is made
pub made_none : {X : Type 0} (made : Option X) (t : Buffer) → Unless made t → (Clean t → Exact nothing t t) × Unless made t
made_none made t there = (λ clean. exact_none t clean, there)

-- ---- values

pushed_counted : (op : Op) (gives : Kind) (room : ℕ) (s : Buffer) → Counted second Made (ops 1) s (pushed op gives room s)
unfolding pushed
pushed_counted op gives room s = counted_last itself second Anything Made (ops 1) s (put_value op room s) _ (put_value_counted op room s) (λ t any. made_none (Some gives) t tt)

loaded_counted : (o : Option ℕ) (room : ℕ) (s : Buffer) → Counted second Made (ops 1) s (loaded o room s)
loaded_counted None room s = flawed (Made {X = Kind}) (ops 1) Unknown s (None, noted Unknown s) (λ clean. never Unknown s clean)
loaded_counted (Some local) room s =
    counted_last itself second Anything Made (ops 1) s (put_value (put_ops.Load local) room s) (λ t. Ok (Some (kind_at t.scope.kinds local), t)) (put_value_counted (put_ops.Load local) room s) (λ t any. made_none (Some (kind_at t.scope.kinds local)) t tt)

pub variable_counted : (v : Variable) (room : ℕ) (s : Buffer) → Counted second Made (ops 1) s (variable_code v room s)
unfolding variable_code
variable_counted v room s = loaded_counted (local_of s.scope (name_of v)) room s

live_counted : (o : Option ℕ) (live : Bool) (t : Buffer) → Counted second Made nothing t (live_unit o live t)
live_counted None live t = flawed (Made {X = ℕ}) nothing WrongKind t (None, noted WrongKind t) (λ clean. never WrongKind t clean)
live_counted (Some class) live t =
    (λ clean. exact_from nothing t (cond live t (noted DeadName t)) (cond live t (noted DeadName t)) (unless_counts live DeadName t) (back_unless live DeadName t) (exact_none (cond live t (noted DeadName t)) clean), tt)

of_counted : (made : Option Kind) (t : Buffer) → Unless made t → Counted second Made nothing t (unit_of made t)
of_counted None t there = made_none {X = ℕ} None t there
of_counted (Some kind) t there = live_counted (class_of kind) (is_live kind) t

pub unit_counted : (v : Variable) (room : ℕ) (s : Buffer) → Counted second Made (ops 1) s (unit_code v room s)
unfolding unit_code
unit_counted v room s = counted_last second second Made Made (ops 1) s (variable_code v room s) _ (variable_counted v room s) (λ p there. of_counted p.0 p.1 there)

gotten_counted : (r : Result (ℕ × Kind) TextFlaw) (s : Buffer) → Counted second Made (ops 1) s (gotten r s)
gotten_counted (Err flaw) s = flawed (Made {X = Kind}) (ops 1) flaw s (None, noted flaw s) (λ clean. never flaw s clean)
gotten_counted (Ok slot) s = counted_last itself second Anything Made (ops 1) s (put (put_ops.Get slot.0) s) (λ t. Ok (Some slot.1, t)) (put_counted (put_ops.Get slot.0) s) (λ t any. made_none (Some slot.1) t tt)

got_counted : (schema : Schema) (slot : List ℕ) (class : Option ℕ) (s : Buffer) → Unless class s → Counted second Made (ops 1) s (got_from schema slot class s)
got_counted schema slot None s there = (λ clean. absurd (there clean), there)
got_counted schema slot (Some class) s there = gotten_counted (value_slot schema class slot) s

slot_counted : (schema : Schema) (unit : Variable) (slot : List ℕ) (room : ℕ) (s : Buffer) → Counted second Made (plus (ops 1) (ops 1)) s (slot_code schema unit slot room s)
unfolding slot_code
slot_counted schema unit slot room s = counted_then second second Made Made (ops 1) (ops 1) s (unit_code unit room s) _ (unit_counted unit room s) (λ p there. got_counted schema slot p.0 p.1 there)

text_counted : (text : List ℕ) (room : ℕ) (s : Buffer) → Counted second Made (plus (one_text text) (ops 1)) s (text_code text room s)
unfolding text_code
text_counted text room s =
    counted_then second second Anything Made (one_text text) (ops 1) s (text_index text (text_noted text s)) _
    (counted_from (second {X = ℕ}) Anything (one_text text) s (text_noted text s) (text_index text (text_noted text s)) (unless_counts (nat_le (length text) TEXT_BYTES_LIMIT) Limit s) (back_unless (nat_le (length text) TEXT_BYTES_LIMIT) Limit s) (index_counted text (text_noted text s)))
    (λ p any. pushed_counted (put_ops.PushText p.0) kinds.Text room p.1)

label_counted : (set : ℕ) (o : Option ℕ) (room : ℕ) (s : Buffer) → Counted second Made (ops 1) s (label_of set o room s)
label_counted set None room s = flawed (Made {X = Kind}) (ops 1) Unknown s (Some (kinds.Label set), noted Unknown s) tt
label_counted set (Some label) room s = pushed_counted (put_ops.PushLabel set label) (kinds.Label set) room s

label_in_counted : (schema : Schema) (label : List ℕ) (set : Option ℕ) (room : ℕ) (s : Buffer) → Counted second Made (ops 1) s (label_in schema label set room s)
label_in_counted schema label None room s = flawed (Made {X = Kind}) (ops 1) Unknown s (None, noted Unknown s) (λ clean. never Unknown s clean)
label_in_counted schema label (Some set) room s = label_counted set (label_named schema set label) room s

pub atom_counted : (schema : Schema) (a : Atom) (room : ℕ) (s : Buffer) → Counted second Made (atom_sums a) s (atom_code schema room a s)
unfolding atom_code label_code
atom_counted schema (atoms.Int n) room s = pushed_counted (put_ops.PushInt n) kinds.Int room s
atom_counted schema (atoms.Text text) room s = text_counted text room s
atom_counted schema (atoms.Bool b) room s = pushed_counted (put_ops.PushBool b) kinds.Bool room s
atom_counted schema (atoms.Label set label) room s = label_in_counted schema label (label_set_named schema set) room s
atom_counted schema (atoms.Variable v) room s = variable_counted v room s
atom_counted schema (atoms.Slot unit slot) room s = slot_counted schema unit slot room s

-- ---- operations

one_counted : (operand : Option Kind) (wanted : Kind) (op : Op) (gives : Kind) (s : Buffer) → Counted second Made (ops 1) s (one_due operand wanted op gives s)
unfolding one_due
one_counted operand wanted op gives s =
    counted_last itself second Anything Made (ops 1) s (put op (due operand wanted s)) _
    (counted_from itself Anything (ops 1) s (due operand wanted s) (put op (due operand wanted s)) (due_counts operand wanted s) (due_back operand wanted s) (put_counted op (due operand wanted s))) (λ t any. made_none (Some gives) t tt)

two_counted : (left right : Option Kind) (wanted : Kind) (op : Op) (gives : Kind) (s : Buffer) → Counted second Made (ops 1) s (two_due left right wanted op gives s)
unfolding two_due
two_counted left right wanted op gives s =
    let one = due left wanted s in
    let both = due right wanted one in
    counted_last itself second Anything Made (ops 1) s (put op both) _
    (counted_from itself Anything (ops 1) s both (put op both) (counts_on s one both (due_counts left wanted s) (due_counts right wanted one)) (λ clean. due_back left wanted s (due_back right wanted one clean)) (put_counted op both)) (λ t any. made_none (Some gives) t tt)

pub unary_counted : (operation : Unary) (made : Option Kind) (s : Buffer) → Counted second Made (ops 1) s (unary_code operation made s)
unary_counted unaries.Not made s = one_counted made kinds.Bool put_ops.Not kinds.Bool s
unary_counted unaries.Low made s = one_counted made kinds.Interval (put_ops.BoundOf bounds.Low) kinds.Int s
unary_counted unaries.High made s = one_counted made kinds.Interval (put_ops.BoundOf bounds.High) kinds.Int s

by_counted : (o : Option Op) (s : Buffer) → Counted itself Anything (ops 1) s (equality_by o s)
by_counted None s = (λ clean. never WrongKind s clean, tt)
by_counted (Some op) s = put_counted op s

equality_counted : (left right : Option Kind) (s : Buffer) → Unless left s → Unless right s → Counted itself Anything (ops 1) s (equality_code left right s)
equality_counted None right s one two = (λ clean. absurd (one clean), tt)
equality_counted (Some l) None s one two = (λ clean. absurd (two clean), tt)
equality_counted (Some l) (Some r) s one two = by_counted (equality l r) s

pub binary_counted : (operation : Binary) (left right : Option Kind) (s : Buffer) → Unless left s → Unless right s → Counted second Made (ops 1) s (binary_code operation left right s)
unfolding binary_code
binary_counted binaries.Less left right s one two = two_counted left right kinds.Int (put_ops.Compare comparisons.Lt) kinds.Bool s
binary_counted binaries.AtMost left right s one two = two_counted left right kinds.Int (put_ops.Compare comparisons.Le) kinds.Bool s
binary_counted binaries.Equal left right s one two = counted_last itself second Anything Made (ops 1) s (equality_code left right s) _ (equality_counted left right s one two) (λ t any. made_none (Some kinds.Bool) t tt)
binary_counted binaries.Min left right s one two = two_counted left right kinds.Int (put_ops.Calculate calculations.Min) kinds.Int s
binary_counted binaries.Max left right s one two = two_counted left right kinds.Int (put_ops.Calculate calculations.Max) kinds.Int s
binary_counted binaries.Interval left right s one two = two_counted left right kinds.Int put_ops.MakeInterval kinds.Interval s

pub operator_counted : (operator : Operator) (left right : Option Kind) (s : Buffer) → Counted second Made (ops 1) s (operator_code operator left right s)
operator_counted operators.Or left right s = two_counted left right kinds.Bool (put_ops.Combine logics.Or) kinds.Bool s
operator_counted operators.And left right s = two_counted left right kinds.Bool (put_ops.Combine logics.And) kinds.Bool s
operator_counted operators.Plus left right s = two_counted left right kinds.Int (put_ops.Calculate calculations.Add) kinds.Int s
operator_counted operators.Minus left right s = two_counted left right kinds.Int (put_ops.Calculate calculations.Sub) kinds.Int s
operator_counted operators.Times left right s = two_counted left right kinds.Int (put_ops.Calculate calculations.Mul) kinds.Int s

pub division_counted : (division : Division) (divisor : ℤ) (left : Option Kind) (s : Buffer) → Counted second Made (ops 1) s (division_code division divisor left s)
unfolding division_code
division_counted division divisor left s =
    counted_from second Made (ops 1) s (divisor_noted divisor s) (one_due left kinds.Int (put_ops.Divide (division_op division) divisor) kinds.Int (divisor_noted divisor s)) (if_counts (int_lt divisor (pos 1)) Limit s) (back_if (int_lt divisor (pos 1)) Limit s)
    (one_counted left kinds.Int (put_ops.Divide (division_op division) divisor) kinds.Int (divisor_noted divisor s))
