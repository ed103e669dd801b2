-- Expressions without parts, and operations, stay within the limits of codes, where numbers are of 64 bits and texts
-- are UTF-8.
use Rattle.std.proofs.Common.{◌≡◌, ℕ, Bool, true, false, cond, List, length, Option, Some, None, Result, Ok, Err, refl}
use Rattle.std.specs.Prelude.{nat_le, int_lt, int_le, pos, negsuc, ℤ}
use Rattle.std.specs.Str.{is_utf8}
use Rattle.std.proofs.lemmas.Bool.{ltb-false, le-leb, and_from}
use Rattle.bb_basis.specs.Results.{◌>>=◌}
use Rattle.bb_code.specs.declared.op.Bound.TheVariants as bounds
use Rattle.bb_code.specs.declared.op.Calculation.TheVariants as calculations
use Rattle.bb_code.specs.declared.op.Comparison.TheVariants as comparisons
use Rattle.bb_code.specs.declared.parts.TheConstants.{TEXT_BYTES_LIMIT}
use Rattle.bb_code.specs.declared.op.Logic.TheVariants as logics
use Rattle.bb_schema.specs.Fits.{Fits}
use Rattle.bb_code.specs.declared.frame.Kind.{Kind}
use Rattle.bb_code.specs.declared.frame.Kind.TheVariants as kinds
use Rattle.bb_code.specs.declared.op.Op.{Op}
use Rattle.bb_code.specs.declared.op.Op.TheVariants as put_ops
use Rattle.bb_schema.specs.Schema.{Schema, label_set_named, label_named}
use Rattle.bb_lang.specs.Atom.{Atom}
use Rattle.bb_lang.specs.Atom.TheVariants as atoms
use Rattle.bb_lang.specs.Binary.{Binary}
use Rattle.bb_lang.specs.Binary.TheVariants as binaries
use Rattle.bb_lang.specs.Division.{Division}
use Rattle.bb_lang.specs.Operator.{Operator}
use Rattle.bb_lang.specs.Operator.TheVariants as operators
use Rattle.bb_lang.specs.Unary.{Unary}
use Rattle.bb_lang.specs.Unary.TheVariants as unaries
use Rattle.bb_lang.specs.Variable.{Variable}
use Rattle.bb_compile_scope.specs.Kinds.{class_of, is_live, plain_equality, equality}
use Rattle.bb_compile_scope.specs.LocalKinds.{kind_at}
use Rattle.bb_compile_scope.specs.Scope.{name_of, local_of}
use Rattle.bb_compile_scope.specs.Slots.{value_slot}
use Rattle.bb_compile_scope.specs.declared.fault.TextFlaw.{TextFlaw}
use Rattle.bb_compile_scope.specs.declared.fault.TextFlaw.TheVariants.{Unknown, Kind as WrongKind, DeadName, Limit}
use Rattle.bb_compile_buffer.specs.declared.buffer.Buffer.{Buffer}
use Rattle.bb_compile_buffer.specs.Atoms.{pushed, loaded, variable_code, live_unit, unit_of, unit_code, gotten, got_from, slot_code, text_noted, text_code, label_of, label_in, label_code, atom_code}
use Rattle.bb_compile_buffer.specs.Buffers.{due, put, put_value, text_index}
use Rattle.bb_compile_buffer.specs.Operations.{one_due, two_due, unary_code, equality_by, equality_code, binary_code, operator_code, division_op, divisor_noted, division_code}
use Rattle.bb_compile_buffer.specs.Within.{byte, two_bytes, eight_bytes, kind_within, op_within}
use Rattle.bb_theorem_grammar.specs.judged.Held.{atom_held}
use Rattle.bb_theorem_grammar.proofs.judged_lemmas.within.FineLemmas.{Clean, onto_same, onto_on, Goes, Anything, goes_then, goes_from, goes_map, itself, second, onto_noted, onto_if, onto_unless, passes, fails, onto_due, due_back, HasOp, put_goes, put_value_goes, Indexed, index_goes}
use Rattle.bb_theorem_grammar.proofs.judged_lemmas.within.FineScopes.{IsKind, class_within, local_within}
use Rattle.bb_theorem_grammar.proofs.judged_lemmas.within.WithinSchema.{InByte, InTwoBytes, IsValueSlot, set_in, label_in as label_here, value_here}

-- the kind of what is made, and the class of a unit
abbrev pub Kinded : Option Kind × Buffer → Type 0
Kinded p = IsKind p.0

abbrev pub Classed : Option ℕ × Buffer → Type 0
Classed p = InTwoBytes p.0

-- ---- values

pushed_goes : (op : Op) (gives : Kind) (room : ℕ) (s : Buffer) → op_within op ≡ true → kind_within gives ≡ true → Goes second Kinded s (pushed op gives room s)
unfolding pushed
pushed_goes op gives room s small kind =
    goes_then itself second HasOp Kinded s (put_value op room s) _ (put_value_goes op room s small) (λ t some f. (onto_same t f, kind))

loaded_goes : (o : Option ℕ) (room : ℕ) (s : Buffer) → InByte o → Goes second Kinded s (loaded o room s)
loaded_goes None room s small f = (onto_noted Unknown s f, tt)
loaded_goes (Some local) room s small f =
    goes_then itself (second {X = Option Kind}) HasOp Kinded s (put_value (put_ops.Load local) room s) (λ t. Ok (Some (kind_at t.scope.kinds local), t)) (put_value_goes (put_ops.Load local) room s small)
    (λ t some g. (onto_same t g, g.scoped.kinds_are.each local)) f

pub variable_goes : (v : Variable) (room : ℕ) (s : Buffer) → Goes second Kinded s (variable_code v room s)
unfolding variable_code
variable_goes v room s f = loaded_goes (local_of s.scope (name_of v)) room s (local_within s.scope (name_of v) f.scoped) f

live_goes : (o : Option ℕ) (live : Bool) (s : Buffer) → InTwoBytes o → Goes second Classed s (live_unit o live s)
live_goes None live s small f = (onto_noted WrongKind s f, tt)
live_goes (Some class) live s small f = (onto_unless live DeadName s f, small)

of_goes : (made : Option Kind) (s : Buffer) → IsKind made → Goes second Classed s (unit_of made s)
of_goes None s kind f = (onto_same s f, tt)
of_goes (Some k) s kind f = live_goes (class_of k) (is_live k) s (class_within k kind) f

pub unit_goes : (v : Variable) (room : ℕ) (s : Buffer) → Goes second Classed s (unit_code v room s)
unfolding unit_code
unit_goes v room s = goes_then second second Kinded Classed s (variable_code v room s) _ (variable_goes v room s) (λ p kind. of_goes p.0 p.1 kind)

text_goes : (text : List ℕ) (room : ℕ) (s : Buffer) → is_utf8 text ≡ true → Goes second Kinded s (text_code text room s)
unfolding text_code
text_goes text room s utf8 =
    goes_from second Kinded s (text_noted text s) (text_index text (text_noted text s) >>= λ p. pushed (put_ops.PushText p.0) kinds.Text room p.1) (onto_unless (nat_le (length text) TEXT_BYTES_LIMIT) Limit s)
    (goes_then second second Indexed Kinded (text_noted text s) (text_index text (text_noted text s)) _
    (index_goes text (text_noted text s) (λ clean. and_from (nat_le (length text) TEXT_BYTES_LIMIT) (is_utf8 text) (passes (nat_le (length text) TEXT_BYTES_LIMIT) Limit s clean) utf8))
    (λ p small. pushed_goes (put_ops.PushText p.0) kinds.Text room p.1 small refl))

module _ (schema : Schema) (sf : Fits schema) where
  gotten_goes : (r : Result (ℕ × Kind) TextFlaw) (s : Buffer) → IsValueSlot r → Goes second Kinded s (gotten r s)
  gotten_goes (Err flaw) s small f = (onto_noted flaw s f, tt)
  gotten_goes (Ok slot) s small f =
      goes_then itself (second {X = Option Kind}) HasOp Kinded s (put (put_ops.Get slot.0) s) (λ t. Ok (Some slot.1, t)) (put_goes (put_ops.Get slot.0) s (λ clean. small.0)) (λ t some g. (onto_same t g, small.1)) f

  got_goes : (slot : List ℕ) (class : Option ℕ) (s : Buffer) → Goes second Kinded s (got_from schema slot class s)
  got_goes slot None s f = (onto_same s f, tt)
  got_goes slot (Some class) s f = gotten_goes (value_slot schema class slot) s (value_here schema sf class slot) f

  slot_goes : (unit : Variable) (slot : List ℕ) (room : ℕ) (s : Buffer) → Goes second Kinded s (slot_code schema unit slot room s)
  unfolding slot_code
  slot_goes unit slot room s = goes_then second second Classed Kinded s (unit_code unit room s) _ (unit_goes unit room s) (λ p class. got_goes slot p.0 p.1)

  label_goes : (set : ℕ) (o : Option ℕ) (room : ℕ) (s : Buffer) → two_bytes set ≡ true → InByte o → Goes second Kinded s (label_of set o room s)
  label_goes set None room s small label f = (onto_noted Unknown s f, small)
  label_goes set (Some label) room s small is f = pushed_goes (put_ops.PushLabel set label) (kinds.Label set) room s (and_from (two_bytes set) (byte label) small is) small f

  label_in_goes : (label : List ℕ) (set : Option ℕ) (room : ℕ) (s : Buffer) → InTwoBytes set → Goes second Kinded s (label_in schema label set room s)
  label_in_goes label None room s small f = (onto_noted Unknown s f, tt)
  label_in_goes label (Some set) room s small f = label_goes set (label_named schema set label) room s small (label_here schema sf set label) f

  pub atom_goes : (a : Atom) (room : ℕ) (s : Buffer) → atom_held a ≡ true → Goes second Kinded s (atom_code schema room a s)
  unfolding atom_code label_code
  atom_goes (atoms.Int n) room s held = pushed_goes (put_ops.PushInt n) kinds.Int room s held refl
  atom_goes (atoms.Text text) room s held = text_goes text room s held
  atom_goes (atoms.Bool b) room s held = pushed_goes (put_ops.PushBool b) kinds.Bool room s refl refl
  atom_goes (atoms.Label set label) room s held = label_in_goes label (label_set_named schema set) room s (set_in schema sf set)
  atom_goes (atoms.Variable v) room s held = variable_goes v room s
  atom_goes (atoms.Slot unit slot) room s held = slot_goes unit slot room s

  -- ---- operations

  one_goes : (operand : Option Kind) (wanted : Kind) (op : Op) (gives : Kind) (s : Buffer) → (Clean s → op_within op ≡ true) → kind_within gives ≡ true → Goes second Kinded s (one_due operand wanted op gives s)
  unfolding one_due
  one_goes operand wanted op gives s small kind =
      goes_then itself second HasOp Kinded s (put op (due operand wanted s)) _
      (goes_from itself HasOp s (due operand wanted s) (put op (due operand wanted s)) (onto_due operand wanted s) (put_goes op (due operand wanted s) (λ clean. small (due_back operand wanted s clean)))) (λ t some f. (onto_same t f, kind))

  two_goes : (left right : Option Kind) (wanted : Kind) (op : Op) (gives : Kind) (s : Buffer) → op_within op ≡ true → kind_within gives ≡ true → Goes second Kinded s (two_due left right wanted op gives s)
  unfolding two_due
  two_goes left right wanted op gives s small kind =
      let one = due left wanted s in
      let both = due right wanted one in
      goes_then itself second HasOp Kinded s (put op both) _
      (goes_from itself HasOp s both (put op both) (λ f. onto_on s one both (onto_due left wanted s f) (onto_due right wanted one (onto_due left wanted s f).fine)) (put_goes op both (λ clean. small))) (λ t some f. (onto_same t f, kind))

  pub unary_goes : (operation : Unary) (made : Option Kind) (s : Buffer) → Goes second Kinded s (unary_code operation made s)
  unary_goes unaries.Not made s = one_goes made kinds.Bool put_ops.Not kinds.Bool s (λ clean. refl) refl
  unary_goes unaries.Low made s = one_goes made kinds.Interval (put_ops.BoundOf bounds.Low) kinds.Int s (λ clean. refl) refl
  unary_goes unaries.High made s = one_goes made kinds.Interval (put_ops.BoundOf bounds.High) kinds.Int s (λ clean. refl) refl

  -- ops that compare have no numbers
  abbrev IsSmall : Option Op → Type 0
  IsSmall None = Unit {0}
  IsSmall (Some op) = op_within op ≡ true

  plain_small : (k : Kind) → IsSmall (plain_equality k)
  plain_small kinds.Any = tt
  plain_small kinds.Int = refl
  plain_small kinds.Text = refl
  plain_small kinds.Bool = tt
  plain_small (kinds.Label set) = refl
  plain_small kinds.Interval = tt
  plain_small (kinds.Ref class) = tt
  plain_small (kinds.Old class) = tt
  plain_small (kinds.Seq class) = tt

  equality_small : (l r : Kind) → IsSmall (equality l r)
  unfolding equality
  equality_small l r = by_units _ _
    where
      by_plain : (b : Bool) → IsSmall (cond b (plain_equality l) None)
      by_plain true = plain_small l
      by_plain false = tt

      by_units : (b c : Bool) → IsSmall (cond b (Some put_ops.EqUnit) (cond c (plain_equality l) None))
      by_units true c = refl
      by_units false c = by_plain c

  by_goes : (o : Option Op) (s : Buffer) → IsSmall o → Goes itself Anything s (equality_by o s)
  by_goes None s small f = (onto_noted WrongKind s f, tt)
  by_goes (Some op) s small f = goes_map itself HasOp Anything s (put op s) (λ t some. tt) (put_goes op s (λ clean. small)) f

  equality_goes : (left right : Option Kind) (s : Buffer) → Goes itself Anything s (equality_code left right s)
  equality_goes None right s f = (onto_same s f, tt)
  equality_goes (Some l) None s f = (onto_same s f, tt)
  equality_goes (Some l) (Some r) s f = by_goes (equality l r) s (equality_small l r) f

  pub binary_goes : (operation : Binary) (left right : Option Kind) (s : Buffer) → Goes second Kinded s (binary_code operation left right s)
  unfolding binary_code
  binary_goes binaries.Less left right s = two_goes left right kinds.Int (put_ops.Compare comparisons.Lt) kinds.Bool s refl refl
  binary_goes binaries.AtMost left right s = two_goes left right kinds.Int (put_ops.Compare comparisons.Le) kinds.Bool s refl refl
  binary_goes binaries.Equal left right s = goes_then itself second Anything Kinded s (equality_code left right s) _ (equality_goes left right s) (λ t any f. (onto_same t f, refl))
  binary_goes binaries.Min left right s = two_goes left right kinds.Int (put_ops.Calculate calculations.Min) kinds.Int s refl refl
  binary_goes binaries.Max left right s = two_goes left right kinds.Int (put_ops.Calculate calculations.Max) kinds.Int s refl refl
  binary_goes binaries.Interval left right s = two_goes left right kinds.Int put_ops.MakeInterval kinds.Interval s refl refl

  pub operator_goes : (operator : Operator) (left right : Option Kind) (s : Buffer) → Goes second Kinded s (operator_code operator left right s)
  operator_goes operators.Or left right s = two_goes left right kinds.Bool (put_ops.Combine logics.Or) kinds.Bool s refl refl
  operator_goes operators.And left right s = two_goes left right kinds.Bool (put_ops.Combine logics.And) kinds.Bool s refl refl
  operator_goes operators.Plus left right s = two_goes left right kinds.Int (put_ops.Calculate calculations.Add) kinds.Int s refl refl
  operator_goes operators.Minus left right s = two_goes left right kinds.Int (put_ops.Calculate calculations.Sub) kinds.Int s refl refl
  operator_goes operators.Times left right s = two_goes left right kinds.Int (put_ops.Calculate calculations.Mul) kinds.Int s refl refl

  not_less : (divisor : ℤ) → int_lt divisor (pos 1) ≡ false → int_le (pos 1) divisor ≡ true
  not_less (pos n) h = le-leb 1 n (ltb-false n 1 h)
  not_less (negsuc n) h = absurd cc

  pub division_goes : (division : Division) (divisor : ℤ) (left : Option Kind) (s : Buffer) → eight_bytes divisor ≡ true → Goes second Kinded s (division_code division divisor left s)
  unfolding division_code
  division_goes division divisor left s held =
      goes_from second Kinded s (divisor_noted divisor s) (one_due left kinds.Int (put_ops.Divide (division_op division) divisor) kinds.Int (divisor_noted divisor s)) (onto_if (int_lt divisor (pos 1)) Limit s)
      (one_goes left kinds.Int (put_ops.Divide (division_op division) divisor) kinds.Int (divisor_noted divisor s)
      (λ clean. and_from (eight_bytes divisor) (int_le (pos 1) divisor) held (not_less divisor (fails (int_lt divisor (pos 1)) Limit s clean))) refl)
