-- No op that leaves the blackboard as it is ends an execution as full, or asks for memory.
use Rattle.std.proofs.Common.{◌≡◌, ℕ, ℤ, Bool, true, false, cond, List, [], ◌∷◌, length, Option, Some, None, Result, Ok, Err}
use Rattle.std.specs.Prelude.{not, nat_le, nat_lt, slice_get, option_and_then, reverse, take, drop, ◌==◌}
use Rattle.std.specs.Str.{bytes_eq}
use Rattle.std.specs.Int.{int_min, int_max}
use Rattle.bb_basis.specs.Results.{◌>>=◌, ok_or}
use Rattle.bb_code.specs.declared.op.Bound.{Bound}
use Rattle.bb_code.specs.declared.op.Calculation.{Calculation}
use Rattle.bb_code.specs.Code.{Code}
use Rattle.bb_code.specs.declared.op.Comparison.{Comparison}
use Rattle.bb_code.specs.declared.op.Division.{Division}
use Rattle.bb_code.specs.declared.op.Logic.{Logic}
use Rattle.bb_code.specs.declared.parts.TheConstants.{STACK_LIMIT}
use Rattle.bb_links.specs.Links.{ends}
use Rattle.bb_schema.specs.Schema.{name_of_label, descends}
use Rattle.bb_pattern.specs.declared.query.Query.{Query}
use Rattle.bb_pattern.specs.declared.value.OperandKind.{OperandKind}
use Rattle.bb_pattern.specs.declared.value.OperandKind.TheVariants as kinds
use Rattle.bb_pattern.specs.Fits.{query_fits}
use Rattle.bb_query.specs.Answer as queries
use Rattle.bb_board.specs.Board.{Board}
use Rattle.bb_units.specs.Units.{is_live, is_full, value_of}
use Rattle.bb_board.specs.May.{has_link}
use Rattle.bb_board.specs.World.{class_at}
use Rattle.bb_machine.specs.Sequence.{whole}
use Rattle.bb_machine.specs.declared.halt.Halt.{Halt}
use Rattle.bb_machine.specs.declared.halt.Halt.TheVariants as halts
use Rattle.bb_machine.specs.declared.outcome.Stuck.TheVariants as stucks
use Rattle.bb_machine.specs.declared.value.Value.{Value}
use Rattle.bb_machine.specs.declared.value.Value.TheVariants as values
use Rattle.bb_machine.specs.Value.{stuck, int_of, text_of, bool_of, label_of, interval_of, unit_of, sequence_of, copy_of, value_from}
use Rattle.bb_machine.specs.Machine.{Machine, there, go_to, with_stack, newest, pop, pop_two, pop_many, room, push, local_at, store, taken}
use Rattle.bb_machine.specs.Arithmetic.{calculated, divided, compared, combined, bound_of}
use Rattle.bb_machine.specs.Arithmetic.{calculate, divide, compare, eq_text, eq_label, eq_unit, negate, combine, make_interval, bound}
use Rattle.bb_machine.specs.Reading.{push_text, push_label, load, store_local, drop_one, live, pop_unit, pop_live, get, push_found, any_link, is_singular, one_link}
use Rattle.bb_machine.specs.Reading.{push_partner, one, links, alive, as_class, operand_due, operands_due, right_query, find, size}

-- ---- why no op follows

-- a unit is wanted where none can be created; memory is wanted nowhere
abbrev pub HaltsFor : Board → Halt → Type 0
HaltsFor b (halts.Answered a) = Unit {0}
HaltsFor b halts.Full = is_full b.world.units ≡ true
HaltsFor b (halts.Stuck reason) = Unit {0}
HaltsFor b halts.Memory = ⊥

-- an op, or a part of it, ends as full only where no unit can be created, and never for want of memory
abbrev pub EndsFor : {A : Type 0} → Board → Result A Halt → Type 0
EndsFor b (Ok x) = Unit {0}
EndsFor b (Err halt) = HaltsFor b halt

module _ (b : Board) where
  -- ---- parts of ops

  pub part : {A B : Type 0} (r : Result A Halt) (f : A → Result B Halt) → EndsFor b r → ((a : A) → EndsFor b (f a)) → EndsFor b (r >>= f)
  part (Ok a) f first later = later a
  part (Err halt) f first later = first

  pub test : {A : Type 0} (t : Bool) (r q : Result A Halt) → EndsFor b r → EndsFor b q → EndsFor b (cond t r q)
  test true r q left right = left
  test false r q left right = right

  pub ends_there : {A : Type 0} (x : Option A) → EndsFor b (there x)
  ends_there None = tt
  ends_there (Some x) = tt

  pub ends_newest : (stack : List Value) (m : Machine) → EndsFor b (newest stack m)
  ends_newest [] m = tt
  ends_newest (v ∷ rest) m = tt

  pub ends_pop : (m : Machine) → EndsFor b (pop m)
  unfolding pop
  ends_pop m = ends_newest m.stack m

  pub ends_pop_two : (m : Machine) → EndsFor b (pop_two m)
  unfolding pop_two
  ends_pop_two m = part (pop m) _ (ends_pop m) (λ second. part (pop second.1) _ (ends_pop second.1) (λ first. tt))

  pub ends_pop_many : (n : ℕ) (m : Machine) → EndsFor b (pop_many n m)
  unfolding pop_many
  ends_pop_many n m = test (nat_lt (length m.stack) n) (stuck stucks.Missing) (Ok (reverse (take n m.stack), with_stack (drop n m.stack) m)) tt tt

  pub ends_room : (m : Machine) → EndsFor b (room m)
  unfolding room
  ends_room m = test (nat_le STACK_LIMIT (length m.stack)) (stuck stucks.Outside) (Ok tt) tt tt

  pub ends_push : (v : Value) (m : Machine) → EndsFor b (push v m)
  unfolding push
  ends_push v m = part (room m) _ (ends_room m) (λ _. tt)

  pub ends_local : (l : ℕ) (m : Machine) → EndsFor b (local_at l m)
  unfolding local_at
  ends_local l m = ends_there (option_and_then (λ v. v) (slice_get m.locals l))

  pub ends_store : (l : ℕ) (v : Value) (m : Machine) → EndsFor b (store l v m)
  unfolding store
  ends_store l v m = test (nat_le (length m.locals) l) (stuck stucks.Missing) _ tt tt

  pub ends_taken : (l : ℕ) (m : Machine) → EndsFor b (taken l m)
  unfolding taken
  ends_taken l m = part (local_at l m) _ (ends_local l m) (λ v. tt)

  -- ---- sorts

  pub ends_int : (v : Value) → EndsFor b (int_of v)
  ends_int (values.Int n) = tt
  ends_int _ = tt

  pub ends_text : (v : Value) → EndsFor b (text_of v)
  ends_text (values.Text t) = tt
  ends_text _ = tt

  pub ends_bool : (v : Value) → EndsFor b (bool_of v)
  ends_bool (values.Bool t) = tt
  ends_bool _ = tt

  pub ends_label : (v : Value) → EndsFor b (label_of v)
  ends_label (values.Label set label) = tt
  ends_label _ = tt

  pub ends_interval : (v : Value) → EndsFor b (interval_of v)
  ends_interval (values.Interval low high) = tt
  ends_interval _ = tt

  pub ends_unit : (v : Value) → EndsFor b (unit_of v)
  ends_unit (values.Unit n) = tt
  ends_unit _ = tt

  pub ends_sequence : (v : Value) → EndsFor b (sequence_of v)
  ends_sequence (values.Seq q) = tt
  ends_sequence _ = tt

  pub ends_copy : (v : Value) → EndsFor b (copy_of v)
  ends_copy (values.Seq q) = tt
  ends_copy _ = tt

  -- ---- ops on numbers, truth values, texts, labels and intervals

  -- one value of a sort becomes another
  turn_ends : {A : Type 0} (of : Value → Result A Halt) (made : A → Value) (m : Machine) → ((v : Value) → EndsFor b (of v))
      → EndsFor b (pop m >>= λ v. of v.0 >>= λ x. push (made x) v.1)
  turn_ends of made m sort = part (pop m) _ (ends_pop m) (λ v. part (of v.0) _ (sort v.0) (λ x. ends_push (made x) v.1))

  -- two values of a sort become one
  joined : {A : Type 0} (of : Value → Result A Halt) (made : A → A → Value) (m : Machine) → ((v : Value) → EndsFor b (of v))
      → EndsFor b (pop_two m >>= λ two. of two.0.0 >>= λ x. of two.0.1 >>= λ y. push (made x y) two.1)
  joined of made m sort =
      part (pop_two m) _ (ends_pop_two m) (λ two. part (of two.0.0) _ (sort two.0.0) (λ x. part (of two.0.1) _ (sort two.0.1) (λ y. ends_push (made x y) two.1)))

  pub ends_calculate : (c : Calculation) (m : Machine) → EndsFor b (calculate c m)
  unfolding calculate
  ends_calculate c m = joined int_of (λ x y. values.Int (calculated c x y)) m ends_int

  pub ends_divide : (d : Division) (n : ℤ) (m : Machine) → EndsFor b (divide d n m)
  unfolding divide
  ends_divide d n m = turn_ends int_of (λ x. values.Int (divided d x n)) m ends_int

  pub ends_compare : (c : Comparison) (m : Machine) → EndsFor b (compare c m)
  unfolding compare
  ends_compare c m = joined int_of (λ x y. values.Bool (compared c x y)) m ends_int

  pub ends_eq_text : (m : Machine) → EndsFor b (eq_text m)
  unfolding eq_text
  ends_eq_text m = joined text_of (λ x y. values.Bool (bytes_eq x y)) m ends_text

  pub ends_eq_label : (m : Machine) → EndsFor b (eq_label m)
  unfolding eq_label
  ends_eq_label m =
      part (pop_two m) _ (ends_pop_two m)
      (λ two. part (label_of two.0.0) _ (ends_label two.0.0)
      (λ x. part (label_of two.0.1) _ (ends_label two.0.1)
      (λ y. test (x.0 == y.0) (push (values.Bool (x.1 == y.1)) two.1) (stuck stucks.Kind) (ends_push _ two.1) tt)))

  pub ends_eq_unit : (m : Machine) → EndsFor b (eq_unit m)
  unfolding eq_unit
  ends_eq_unit m = joined unit_of (λ x y. values.Bool (x == y)) m ends_unit

  pub ends_negate : (m : Machine) → EndsFor b (negate m)
  unfolding negate
  ends_negate m = turn_ends bool_of (λ x. values.Bool (not x)) m ends_bool

  pub ends_combine : (l : Logic) (m : Machine) → EndsFor b (combine l m)
  unfolding combine
  ends_combine l m = joined bool_of (λ x y. values.Bool (combined l x y)) m ends_bool

  pub ends_make_interval : (m : Machine) → EndsFor b (make_interval m)
  unfolding make_interval
  ends_make_interval m = joined int_of (λ x y. values.Interval (int_min x y) (int_max x y)) m ends_int

  pub ends_bound : (e : Bound) (m : Machine) → EndsFor b (bound e m)
  unfolding bound
  ends_bound e m = turn_ends interval_of (λ x. values.Int (bound_of e x)) m ends_interval

  -- ---- ops that only read the blackboard

  pub ends_push_text : (code : Code) (i : ℕ) (m : Machine) → EndsFor b (push_text code i m)
  unfolding push_text
  ends_push_text code i m = part (there (slice_get code.texts i)) _ (ends_there (slice_get code.texts i)) (λ text. ends_push (values.Text text) m)

  pub ends_push_label : (set label : ℕ) (m : Machine) → EndsFor b (push_label b set label m)
  unfolding push_label
  ends_push_label set label m =
      part (there (name_of_label b.schema set label)) _ (ends_there (name_of_label b.schema set label)) (λ _. ends_push (values.Label set label) m)

  pub ends_load : (l : ℕ) (m : Machine) → EndsFor b (load l m)
  unfolding load
  ends_load l m = part (local_at l m) _ (ends_local l m) (λ held. part (copy_of held) _ (ends_copy held) (λ v. ends_push v m))

  pub ends_store_local : (l : ℕ) (m : Machine) → EndsFor b (store_local l m)
  unfolding store_local
  ends_store_local l m = part (pop m) _ (ends_pop m) (λ v. ends_store l v.0 v.1)

  pub ends_drop_one : (m : Machine) → EndsFor b (drop_one m)
  unfolding drop_one
  ends_drop_one m = part (pop m) _ (ends_pop m) (λ v. tt)

  pub ends_live : (n : ℕ) → EndsFor b (live b n)
  unfolding live
  ends_live n = test (is_live b.world.units n) (Ok tt) (stuck stucks.Deleted) tt tt

  pub ends_pop_unit : (m : Machine) → EndsFor b (pop_unit m)
  unfolding pop_unit
  ends_pop_unit m = part (pop m) _ (ends_pop m) (λ v. part (unit_of v.0) _ (ends_unit v.0) (λ n. tt))

  pub ends_pop_live : (m : Machine) → EndsFor b (pop_live b m)
  unfolding pop_live
  ends_pop_live m = part (pop_unit m) _ (ends_pop_unit m) (λ u. part (live b u.0) _ (ends_live u.0) (λ _. tt))

  pub ends_slot : {A : Type 0} (x : Option A) → EndsFor b (ok_or x (halts.Stuck stucks.Slot))
  ends_slot None = tt
  ends_slot (Some x) = tt

  pub ends_get : (slot : ℕ) (m : Machine) → EndsFor b (get b slot m)
  unfolding get
  ends_get slot m =
      part (pop_live b m) _ (ends_pop_live m)
      (λ u. part (ok_or (value_of b.world.units u.0 slot) (halts.Stuck stucks.Slot)) _ (ends_slot (value_of b.world.units u.0 slot))
      (λ v. ends_push (value_from v) u.1))

  pub ends_push_found : (units : List ℕ) (m : Machine) → EndsFor b (push_found units m)
  unfolding push_found
  ends_push_found units m = part (push (values.Seq (whole units)) m) _ (ends_push (values.Seq (whole units)) m) (λ next. tt)

  pub ends_any_link : (n slot : ℕ) → EndsFor b (any_link b n slot)
  unfolding any_link
  ends_any_link n slot = test (has_link b.schema (class_at b.world n) slot) (Ok tt) (stuck stucks.Slot) tt tt

  pub ends_one_link : (n slot : ℕ) → EndsFor b (one_link b n slot)
  unfolding one_link
  ends_one_link n slot = part (any_link b n slot) _ (ends_any_link n slot) (λ _. test (is_singular b.schema slot) (Ok tt) (stuck stucks.Slot) tt tt)

  pub ends_partner : (partner : Option ℕ) (place : ℕ) (m : Machine) → EndsFor b (push_partner partner place m)
  ends_partner None place m = tt
  ends_partner (Some n) place m = ends_push (values.Unit n) m

  pub ends_one : (slot place : ℕ) (m : Machine) → EndsFor b (one b slot place m)
  unfolding one
  ends_one slot place m =
      part (pop_live b m) _ (ends_pop_live m)
      (λ u. part (one_link b u.0 slot) _ (ends_one_link u.0 slot)
      (λ _. ends_partner (slice_get (ends b.world.links u.0 slot) 0) place u.1))

  pub ends_links : (slot : ℕ) (m : Machine) → EndsFor b (links b slot m)
  unfolding links
  ends_links slot m =
      part (pop_live b m) _ (ends_pop_live m)
      (λ u. part (any_link b u.0 slot) _ (ends_any_link u.0 slot)
      (λ _. ends_push_found (ends b.world.links u.0 slot) u.1))

  pub ends_alive : (place : ℕ) (m : Machine) → EndsFor b (alive b place m)
  unfolding alive
  ends_alive place m =
      part (pop_unit m) _ (ends_pop_unit m)
      (λ u. test (is_live b.world.units u.0) (push (values.Unit u.0) u.1) (Ok (go_to place u.1)) (ends_push (values.Unit u.0) u.1) tt)

  pub ends_as_class : (class place : ℕ) (m : Machine) → EndsFor b (as_class b class place m)
  unfolding as_class
  ends_as_class class place m =
      part (pop m) _ (ends_pop m)
      (λ v. part (there (slice_get b.schema.classes class)) _ (ends_there (slice_get b.schema.classes class))
      (λ _. part (unit_of v.0) _ (ends_unit v.0)
      (λ n. part (live b n) _ (ends_live n)
      (λ _. test (descends b.schema (class_at b.world n) class) (push (values.Unit n) v.1) (Ok (go_to place v.1)) (ends_push (values.Unit n) v.1) tt))))

  -- ---- queries

  pub ends_operand : (k : OperandKind) (v : Value) → EndsFor b (operand_due k v)
  ends_operand kinds.Interval (values.Interval low high) = tt
  ends_operand (kinds.Label set) (values.Label of label) = test (of == set) _ (stuck stucks.Kind) tt tt
  ends_operand _ _ = tt

  pub ends_operands : (ks : List OperandKind) (vs : List Value) → EndsFor b (operands_due ks vs)
  unfolding operands_due
  ends_operands (k ∷ ks) (v ∷ vs) = part (operand_due k v) _ (ends_operand k v) (λ first. part (operands_due ks vs) _ (ends_operands ks vs) (λ others. tt))
  ends_operands (k ∷ ks) [] = tt
  ends_operands [] vs = tt

  by_fit : {F : Type 0} (r : Result (Unit {0}) F) → (let x : Result (Unit {0}) Halt = elim r [ Ok _ ↦ Ok tt | Err _ ↦ stuck stucks.Slot ] in EndsFor b x)
  by_fit (Ok _) = tt
  by_fit (Err _) = tt

  pub ends_right_query : (q : Query) → EndsFor b (right_query b q)
  unfolding right_query
  ends_right_query q = by_fit (query_fits b.schema q)

  pub ends_find : (code : Code) (i : ℕ) (m : Machine) → EndsFor b (find code b i m)
  unfolding find
  ends_find code i m =
      part (there (slice_get code.queries i)) _ (ends_there (slice_get code.queries i))
      (λ q. part (pop_many (length q.kinds) m) _ (ends_pop_many (length q.kinds) m)
      (λ popped. part (right_query b q) _ (ends_right_query q)
      (λ _. part (operands_due q.kinds popped.0) _ (ends_operands q.kinds popped.0)
      (λ operands. ends_push_found (queries.answer b.schema b.world.units b.world.spaces q operands) popped.1))))

  pub ends_size : (m : Machine) → EndsFor b (size m)
  unfolding size
  ends_size m = part (pop m) _ (ends_pop m) (λ v. part (sequence_of v.0) _ (ends_sequence v.0) (λ q. ends_push _ v.1))
