-- The effect of an op on the frame of its place, or its first flaw (of this project). An op checks, in this order: the
-- number of operands and the room on the stack; the kinds of the operands; units that have to be live; its slot; the
-- class of a link; its space; its query, but before the kinds of the query's operands; whether the part may change the
-- blackboard; whether the part may end with it.
use Rattle.std.specs.Prelude.{ℕ, length, map, slice_get, Some, None, ◌==◌, Result, Ok, Err, if◌then◌else◌}
use Rattle.bb_basis.specs.Results.{◌>>=◌, ok_or}
use Rattle.bb_schema.specs.Schema.{Schema}
use Rattle.bb_code.specs.Code.{Code}
use Rattle.bb_code.specs.declared.frame.Kind.{Kind}
use Rattle.bb_code.specs.declared.frame.Kind.TheVariants.{Int, Text, Bool as Truth, Label, Interval, Ref, Seq}
use Rattle.bb_code.specs.declared.op.Op.{Op}
use Rattle.bb_code.specs.declared.op.Op.TheVariants as ops
use Rattle.bb_verify_effect.specs.Edges.{Edges}
use Rattle.bb_code.specs.declared.flaw.Flaw.{Flaw}
use Rattle.bb_code.specs.declared.flaw.Flaw.TheVariants as flaws
use Rattle.bb_verify_effect.specs.declared.frame.Frame.{Frame}
use Rattle.bb_verify_effect.specs.declared.part.Part.{Part}
use Rattle.bb_code.specs.Each.{each}
use Rattle.bb_verify_effect.specs.Part.{writes, ends_done, ends_rated, ends_answered}
use Rattle.bb_verify_effect.specs.Frame.{pop, pop_two, enough, top, without, room, push, local_at, with_local}
use Rattle.bb_verify_effect.specs.Due.{due, label_of, class_of, live, sequence_of, copy_of, sayable, operands_due, plain_slot, link_slot, single_slot, value_due, partner_due, space_due, known_space, query_due}
use Rattle.bb_verify_effect.specs.Kinds.{struck}

-- ---- locals and plain values

-- pushes a copy of a local
unfoldable pub load : ℕ → Frame → Result Frame Flaw
load l f = do
  _ ← room f
  k ← copy_of (local_at l f)
  push k f

unfoldable pub store_local : ℕ → Frame → Result Frame Flaw
store_local l f = do
  k ← pop f
  Ok (with_local l k.0 k.1)

unfoldable pub drop_one : Frame → Result Frame Flaw
drop_one f = do
  k ← pop f
  Ok k.1

-- replaces an operand of kind `from` by a result of kind `to`
unfoldable pub turn : (from to : Kind) → Frame → Result Frame Flaw
turn from to f = do
  k ← pop f
  _ ← due from k.0
  push to k.1

-- replaces two operands of kind `from` by a result of kind `to`
unfoldable pub combine : (from to : Kind) → Frame → Result Frame Flaw
combine from to f = do
  two ← pop_two f
  _ ← due from two.0.0
  _ ← due from two.0.1
  push to two.1

-- compares two labels of the same set
unfoldable pub eq_label : Frame → Result Frame Flaw
eq_label f = do
  two ← pop_two f
  a ← label_of two.0.0
  b ← label_of two.0.1
  if a == b then push Truth two.1 else Err flaws.Kind

-- compares two units, live or old
unfoldable pub eq_unit : Frame → Result Frame Flaw
eq_unit f = do
  two ← pop_two f
  _ ← class_of two.0.0
  _ ← class_of two.0.1
  push Truth two.1

-- ---- units and sequences

-- the class of the newest entry, a live unit, and the frame without it
unfoldable pub pop_live : Frame → Result (ℕ × Frame) Flaw
pop_live f = do
  k ← pop f
  class ← class_of k.0
  _ ← live k.0
  Ok (class, k.1)

unfoldable pub get : Schema → ℕ → Frame → Result Frame Flaw
get s slot f = do
  unit ← pop_live f
  held ← plain_slot s unit.0 slot
  push held unit.1

unfoldable pub links : Schema → ℕ → Frame → Result Frame Flaw
links s slot f = do
  unit ← pop_live f
  link ← link_slot s unit.0 slot
  push (Seq link.to) unit.1

unfoldable pub find : Schema → Code → ℕ → Frame → Result Frame Flaw
find s code i f = do
  q ← ok_or (slice_get code.queries i) flaws.Table
  _ ← enough (length q.kinds) f
  _ ← room (without (length q.kinds) f)
  _ ← query_due s q
  _ ← operands_due q.kinds (top (length q.kinds) f)
  push (Seq q.class) (without (length q.kinds) f)

unfoldable pub size : Frame → Result Frame Flaw
size f = do
  k ← pop f
  _ ← sequence_of k.0
  push Int k.1

-- ---- changes of the blackboard

unfoldable pub new_unit : Part → ℕ → Frame → Result Frame Flaw
new_unit part class f = do
  _ ← room f
  _ ← writes part
  push (Ref class) f

unfoldable pub set_slot : Schema → Part → ℕ → Frame → Result Frame Flaw
set_slot s part slot f = do
  two ← pop_two f
  class ← class_of two.0.0
  _ ← value_due s class slot two.0.1
  _ ← live two.0.0
  _ ← plain_slot s class slot
  _ ← writes part
  Ok two.1

-- links or unlinks
unfoldable pub relink : Schema → Part → ℕ → Frame → Result Frame Flaw
relink s part slot f = do
  two ← pop_two f
  class ← class_of two.0.0
  other ← class_of two.0.1
  _ ← live two.0.0
  _ ← live two.0.1
  link ← link_slot s class slot
  _ ← partner_due s other link.to
  _ ← writes part
  Ok two.1

unfoldable pub enter : Schema → Part → ℕ → Frame → Result Frame Flaw
enter s part space f = do
  unit ← pop_live f
  _ ← space_due s space unit.0
  _ ← writes part
  Ok unit.1

unfoldable pub leave : Schema → Part → ℕ → Frame → Result Frame Flaw
leave s part space f = do
  unit ← pop_live f
  _ ← known_space s space
  _ ← writes part
  Ok unit.1

-- locals and entries that could be the deleted unit, or a unit deleted with it, become old
unfoldable pub after_delete : Schema → ℕ → Frame → Frame
after_delete s class f = record { locals = map (struck s class) f.locals; stack = map (struck s class) f.stack }

unfoldable pub delete : Schema → Part → Frame → Result Frame Flaw
delete s part f = do
  unit ← pop_live f
  _ ← writes part
  Ok (after_delete s unit.0 unit.1)

unfoldable pub say : Part → ℕ → Frame → Result Frame Flaw
say part count f = do
  _ ← enough count f
  _ ← each sayable (top count f)
  _ ← writes part
  Ok (without count f)

-- ---- ops that may jump

-- execution continues with the next op only
abbrev pub on : Result Frame Flaw → Result Edges Flaw
on after = after >>= λ f. Ok (record { on = Some f; target = None })

-- execution continues with the next op or at the target
abbrev pub either : Frame → Frame → Edges
either next there = record { on = Some next; target = Some there }

-- execution continues at the target only
abbrev pub only_there : Frame → Edges
only_there f = record { on = None; target = Some f }

-- the execution ends
abbrev pub ended : Edges
ended = record { on = None; target = None }

unfoldable pub one : Schema → ℕ → Frame → Result Edges Flaw
one s slot f = do
  unit ← pop_live f
  link ← single_slot s unit.0 slot
  next ← push (Ref link.to) unit.1
  Ok (either next unit.1)

unfoldable pub alive : Frame → Result Edges Flaw
alive f = do
  k ← pop f
  class ← class_of k.0
  next ← push (Ref class) k.1
  Ok (either next k.1)

unfoldable pub as_class : ℕ → Frame → Result Edges Flaw
as_class class f = do
  unit ← pop_live f
  next ← push (Ref class) unit.1
  Ok (either next unit.1)

unfoldable pub unless : Frame → Result Edges Flaw
unless f = do
  k ← pop f
  _ ← due Truth k.0
  Ok (either k.1 k.1)

unfoldable pub next_unit : ℕ → Frame → Result Edges Flaw
next_unit l f = do
  _ ← room f
  class ← sequence_of (local_at l f)
  next ← push (Ref class) f
  Ok (either next f)

-- ---- ends

unfoldable pub done : Part → Result Edges Flaw
done part = do
  _ ← ends_done part
  Ok ended

unfoldable pub rate : Part → Frame → Result Edges Flaw
rate part f = do
  k ← pop f
  _ ← due Int k.0
  _ ← ends_rated part
  Ok ended

unfoldable pub decline : Part → Result Edges Flaw
decline part = do
  _ ← ends_rated part
  Ok ended

unfoldable pub answer : Part → Frame → Result Edges Flaw
answer part f = do
  k ← pop f
  _ ← due Truth k.0
  _ ← ends_answered part
  Ok ended

-- ---- all ops

unfoldable pub effect : Schema → Part → Code → Op → Frame → Result Edges Flaw
effect s part code (ops.PushInt n) f = on (push Int f)
effect s part code (ops.PushText text) f = on (push Text f)
effect s part code (ops.PushBool truth) f = on (push Truth f)
effect s part code (ops.PushLabel set label) f = on (push (Label set) f)
effect s part code (ops.Load l) f = on (load l f)
effect s part code (ops.Store l) f = on (store_local l f)
effect s part code ops.Pop f = on (drop_one f)
effect s part code (ops.Calculate c) f = on (combine Int Int f)
effect s part code (ops.Divide d n) f = on (turn Int Int f)
effect s part code (ops.Compare c) f = on (combine Int Truth f)
effect s part code ops.EqText f = on (combine Text Truth f)
effect s part code ops.EqLabel f = on (eq_label f)
effect s part code ops.EqUnit f = on (eq_unit f)
effect s part code ops.Not f = on (turn Truth Truth f)
effect s part code (ops.Combine l) f = on (combine Truth Truth f)
effect s part code ops.MakeInterval f = on (combine Int Interval f)
effect s part code (ops.BoundOf e) f = on (turn Interval Int f)
effect s part code (ops.Get slot) f = on (get s slot f)
effect s part code (ops.One slot place) f = one s slot f
effect s part code (ops.Links slot) f = on (links s slot f)
effect s part code (ops.Find query) f = on (find s code query f)
effect s part code ops.Size f = on (size f)
effect s part code (ops.Alive place) f = alive f
effect s part code (ops.As class place) f = as_class class f
effect s part code (ops.New class) f = on (new_unit part class f)
effect s part code (ops.Set slot) f = on (set_slot s part slot f)
effect s part code (ops.Relink change slot) f = on (relink s part slot f)
effect s part code (ops.Enter space) f = on (enter s part space f)
effect s part code (ops.Leave space) f = on (leave s part space f)
effect s part code ops.Delete f = on (delete s part f)
effect s part code (ops.Say count) f = on (say part count f)
effect s part code (ops.Jump place) f = Ok (only_there f)
effect s part code (ops.Unless place) f = unless f
effect s part code (ops.Next l place) f = next_unit l f
effect s part code (ops.Back place) f = Ok (only_there f)
effect s part code ops.Done f = done part
effect s part code ops.Rate f = rate part f
effect s part code ops.Decline f = decline part
effect s part code ops.Answer f = answer part f
