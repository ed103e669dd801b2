-- What is known of the frame that an op met, and of the one that it left, where its effect has no flaw.
use Rattle.std.proofs.Common.{◌≡◌, ℕ, true, false, List, ◌∷◌, length, Some, Ok, sym, ap, ◌∙◌}
use Rattle.std.specs.Prelude.{◌==◌, nat_lt, slice_get}
use Rattle.std.proofs.lemmas.Bool.{eqb-true}
use Rattle.bb_basis.specs.Results.{ok_or}
use Rattle.bb_basis.proofs.ResultLemmas.{bind_ok, ok_or_ok, same_ok}
use Rattle.bb_schema_classes.specs.declared.kind.Link.{Link}
use Rattle.bb_schema.specs.Schema.{Schema, descends}
use Rattle.bb_schema.specs.Spaces.{allowed}
use Rattle.bb_code.specs.Code.{Code}
use Rattle.bb_code.specs.Query.{Query}
use Rattle.bb_code.specs.declared.frame.Kind.{Kind}
use Rattle.bb_code.specs.declared.frame.Kind.TheVariants.{Int, Bool as Truth, Label, Ref, Seq}
use Rattle.bb_code.specs.declared.flaw.Flaw.TheVariants as flaws
use Rattle.bb_verify_effect.specs.declared.frame.Frame.{Frame}
use Rattle.bb_verify_effect.specs.declared.part.Part.{Part}
use Rattle.bb_code.specs.Each.{each}
use Rattle.bb_verify_effect.specs.Part.{writes}
use Rattle.bb_verify_effect.specs.Frame.{with_stack, with_local, local_at, room, enough, top, without, push}
use Rattle.bb_verify_effect.specs.Due.{due, label_of, class_of, live, sequence_of, copy_of, sayable, operands_due, plain_slot, link_slot, value_due, partner_due, space_due, known_space, query_due}
use Rattle.bb_verify_effect.specs.Effect.{load, store_local, drop_one, turn, combine, eq_label, eq_unit, get, links, find, size, new_unit, set_slot, relink, enter, leave, after_delete, delete, say}
use Rattle.bb_verify_effect.proofs.DueInversion.{test_ok, due_ok, label_of_ok, sequence_of_ok, live_ok, value_due_ok}
use Rattle.bb_verify_effect.proofs.FrameInversion.{Pushed, push_ok, pop_ok, pop_two_ok, pop_live_ok, enough_ok}

-- ---- locals and plain values

-- a copy of a local was pushed
pub record Loaded (l : ℕ) (f g : Frame) : Type 0 where
  pub kind : Kind
  pub copy : copy_of (local_at l f) ≡ Ok kind
  pub pushed : Pushed kind f g

pub load_ok : (l : ℕ) (f g : Frame) → load l f ≡ Ok g → Loaded l f g
unfolding load
load_ok l f g h =
    let free = bind_ok (room f) _ g h in
    let copy = bind_ok (copy_of (local_at l f)) _ g free.2 in
    record { kind = copy.0; copy = copy.1; pushed = push_ok copy.0 f g copy.2 }

-- an entry went to a local
pub record Stored (l : ℕ) (f g : Frame) : Type 0 where
  pub kind : Kind
  pub rest : List Kind
  pub stack : f.stack ≡ kind ∷ rest
  pub left : with_local l kind (with_stack rest f) ≡ g

pub store_local_ok : (l : ℕ) (f g : Frame) → store_local l f ≡ Ok g → Stored l f g
unfolding store_local
store_local_ok l f g h =
    let one = pop_ok f _ g h in
    record { kind = one.kind; rest = one.rest; stack = one.stack; left = same_ok (with_local l one.kind (with_stack one.rest f)) g one.after }

-- an entry went away
pub record Dropped (f g : Frame) : Type 0 where
  pub kind : Kind
  pub rest : List Kind
  pub stack : f.stack ≡ kind ∷ rest
  pub left : with_stack rest f ≡ g

pub drop_one_ok : (f g : Frame) → drop_one f ≡ Ok g → Dropped f g
unfolding drop_one
drop_one_ok f g h =
    let one = pop_ok f _ g h in
    record { kind = one.kind; rest = one.rest; stack = one.stack; left = same_ok (with_stack one.rest f) g one.after }

-- an entry of one kind gave way to one of another
pub record Turned (from to : Kind) (f g : Frame) : Type 0 where
  pub rest : List Kind
  pub stack : f.stack ≡ from ∷ rest
  pub pushed : Pushed to (with_stack rest f) g

pub turn_ok : (from to : Kind) (f g : Frame) → turn from to f ≡ Ok g → Turned from to f g
unfolding turn
turn_ok from to f g h =
    let one = pop_ok f _ g h in
    let kind = bind_ok (due from one.kind) _ g one.after in
    record {
      rest = one.rest;
      stack = one.stack ∙ ap (λ k. k ∷ one.rest) (sym (due_ok from one.kind kind.0 kind.1));
      pushed = push_ok to (with_stack one.rest f) g kind.2;
    }

-- two entries, of which the first is the deeper one, gave way to one of another kind
pub record Combined (first second to : Kind) (f g : Frame) : Type 0 where
  pub rest : List Kind
  pub stack : f.stack ≡ second ∷ first ∷ rest
  pub pushed : Pushed to (with_stack rest f) g

-- two entries are of the kinds that they were found to be
as_found : (first second one other : Kind) (rest stack : List Kind) → stack ≡ second ∷ first ∷ rest → first ≡ one → second ≡ other → stack ≡ other ∷ one ∷ rest
as_found first second one other rest stack is first_is second_is = is ∙ (ap (λ k. k ∷ first ∷ rest) second_is ∙ ap (λ k. other ∷ k ∷ rest) first_is)

pub combine_ok : (from to : Kind) (f g : Frame) → combine from to f ≡ Ok g → Combined from from to f g
unfolding combine
combine_ok from to f g h =
    let two = pop_two_ok f _ g h in
    let a = bind_ok (due from two.first) _ g two.after in
    let b = bind_ok (due from two.second) _ g a.2 in
    record {
      rest = two.rest;
      stack = as_found two.first two.second from from two.rest f.stack two.stack (sym (due_ok from two.first a.0 a.1)) (sym (due_ok from two.second b.0 b.1));
      pushed = push_ok to (with_stack two.rest f) g b.2;
    }

pub eq_label_ok : (f g : Frame) → eq_label f ≡ Ok g → (set : ℕ) × Combined (Label set) (Label set) Truth f g
unfolding eq_label
eq_label_ok f g h =
    let two = pop_two_ok f _ g h in
    let a = bind_ok (label_of two.first) _ g two.after in
    let b = bind_ok (label_of two.second) _ g a.2 in
    let same = test_ok (a.0 == b.0) flaws.Kind (push Truth (with_stack two.rest f)) g b.2 in (
      a.0,
      record {
        rest = two.rest;
        stack = as_found two.first two.second (Label a.0) (Label a.0) two.rest f.stack two.stack (label_of_ok two.first a.0 a.1)
            (label_of_ok two.second b.0 b.1 ∙ ap Label (sym (eqb-true a.0 b.0 same.0)));
        pushed = push_ok Truth (with_stack two.rest f) g same.1;
      },
    )

-- two units, live or not, gave way to a truth value
pub record EqUnits (f g : Frame) : Type 0 where
  pub first : Kind
  pub second : Kind
  pub class : ℕ
  pub other : ℕ
  pub first_of : class_of first ≡ Ok class
  pub second_of : class_of second ≡ Ok other
  pub combined : Combined first second Truth f g

pub eq_unit_ok : (f g : Frame) → eq_unit f ≡ Ok g → EqUnits f g
unfolding eq_unit
eq_unit_ok f g h =
    let two = pop_two_ok f _ g h in
    let a = bind_ok (class_of two.first) _ g two.after in
    let b = bind_ok (class_of two.second) _ g a.2 in
    record {
      first = two.first;
      second = two.second;
      class = a.0;
      other = b.0;
      first_of = a.1;
      second_of = b.1;
      combined = record { rest = two.rest; stack = two.stack; pushed = push_ok Truth (with_stack two.rest f) g b.2 };
    }

-- ---- units and sequences

-- a live unit gave way to what an ordinary slot of its class holds
pub record Got (s : Schema) (slot : ℕ) (f g : Frame) : Type 0 where
  pub class : ℕ
  pub held : Kind
  pub holds : plain_slot s class slot ≡ Ok held
  pub turned : Turned (Ref class) held f g

pub get_ok : (s : Schema) (slot : ℕ) (f g : Frame) → get s slot f ≡ Ok g → Got s slot f g
unfolding get
get_ok s slot f g h =
    let unit = pop_live_ok f _ g h in
    let held = bind_ok (plain_slot s unit.class slot) _ g unit.after in
    record {
      class = unit.class;
      held = held.0;
      holds = held.1;
      turned = record { rest = unit.rest; stack = unit.stack; pushed = push_ok held.0 (with_stack unit.rest f) g held.2 };
    }

-- a live unit gave way to the units to which a link slot of its class leads
pub record Followed (s : Schema) (slot : ℕ) (f g : Frame) : Type 0 where
  pub class : ℕ
  pub link : Link
  pub leads : link_slot s class slot ≡ Ok link
  pub turned : Turned (Ref class) (Seq link.to) f g

pub links_ok : (s : Schema) (slot : ℕ) (f g : Frame) → links s slot f ≡ Ok g → Followed s slot f g
unfolding links
links_ok s slot f g h =
    let unit = pop_live_ok f _ g h in
    let link = bind_ok (link_slot s unit.class slot) _ g unit.after in
    record {
      class = unit.class;
      link = link.0;
      leads = link.1;
      turned = record { rest = unit.rest; stack = unit.stack; pushed = push_ok (Seq link.0.to) (with_stack unit.rest f) g link.2 };
    }

-- the operands of a query that fits gave way to the units that it finds
pub record Found (s : Schema) (code : Code) (i : ℕ) (f g : Frame) : Type 0 where
  pub query : Query
  pub entry : slice_get code.queries i ≡ Some query
  pub enough : nat_lt (length f.stack) (length query.kinds) ≡ false
  pub fits : query_due s query ≡ Ok tt
  pub operands : operands_due query.kinds (top (length query.kinds) f) ≡ Ok tt
  pub pushed : Pushed (Seq query.class) (without (length query.kinds) f) g

pub find_ok : (s : Schema) (code : Code) (i : ℕ) (f g : Frame) → find s code i f ≡ Ok g → Found s code i f g
unfolding find
find_ok s code i f g h =
    let entry = bind_ok (ok_or (slice_get code.queries i) flaws.Table) _ g h in
    let q = entry.0 in
    let n = length q.kinds in
    let many = bind_ok (enough n f) _ g entry.2 in
    let free = bind_ok (room (without n f)) _ g many.2 in
    let fits = bind_ok (query_due s q) _ g free.2 in
    let operands = bind_ok (operands_due q.kinds (top n f)) _ g fits.2 in
    record {
      query = q;
      entry = ok_or_ok flaws.Table (slice_get code.queries i) q entry.1;
      enough = enough_ok n f many.0 many.1;
      fits = fits.1;
      operands = operands.1;
      pushed = push_ok (Seq q.class) (without n f) g operands.2;
    }

pub size_ok : (f g : Frame) → size f ≡ Ok g → (class : ℕ) × Turned (Seq class) Int f g
unfolding size
size_ok f g h =
    let one = pop_ok f _ g h in
    let class = bind_ok (sequence_of one.kind) _ g one.after in (
      class.0,
      record {
        rest = one.rest;
        stack = one.stack ∙ ap (λ k. k ∷ one.rest) (sequence_of_ok one.kind class.0 class.1);
        pushed = push_ok Int (with_stack one.rest f) g class.2;
      },
    )

-- ---- changes of the blackboard

-- the part may write, and a new unit was pushed
pub record Created (part : Part) (class : ℕ) (f g : Frame) : Type 0 where
  pub may : writes part ≡ Ok tt
  pub pushed : Pushed (Ref class) f g

pub new_unit_ok : (part : Part) (class : ℕ) (f g : Frame) → new_unit part class f ≡ Ok g → Created part class f g
unfolding new_unit
new_unit_ok part class f g h =
    let free = bind_ok (room f) _ g h in
    let may = bind_ok (writes part) _ g free.2 in
    record { may = may.1; pushed = push_ok (Ref class) f g may.2 }

-- a live unit and a value for an ordinary slot of its class went away
pub record SetTo (s : Schema) (part : Part) (slot : ℕ) (f g : Frame) : Type 0 where
  pub class : ℕ
  pub held : Kind
  pub rest : List Kind
  pub stack : f.stack ≡ held ∷ Ref class ∷ rest
  pub holds : plain_slot s class slot ≡ Ok held
  pub may : writes part ≡ Ok tt
  pub left : with_stack rest f ≡ g

pub set_slot_ok : (s : Schema) (part : Part) (slot : ℕ) (f g : Frame) → set_slot s part slot f ≡ Ok g → SetTo s part slot f g
unfolding set_slot
set_slot_ok s part slot f g h =
    let two = pop_two_ok f _ g h in
    let class = bind_ok (class_of two.first) _ g two.after in
    let value = bind_ok (value_due s class.0 slot two.second) _ g class.2 in
    let alive = bind_ok (live two.first) _ g value.2 in
    let held = bind_ok (plain_slot s class.0 slot) _ g alive.2 in
    let may = bind_ok (writes part) _ g held.2 in
    let is = due_ok held.0 two.second value.0 (value_due_ok s class.0 slot held.0 two.second value.0 held.1 value.1) in
    record {
      class = class.0;
      held = held.0;
      rest = two.rest;
      stack = as_found two.first two.second (Ref class.0) held.0 two.rest f.stack two.stack (live_ok two.first class.0 alive.0 class.1 alive.1) (sym is);
      holds = held.1;
      may = may.1;
      left = same_ok (with_stack two.rest f) g may.2;
    }

-- two live units, which are partners by a link slot, went away
pub record Relinked (s : Schema) (part : Part) (slot : ℕ) (f g : Frame) : Type 0 where
  pub class : ℕ
  pub other : ℕ
  pub link : Link
  pub rest : List Kind
  pub stack : f.stack ≡ Ref other ∷ Ref class ∷ rest
  pub leads : link_slot s class slot ≡ Ok link
  pub partner : descends s other link.to ≡ true
  pub may : writes part ≡ Ok tt
  pub left : with_stack rest f ≡ g

pub relink_ok : (s : Schema) (part : Part) (slot : ℕ) (f g : Frame) → relink s part slot f ≡ Ok g → Relinked s part slot f g
unfolding relink partner_due
relink_ok s part slot f g h =
    let two = pop_two_ok f _ g h in
    let class = bind_ok (class_of two.first) _ g two.after in
    let other = bind_ok (class_of two.second) _ g class.2 in
    let alive = bind_ok (live two.first) _ g other.2 in
    let both = bind_ok (live two.second) _ g alive.2 in
    let link = bind_ok (link_slot s class.0 slot) _ g both.2 in
    let partner = bind_ok (partner_due s other.0 link.0.to) _ g link.2 in
    let may = bind_ok (writes part) _ g partner.2 in
    record {
      class = class.0;
      other = other.0;
      link = link.0;
      rest = two.rest;
      stack = as_found two.first two.second (Ref class.0) (Ref other.0) two.rest f.stack two.stack
          (live_ok two.first class.0 alive.0 class.1 alive.1) (live_ok two.second other.0 both.0 other.1 both.1);
      leads = link.1;
      partner = (test_ok (descends s other.0 link.0.to) flaws.LinkClass (Ok tt) partner.0 partner.1).0;
      may = may.1;
      left = same_ok (with_stack two.rest f) g may.2;
    }

-- a live unit, which may be in the space, went away
pub record Entered (s : Schema) (part : Part) (space : ℕ) (f g : Frame) : Type 0 where
  pub class : ℕ
  pub rest : List Kind
  pub stack : f.stack ≡ Ref class ∷ rest
  pub admits : allowed s space class ≡ true
  pub may : writes part ≡ Ok tt
  pub left : with_stack rest f ≡ g

pub enter_ok : (s : Schema) (part : Part) (space : ℕ) (f g : Frame) → enter s part space f ≡ Ok g → Entered s part space f g
unfolding enter space_due
enter_ok s part space f g h =
    let unit = pop_live_ok f _ g h in
    let admits = bind_ok (space_due s space unit.class) _ g unit.after in
    let may = bind_ok (writes part) _ g admits.2 in
    record {
      class = unit.class;
      rest = unit.rest;
      stack = unit.stack;
      admits = (test_ok (allowed s space unit.class) flaws.Space (Ok tt) admits.0 admits.1).0;
      may = may.1;
      left = same_ok (with_stack unit.rest f) g may.2;
    }

-- a live unit went away, and the space is there
pub record Left (s : Schema) (part : Part) (space : ℕ) (f g : Frame) : Type 0 where
  pub class : ℕ
  pub rest : List Kind
  pub stack : f.stack ≡ Ref class ∷ rest
  pub known : nat_lt space (length s.spaces) ≡ true
  pub may : writes part ≡ Ok tt
  pub left : with_stack rest f ≡ g

pub leave_ok : (s : Schema) (part : Part) (space : ℕ) (f g : Frame) → leave s part space f ≡ Ok g → Left s part space f g
unfolding leave known_space
leave_ok s part space f g h =
    let unit = pop_live_ok f _ g h in
    let known = bind_ok (known_space s space) _ g unit.after in
    let may = bind_ok (writes part) _ g known.2 in
    record {
      class = unit.class;
      rest = unit.rest;
      stack = unit.stack;
      known = (test_ok (nat_lt space (length s.spaces)) flaws.Space (Ok tt) known.0 known.1).0;
      may = may.1;
      left = same_ok (with_stack unit.rest f) g may.2;
    }

-- a live unit went away, and units that may be that one are old
pub record Deleted (s : Schema) (part : Part) (f g : Frame) : Type 0 where
  pub class : ℕ
  pub rest : List Kind
  pub stack : f.stack ≡ Ref class ∷ rest
  pub may : writes part ≡ Ok tt
  pub left : after_delete s class (with_stack rest f) ≡ g

pub delete_ok : (s : Schema) (part : Part) (f g : Frame) → delete s part f ≡ Ok g → Deleted s part f g
unfolding delete
delete_ok s part f g h =
    let unit = pop_live_ok f _ g h in
    let may = bind_ok (writes part) _ g unit.after in
    record { class = unit.class; rest = unit.rest; stack = unit.stack; may = may.1; left = same_ok (after_delete s unit.class (with_stack unit.rest f)) g may.2 }

-- so many entries, none of them a sequence, went away
pub record Said (part : Part) (count : ℕ) (f g : Frame) : Type 0 where
  pub enough : nat_lt (length f.stack) count ≡ false
  pub can : each sayable (top count f) ≡ Ok tt
  pub may : writes part ≡ Ok tt
  pub left : without count f ≡ g

pub say_ok : (part : Part) (count : ℕ) (f g : Frame) → say part count f ≡ Ok g → Said part count f g
unfolding say
say_ok part count f g h =
    let many = bind_ok (enough count f) _ g h in
    let can = bind_ok (each sayable (top count f)) _ g many.2 in
    let may = bind_ok (writes part) _ g can.2 in
    record { enough = enough_ok count f many.0 many.1; can = can.1; may = may.1; left = same_ok (without count f) g may.2 }
