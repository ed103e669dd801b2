-- What holds of the frame that an op meets holds of each that it leaves, where each change of a frame keeps it.
use Rattle.std.proofs.Common.{◌≡◌, ℕ, true, List, ◌∷◌, length, drop, Option, Some, None, Result, Ok, refl, subst}
use Rattle.bb_basis.proofs.ResultLemmas.{same_ok}
use Rattle.bb_verify_effect.specs.SlotKind.{Kind as SlotKind}
use Rattle.bb_verify_effect.specs.SlotKind.TheVariants as slots
use Rattle.bb_schema.specs.Schema.{Schema}
use Rattle.bb_code.specs.Code.{Code}
use Rattle.bb_code.specs.declared.frame.Kind.{Kind}
use Rattle.bb_code.specs.declared.frame.Kind.TheVariants.{Any, Int, Text, Bool as Truth, Label, Interval, Ref, Seq}
use Rattle.bb_code.specs.declared.op.Op.{Op}
use Rattle.bb_code.specs.declared.op.Op.TheVariants as ops
use Rattle.bb_verify_effect.specs.Edges.{Edges}
use Rattle.bb_code.specs.declared.flaw.Flaw.{Flaw}
use Rattle.bb_verify_effect.specs.declared.frame.Frame.{Frame}
use Rattle.bb_verify_effect.specs.declared.part.Part.{Part}
use Rattle.bb_verify_effect.specs.Frame.{with_stack, without, local_at, with_local, push}
use Rattle.bb_verify_effect.specs.Due as dues
use Rattle.bb_verify_effect.specs.Effect as effects
use Rattle.bb_verify_effect.specs.Effect.{effect, on}
use Rattle.bb_verify.specs.Facts.{is_known}
use Rattle.bb_verify_effect.proofs.Laws.{plain_slot_ok, Pushed, push_ok, load_ok, store_local_ok, drop_one_ok, Turned, turn_ok, Combined, combine_ok, eq_label_ok, eq_unit_ok, get_ok, links_ok, find_ok, size_ok, new_unit_ok, set_slot_ok, relink_ok, enter_ok, leave_ok, delete_ok, say_ok, on_ok, Branched, one_ok, alive_ok, as_class_ok, unless_ok, next_unit_ok, done_ok, decline_ok, rate_ok, answer_ok}

-- ---- kinds that ops push

abbrev pub IsKnown : Kind → Type 0
IsKnown k = is_known k ≡ true

copied : (k j : Kind) → dues.copy_of k ≡ Ok j → IsKnown j
copied Any j h = absurd cc
copied _ Any h = absurd cc
copied _ _ h = refl

plain_known : (held : SlotKind) (k : Kind) → dues.plain_kind held ≡ Some k → IsKnown k
plain_known (slots.Link l) k h = absurd cc
plain_known _ Any h = absurd cc
plain_known _ _ h = refl

slot_known : (s : Schema) (class slot : ℕ) (k : Kind) → dues.plain_slot s class slot ≡ Ok k → IsKnown k
slot_known s class slot k h = let held = plain_slot_ok s class slot k h in plain_known held.0 k held.2

-- ---- the rule

module _ (Holds : Frame → Type 0) where
  -- entries that go away keep it, one of a known kind that is pushed, a local that is set, and a deletion
  pub record IsKept : Type 0 where
    pub drops : (n : ℕ) (f : Frame) → Holds f → Holds (without n f)
    pub pushes : (k : Kind) (f : Frame) → IsKnown k → Holds f → Holds (with_stack (k ∷ f.stack) f)
    pub stores : (l : ℕ) (k : Kind) (f : Frame) → Holds f → Holds (with_local l k f)
    pub strikes : (s : Schema) (class : ℕ) (f : Frame) → Holds f → Holds (effects.after_delete s class f)

  -- it holds of the frame of an edge, if there is one
  abbrev pub OnEdge : Option Frame → Type 0
  OnEdge None = Unit {0}
  OnEdge (Some g) = Holds g

  abbrev pub OnEdges : Edges → Type 0
  OnEdges e = OnEdge e.on × OnEdge e.target

  module _ (kept : IsKept) (f : Frame) (k : Holds f) where
    less : (kind : Kind) (rest : List Kind) → f.stack ≡ kind ∷ rest → Holds (with_stack rest f)
    less kind rest is = subst (λ (ks : List Kind). Holds (with_stack (drop 1 ks) f)) is (kept.drops 1 f k)

    two_less : (one other : Kind) (rest : List Kind) → f.stack ≡ one ∷ other ∷ rest → Holds (with_stack rest f)
    two_less one other rest is = subst (λ (ks : List Kind). Holds (with_stack (drop 2 ks) f)) is (kept.drops 2 f k)

    pushed_holds : (kind : Kind) (g : Frame) → IsKnown kind → Pushed kind f g → Holds g
    pushed_holds kind g known it = subst Holds it.left (kept.pushes kind f known k)

    branched : (kind : Kind) (e : Edges) → IsKnown kind → Branched kind f e → OnEdges e
    branched kind e known it = subst OnEdges it.edges (pushed_holds kind it.next known it.pushed, k)

  module _ (kept : IsKept) (s : Schema) (part : Part) (code : Code) (f : Frame) (k : Holds f) (e : Edges) where
    turned_holds : (from to : Kind) (g : Frame) → IsKnown to → Turned from to f g → Holds g
    turned_holds from to g known it = pushed_holds kept (with_stack it.rest f) (less kept f k from it.rest it.stack) to g known it.pushed

    combined : (first second to : Kind) (g : Frame) → IsKnown to → Combined first second to f g → Holds g
    combined first second to g known it = pushed_holds kept (with_stack it.rest f) (two_less kept f k second first it.rest it.stack) to g known it.pushed

    on_keeps : (r : Result Frame Flaw) → on r ≡ Ok e → ((g : Frame) → r ≡ Ok g → Holds g) → OnEdges e
    on_keeps r h step = let it = on_ok r e h in subst OnEdges it.2 (step it.0 it.1, tt)

    push_keeps : (kind : Kind) → IsKnown kind → on (push kind f) ≡ Ok e → OnEdges e
    push_keeps kind known h = on_keeps (push kind f) h (λ g is. pushed_holds kept f k kind g known (push_ok kind f g is))

    turn_keeps : (from to : Kind) → IsKnown to → on (effects.turn from to f) ≡ Ok e → OnEdges e
    turn_keeps from to known h = on_keeps (effects.turn from to f) h (λ g is. turned_holds from to g known (turn_ok from to f g is))

    combine_keeps : (from to : Kind) → IsKnown to → on (effects.combine from to f) ≡ Ok e → OnEdges e
    combine_keeps from to known h = on_keeps (effects.combine from to f) h (λ g is. combined from from to g known (combine_ok from to f g is))

    pub effect_keeps : (op : Op) → effect s part code op f ≡ Ok e → OnEdges e
    unfolding effect
    effect_keeps (ops.PushInt n) h = push_keeps Int refl h
    effect_keeps (ops.PushText text) h = push_keeps Text refl h
    effect_keeps (ops.PushBool truth) h = push_keeps Truth refl h
    effect_keeps (ops.PushLabel set label) h = push_keeps (Label set) refl h
    effect_keeps (ops.Load l) h = on_keeps (effects.load l f) h (λ g is. let it = load_ok l f g is in pushed_holds kept f k it.kind g (copied (local_at l f) it.kind it.copy) it.pushed)
    effect_keeps (ops.Store l) h = on_keeps (effects.store_local l f) h (λ g is. let it = store_local_ok l f g is in subst Holds it.left (kept.stores l it.kind (with_stack it.rest f) (less kept f k it.kind it.rest it.stack)))
    effect_keeps ops.Pop h = on_keeps (effects.drop_one f) h (λ g is. let it = drop_one_ok f g is in subst Holds it.left (less kept f k it.kind it.rest it.stack))
    effect_keeps (ops.Calculate c) h = combine_keeps Int Int refl h
    effect_keeps (ops.Divide d n) h = turn_keeps Int Int refl h
    effect_keeps (ops.Compare c) h = combine_keeps Int Truth refl h
    effect_keeps ops.EqText h = combine_keeps Text Truth refl h
    effect_keeps ops.EqLabel h = on_keeps (effects.eq_label f) h (λ g is. let it = eq_label_ok f g is in combined (Label it.0) (Label it.0) Truth g refl it.1)
    effect_keeps ops.EqUnit h = on_keeps (effects.eq_unit f) h (λ g is. let it = eq_unit_ok f g is in combined it.first it.second Truth g refl it.combined)
    effect_keeps ops.Not h = turn_keeps Truth Truth refl h
    effect_keeps (ops.Combine l) h = combine_keeps Truth Truth refl h
    effect_keeps ops.MakeInterval h = combine_keeps Int Interval refl h
    effect_keeps (ops.BoundOf b) h = turn_keeps Interval Int refl h
    effect_keeps (ops.Get slot) h = on_keeps (effects.get s slot f) h (λ g is. let it = get_ok s slot f g is in turned_holds (Ref it.class) it.held g (slot_known s it.class slot it.held it.holds) it.turned)
    effect_keeps (ops.One slot place) h = let it = one_ok s slot f e h in branched kept (with_stack it.rest f) (less kept f k (Ref it.class) it.rest it.stack) (Ref it.link.to) e refl it.branched
    effect_keeps (ops.Links slot) h = on_keeps (effects.links s slot f) h (λ g is. let it = links_ok s slot f g is in turned_holds (Ref it.class) (Seq it.link.to) g refl it.turned)
    effect_keeps (ops.Find query) h = on_keeps (effects.find s code query f) h (λ g is. let it = find_ok s code query f g is in pushed_holds kept (without (length it.query.kinds) f) (kept.drops (length it.query.kinds) f k) (Seq it.query.class) g refl it.pushed)
    effect_keeps ops.Size h = on_keeps (effects.size f) h (λ g is. let it = size_ok f g is in turned_holds (Seq it.0) Int g refl it.1)
    effect_keeps (ops.Alive place) h = let it = alive_ok f e h in branched kept (with_stack it.rest f) (less kept f k it.kind it.rest it.stack) (Ref it.class) e refl it.branched
    effect_keeps (ops.As class place) h = let it = as_class_ok class f e h in branched kept (with_stack it.rest f) (less kept f k (Ref it.own) it.rest it.stack) (Ref class) e refl it.branched
    effect_keeps (ops.New class) h = on_keeps (effects.new_unit part class f) h (λ g is. pushed_holds kept f k (Ref class) g refl (new_unit_ok part class f g is).pushed)
    effect_keeps (ops.Set slot) h = on_keeps (effects.set_slot s part slot f) h (λ g is. let it = set_slot_ok s part slot f g is in subst Holds it.left (two_less kept f k it.held (Ref it.class) it.rest it.stack))
    effect_keeps (ops.Relink change slot) h = on_keeps (effects.relink s part slot f) h (λ g is. let it = relink_ok s part slot f g is in subst Holds it.left (two_less kept f k (Ref it.other) (Ref it.class) it.rest it.stack))
    effect_keeps (ops.Enter space) h = on_keeps (effects.enter s part space f) h (λ g is. let it = enter_ok s part space f g is in subst Holds it.left (less kept f k (Ref it.class) it.rest it.stack))
    effect_keeps (ops.Leave space) h = on_keeps (effects.leave s part space f) h (λ g is. let it = leave_ok s part space f g is in subst Holds it.left (less kept f k (Ref it.class) it.rest it.stack))
    effect_keeps ops.Delete h = on_keeps (effects.delete s part f) h (λ g is. let it = delete_ok s part f g is in subst Holds it.left (kept.strikes s it.class (with_stack it.rest f) (less kept f k (Ref it.class) it.rest it.stack)))
    effect_keeps (ops.Say count) h = on_keeps (effects.say part count f) h (λ g is. subst Holds (say_ok part count f g is).left (kept.drops count f k))
    effect_keeps (ops.Jump place) h = subst OnEdges (same_ok (effects.only_there f) e h) (tt, k)
    effect_keeps (ops.Unless place) h = let it = unless_ok f e h in let left = less kept f k Truth it.rest it.stack in subst OnEdges it.edges (left, left)
    effect_keeps (ops.Next l place) h = let it = next_unit_ok l f e h in branched kept f k (Ref it.class) e refl it.branched
    effect_keeps (ops.Back place) h = subst OnEdges (same_ok (effects.only_there f) e h) (tt, k)
    effect_keeps ops.Done h = subst OnEdges (done_ok part e h).1 (tt, tt)
    effect_keeps ops.Rate h = subst OnEdges (rate_ok part f e h).edges (tt, tt)
    effect_keeps ops.Decline h = subst OnEdges (decline_ok part e h).1 (tt, tt)
    effect_keeps ops.Answer h = subst OnEdges (answer_ok part f e h).edges (tt, tt)
