-- What is known of the frame that an op met, and of those that it left, where it leads on, goes to a place or ends.
use Rattle.std.proofs.Common.{◌≡◌, ℕ, false, List, ◌∷◌, Some, None, Result, Ok, Err, refl, sym, ap, ◌∙◌}
use Rattle.bb_basis.specs.Results.{◌>>=◌}
use Rattle.bb_basis.proofs.ResultLemmas.{bind_ok, same_ok}
use Rattle.bb_schema_classes.specs.declared.kind.Link.{Link}
use Rattle.bb_schema.specs.Schema.{Schema}
use Rattle.bb_code.specs.declared.frame.Kind.{Kind}
use Rattle.bb_code.specs.declared.frame.Kind.TheVariants.{Int, Bool as Truth, Ref, Seq}
use Rattle.bb_code.specs.declared.flaw.Flaw.{Flaw}
use Rattle.bb_verify_effect.specs.declared.frame.Frame.{Frame}
use Rattle.bb_verify_effect.specs.declared.part.Part.{Part}
use Rattle.bb_verify_effect.specs.Part.{ends_done, ends_rated, ends_answered}
use Rattle.bb_verify_effect.specs.Frame.{with_stack, pop, local_at, room, push}
use Rattle.bb_verify_effect.specs.Due.{due, class_of, sequence_of, link_slot, single_slot}
use Rattle.bb_verify_effect.specs.Edges.{Edges}
use Rattle.bb_verify_effect.specs.Effect.{on, either, ended, one, alive, as_class, unless, next_unit, done, rate, decline, answer}
use Rattle.bb_verify_effect.proofs.DueInversion.{due_ok, sequence_of_ok, single_slot_ok}
use Rattle.bb_verify_effect.proofs.FrameInversion.{Pushed, push_ok, pop_ok, pop_live_ok}

pub on_ok : (r : Result Frame Flaw) (e : Edges) → on r ≡ Ok e → (g : Frame) × (r ≡ Ok g) × (record { on = Some g; target = None } ≡ e)
on_ok (Ok g) e h = (g, refl, same_ok (record { on = Some g; target = None }) e h)
on_ok (Err flaw) e h = absurd cc

-- ---- ops with a place that they go to

-- an entry was pushed for the next op, and none for the op at the place
pub record Branched (k : Kind) (f : Frame) (e : Edges) : Type 0 where
  pub next : Frame
  pub pushed : Pushed k f next
  pub edges : either next f ≡ e

branch_ok : (k : Kind) (f : Frame) (e : Edges) → (push k f >>= λ next. Ok (either next f)) ≡ Ok e → Branched k f e
branch_ok k f e h =
    let next = bind_ok (push k f) _ e h in
    record { next = next.0; pushed = push_ok k f next.0 next.1; edges = same_ok (either next.0 f) e next.2 }

-- a live unit gave way to the one to which a singular link slot of its class leads, if there is one
pub record OneFollowed (s : Schema) (slot : ℕ) (f : Frame) (e : Edges) : Type 0 where
  pub class : ℕ
  pub link : Link
  pub rest : List Kind
  pub stack : f.stack ≡ Ref class ∷ rest
  pub leads : link_slot s class slot ≡ Ok link
  pub single : link.many ≡ false
  pub branched : Branched (Ref link.to) (with_stack rest f) e

pub one_ok : (s : Schema) (slot : ℕ) (f : Frame) (e : Edges) → one s slot f ≡ Ok e → OneFollowed s slot f e
unfolding one
one_ok s slot f e h =
    let unit = pop_live_ok f _ e h in
    let link = bind_ok (single_slot s unit.class slot) _ e unit.after in
    let single = single_slot_ok s unit.class slot link.0 link.1 in
    record {
      class = unit.class;
      link = link.0;
      rest = unit.rest;
      stack = unit.stack;
      leads = single.0;
      single = single.1;
      branched = branch_ok (Ref link.0.to) (with_stack unit.rest f) e link.2;
    }

-- a unit gave way to itself, live, if it is
pub record FoundAlive (f : Frame) (e : Edges) : Type 0 where
  pub kind : Kind
  pub class : ℕ
  pub of : class_of kind ≡ Ok class
  pub rest : List Kind
  pub stack : f.stack ≡ kind ∷ rest
  pub branched : Branched (Ref class) (with_stack rest f) e

pub alive_ok : (f : Frame) (e : Edges) → alive f ≡ Ok e → FoundAlive f e
unfolding alive
alive_ok f e h =
    let unit = pop_ok f _ e h in
    let class = bind_ok (class_of unit.kind) _ e unit.after in
    record { kind = unit.kind; class = class.0; of = class.1; rest = unit.rest; stack = unit.stack; branched = branch_ok (Ref class.0) (with_stack unit.rest f) e class.2 }

-- a live unit gave way to itself, as one of another class, if it is of it
pub record FoundAs (class : ℕ) (f : Frame) (e : Edges) : Type 0 where
  pub own : ℕ
  pub rest : List Kind
  pub stack : f.stack ≡ Ref own ∷ rest
  pub branched : Branched (Ref class) (with_stack rest f) e

pub as_class_ok : (class : ℕ) (f : Frame) (e : Edges) → as_class class f ≡ Ok e → FoundAs class f e
unfolding as_class
as_class_ok class f e h =
    let unit = pop_live_ok f _ e h in
    record { own = unit.class; rest = unit.rest; stack = unit.stack; branched = branch_ok (Ref class) (with_stack unit.rest f) e unit.after }

-- a truth value went away
pub record Tested (f : Frame) (e : Edges) : Type 0 where
  pub rest : List Kind
  pub stack : f.stack ≡ Truth ∷ rest
  pub edges : either (with_stack rest f) (with_stack rest f) ≡ e

pub unless_ok : (f : Frame) (e : Edges) → unless f ≡ Ok e → Tested f e
unfolding unless
unless_ok f e h =
    let test = pop_ok f _ e h in
    let truth = bind_ok (due Truth test.kind) _ e test.after in
    record {
      rest = test.rest;
      stack = test.stack ∙ ap (λ k. k ∷ test.rest) (sym (due_ok Truth test.kind truth.0 truth.1));
      edges = same_ok (either (with_stack test.rest f) (with_stack test.rest f)) e truth.2;
    }

-- a local is a sequence, and one of its units was pushed, if one is left
pub record Taken (l : ℕ) (f : Frame) (e : Edges) : Type 0 where
  pub class : ℕ
  pub sequence : local_at l f ≡ Seq class
  pub branched : Branched (Ref class) f e

pub next_unit_ok : (l : ℕ) (f : Frame) (e : Edges) → next_unit l f ≡ Ok e → Taken l f e
unfolding next_unit
next_unit_ok l f e h =
    let free = bind_ok (room f) _ e h in
    let class = bind_ok (sequence_of (local_at l f)) _ e free.2 in
    record { class = class.0; sequence = sequence_of_ok (local_at l f) class.0 class.1; branched = branch_ok (Ref class.0) f e class.2 }

-- ---- ends

-- the part may end so
end_ok : (r : Result (Unit {0}) Flaw) (e : Edges) → (r >>= λ _. Ok ended) ≡ Ok e → (r ≡ Ok tt) × (ended ≡ e)
end_ok (Ok u) e h = (refl, same_ok ended e h)
end_ok (Err flaw) e h = absurd cc

pub done_ok : (part : Part) (e : Edges) → done part ≡ Ok e → (ends_done part ≡ Ok tt) × (ended ≡ e)
unfolding done
done_ok part e h = end_ok (ends_done part) e h

pub decline_ok : (part : Part) (e : Edges) → decline part ≡ Ok e → (ends_rated part ≡ Ok tt) × (ended ≡ e)
unfolding decline
decline_ok part e h = end_ok (ends_rated part) e h

-- an operand of a kind is the answer of a part that may end so
pub record Ended (k : Kind) (ends : Result (Unit {0}) Flaw) (f : Frame) (e : Edges) : Type 0 where
  pub rest : List Kind
  pub stack : f.stack ≡ k ∷ rest
  pub may : ends ≡ Ok tt
  pub edges : ended ≡ e

ended_ok : (k : Kind) (ends : Result (Unit {0}) Flaw) (f : Frame) (e : Edges) → (pop f >>= λ p. due k p.0 >>= λ _. ends >>= λ _. Ok ended) ≡ Ok e → Ended k ends f e
ended_ok k ends f e h =
    let it = pop_ok f _ e h in
    let kind = bind_ok (due k it.kind) _ e it.after in
    let end = end_ok ends e kind.2 in
    record { rest = it.rest; stack = it.stack ∙ ap (λ j. j ∷ it.rest) (sym (due_ok k it.kind kind.0 kind.1)); may = end.0; edges = end.1 }

pub rate_ok : (part : Part) (f : Frame) (e : Edges) → rate part f ≡ Ok e → Ended Int (ends_rated part) f e
unfolding rate
rate_ok part f e h = ended_ok Int (ends_rated part) f e h

pub answer_ok : (part : Part) (f : Frame) (e : Edges) → answer part f ≡ Ok e → Ended Truth (ends_answered part) f e
unfolding answer
answer_ok part f e h = ended_ok Truth (ends_answered part) f e h
