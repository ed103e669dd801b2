-- What is known of a frame from which entries were popped, or onto which one was pushed, without a flaw.
use Rattle.std.proofs.Common.{◌≡◌, ℕ, false, List, [], ◌∷◌, length, Some, Result, Ok, ap, ◌∙◌}
use Rattle.std.specs.Prelude.{nat_le, nat_lt}
use Rattle.bb_basis.specs.Results.{◌>>=◌, ok_or}
use Rattle.bb_basis.proofs.ResultLemmas.{bind_ok, guard_ok, ok_or_ok, same_ok}
use Rattle.bb_code.specs.declared.frame.Kind.{Kind}
use Rattle.bb_code.specs.declared.frame.Kind.TheVariants.{Ref}
use Rattle.bb_code.specs.declared.flaw.Flaw.{Flaw}
use Rattle.bb_code.specs.declared.flaw.Flaw.TheVariants as flaws
use Rattle.bb_code.specs.declared.parts.TheConstants.{STACK_LIMIT}
use Rattle.bb_verify_effect.specs.declared.frame.Frame.{Frame}
use Rattle.bb_verify_effect.specs.Stack.{newest}
use Rattle.bb_verify_effect.specs.Frame.{with_stack, pop, pop_two, enough, room, push}
use Rattle.bb_verify_effect.specs.Due.{class_of, live}
use Rattle.bb_verify_effect.specs.Effect.{pop_live}
use Rattle.bb_verify_effect.proofs.DueInversion.{live_ok}

-- ---- entries that are popped

newest_is : (ks : List Kind) (top : Kind × List Kind) → newest ks ≡ Some top → ks ≡ top.0 ∷ top.1
newest_is [] top h = absurd cc
newest_is (k ∷ rest) top h = let e : (k, rest) ≡ top = cc in ap (λ (p : Kind × List Kind). p.0 ∷ p.1) e

module _ {X : Type 0} (f : Frame) where
  -- there was an entry, and the answer came of it and of what is left
  pub record Popped (next : Kind × Frame → Result X Flaw) (x : X) : Type 0 where
    pub kind : Kind
    pub rest : List Kind
    pub stack : f.stack ≡ kind ∷ rest
    pub after : next (kind, with_stack rest f) ≡ Ok x

  pub pop_ok : (next : Kind × Frame → Result X Flaw) (x : X) → (pop f >>= next) ≡ Ok x → Popped next x
  unfolding pop
  pop_ok next x h =
      let one = bind_ok (pop f) next x h in
      let top = bind_ok (ok_or (newest f.stack) flaws.Depth) _ one.0 one.1 in
      record {
        kind = top.0.0;
        rest = top.0.1;
        stack = newest_is f.stack top.0 (ok_or_ok flaws.Depth (newest f.stack) top.0 top.1);
        after = ap next (same_ok (top.0.0, with_stack top.0.1 f) one.0 top.2) ∙ one.2;
      }

module _ {X : Type 0} (f : Frame) where
  -- there were two entries, the deeper one first, and the answer came of them and of what is left
  pub record PoppedTwo (next : (Kind × Kind) × Frame → Result X Flaw) (x : X) : Type 0 where
    pub first : Kind
    pub second : Kind
    pub rest : List Kind
    pub stack : f.stack ≡ second ∷ first ∷ rest
    pub after : next ((first, second), with_stack rest f) ≡ Ok x

  pub pop_two_ok : (next : (Kind × Kind) × Frame → Result X Flaw) (x : X) → (pop_two f >>= next) ≡ Ok x → PoppedTwo next x
  unfolding pop_two
  pop_two_ok next x h =
      let two = bind_ok (pop_two f) next x h in
      let second = pop_ok f _ two.0 two.1 in
      let first = pop_ok (with_stack second.rest f) _ two.0 second.after in
      record {
        first = first.kind;
        second = second.kind;
        rest = first.rest;
        stack = second.stack ∙ ap (λ ks. second.kind ∷ ks) first.stack;
        after = ap next (same_ok ((first.kind, second.kind), with_stack first.rest f) two.0 first.after) ∙ two.2;
      }

  -- there was a live unit of a class, and the answer came of the class and of what is left
  pub record PoppedLive (next : ℕ × Frame → Result X Flaw) (x : X) : Type 0 where
    pub class : ℕ
    pub rest : List Kind
    pub stack : f.stack ≡ Ref class ∷ rest
    pub after : next (class, with_stack rest f) ≡ Ok x

  pub pop_live_ok : (next : ℕ × Frame → Result X Flaw) (x : X) → (pop_live f >>= next) ≡ Ok x → PoppedLive next x
  unfolding pop_live
  pop_live_ok next x h =
      let unit = bind_ok (pop_live f) next x h in
      let one = pop_ok f _ unit.0 unit.1 in
      let class = bind_ok (class_of one.kind) _ unit.0 one.after in
      let alive = bind_ok (live one.kind) _ unit.0 class.2 in
      record {
        class = class.0;
        rest = one.rest;
        stack = one.stack ∙ ap (λ k. k ∷ one.rest) (live_ok one.kind class.0 alive.0 class.1 alive.1);
        after = ap next (same_ok (class.0, with_stack one.rest f) unit.0 alive.2) ∙ unit.2;
      }

pub enough_ok : (n : ℕ) (f : Frame) (u : Unit {0}) → enough n f ≡ Ok u → nat_lt (length f.stack) n ≡ false
unfolding enough
enough_ok n f u h = (guard_ok (nat_lt (length f.stack) n) flaws.Depth (Ok tt) u h).0

-- ---- an entry that is pushed

-- there was room for one more entry, and it was put on top
pub record Pushed (k : Kind) (f g : Frame) : Type 0 where
  pub room : nat_le STACK_LIMIT (length f.stack) ≡ false
  pub left : with_stack (k ∷ f.stack) f ≡ g

pub room_ok : (f : Frame) (u : Unit {0}) → room f ≡ Ok u → nat_le STACK_LIMIT (length f.stack) ≡ false
unfolding room
room_ok f u h = (guard_ok (nat_le STACK_LIMIT (length f.stack)) flaws.Depth (Ok tt) u h).0

pub push_ok : (k : Kind) (f g : Frame) → push k f ≡ Ok g → Pushed k f g
unfolding push
push_ok k f g h =
    let free = bind_ok (room f) _ g h in
    record { room = room_ok f free.0 free.1; left = same_ok (with_stack (k ∷ f.stack) f) g free.2 }
