-- What is popped and pushed where a state suits a frame.
use Rattle.std.proofs.Common.{◌≡◌, suc, false, List, [], ◌∷◌, length, Result, Ok, refl, sym, ap, subst, ◌∙◌}
use Rattle.std.specs.Prelude.{nat_le}
use Rattle.std.specs.List.{AllZip}
use Rattle.bb_schema.specs.Schema.{Schema}
use Rattle.bb_board.specs.State.{World}
use Rattle.bb_code.specs.declared.parts.TheConstants.{STACK_LIMIT}
use Rattle.bb_code.specs.declared.frame.Kind.{Kind}
use Rattle.bb_verify.specs.FrameType.{Frame}
use Rattle.bb_verify.specs.Frame as frames
use Rattle.bb_verify.proofs.Laws.{Pushed, Turned, Combined}
use Rattle.bb_machine.specs.declared.halt.Halt.{Halt}
use Rattle.bb_machine.specs.declared.value.Value.{Value}
use Rattle.bb_machine.specs.Machine.{Machine, with_stack, room, push}
use Rattle.bb_theorem_machine.specs.Kinds.{HasKind, LocalHas, Suits}
use Rattle.bb_theorem_machine.specs.proving.Moves.{Pops, Makes, PopsTwo}

pub same_length : {A B : Type 0} (R : A → B → Type 0) (xs : List A) (ys : List B) → AllZip R xs ys → length xs ≡ length ys
same_length R [] [] all = refl
same_length R [] (y ∷ ys) all = elim all [ ]
same_length R (x ∷ xs) [] all = elim all [ ]
same_length R (x ∷ xs) (y ∷ ys) all = ap suc (same_length R xs ys all.1)

module _ (s : Schema) (w : World) where
  split_by : (m : Machine) (f : Frame) (k : Kind) (rest : List Kind) (values : List Value) → m.stack ≡ values → AllZip (HasKind s w) (k ∷ rest) values → AllZip (LocalHas s w) f.locals m.locals → Pops s w m (k, frames.with_stack rest f)
  split_by m f k rest [] is all locals = elim all [ ]
  split_by m f k rest (v ∷ vs) is all locals = record { value = v; rest = vs; stack = is; has = all.0; suits = record { locals = locals; stack = all.1 } }

  -- the newest entry has the kind that the frame says
  pub pops : (m : Machine) (f : Frame) (k : Kind) (rest : List Kind) → f.stack ≡ k ∷ rest → Suits s w m f → Pops s w m (k, frames.with_stack rest f)
  pops m f k rest is suits = split_by m f k rest m.stack refl (subst (λ (ks : List Kind). AllZip (HasKind s w) ks m.stack) is suits.stack) suits.locals

  -- the two newest entries have the kinds that the frame says
  pub pops_two : (m : Machine) (f : Frame) (first second : Kind) (rest : List Kind) → f.stack ≡ second ∷ first ∷ rest → Suits s w m f → PopsTwo s w m ((first, second), frames.with_stack rest f)
  pops_two m f first second rest is suits =
      let p = pops m f second (first ∷ rest) is suits in
      let q = pops (with_stack p.rest m) (frames.with_stack (first ∷ rest) f) first rest refl p.suits in
      record {
        first = q.value;
        second = p.value;
        rest = q.rest;
        stack = p.stack ∙ ap (λ (vs : List Value). p.value ∷ vs) q.stack;
        has_first = q.has;
        has_second = p.has;
        suits = q.suits;
      }

  -- there is room in the stack where there is room in the frame
  pub has_room : (m : Machine) (f : Frame) → nat_le STACK_LIMIT (length f.stack) ≡ false → Suits s w m f → nat_le STACK_LIMIT (length m.stack) ≡ false
  has_room m f low suits = ap (nat_le STACK_LIMIT) (sym (same_length (HasKind s w) f.stack m.stack suits.stack)) ∙ low

  pushed : (m : Machine) (v : Value) → nat_le STACK_LIMIT (length m.stack) ≡ false → push v m ≡ Ok (with_stack (v ∷ m.stack) m)
  unfolding push room
  pushed m v low = rw low refl

  pub pushes : (m : Machine) (f g : Frame) (v : Value) (k : Kind) → Pushed k f g → Suits s w m f → HasKind s w k v → Makes s w m g (push v m)
  pushes m f g v k it suits has =
      let made : Suits s w (with_stack (v ∷ m.stack) m) (frames.with_stack (k ∷ f.stack) f) = record { locals = suits.locals; stack = (has, suits.stack) } in
      record {
        next = with_stack (v ∷ m.stack) m;
        is = pushed m v (has_room m f it.room suits);
        place = refl;
        suits = subst (Suits s w (with_stack (v ∷ m.stack) m)) it.left made;
      }

  -- where an op is to do as a push onto what is left
  pub makes_as : (m left : Machine) (f : Frame) (a b : Result Machine Halt) → b ≡ a → left.place ≡ m.place → Makes s w left f a → Makes s w m f b
  makes_as m left f a b same place made = record { next = made.next; is = same ∙ made.is; place = made.place ∙ place; suits = made.suits }

  -- an op that makes one entry of one
  pub turns : (m : Machine) (f g : Frame) (from to : Kind) (r : Result Machine Halt) → Turned from to f g → Suits s w m f
      → ((v : Value) (rest : List Value) → m.stack ≡ v ∷ rest → HasKind s w from v → (u : Value) × HasKind s w to u × (r ≡ push u (with_stack rest m))) → Makes s w m g r
  turns m f g from to r it suits does =
      let p = pops m f from it.rest it.stack suits in
      let did = does p.value p.rest p.stack p.has in
      makes_as m (with_stack p.rest m) g (push did.0 (with_stack p.rest m)) r did.2 refl (pushes (with_stack p.rest m) (frames.with_stack it.rest f) g did.0 to it.pushed p.suits did.1)

  -- an op that makes one entry of two
  pub combines : (m : Machine) (f g : Frame) (first second to : Kind) (r : Result Machine Halt) → Combined first second to f g → Suits s w m f
      → ((v1 v2 : Value) (rest : List Value) → m.stack ≡ v2 ∷ v1 ∷ rest → HasKind s w first v1 → HasKind s w second v2 → (u : Value) × HasKind s w to u × (r ≡ push u (with_stack rest m))) → Makes s w m g r
  combines m f g first second to r it suits does =
      let p = pops_two m f first second it.rest it.stack suits in
      let did = does p.first p.second p.rest p.stack p.has_first p.has_second in
      makes_as m (with_stack p.rest m) g (push did.0 (with_stack p.rest m)) r did.2 refl (pushes (with_stack p.rest m) (frames.with_stack it.rest f) g did.0 to it.pushed p.suits did.1)
