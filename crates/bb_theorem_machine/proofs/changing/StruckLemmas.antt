-- What is known of values after a delete: live units that may have been deleted with the one that was are old.
use Rattle.std.proofs.Common.{◌≡◌, ℕ, Bool, true, false, List, [], ◌∷◌, map, Option, Some, None, refl, sym, ap, ◌∙◌}
use Rattle.std.specs.Prelude.{◌==◌, if◌then◌else◌}
use Rattle.std.specs.List.{AllZip, list_any}
use Rattle.std.proofs.lemmas.List.Elements.{All-weaker}
use Rattle.bb_schema.specs.Schema.{Schema}
use Rattle.bb_schema.specs.Ownership.{strikes}
use Rattle.bb_schema.specs.Fits as schemas
use Rattle.bb_board.specs.Deletion.{with_parts, after_delete}
use Rattle.bb_board.specs.Fits.{Fits}
use Rattle.bb_board.specs.State.{World}
use Rattle.bb_board.proofs.Laws.{delete_outlives, others_stay, part_is_struck}
use Rattle.bb_code.specs.declared.frame.Kind.{Kind}
use Rattle.bb_code.specs.declared.frame.Kind.TheVariants.{Any, Int, Text, Bool as Truth, Label, Interval, Ref, Old, Seq}
use Rattle.bb_verify.specs.FrameType.{Frame}
use Rattle.bb_verify.specs.Kinds.{struck}
use Rattle.bb_verify.specs.Effect as effects
use Rattle.bb_machine.specs.declared.value.Value.{Value}
use Rattle.bb_machine.specs.Machine.{Machine}
use Rattle.bb_theorem_machine.specs.Kinds.{IsOf, WasOf, HasKind, LocalHas, Suits}
use Rattle.bb_theorem_machine.proofs.LiveLemmas.{was_of}
use Rattle.bb_theorem_machine.proofs.changing.OutliveLemmas.{was_outlives}

module _ (s : Schema) (w : World) (sf : schemas.Fits s) (fits : Fits s w) (n class : ℕ) (gone : IsOf s w class n) where
  abbrev after : World
  after = after_delete s w n

  -- what was once given out is so after it, and what was live is no other unit
  lasts : (c k : ℕ) → WasOf s w c k → WasOf s after c k
  lasts c k was = was_outlives s w after c k (delete_outlives s w n) was

  -- a live unit of a class that is not struck is no part of the unit
  no_part : (c k : ℕ) (h : IsOf s w c k) (b : Bool) → strikes s class c ≡ false → list_any (λ x. x == k) (with_parts s w n) ≡ b → b ≡ false
  no_part c k h true apart part = absurd (let e : true ≡ false = sym (part_is_struck s w sf fits class n gone.own gone.is gone.under k h.own c part h.is h.under) ∙ apart in cc)
  no_part c k h false apart part = refl

  stays_of_class : (c k : ℕ) (h : IsOf s w c k) → strikes s class c ≡ false → IsOf s after c k
  stays_of_class c k h apart = record {
    own = h.own;
    is = others_stay s w n k (no_part c k h (list_any (λ x. x == k) (with_parts s w n)) apart refl) ∙ h.is;
    under = h.under;
  }

  struck_by : (c : ℕ) (x : Value) (strikes_it : Bool) → strikes s class c ≡ strikes_it → HasKind s w (Ref c) x → HasKind s after (if strikes_it then Old c else Ref c) x
  struck_by c x true is has = (has.0, has.1, lasts c has.0 (was_of s w fits.units c has.0 has.2))
  struck_by c x false is has = (has.0, has.1, stays_of_class c has.0 has.2 is)

  pub has_struck : (k : Kind) (x : Value) → HasKind s w k x → HasKind s after (struck s class k) x
  unfolding struck
  has_struck Any x has = tt
  has_struck Int x has = has
  has_struck Text x has = has
  has_struck Truth x has = has
  has_struck (Label set) x has = has
  has_struck Interval x has = has
  has_struck (Ref c) x has = struck_by c x (strikes s class c) refl has
  has_struck (Old c) x has = (has.0, has.1, lasts c has.0 has.2)
  has_struck (Seq c) x has = (has.0, has.1, All-weaker (WasOf s w c) (WasOf s after c) (lasts c) has.0.rest has.2, has.3)

  local_struck : (k : Kind) (o : Option Value) → LocalHas s w k o → LocalHas s after (struck s class k) o
  unfolding struck
  local_struck k None has = ap (struck s class) has
  local_struck k (Some x) has = has_struck k x has

  all_struck : {B : Type 0} (R S : Kind → B → Type 0) → ((k : Kind) (b : B) → R k b → S (struck s class k) b) → (ks : List Kind) (bs : List B) → AllZip R ks bs → AllZip S (map (struck s class) ks) bs
  all_struck R S step [] [] all = all
  all_struck R S step [] (b ∷ bs) all = elim all [ ]
  all_struck R S step (k ∷ ks) [] all = elim all [ ]
  all_struck R S step (k ∷ ks) (b ∷ bs) all = (step k b all.0, all_struck R S step ks bs all.1)

  -- after a delete a state suits the frame that the verifier gives
  pub suits_struck : (m : Machine) (f : Frame) → Suits s w m f → Suits s after m (effects.after_delete s class f)
  unfolding effects.after_delete
  suits_struck m f suits = record {
    locals = all_struck (LocalHas s w) (LocalHas s after) local_struck f.locals m.locals suits.locals;
    stack = all_struck (HasKind s w) (HasKind s after) has_struck f.stack m.stack suits.stack;
  }
