-- What suits a frame suits each frame that it weakens to.
use Rattle.std.proofs.Common.{◌≡◌, Bool, true, List, [], ◌∷◌, Option, Some, None, refl, sym, ap, subst, ◌∙◌}
use Rattle.std.specs.List.{AllZip}
use Rattle.std.specs.Cmp.Lexicographic.{pointwise}
use Rattle.std.proofs.lemmas.Bool.{and_parts}
use Rattle.std.proofs.lemmas.List.Elements.{All-weaker}
use Rattle.bb_schema.specs.Schema.{Schema}
use Rattle.bb_schema.specs.Fits as schemas
use Rattle.bb_units.specs.Fits as units
use Rattle.bb_board.specs.State.{World}
use Rattle.bb_code.specs.declared.frame.Kind.{Kind}
use Rattle.bb_code.specs.declared.frame.Kind.TheVariants.{Any, Int, Text, Bool as Truth, Label, Interval, Ref, Old, Seq}
use Rattle.bb_verify.specs.FrameType.{Frame}
use Rattle.bb_verify.specs.Kinds.{is_same_plain, weakens, weakens_local, frame_weakens}
use Rattle.bb_machine.specs.declared.value.Value.{Value}
use Rattle.bb_machine.specs.Machine.{Machine}
use Rattle.bb_theorem_machine.specs.Kinds.{WasOf, HasKind, LocalHas, Suits}
use Rattle.bb_verify.proofs.Laws.{same_plain}
use Rattle.bb_theorem_machine.proofs.KindLemmas.{is_of_weaker, was_weaker}
use Rattle.bb_theorem_machine.proofs.LiveLemmas.{was_of}

module _ (s : Schema) (w : World) (fits : schemas.Fits s) (uf : units.Fits w.units) where
  same_plain_has : (k l : Kind) (v : Value) → is_same_plain k l ≡ true → HasKind s w k v → HasKind s w l v
  same_plain_has k l v is has = subst (λ i. HasKind s w i v) (same_plain k l is) has

  pub weaker : (k l : Kind) (v : Value) → weakens s k l ≡ true → HasKind s w k v → HasKind s w l v
  unfolding weakens
  weaker (Ref c) (Ref d) v up has = (has.0, has.1, is_of_weaker s w fits c d has.0 up has.2)
  weaker (Ref c) (Old d) v up has = (has.0, has.1, was_of s w uf d has.0 (is_of_weaker s w fits c d has.0 up has.2))
  weaker (Old c) (Old d) v up has = (has.0, has.1, was_weaker s w fits c d has.0 up has.2)
  weaker (Seq c) (Seq d) v up has = (has.0, has.1, All-weaker (WasOf s w c) (WasOf s w d) (λ n. was_weaker s w fits c d n up) has.0.rest has.2, has.3)
  weaker Any l v up has = same_plain_has Any l v up has
  weaker Int l v up has = same_plain_has Int l v up has
  weaker Text l v up has = same_plain_has Text l v up has
  weaker Truth l v up has = same_plain_has Truth l v up has
  weaker (Label set) l v up has = same_plain_has (Label set) l v up has
  weaker Interval l v up has = same_plain_has Interval l v up has
  weaker (Ref c) Any v up has = same_plain_has (Ref c) Any v up has
  weaker (Ref c) Int v up has = same_plain_has (Ref c) Int v up has
  weaker (Ref c) Text v up has = same_plain_has (Ref c) Text v up has
  weaker (Ref c) Truth v up has = same_plain_has (Ref c) Truth v up has
  weaker (Ref c) (Label set) v up has = same_plain_has (Ref c) (Label set) v up has
  weaker (Ref c) Interval v up has = same_plain_has (Ref c) Interval v up has
  weaker (Ref c) (Seq d) v up has = same_plain_has (Ref c) (Seq d) v up has
  weaker (Old c) Any v up has = same_plain_has (Old c) Any v up has
  weaker (Old c) Int v up has = same_plain_has (Old c) Int v up has
  weaker (Old c) Text v up has = same_plain_has (Old c) Text v up has
  weaker (Old c) Truth v up has = same_plain_has (Old c) Truth v up has
  weaker (Old c) (Label set) v up has = same_plain_has (Old c) (Label set) v up has
  weaker (Old c) Interval v up has = same_plain_has (Old c) Interval v up has
  weaker (Old c) (Ref d) v up has = same_plain_has (Old c) (Ref d) v up has
  weaker (Old c) (Seq d) v up has = same_plain_has (Old c) (Seq d) v up has
  weaker (Seq c) Any v up has = same_plain_has (Seq c) Any v up has
  weaker (Seq c) Int v up has = same_plain_has (Seq c) Int v up has
  weaker (Seq c) Text v up has = same_plain_has (Seq c) Text v up has
  weaker (Seq c) Truth v up has = same_plain_has (Seq c) Truth v up has
  weaker (Seq c) (Label set) v up has = same_plain_has (Seq c) (Label set) v up has
  weaker (Seq c) Interval v up has = same_plain_has (Seq c) Interval v up has
  weaker (Seq c) (Ref d) v up has = same_plain_has (Seq c) (Ref d) v up has
  weaker (Seq c) (Old d) v up has = same_plain_has (Seq c) (Old d) v up has

  -- nothing but what is known to be anything weakens to it
  any_weaker : (l : Kind) → weakens s Any l ≡ true → l ≡ Any
  unfolding weakens
  any_weaker l up = sym (same_plain Any l up)

  by_known : (k l : Kind) (o : Option Value) → weakens s k l ≡ true → LocalHas s w k o → LocalHas s w l o
  by_known k l None up has = any_weaker l (ap (λ i. weakens s i l) (sym has) ∙ up)
  by_known k l (Some v) up has = weaker k l v up has

  to_any : (k : Kind) (o : Option Value) → LocalHas s w Any o
  to_any k None = refl
  to_any k (Some v) = tt

  pub local_weaker : (k l : Kind) (o : Option Value) → weakens_local s k l ≡ true → LocalHas s w k o → LocalHas s w l o
  unfolding weakens_local
  local_weaker k Any o up has = to_any k o
  local_weaker k Int o up has = by_known k Int o up has
  local_weaker k Text o up has = by_known k Text o up has
  local_weaker k Truth o up has = by_known k Truth o up has
  local_weaker k (Label set) o up has = by_known k (Label set) o up has
  local_weaker k Interval o up has = by_known k Interval o up has
  local_weaker k (Ref c) o up has = by_known k (Ref c) o up has
  local_weaker k (Old c) o up has = by_known k (Old c) o up has
  local_weaker k (Seq c) o up has = by_known k (Seq c) o up has

  all_weaker : {B : Type 0} (R : Kind → B → Type 0) (test : Kind → Kind → Bool) → ((k l : Kind) (b : B) → test k l ≡ true → R k b → R l b)
      → (ks ls : List Kind) (bs : List B) → pointwise test ks ls ≡ true → AllZip R ks bs → AllZip R ls bs
  all_weaker R test step [] [] bs up all = all
  all_weaker R test step [] (l ∷ ls) bs up all = absurd cc
  all_weaker R test step (k ∷ ks) [] bs up all = absurd cc
  all_weaker R test step (k ∷ ks) (l ∷ ls) [] up all = elim all [ ]
  all_weaker R test step (k ∷ ks) (l ∷ ls) (b ∷ bs) up all =
      let both = and_parts (test k l) (pointwise test ks ls) up in
      (step k l b both.0 all.0, all_weaker R test step ks ls bs both.1 all.1)

  pub suits_weaker : (m : Machine) (f g : Frame) → frame_weakens s f g ≡ true → Suits s w m f → Suits s w m g
  unfolding frame_weakens
  suits_weaker m f g up suits =
      let both = and_parts (pointwise (weakens_local s) f.locals g.locals) (pointwise (weakens s) f.stack g.stack) up in
      record {
        locals = all_weaker (LocalHas s w) (weakens_local s) local_weaker f.locals g.locals m.locals both.0 suits.locals;
        stack = all_weaker (HasKind s w) (weakens s) weaker f.stack g.stack m.stack both.1 suits.stack;
      }
