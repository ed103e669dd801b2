-- The ops on locals make what the verifier says.
use Rattle.std.proofs.Common.{◌≡◌, ℕ, zero, suc, false, List, [], ◌∷◌, length, set, Option, Some, None, Ok, refl, sym, ap, subst, ◌∙◌}
use Rattle.std.specs.Prelude.{nat_le, slice_get}
use Rattle.std.specs.List.{AllZip}
use Rattle.bb_basis.proofs.ResultLemmas.{same_ok}
use Rattle.bb_schema.specs.Schema.{Schema}
use Rattle.bb_board.specs.State.{World}
use Rattle.bb_code.specs.declared.frame.Kind.{Kind}
use Rattle.bb_code.specs.declared.frame.Kind.TheVariants.{Any, Int, Text, Bool as Truth, Label, Interval, Ref, Old, Seq}
use Rattle.bb_verify.specs.FrameType.{Frame}
use Rattle.bb_verify.specs.Due as dues
use Rattle.bb_verify.specs.Frame as frames
use Rattle.bb_verify.specs.Effect as effects
use Rattle.bb_verify.proofs.Laws.{load_ok, store_local_ok, drop_one_ok}
use Rattle.bb_machine.specs.declared.value.Value.{Value}
use Rattle.bb_machine.specs.Value.{copy_of}
use Rattle.bb_machine.specs.Machine.{Machine, with_stack, with_local, pop, push, local_at, store}
use Rattle.bb_machine.specs.Reading.{load, store_local, drop_one}
use Rattle.bb_theorem_machine.specs.Kinds.{HasKind, LocalHas, Suits}
use Rattle.bb_theorem_machine.specs.proving.Moves.{Makes}
use Rattle.bb_theorem_machine.proofs.MoveLemmas.{pops, pushes, makes_as}

-- ---- lists, entry by entry

pub zip_at : {A B : Type 0} (R : A → B → Type 0) (xs : List A) (ys : List B) (i : ℕ) (x : A) → AllZip R xs ys → slice_get xs i ≡ Some x → (y : B) × (slice_get ys i ≡ Some y) × R x y
zip_at R [] ys i x all is = absurd cc
zip_at R (a ∷ xs) [] i x all is = elim all [ ]
zip_at R (a ∷ xs) (b ∷ ys) zero x all is = (b, refl, subst (λ z. R z b) (let e : a ≡ x = cc in e) all.0)
zip_at R (a ∷ xs) (b ∷ ys) (suc i) x all is = zip_at R xs ys i x all.1 is

pub zip_set : {A B : Type 0} (R : A → B → Type 0) (xs : List A) (ys : List B) (i : ℕ) (x : A) (y : B) → AllZip R xs ys → R x y → AllZip R (set xs i x) (set ys i y)
zip_set R [] [] i x y all has = all
zip_set R [] (b ∷ ys) i x y all has = elim all [ ]
zip_set R (a ∷ xs) [] i x y all has = elim all [ ]
zip_set R (a ∷ xs) (b ∷ ys) zero x y all has = (has, all.1)
zip_set R (a ∷ xs) (b ∷ ys) (suc i) x y all has = (all.0, zip_set R xs ys i x y all.1 has)

-- what a local of a known kind holds
known_at : (o : Option Kind) (k : Kind) → (elim o [ None ↦ Any | Some j ↦ j ]) ≡ k → (k ≡ Any → ⊥) → o ≡ Some k
known_at None k is known = absurd (known (sym is))
known_at (Some j) k is known = ap (λ i. Some i) is

held_by : (s : Schema) (w : World) (k : Kind) (o : Option Value) → LocalHas s w k o → (k ≡ Any → ⊥) → (v : Value) × (o ≡ Some v) × HasKind s w k v
held_by s w k None has known = absurd (known has)
held_by s w k (Some v) has known = (v, refl, has)

pub holds : (s : Schema) (w : World) (m : Machine) (f : Frame) (l : ℕ) (k : Kind) → Suits s w m f → frames.local_at l f ≡ k → (k ≡ Any → ⊥) → (v : Value) × (slice_get m.locals l ≡ Some (Some v)) × HasKind s w k v
unfolding frames.local_at
holds s w m f l k suits is known =
    let at = zip_at (LocalHas s w) f.locals m.locals l k suits.locals (known_at (slice_get f.locals l) k is known) in
    let held = held_by s w k at.0 at.2 known in
    (held.0, at.1 ∙ ap (λ o. Some o) held.1, held.2)

-- ---- a copy

copied : (s : Schema) (w : World) (k j : Kind) (v : Value) → dues.copy_of k ≡ Ok j → HasKind s w k v → (copy_of v ≡ Ok v) × HasKind s w j v
copied s w Any j v is has = absurd cc
copied s w (Seq c) j v is has = absurd cc
copied s w Int j v is has = (rw has.1 refl, subst (λ i. HasKind s w i v) (same_ok Int j is) has)
copied s w Text j v is has = (rw has.1 refl, subst (λ i. HasKind s w i v) (same_ok Text j is) has)
copied s w Truth j v is has = (rw has.1 refl, subst (λ i. HasKind s w i v) (same_ok Truth j is) has)
copied s w (Label set) j v is has = (rw has.1 refl, subst (λ i. HasKind s w i v) (same_ok (Label set) j is) has)
copied s w Interval j v is has = (rw has.2 refl, subst (λ i. HasKind s w i v) (same_ok Interval j is) has)
copied s w (Ref c) j v is has = (rw has.1 refl, subst (λ i. HasKind s w i v) (same_ok (Ref c) j is) has)
copied s w (Old c) j v is has = (rw has.1 refl, subst (λ i. HasKind s w i v) (same_ok (Old c) j is) has)

known_copy : (k j : Kind) → dues.copy_of k ≡ Ok j → k ≡ Any → ⊥
known_copy k j is any = let e : dues.copy_of Any ≡ Ok j = ap dues.copy_of (sym any) ∙ is in absurd cc

load_on : (l : ℕ) (m : Machine) (v : Value) → slice_get m.locals l ≡ Some (Some v) → copy_of v ≡ Ok v → load l m ≡ push v m
unfolding load local_at
load_on l m v at copy = rw (at, copy) refl

drop_on : (m : Machine) (v : Value) (rest : List Value) → m.stack ≡ v ∷ rest → drop_one m ≡ Ok (with_stack rest m)
unfolding drop_one pop
drop_on m v rest is = rw is refl

store_on : (l : ℕ) (m : Machine) (v : Value) (rest : List Value) → m.stack ≡ v ∷ rest → nat_le (length m.locals) l ≡ false → store_local l m ≡ Ok (with_local l v (with_stack rest m))
unfolding store_local pop store
store_on l m v rest is there = rw (is, there) refl

module _ (s : Schema) (w : World) (m : Machine) (f g : Frame) (suits : Suits s w m f) where
  pub load_makes : (l : ℕ) → effects.load l f ≡ Ok g → Makes s w m g (load l m)
  load_makes l h =
      let it = load_ok l f g h in
      let held = holds s w m f l (frames.local_at l f) suits refl (known_copy (frames.local_at l f) it.kind it.copy) in
      let is = copied s w (frames.local_at l f) it.kind held.0 it.copy held.2 in
      makes_as s w m m g (push held.0 m) (load l m) (load_on l m held.0 held.1 is.0) refl (pushes s w m f g held.0 it.kind it.pushed suits is.1)

  pub drop_makes : effects.drop_one f ≡ Ok g → Makes s w m g (drop_one m)
  drop_makes h =
      let it = drop_one_ok f g h in
      let p = pops s w m f it.kind it.rest it.stack suits in
      record { next = with_stack p.rest m; is = drop_on m p.value p.rest p.stack; place = refl; suits = subst (Suits s w (with_stack p.rest m)) it.left p.suits }

  pub store_makes : (l : ℕ) → nat_le (length m.locals) l ≡ false → effects.store_local l f ≡ Ok g → Makes s w m g (store_local l m)
  store_makes l there h =
      let it = store_local_ok l f g h in
      let p = pops s w m f it.kind it.rest it.stack suits in
      let stored : Suits s w (with_local l p.value (with_stack p.rest m)) (frames.with_local l it.kind (frames.with_stack it.rest f)) =
      record { locals = zip_set (LocalHas s w) f.locals m.locals l it.kind (Some p.value) p.suits.locals p.has; stack = p.suits.stack } in
      record {
        next = with_local l p.value (with_stack p.rest m);
        is = store_on l m p.value p.rest p.stack there;
        place = refl;
        suits = subst (Suits s w (with_local l p.value (with_stack p.rest m))) it.left stored;
      }
