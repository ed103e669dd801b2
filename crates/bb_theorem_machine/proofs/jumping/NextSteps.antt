-- The next unit of a sequence is safe.
use Rattle.std.proofs.Common.{◌≡◌, ◌⊎◌, inl, inr, ℕ, zero, suc, ◌<◌, Bool, false, true, cond, List, [], ◌∷◌, length, set, Option, Some, None, Result, Ok, refl, ap, subst, ◌∙◌, arith}
use Rattle.std.specs.Prelude.{nat_le, slice_get, All}
use Rattle.std.specs.List.{AllZip}
use Rattle.std.proofs.lemmas.Bool.Decides.{nat_tests}
use Rattle.std.proofs.lemmas.List.{length-set}
use Rattle.std.proofs.lemmas.List.Elements.{All-nil, All-head, All-tail}
use Rattle.std.proofs.lemmas.Option.{slice_get_within}
use Rattle.bb_units.specs.Units.{Units, is_live}
use Rattle.bb_board.specs.Board.{Board}
use Rattle.bb_board.specs.Fits.{Fits}
use Rattle.bb_code.specs.Code.{Code}
use Rattle.bb_code.specs.declared.frame.Kind.{Kind}
use Rattle.bb_code.specs.declared.frame.Kind.TheVariants.{Any, Ref, Seq}
use Rattle.bb_code.specs.declared.op.Op.TheVariants as ops
use Rattle.bb_verify.specs.FrameType.{Frame}
use Rattle.bb_verify.specs.PartType.{Part}
use Rattle.bb_verify.specs.Effect as effects
use Rattle.bb_verify.specs.Effect.{effect}
use Rattle.bb_verify.specs.Frame as frames
use Rattle.bb_verify.proofs.Laws.{edges_ok, Pushed, next_unit_ok}
use Rattle.bb_machine.specs.declared.halt.Halt.{Halt}
use Rattle.bb_machine.specs.declared.value.Value.{Value}
use Rattle.bb_machine.specs.declared.value.Value.TheVariants as values
use Rattle.bb_machine.specs.Sequence.{Sequence, from_live, first_of, first_live}
use Rattle.bb_machine.specs.Machine.{Machine, go_to, with_local, emptied, local_at, taken, store, next_in}
use Rattle.bb_machine.specs.Jumping.{after_next, next_unit}
use Rattle.bb_machine.specs.Step.{step}
use Rattle.bb_theorem_machine.specs.Kinds.{WasOf, LocalHas, Suits}
use Rattle.bb_theorem_machine.specs.Safe.{edges_of, IsSafe}
use Rattle.bb_theorem_machine.specs.proving.Moves.{Makes}
use Rattle.bb_theorem_machine.proofs.LiveLemmas.{of_live}
use Rattle.bb_theorem_machine.proofs.plain.LocalLemmas.{holds}
use Rattle.bb_theorem_machine.proofs.MoveLemmas.{pushes}
use Rattle.bb_theorem_machine.proofs.EdgeLemmas.{leads_either}
use Rattle.bb_verify.specs.declared.checked.TheConstants.{FOUND_LIMIT}

-- ---- the units of a sequence from the first live one on

-- the first is live, and all have the property
abbrev Front : Units → (ℕ → Type 0) → List ℕ → Type 0
Front u P [] = Unit {0}
Front u P (n ∷ ns) = (is_live u n ≡ true) × P n × All P ns

front_by : (u : Units) (P : ℕ → Type 0) (n : ℕ) (ns : List ℕ) (live : Bool) → is_live u n ≡ live → All P (n ∷ ns) → Front u P (from_live u ns) → Front u P (cond live (n ∷ ns) (from_live u ns))
front_by u P n ns true is all later = (is, All-head P n ns all, All-tail P n ns all)
front_by u P n ns false is all later = later

live_front : (u : Units) (P : ℕ → Type 0) (ns : List ℕ) → All P ns → Front u P (from_live u ns)
unfolding from_live
live_front u P [] all = tt
live_front u P (n ∷ ns) all = front_by u P n ns (is_live u n) refl all (live_front u P ns (All-tail P n ns all))

-- ---- the local of the sequence

-- an entry that is replaced twice has the kind that it had
zip_put : {A B : Type 0} (R : A → B → Type 0) (xs : List A) (ys : List B) (i : ℕ) (x : A) (z y : B) → AllZip R xs ys → slice_get xs i ≡ Some x → R x y → AllZip R xs (set (set ys i z) i y)
zip_put R [] ys i x z y all is has = absurd cc
zip_put R (a ∷ xs) [] i x z y all is has = elim all [ ]
zip_put R (a ∷ xs) (b ∷ ys) zero x z y all is has = (subst (λ w. R w y) (let e : x ≡ a = cc in e) has, all.1)
zip_put R (a ∷ xs) (b ∷ ys) (suc i) x z y all is has = (all.0, zip_put R xs ys i x z y all.1 is has)

known_by : (o : Option Kind) (class : ℕ) → (elim o [ None ↦ Any | Some j ↦ j ]) ≡ Seq class → o ≡ Some (Seq class)
known_by None class is = absurd cc
known_by (Some j) class is = ap (λ i. Some i) is

kind_at : (f : Frame) (l class : ℕ) → frames.local_at l f ≡ Seq class → slice_get f.locals l ≡ Some (Seq class)
unfolding frames.local_at
kind_at f l class is = known_by (slice_get f.locals l) class is

no_sequence : (class : ℕ) → Seq class ≡ Any → ⊥
no_sequence class is = absurd cc

-- the state with another sequence in the local
abbrev moved : ℕ → Sequence → Machine → Machine
moved l q m = with_local l (values.Seq q) (emptied l m)

still_there : (long l n : ℕ) → l < n → long ≡ n → nat_le long l ≡ false
still_there long l n lt same = grind (arith, nat_tests)

next_on : (b : Board) (l place : ℕ) (m : Machine) (q : Sequence) → slice_get m.locals l ≡ Some (Some (values.Seq q)) → nat_le (length (set m.locals l None)) l ≡ false
    → next_unit b l place m ≡ after_next place (first_live b q).0 (moved l (first_live b q).1 m)
unfolding next_unit next_in taken local_at store
next_on b l place m q at inside = rw (at, inside) refl

module _ (part : Part) (code : Code) (b : Board) (fits : Fits b.schema b.world) (m : Machine) (f : Frame) (suits : Suits b.schema b.world m f) (e : Option Frame × Option Frame) where
  moved_suits : (l class : ℕ) (q : Sequence) → slice_get f.locals l ≡ Some (Seq class) → All (WasOf b.schema b.world class) q.rest → nat_le q.found FOUND_LIMIT ≡ true → Suits b.schema b.world (moved l q m) f
  moved_suits l class q is all few = record {
    locals = zip_put (LocalHas b.schema b.world) f.locals m.locals l (Seq class) None (Some (values.Seq q)) suits.locals is (q, refl, all, few);
    stack = suits.stack;
  }

  -- what comes of the units from the first live one on
  goes_by : (l place class found : ℕ) (next : Frame) → slice_get f.locals l ≡ Some (Seq class) → Pushed (Ref class) f next → nat_le found FOUND_LIMIT ≡ true → (ns : List ℕ) → Front b.world.units (WasOf b.schema b.world class) ns
      → (let left : Machine = moved l (first_of found ns).1 m in let r : Result Machine Halt = after_next place (first_of found ns).0 left in
      Suits b.schema b.world left f × ((Makes b.schema b.world left next r) ⊎ (r ≡ Ok (go_to place left))))
  goes_by l place class found next is pushed few [] front = (moved_suits l class (record { rest = []; found = found }) is (All-nil (WasOf b.schema b.world class)) few, inr refl)
  goes_by l place class found next is pushed few (n ∷ ns) front =
      let left_suits = moved_suits l class (record { rest = ns; found = found }) is front.2 few in
      (left_suits, inl (pushes b.schema b.world (moved l (record { rest = ns; found = found }) m) f next (values.Unit n) (Ref class) pushed left_suits (n, refl, of_live b.schema b.world fits.units class n front.0 front.1)))

  pub next_safe : (l place : ℕ) → edges_of b.schema part code (ops.Next l place) f ≡ Ok e → IsSafe b.schema m.place (ops.Next l place) e (step code (ops.Next l place) (m, b))
  unfolding step effect
  next_safe l place h =
      let x = edges_ok (effects.next_unit l f) e h in
      let it = next_unit_ok l f x.0 x.1 in
      let held = holds b.schema b.world m f l (Seq it.class) suits it.sequence (no_sequence it.class) in
      let q = held.2.0 in
      let at : slice_get m.locals l ≡ Some (Some (values.Seq q)) = held.1 ∙ ap (λ (v : Value). Some (Some v)) held.2.1 in
      let inside = still_there (length (set m.locals l None)) l (length m.locals) (slice_get_within m.locals l (Some held.0) held.1) (length-set m.locals l None) in
      let left = moved l (first_live b q).1 m in
      let goes = goes_by l place it.class q.found it.branched.next (kind_at f l it.class it.sequence) it.branched.pushed held.2.3 (from_live b.world.units q.rest) (live_front b.world.units (WasOf b.schema b.world it.class) q.rest held.2.2) in
      leads_either b fits m (ops.Next l place) place e x.0 left it.branched.next f (after_next place (first_live b q).0 left) (next_unit b l place m) refl it.branched.edges x.2 refl goes.0 (next_on b l place m q at inside) goes.1
