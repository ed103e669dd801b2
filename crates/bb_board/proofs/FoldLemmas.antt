-- Units that are deleted one after another, each as if it were deleted alone, leave what is read off the first state.
use Rattle.std.proofs.Common.{◌≡◌, ℕ, Bool, true, false, cond, not, List, [], ◌∷◌, ◌++◌, map, filter, Option, Some, None, option_map, refl, sym, ap, subst, ◌∙◌}
use Rattle.std.specs.Prelude.{◌==◌, ◌||◌, ◌&&◌, is_some, unwrap_or}
use Rattle.std.specs.List.{flat_map, fold}
use Rattle.std.specs.Option.{option_map_or}
use Rattle.std.specs.FinMap.{get}
use Rattle.std.proofs.lemmas.Bool.{or_parts}
use Rattle.std.proofs.lemmas.Cmp.{nat_eq_equiv}
use Rattle.std.proofs.lemmas.List.{append-nil, append_assoc}
use Rattle.bb_basis.proofs.BoolLemmas.{and_true, and_first, not_true}
use Rattle.bb_basis.proofs.ListLemmas.{list_any-last}
use Rattle.bb_schema.specs.declared.couple.Side.{Side}
use Rattle.bb_schema.specs.declared.couple.Side.TheVariants.{A, B}
use Rattle.bb_schema.specs.Schema.{Schema, slots_of, inverse_of}
use Rattle.bb_schema.specs.Couples.{couple_of}
use Rattle.bb_schema.specs.Fits as schemas
use Rattle.bb_units.specs.declared.unit.Unit.{Unit as OneUnit}
use Rattle.bb_units.specs.Units.{class_of, is_live, after_delete as without_unit}
use Rattle.bb_links.specs.Links.{ends}
use Rattle.bb_links.specs.Couples.{after_forget}
use Rattle.bb_space.specs.Spaces.{spaces_of, after_forget as out_of_spaces}
use Rattle.bb_board.specs.declared.event.Change.TheVariants.{Delete, Leave, Unlink}
use Rattle.bb_board.specs.declared.note.Note.{Note}
use Rattle.bb_board.specs.State.{World}
use Rattle.bb_board.specs.World.{event, class_at}
use Rattle.bb_board.specs.Links.{parting}
use Rattle.bb_board.specs.Spaces.{leavings}
use Rattle.bb_board.specs.Fits.{Fits}
use Rattle.bb_board.specs.Deletion.{after_delete_alone}
use Rattle.bb_board.specs.proving.Deleted.{is_of, is_turn, slot_partings, deletion_notes, all_deletion_notes, without_units}
use Rattle.bb_board.proofs.ForgetLemmas.{class_stays, spaces_stay, ends_stay}
use Rattle.bb_board.proofs.alone.AloneLemmas.{alone_at_once}
use Rattle.bb_board.proofs.DeleteLemmas.{one_keeps}

-- ---- what units that are gone leave of the others

pub record IsLeft (s : Schema) (w : World) (gone : List ℕ) (v : World) : Type 0 where
  pub fits : Fits s v
  pub classes : (m : ℕ) → is_of gone m ≡ false → class_of v.units m ≡ class_of w.units m
  pub links : (m slot : ℕ) → is_of gone m ≡ false → ends v.links m slot ≡ filter (λ k. not (is_of gone k)) (ends w.links m slot)
  pub spaces : (m : ℕ) → is_of gone m ≡ false → spaces_of v.spaces m ≡ spaces_of w.spaces m

all_kept : (xs : List ℕ) → xs ≡ filter (λ k. true) xs
all_kept [] = refl
all_kept (x ∷ xs) = ap (λ l. x ∷ l) (all_kept xs)

pub none_gone : (s : Schema) (w : World) → Fits s w → IsLeft s w [] w
none_gone s w fits = record {
  fits = fits;
  classes = λ m there. refl;
  links = λ m slot there. all_kept (ends w.links m slot);
  spaces = λ m there. refl;
}

-- ---- one more

not_either : (a b : Bool) → (not a && not b) ≡ not (a || b)
not_either true b = refl
not_either false b = refl

-- tests one after another
filter_twice_by : (p q r : ℕ → Bool) (x : ℕ) (xs ys : List ℕ) (a b : Bool) → p x ≡ a → q x ≡ b → r x ≡ (a && b) → filter q xs ≡ filter r ys
    → filter q (cond a (x ∷ xs) xs) ≡ cond (r x) (x ∷ filter r ys) (filter r ys)
filter_twice_by p q r x xs ys true true is is2 is3 rest = rw (is2, is3) (ap (λ l. x ∷ l) rest)
filter_twice_by p q r x xs ys true false is is2 is3 rest = rw (is2, is3) rest
filter_twice_by p q r x xs ys false b is is2 is3 rest = rw is3 rest

pub filter_twice : (p q r : ℕ → Bool) → ((x : ℕ) → r x ≡ (p x && q x)) → (xs : List ℕ) → filter q (filter p xs) ≡ filter r xs
filter_twice p q r same [] = refl
filter_twice p q r same (x ∷ xs) = filter_twice_by p q r x (filter p xs) xs (p x) (q x) refl refl (same x) (filter_twice p q r same xs)

module _ (s : Schema) (w : World) (gone : List ℕ) (n : ℕ) where
  abbrev more : List ℕ
  more = gone ++ n ∷ []

  not_more : (m : ℕ) → is_of more m ≡ false → (is_of gone m ≡ false) × ((n == m) ≡ false)
  not_more m out = or_parts (is_of gone m) (n == m) (sym (list_any-last (λ k. k == m) gone n) ∙ out)

  one_gone : (v : World) → IsLeft s w gone v → Fits s (without_units s v (n ∷ [])) → IsLeft s w more (without_units s v (n ∷ []))
  one_gone v left fits = record {
    fits = fits;
    classes = λ m out. let p = not_more m out in class_stays n m p.1 v.units ∙ left.classes m p.0;
    links = λ m slot out. let p = not_more m out in
        ends_stay n m p.1 v.links slot
        ∙ (ap (filter (λ k. not (k == n))) (left.links m slot p.0)
        ∙ filter_twice (λ k. not (is_of gone k)) (λ k. not (k == n)) (λ k. not (is_of more k))
        (λ k. ap not (list_any-last (λ j. j == k) gone n ∙ ap (λ b. is_of gone k || b) (nat_eq_equiv.symm n k)) ∙ sym (not_either (is_of gone k) (k == n)))
        (ends w.links m slot));
    spaces = λ m out. let p = not_more m out in spaces_stay n m p.1 v.spaces ∙ left.spaces m p.0;
  }

-- ---- the notes of one more, read off the first state

flat_filter_by : {X : Type 0} (p : X → Bool) (f g : X → List Note) (x : X) (xs : List X) (b : Bool) → p x ≡ b → (p x ≡ true → f x ≡ g x)
    → flat_map f xs ≡ flat_map g xs → flat_map f (cond b (x ∷ xs) xs) ≡ flat_map g (cond b (x ∷ xs) xs)
flat_filter_by p f g x xs true is same rest = ap (λ l. l ++ flat_map f xs) (same is) ∙ ap (λ l. g x ++ l) rest
flat_filter_by p f g x xs false is same rest = rest

-- what items that pass give
flat_filter : {X : Type 0} (p : X → Bool) (f g : X → List Note) → ((x : X) → p x ≡ true → f x ≡ g x) → (xs : List X) → flat_map f (filter p xs) ≡ flat_map g (filter p xs)
flat_filter p f g same [] = refl
flat_filter p f g same (x ∷ xs) = flat_filter_by p f g x (filter p xs) (p x) refl (same x) (flat_filter p f g same xs)

flat_same : {X : Type 0} (f g : X → List Note) → ((x : X) → f x ≡ g x) → (xs : List X) → flat_map f xs ≡ flat_map g xs
flat_same f g same [] = refl
flat_same f g same (x ∷ xs) = ap (λ l. l ++ flat_map f xs) (same x) ∙ ap (λ l. g x ++ l) (flat_same f g same xs)

pub turn_rest : (gone : List ℕ) (side : Side) (n m : ℕ) → is_turn gone side n m ≡ (not (is_of gone m) && is_turn [] side n m)
turn_rest gone A n m = sym (and_true (not (is_of gone m)))
turn_rest gone B n m = sym (not_either (is_of gone m) (m == n))

-- who is noted is not gone
turn_there : (gone : List ℕ) (side : Side) (n m : ℕ) → is_turn gone side n m ≡ true → is_of gone m ≡ false
turn_there gone side n m is =
    not_true (is_of gone m) (and_first (not (is_of gone m)) (is_turn [] side n m) (sym (turn_rest gone side n m) ∙ is))

module _ (s : Schema) (w : World) (gone : List ℕ) (v : World) (left : IsLeft s w gone v) (n : ℕ) (there : is_of gone n ≡ false) where
  same_class : (m : ℕ) → is_of gone m ≡ false → class_at v m ≡ class_at w m
  same_class m out = ap (λ o. unwrap_or o 0) (left.classes m out)

  same_parting : (slot m : ℕ) → is_of gone m ≡ false → parting s v n slot m ≡ parting s w n slot m
  same_parting slot m out =
      ap (λ c. event n c (Unlink slot m) ∷ event m (class_at v m) (Unlink (inverse_of s.slots slot) n) ∷ []) (same_class n there)
      ∙ ap (λ c. event n (class_at w n) (Unlink slot m) ∷ event m c (Unlink (inverse_of s.slots slot) n) ∷ []) (same_class m out)

  same_partings_by : (slot : ℕ) (e : Option (ℕ × Side))
      → option_map_or (λ e. flat_map (parting s v n slot) (filter (is_turn [] e.1 n) (ends v.links n slot))) e []
      ≡ option_map_or (λ e. flat_map (parting s w n slot) (filter (is_turn gone e.1 n) (ends w.links n slot))) e []
  same_partings_by slot None = refl
  same_partings_by slot (Some e) =
      ap (λ l. flat_map (parting s v n slot) (filter (is_turn [] e.1 n) l)) (left.links n slot there)
      ∙ (ap (flat_map (parting s v n slot)) (filter_twice (λ k. not (is_of gone k)) (is_turn [] e.1 n) (is_turn gone e.1 n) (turn_rest gone e.1 n) (ends w.links n slot))
      ∙ flat_filter (is_turn gone e.1 n) (parting s v n slot) (parting s w n slot) (λ m is. same_parting slot m (turn_there gone e.1 n m is)) (ends w.links n slot))

  same_partings : (slot : ℕ) → slot_partings s v [] n slot ≡ slot_partings s w gone n slot
  same_partings slot = same_partings_by slot (couple_of s slot)

  same_leavings : leavings v n ≡ leavings w n
  same_leavings =
      ap (map (λ space. event n (class_at v n) (Leave space))) (left.spaces n there)
      ∙ ap (λ c. map (λ space. event n c (Leave space)) (spaces_of w.spaces n)) (same_class n there)

  pub same_notes : deletion_notes s v [] n ≡ deletion_notes s w gone n
  same_notes =
      ap (λ c. flat_map (slot_partings s v [] n) (slots_of s c) ++ leavings v n ++ event n c Delete ∷ []) (same_class n there)
      ∙ (ap (λ l. l ++ leavings v n ++ event n (class_at w n) Delete ∷ []) (flat_same (slot_partings s v [] n) (slot_partings s w gone n) same_partings (slots_of s (class_at w n)))
      ∙ ap (λ l. flat_map (slot_partings s w gone n) (slots_of s (class_at w n)) ++ l ++ event n (class_at w n) Delete ∷ []) same_leavings)

-- ---- all of them

-- the state without some units, after others that are gone
abbrev after_gone : Schema → World → (gone : List ℕ) → World → (units : List ℕ) → World
after_gone s w gone v ns = record {
  units = fold without_unit v.units ns;
  links = fold after_forget v.links ns;
  spaces = fold out_of_spaces v.spaces ns;
  notes = v.notes ++ all_deletion_notes s w gone ns;
}

-- units that differ from each other and from those that are gone, and were live
abbrev pub AreNext : World → (gone : List ℕ) → (units : List ℕ) → Type 0
AreNext w gone [] = Unit {0}
AreNext w gone (n ∷ ns) = (is_of gone n ≡ false) × (is_live w.units n ≡ true) × AreNext w (gone ++ n ∷ []) ns

live_by : (a b : Option OneUnit) → option_map (λ x. x.class) a ≡ option_map (λ x. x.class) b → is_some b ≡ true → is_some a ≡ true
live_by (Some a) b same live = refl
live_by None (Some b) same live = absurd cc
live_by None None same live = absurd cc

with_notes : (v : World) (notes : List Note) → v.notes ≡ notes → v ≡ (let u : World = record { units = v.units; links = v.links; spaces = v.spaces; notes = notes } in u)
with_notes v notes is = ap (λ (l : List Note). (let u : World = record { units = v.units; links = v.links; spaces = v.spaces; notes = l } in u)) is

module _ (s : Schema) (sf : schemas.Fits s) (w : World) where
  pub fold_at_once : (gone : List ℕ) (v : World) → IsLeft s w gone v → (ns : List ℕ) → AreNext w gone ns → fold (after_delete_alone s) v ns ≡ after_gone s w gone v ns
  fold_at_once gone v left [] next = with_notes v (v.notes ++ []) (sym (append-nil v.notes))
  fold_at_once gone v left (n ∷ ns) next =
      let live = live_by (get v.units.units n) (get w.units.units n) (left.classes n next.0) next.1 in
      let one = without_units s v (n ∷ []) in
      let keeps = one_keeps s v sf left.fits n live in
      let told : one.notes ≡ v.notes ++ deletion_notes s w gone n = ap (λ l. v.notes ++ l) (append-nil (deletion_notes s v [] n) ∙ same_notes s w gone v left n next.0) in
      let rest = all_deletion_notes s w (gone ++ n ∷ []) ns in
      ap (λ u. fold (after_delete_alone s) u ns) (alone_at_once s v sf left.fits n live)
      ∙ (fold_at_once (gone ++ n ∷ []) one (one_gone s w gone n v left keeps) ns next.2
      ∙ ap (λ (l : List Note). (let u : World = record { units = fold without_unit one.units ns; links = fold after_forget one.links ns; spaces = fold out_of_spaces one.spaces ns; notes = l } in u))
      (ap (λ l. l ++ rest) told ∙ append_assoc v.notes (deletion_notes s w gone n) rest))

  pub fold_keeps : (gone : List ℕ) (v : World) → IsLeft s w gone v → (ns : List ℕ) → AreNext w gone ns → Fits s (fold (after_delete_alone s) v ns)
  fold_keeps gone v left [] next = left.fits
  fold_keeps gone v left (n ∷ ns) next =
      let live = live_by (get v.units.units n) (get w.units.units n) (left.classes n next.0) next.1 in
      let one = without_units s v (n ∷ []) in
      subst (λ u. Fits s (fold (after_delete_alone s) u ns)) (sym (alone_at_once s v sf left.fits n live))
      (fold_keeps (gone ++ n ∷ []) one (one_gone s w gone n v left (one_keeps s v sf left.fits n live)) ns next.2)
