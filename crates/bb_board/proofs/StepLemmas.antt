-- What the steps of a deletion change of the units, and what they note.
use Rattle.std.proofs.Common.{◌≡◌, ℕ, Bool, true, false, cond, List, [], ◌∷◌, Option, Some, None, option_map, refl, sym, ap, subst, ◌∙◌}
use Rattle.std.specs.Prelude.{◌==◌, ◌||◌, not}
use Rattle.std.specs.List.{fold, list_any}
use Rattle.std.specs.Option.{option_map_or}
use Rattle.std.specs.Cmp.{nat_cmp_total, unsigned_tied}
use Rattle.std.specs.FinMap.{get, get-remove}
use Rattle.std.proofs.lemmas.Cmp.{nat_eq_equiv}
use Rattle.bb_schema.specs.declared.couple.Side.{Side}
use Rattle.bb_schema.specs.Schema.{Schema, slots_of}
use Rattle.bb_schema.specs.Couples.{couple_of}
use Rattle.bb_units.specs.Units.{Units, class_of, after_delete as without_unit}
use Rattle.bb_links.specs.Links.{ends}
use Rattle.bb_space.specs.Spaces.{is_member, spaces_of}
use Rattle.bb_board.specs.State.{World}
use Rattle.bb_board.specs.World.{class_at}
use Rattle.bb_board.specs.Links.{unlinked_at, after_unlink}
use Rattle.bb_board.specs.Spaces.{after_leave}
use Rattle.bb_board.specs.Deletion.{after_parting, after_partings, after_leavings, after_end, after_delete_alone, with_parts, after_delete}
use Rattle.bb_board.specs.Named.{NotesChanges}
use Rattle.bb_board.specs.Outlives.{Outlives}
use Rattle.bb_board.proofs.NamedLemmas.{same_named, then_named, unlink_named, leave_named, end_named}
use Rattle.bb_board.proofs.OutliveLemmas.{outlives_same, then_outlives, deleted_outlives}

-- ---- the units are as they were until the end

fold_units : {X : Type 0} (f : World → X → World) → ((v : World) (x : X) → (f v x).units ≡ v.units) → (w : World) (xs : List X) → (fold f w xs).units ≡ w.units
fold_units f same w [] = refl
fold_units f same w (x ∷ xs) = fold_units f same (f w x) xs ∙ same w x

unlink_units_by : (s : Schema) (w : World) (n slot m : ℕ) (e : Option (ℕ × Side)) → (option_map_or (unlinked_at s w n slot m) e w).units ≡ w.units
unlink_units_by s w n slot m None = refl
unlink_units_by s w n slot m (Some e) = refl

leave_units_by : (w v : World) (b : Bool) → v.units ≡ w.units → (cond b w v).units ≡ w.units
leave_units_by w v true same = refl
leave_units_by w v false same = same

leave_units : (w : World) (n space : ℕ) → (after_leave w n space).units ≡ w.units
leave_units w n space = leave_units_by w _ (not (is_member w.spaces space n)) refl

parting_units : (s : Schema) (n : ℕ) (w : World) (slot : ℕ) → (after_parting s n w slot).units ≡ w.units
parting_units s n w slot = fold_units (λ v m. after_unlink s v n slot m) (λ v m. unlink_units_by s v n slot m (couple_of s slot)) w (ends w.links n slot)

pub alone_units : (s : Schema) (w : World) (n : ℕ) → (after_delete_alone s w n).units ≡ without_unit w.units n
unfolding after_delete_alone
alone_units s w n =
    let parted = after_partings s n w in
    ap (λ u. without_unit u n) (fold_units (λ v space. after_leave v n space) (λ v space. leave_units v n space) parted (spaces_of parted.spaces n)
    ∙ fold_units (after_parting s n) (parting_units s n) w (slots_of s (class_at w n)))

all_units : (s : Schema) (w : World) (ns : List ℕ) → (fold (after_delete_alone s) w ns).units ≡ fold without_unit w.units ns
all_units s w [] = refl
all_units s w (n ∷ ns) = all_units s (after_delete_alone s w n) ns ∙ ap (λ u. fold without_unit u ns) (alone_units s w n)

pub delete_units : (s : Schema) (w : World) (n : ℕ) → (after_delete s w n).units ≡ fold without_unit w.units (with_parts s w n)
unfolding after_delete
delete_units s w n = all_units s w (with_parts s w n)

-- ---- who is gone then

gone_by : {X : Type 0} (a b : Bool) (x : Option X) → cond b None (cond a None x) ≡ cond (a || b) None x
gone_by true true x = refl
gone_by true false x = refl
gone_by false b x = refl

map_gone : {X Y : Type 0} (f : X → Y) (b : Bool) (x : Option X) → option_map f (cond b None x) ≡ cond b None (option_map f x)
map_gone f true x = refl
map_gone f false x = refl

one_gone : (u : Units) (n m : ℕ) → class_of (without_unit u n) m ≡ cond (n == m) None (class_of u m)
one_gone u n m =
    ap (option_map (λ x. x.class)) (get-remove nat_cmp_total u.units n m)
    ∙ (ap (λ b. option_map (λ x. x.class) (cond b None (get u.units m))) (unsigned_tied m n ∙ nat_eq_equiv.symm m n)
    ∙ map_gone (λ x. x.class) (n == m) (get u.units m))

all_gone : (u : Units) (ns : List ℕ) (m : ℕ) → class_of (fold without_unit u ns) m ≡ cond (list_any (λ k. k == m) ns) None (class_of u m)
all_gone u [] m = refl
all_gone u (n ∷ ns) m =
    all_gone (without_unit u n) ns m
    ∙ (ap (cond (list_any (λ k. k == m) ns) None) (one_gone u n m)
    ∙ gone_by (n == m) (list_any (λ k. k == m) ns) (class_of u m))

module _ (s : Schema) (w : World) (n m : ℕ) where
  -- the unit and its parts are gone, and each other unit keeps its class
  pub parts_gone : class_of (after_delete s w n).units m ≡ cond (list_any (λ k. k == m) (with_parts s w n)) None (class_of w.units m)
  parts_gone = ap (λ (u : Units). class_of u m) (delete_units s w n) ∙ all_gone w.units (with_parts s w n) m

  pub others_stay : list_any (λ k. k == m) (with_parts s w n) ≡ false → class_of (after_delete s w n).units m ≡ class_of w.units m
  others_stay out = parts_gone ∙ ap (λ b. cond b None (class_of w.units m)) out

-- ---- the units that were outlive it

all_outlive : (u : Units) (ns : List ℕ) → Outlives u (fold without_unit u ns)
all_outlive u [] = outlives_same u
all_outlive u (n ∷ ns) = then_outlives u (without_unit u n) (fold without_unit (without_unit u n) ns) (deleted_outlives u n) (all_outlive (without_unit u n) ns)

pub delete_outlives : (s : Schema) (w : World) (n : ℕ) → Outlives w.units (after_delete s w n).units
delete_outlives s w n = subst (λ (u : Units). Outlives w.units u) (sym (delete_units s w n)) (all_outlive w.units (with_parts s w n))

-- ---- each unit that is gone is named

fold_named : {X : Type 0} (f : World → X → World) → ((v : World) (x : X) → NotesChanges v (f v x)) → (w : World) (xs : List X) → NotesChanges w (fold f w xs)
fold_named f named w [] = same_named w
fold_named f named w (x ∷ xs) = then_named w (f w x) (fold f (f w x) xs) (named w x) (fold_named f named (f w x) xs)

parting_named : (s : Schema) (n : ℕ) (w : World) (slot : ℕ) → NotesChanges w (after_parting s n w slot)
parting_named s n w slot = fold_named (λ v m. after_unlink s v n slot m) (λ v m. unlink_named s v n slot m) w (ends w.links n slot)

alone_named : (s : Schema) (w : World) (n : ℕ) → NotesChanges w (after_delete_alone s w n)
unfolding after_delete_alone
alone_named s w n =
    let parted = after_partings s n w in
    let left = after_leavings n parted in
    then_named w left (after_end n left)
    (then_named w parted left (fold_named (after_parting s n) (parting_named s n) w (slots_of s (class_at w n)))
    (fold_named (λ v space. after_leave v n space) (λ v space. leave_named v n space) parted (spaces_of parted.spaces n)))
    (end_named left n)

pub delete_named : (s : Schema) (w : World) (n : ℕ) → NotesChanges w (after_delete s w n)
unfolding after_delete
delete_named s w n = fold_named (after_delete_alone s) (alone_named s) w (with_parts s w n)
