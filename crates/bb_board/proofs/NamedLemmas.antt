-- Each change of a blackboard names the unit that it changes in a note.
use Rattle.std.proofs.Common.{◌≡◌, ℕ, Bool, true, false, cond, List, [], ◌∷◌, ◌++◌, Option, Some, None, refl, sym, ap, ◌∙◌, arith}
use Rattle.std.specs.Prelude.{◌==◌, not}
use Rattle.std.specs.List.{list_any}
use Rattle.std.specs.Option.{option_map_or}
use Rattle.std.specs.Ordering.{nat_cmp, eq_by_cmp}
use Rattle.std.specs.Cmp.{nat_cmp_total, Equal-is}
use Rattle.std.specs.FinMap.{FinMap, get, insert, get-insert, get-remove, nat_cmp-IsAntisymmetric}
use Rattle.std.proofs.lemmas.Bool.{or_parts}
use Rattle.std.proofs.lemmas.Bool.Decides.{nat_tests}
use Rattle.std.proofs.lemmas.List.{append-nil, append_assoc}
use Rattle.std.proofs.lemmas.List.Folds.{list_any-append}
use Rattle.bb_schema_classes.specs.declared.value.Value.{Value}
use Rattle.bb_schema.specs.declared.couple.Side.{Side}
use Rattle.bb_schema.specs.Schema.{Schema}
use Rattle.bb_schema.specs.Couples.{couple_of}
use Rattle.bb_units.specs.declared.unit.Unit.{Unit}
use Rattle.bb_units.specs.Units.{Units, new_unit, with_slot, after_create as with_new_unit, after_delete as without_unit}
use Rattle.bb_space.specs.Spaces.{is_member}
use Rattle.bb_board.specs.declared.event.Change.TheVariants.{Create, Update, Delete}
use Rattle.bb_board.specs.declared.note.Note.{Note}
use Rattle.bb_board.specs.declared.note.Note.TheVariants as noted
use Rattle.bb_board.specs.declared.note.Said.{Said}
use Rattle.bb_board.specs.State.{World}
use Rattle.bb_board.specs.World.{event, class_at, after_create, after_set, after_say}
use Rattle.bb_board.specs.Deletion.{after_end}
use Rattle.bb_board.specs.Links.{linked_at, unlinked_at, after_link, after_unlink}
use Rattle.bb_board.specs.Spaces.{after_enter, after_leave}
use Rattle.bb_board.specs.Named.{names, NotesChanges}

-- ---- notes that name a unit nowhere

none_of : (p : Note → Bool) (xs ys : List Note) → list_any p (xs ++ ys) ≡ false → (list_any p xs ≡ false) × (list_any p ys ≡ false)
none_of p xs ys h = or_parts (list_any p xs) (list_any p ys) (sym (list_any-append p xs ys) ∙ h)

-- a blackboard that is as it was
pub same_named : (w : World) → NotesChanges w w
same_named w = record { more = []; notes = sym (append-nil w.notes); kept = λ n h. refl }

-- changes after changes
pub then_named : (a b c : World) → NotesChanges a b → NotesChanges b c → NotesChanges a c
then_named a b c first next = record {
  more = first.more ++ next.more;
  notes = next.notes ∙ (ap (λ (l : List Note). l ++ next.more) first.notes ∙ append_assoc a.notes first.more next.more);
  kept = λ n h. let p = none_of (names n) first.more next.more h in next.kept n p.1 ∙ first.kept n p.0;
}

-- changes that leave the units as they are
noted_alone : (w v : World) (more : List Note) → v.units ≡ w.units → v.notes ≡ w.notes ++ more → NotesChanges w v
noted_alone w v more same is = record { more = more; notes = is; kept = λ n h. ap (λ (u : Units). get u.units n) same }

-- ---- units but the one that is changed

other_by : (b : Bool) (k n : ℕ) → eq_by_cmp nat_cmp n k ≡ b → (k == n) ≡ false → b ≡ false
other_by true k n same h = absurd (let e = nat_cmp-IsAntisymmetric n k ((Equal-is (nat_cmp n k)).0 same) in grind (arith, nat_tests, e))
other_by false k n same h = refl

other : (k n : ℕ) → (k == n) ≡ false → eq_by_cmp nat_cmp n k ≡ false
other k n h = other_by (eq_by_cmp nat_cmp n k) k n refl h

created_at : (u : Units) (class n : ℕ) → (u.next == n) ≡ false → get (with_new_unit u class).units n ≡ get u.units n
created_at u class n h =
    get-insert nat_cmp_total u.units u.next (new_unit u.layout class) n ∙ ap (λ b. cond b (Some (new_unit u.layout class)) (get u.units n)) (other u.next n h)

set_by : (m : FinMap nat_cmp Unit) (k slot n : ℕ) (value : Value) (found : Option Unit) → (k == n) ≡ false
    → get (option_map_or (λ x. insert m k (with_slot x slot value)) found m) n ≡ get m n
set_by m k slot n value None h = refl
set_by m k slot n value (Some x) h = get-insert nat_cmp_total m k (with_slot x slot value) n ∙ ap (λ b. cond b (Some (with_slot x slot value)) (get m n)) (other k n h)

deleted_at : (u : Units) (k n : ℕ) → (k == n) ≡ false → get (without_unit u k).units n ≡ get u.units n
deleted_at u k n h = get-remove nat_cmp_total u.units k n ∙ ap (λ b. cond b None (get u.units n)) (other k n h)

-- ---- each change

pub create_named : (w : World) (class : ℕ) → NotesChanges w (after_create w class)
create_named w class = record {
  more = event w.units.next class Create ∷ [];
  notes = refl;
  kept = λ n h. created_at w.units class n (or_parts (w.units.next == n) false h).0;
}

pub set_named : (s : Schema) (w : World) (k slot : ℕ) (value : Value) → NotesChanges w (after_set s w k slot value)
set_named s w k slot value = record {
  more = event k (class_at w k) (Update slot) ∷ [];
  notes = refl;
  kept = λ n h. set_by w.units.units k slot n value (get w.units.units k) (or_parts (k == n) false h).0;
}

-- a unit that is no longer there
pub end_named : (w : World) (k : ℕ) → NotesChanges w (after_end k w)
end_named w k = record {
  more = event k (class_at w k) Delete ∷ [];
  notes = refl;
  kept = λ n h. deleted_at w.units k n (or_parts (k == n) false h).0;
}

pub say_named : (w : World) (values : List Said) → NotesChanges w (after_say w values)
say_named w values = noted_alone w (after_say w values) (noted.Said values ∷ []) refl refl

module _ (s : Schema) (w : World) (n slot m : ℕ) where
  linked_by : (e : Option (ℕ × Side)) → NotesChanges w (option_map_or (linked_at s w n slot m) e w)
  linked_by None = same_named w
  linked_by (Some e) = noted_alone w (linked_at s w n slot m e) _ refl refl

  unlinked_by : (e : Option (ℕ × Side)) → NotesChanges w (option_map_or (unlinked_at s w n slot m) e w)
  unlinked_by None = same_named w
  unlinked_by (Some e) = noted_alone w (unlinked_at s w n slot m e) _ refl refl

  pub link_named : NotesChanges w (after_link s w n slot m)
  link_named = linked_by (couple_of s slot)

  pub unlink_named : NotesChanges w (after_unlink s w n slot m)
  unlink_named = unlinked_by (couple_of s slot)

-- one of two states, of which the first is as it was
either_named : (b : Bool) (w v : World) → NotesChanges w v → NotesChanges w (cond b w v)
either_named true w v named = same_named w
either_named false w v named = named

module _ (w : World) (n space : ℕ) where
  pub enter_named : (s : Schema) → NotesChanges w (after_enter s w n space)
  enter_named s = either_named (is_member w.spaces space n) w _ (noted_alone w _ _ refl refl)

  pub leave_named : NotesChanges w (after_leave w n space)
  leave_named = either_named (not (is_member w.spaces space n)) w _ (noted_alone w _ _ refl refl)
