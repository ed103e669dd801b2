-- A worked deletion: a case has items, an item has chips, and each owns what it has.
use Rattle.std.proofs.Common.{◌≡◌, ℕ, pos, Bool, true, false, cond, List, [], ◌∷◌, ◌++◌, map, Option, Some, None, codes, refl, ap, ap₂, ◌∙◌}
use Rattle.std.specs.Prelude.{◌==◌, ◌&&◌, option_map, unwrap_or}
use Rattle.std.specs.List.{flat_map, fold, list_any}
use Rattle.std.specs.List.Sorted.{IsStrictlySortedBy}
use Rattle.std.specs.Cmp.{nat_cmp_total}
use Rattle.std.specs.FinMap as fin
use Rattle.std.specs.Ordering.{nat_cmp, eq_by_cmp}
use Rattle.bb_basis.proofs.EntryLemmas.{entries_are}
use Rattle.bb_schema_classes.specs.declared.class.Class.{Class}
use Rattle.bb_schema_classes.specs.declared.kind.Link.{Link}
use Rattle.bb_schema_classes.specs.declared.value.Value.TheVariants.{Int}
use Rattle.bb_schema_classes.specs.Focus.{focus_class}
use Rattle.bb_schema.specs.declared.slot.Slot.{Slot}
use Rattle.bb_schema.specs.declared.slot.Content.TheVariants as contents
use Rattle.bb_schema.specs.Schema.{Schema, slots_of}
use Rattle.bb_schema.specs.Couples.{firsts}
use Rattle.bb_units.specs.declared.unit.Unit.{Unit as OneUnit}
use Rattle.bb_units.specs.Layout.{layout_of}
use Rattle.bb_units.specs.Units.{class_of, after_delete as without_unit}
use Rattle.bb_links.specs.Layout.{slot_ends}
use Rattle.bb_links.specs.Links.{ends}
use Rattle.bb_links.specs.Couples.{Couples}
use Rattle.bb_basis.specs.Closure.{closure}
use Rattle.bb_schema.specs.Ownership.{owns}
use Rattle.bb_board.specs.declared.event.Change.{Change}
use Rattle.bb_board.specs.declared.event.Change.TheVariants.{Delete, Unlink}
use Rattle.bb_board.specs.declared.event.Event.TheVariants as events
use Rattle.bb_board.specs.declared.note.Note.{Note}
use Rattle.bb_board.specs.declared.note.Note.TheVariants as notes
use Rattle.bb_board.specs.State.{World}
use Rattle.bb_board.specs.World.{event, class_at}
use Rattle.bb_board.specs.Spaces.{leavings}
use Rattle.bb_board.specs.Deletion.{after_parting, after_leavings, after_end, after_delete_alone, with_parts, after_delete}
use Rattle.bb_board.specs.proving.Deleted.{slot_partings, deletion_notes, all_deletion_notes}

-- ---- the schema: slot 4 is a case's items, 5 an item's case, 6 an item's chips, 7 a number, 8 a chip's item

number : (name : List ℕ) (owner : ℕ) → Slot
number name owner = record { name = name; owner = owner; content = contents.Default (Int (pos 0)) }

-- a link slot, which owns where it holds many
link : (name : List ℕ) (owner to : ℕ) (many : Bool) (inverse : ℕ) → Slot
link name owner to many inverse = record {
  name = name;
  owner = owner;
  content = contents.Link (let l : Link = record { to = to; many = many; inverse = inverse; owns = many } in l);
}

class : (name : List ℕ) (slots : List ℕ) → Class
class name slots = record { name = name; parent = None; slots = slots }

schema : Schema
schema = record {
  label_sets = [];
  classes = focus_class ∷ class (codes "case") (4 ∷ []) ∷ class (codes "item") (5 ∷ 6 ∷ []) ∷ class (codes "chip") (7 ∷ 8 ∷ []) ∷ [];
  slots = number (codes "source") 0 ∷ number (codes "area") 0 ∷ number (codes "weight") 0 ∷ number (codes "active") 0
      ∷ link (codes "items") 1 2 true 5 ∷ link (codes "home") 2 1 false 4 ∷ link (codes "chips") 2 3 true 8
      ∷ number (codes "n") 3 ∷ link (codes "seat") 3 2 false 6 ∷ [];
  spaces = [];
}

-- ---- the units: 1 is a chip of item 3, and the items 3 and 4 are those of case 2

unit : (class : ℕ) → OneUnit
unit class = record { class = class; values = [] }

entries : List (ℕ × OneUnit)
entries = (1, unit 3) ∷ (2, unit 1) ∷ (3, unit 2) ∷ (4, unit 2) ∷ []

couples : Couples
couples = record {
  couples = record { singular = record { a = false; b = true }; pairs = (2, 3) ∷ (2, 4) ∷ [] }
      ∷ record { singular = record { a = false; b = true }; pairs = (3, 1) ∷ [] } ∷ [];
  ends = slot_ends schema;
}

world : World
world = record {
  units = record { next = 5; units = fin.from_entries entries; layout = layout_of schema };
  links = couples;
  spaces = record { spaces = [] };
  notes = [];
}

class_is : (n : ℕ) → class_at world n ≡ unwrap_or (option_map (λ x. x.class) (fin.find nat_cmp n entries)) 0
unfolding world
class_is n = ap (λ o. unwrap_or (option_map (λ (x : OneUnit). x.class) o) 0) (fin.get-from_entries nat_cmp_total entries n)

keys_are : fin.keys world.units.units ≡ 1 ∷ 2 ∷ 3 ∷ 4 ∷ []
unfolding world entries unit IsStrictlySortedBy
keys_are = ap (map (λ (e : ℕ × OneUnit). e.0)) (entries_are entries ((refl, (refl, (refl, tt))), ((refl, (refl, tt)), ((refl, tt), (tt, tt)))))

-- ---- who is a part

leads : (ℕ → ℕ) → (whole part : ℕ) → Bool
leads class n m = list_any (λ slot. owns schema slot && list_any (λ k. k == m) (ends couples n slot)) (slots_of schema (class n))

parts_are : (n : ℕ) → with_parts schema world n ≡ closure (leads (λ k. unwrap_or (option_map (λ x. x.class) (fin.find nat_cmp k entries)) 0)) (1 ∷ 2 ∷ 3 ∷ 4 ∷ []) n
unfolding leads world
parts_are n = ap₂ (λ class all. closure (leads class) all n) (λ i k. class_is k i) keys_are

case_parts : with_parts schema world 2 ≡ 1 ∷ 2 ∷ 3 ∷ 4 ∷ []
unfolding leads world entries unit schema couples link number class closure firsts
case_parts = parts_are 2

item_parts : with_parts schema world 3 ≡ 1 ∷ 3 ∷ []
unfolding leads world entries unit schema couples link number class closure firsts
item_parts = parts_are 3

chip_parts : with_parts schema world 1 ≡ 1 ∷ []
unfolding leads world entries unit schema couples link number class closure firsts
chip_parts = parts_are 1

-- ---- what is noted, step by step

-- the unit and the change of an event
what : Note → Option (ℕ × Change)
what (notes.Event (events.Change n class change)) = Some (n, change)
what _ = None

-- one unit is deleted, which is of this class
alone_by : World → (n class : ℕ) → World
alone_by w n class = after_end n (after_leavings n (fold (after_parting schema n) w (slots_of schema class)))

alone_is : (w : World) (n class : ℕ) → class_at w n ≡ class → after_delete_alone schema w n ≡ alone_by w n class
unfolding after_delete_alone alone_by
alone_is w n class is = ap (λ c. after_end n (after_leavings n (fold (after_parting schema n) w (slots_of schema c)))) is

-- the class of a unit, where another one is gone
class_left : (w : World) (n m class : ℕ) → eq_by_cmp nat_cmp m n ≡ false → class_at w m ≡ class → unwrap_or (class_of (without_unit w.units n) m) 0 ≡ class
class_left w n m class apart is =
    ap (λ o. unwrap_or (option_map (λ (x : OneUnit). x.class) o) 0) (fin.get-remove nat_cmp_total w.units.units n m)
    ∙ (ap (λ b. unwrap_or (option_map (λ (x : OneUnit). x.class) (cond b None (fin.get w.units.units m))) 0) apart ∙ is)

without_one : World
without_one = alone_by world 1 3

without_two : World
without_two = alone_by without_one 2 1

without_three : World
without_three = alone_by without_two 3 2

one_left : (m : ℕ) → eq_by_cmp nat_cmp m 1 ≡ false → class_at without_one m ≡ class_at world m
unfolding without_one alone_by world schema couples link number class firsts
one_left m apart = class_left world 1 m (class_at world m) apart refl

two_left : (m : ℕ) → eq_by_cmp nat_cmp m 2 ≡ false → class_at without_two m ≡ class_at without_one m
unfolding without_one without_two alone_by world schema couples link number class firsts
two_left m apart = class_left without_one 2 m (class_at without_one m) apart refl

three_left : (m : ℕ) → eq_by_cmp nat_cmp m 3 ≡ false → class_at without_three m ≡ class_at without_two m
unfolding without_one without_two without_three alone_by world schema couples link number class firsts
three_left m apart = class_left without_two 3 m (class_at without_two m) apart refl

case_steps : after_delete schema world 2 ≡ alone_by without_three 4 2
unfolding after_delete without_one without_two without_three entries unit
case_steps =
    ap (fold (after_delete_alone schema) world) case_parts
    ∙ (ap (λ v. fold (after_delete_alone schema) v (2 ∷ 3 ∷ 4 ∷ [])) (alone_is world 1 3 (class_is 1))
    ∙ (ap (λ v. fold (after_delete_alone schema) v (3 ∷ 4 ∷ [])) (alone_is without_one 2 1 (one_left 2 refl ∙ class_is 2))
    ∙ (ap (λ v. fold (after_delete_alone schema) v (4 ∷ [])) (alone_is without_two 3 2 (two_left 3 refl ∙ (one_left 3 refl ∙ class_is 3)))
    ∙ alone_is without_three 4 2 (three_left 4 refl ∙ (two_left 4 refl ∙ (one_left 4 refl ∙ class_is 4))))))

case_noted : map what (after_delete schema world 2).notes
    ≡ map (λ e. Some e) ((1, Unlink 8 3) ∷ (3, Unlink 6 1) ∷ (1, Delete) ∷ (2, Unlink 4 3) ∷ (3, Unlink 5 2) ∷ (2, Unlink 4 4) ∷ (4, Unlink 5 2) ∷ (2, Delete)
    ∷ (3, Delete) ∷ (4, Delete) ∷ [])
unfolding without_one without_two without_three alone_by world schema couples link number class firsts what
case_noted = ap (λ (v : World). map what v.notes) case_steps

-- ---- what is noted, read off the first state

of : (n : ℕ) → Change → Note
of n change = event n (class_at world n) change

notes_by : (gone : List ℕ) (n class : ℕ) → class_at world n ≡ class
    → deletion_notes schema world gone n ≡ flat_map (slot_partings schema world gone n) (slots_of schema class) ++ leavings world n ++ of n Delete ∷ []
unfolding of
notes_by gone n class is = ap (λ c. flat_map (slot_partings schema world gone n) (slots_of schema c) ++ leavings world n ++ of n Delete ∷ []) is

case_notes : all_deletion_notes schema world [] (1 ∷ 2 ∷ 3 ∷ 4 ∷ [])
    ≡ of 1 (Unlink 8 3) ∷ of 3 (Unlink 6 1) ∷ of 1 Delete
    ∷ of 2 (Unlink 4 3) ∷ of 3 (Unlink 5 2) ∷ of 2 (Unlink 4 4) ∷ of 4 (Unlink 5 2) ∷ of 2 Delete
    ∷ of 3 Delete ∷ of 4 Delete ∷ []
unfolding of world entries unit schema couples link number class firsts
case_notes =
    ap₂ (λ a b. a ++ b) (notes_by [] 1 3 (class_is 1)) (ap₂ (λ a b. a ++ b) (notes_by (1 ∷ []) 2 1 (class_is 2))
    (ap₂ (λ a b. a ++ b) (notes_by (1 ∷ 2 ∷ []) 3 2 (class_is 3)) (ap (λ a. a ++ []) (notes_by (1 ∷ 2 ∷ 3 ∷ []) 4 2 (class_is 4)))))

item_notes : all_deletion_notes schema world [] (1 ∷ 3 ∷ [])
    ≡ of 1 (Unlink 8 3) ∷ of 3 (Unlink 6 1) ∷ of 1 Delete ∷ of 3 (Unlink 5 2) ∷ of 2 (Unlink 4 3) ∷ of 3 Delete ∷ []
unfolding of world entries unit schema couples link number class firsts
item_notes = ap₂ (λ a b. a ++ b) (notes_by [] 1 3 (class_is 1)) (ap (λ a. a ++ []) (notes_by (1 ∷ []) 3 2 (class_is 3)))
