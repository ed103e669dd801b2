-- The properties of every schema.
use Rattle.std.specs.Prelude.{◌≡◌, ◌≢◌, ◌<◌, ◌≤◌, [], ◌∷◌, ℕ, List, map, length, slice_get, option_map, Some, All, IfSome, IsTrue, true, nat_eq}
use Rattle.std.specs.List.{IsDistinct, list_all}
use Rattle.bb_basis.specs.Names.{is_name}
use Rattle.bb_schema_classes.specs.declared.label_set.LabelSet.{LabelSet}
use Rattle.bb_schema_classes.specs.declared.draft.TheConstants.{SLOT_LIMIT}
use Rattle.bb_schema_classes.specs.declared.read.classes.TheConstants.{CLASS_LIMIT}
use Rattle.bb_schema_classes.specs.declared.class.Class.{Class}
use Rattle.bb_schema_classes.specs.declared.kind.Link.{Link}
use Rattle.bb_schema_classes.specs.Inheritance.{ParentsAreEarlier, parent_of, descends_in, slots_in, is_among}
use Rattle.bb_schema_classes.specs.Naming.{AreNames}
use Rattle.bb_schema_classes.specs.Focus.{focus_class}
use Rattle.bb_schema_classes.specs.Fits.{AreLabelSets, IsHeld, IsClass, StartsWith}
use Rattle.bb_schema.specs.declared.slot.Slot.{Slot}
use Rattle.bb_schema.specs.declared.read.spaces.TheConstants.{DIM_LIMIT, SPACE_LIMIT}
use Rattle.bb_schema.specs.declared.space.Space.{Space}
use Rattle.bb_schema.specs.SpaceReading.{has_slot_for}
use Rattle.bb_schema.specs.Focus.{focus_slots}
use Rattle.bb_schema.specs.Schema.{Schema}
use Rattle.bb_schema.specs.Slots.{link_of, default_in}

-- a slot has a name, belongs to one of class_count classes, and can hold its default
pub record IsSlot (sets : List LabelSet) (class_count : ℕ) (t : Slot) : Type 0 where
  pub name : IsTrue (is_name t.name)
  pub owner : t.owner < class_count
  pub default : IfSome (default_in t.content) (IsHeld sets)

-- the classes that a space lists exist, none twice; its dimensions have names and existing label sets, and for every
-- dimension, every class of the space has a slot with the dimension's name and a suitable kind
pub record IsSpace (s : Schema) (p : Space) : Type 0 where
  pub classes : All (λ c. c < length s.classes) p.classes
  pub distinct : IsDistinct nat_eq p.classes
  pub named : AreNames DIM_LIMIT (map (λ d. d.name) p.dims)
  pub sets : All (λ d. IfSome d.set (λ set. set < length s.label_sets)) p.dims
  pub slots : All (λ d. IsTrue (list_all (has_slot_for s d.name d.set) p.classes)) p.dims

-- the spaces have distinct names, within the limit, and each fits the schema
pub record AreSpaces (s : Schema) (spaces : List Space) : Type 0 where
  pub named : AreNames SPACE_LIMIT (map (λ p. p.name) spaces)
  pub each : All (IsSpace s) spaces

-- a class has a slot exactly if it descends from the class that declares the slot
abbrev pub OwnsSlots : List Class → List Slot → Type 0
OwnsSlots classes slots = (c n : ℕ) (t : Slot) → c < length classes → slice_get slots n ≡ Some t
    → is_among (slots_in classes c) n ≡ descends_in classes c t.owner

-- no two slots of a class have the same name
abbrev pub HasOwnNames : List Class → List Slot → Type 0
HasOwnNames classes slots = (c m n : ℕ) (t u : Slot) → c < length classes
    → is_among (slots_in classes c) m ≡ true → is_among (slots_in classes c) n ≡ true
    → slice_get slots m ≡ Some t → slice_get slots n ≡ Some u → t.name ≡ u.name → m ≡ n

-- the inverse of a link slot is another slot, declared by the target class, and leads back
pub record IsCoupled (slots : List Slot) (n : ℕ) (l : Link) : Type 0 where
  pub there : option_map (λ t. t.owner) (slice_get slots l.inverse) ≡ Some l.to
  pub other : l.inverse ≢ n
  pub back : Link
  pub is : link_of slots l.inverse ≡ Some back
  pub returns : back.inverse ≡ n

-- the properties of every schema
pub record Fits (s : Schema) : Type 0 where
  pub label_sets : AreLabelSets s.label_sets
  -- class 0 is `focus`, with slots 0 to 3
  pub focus : StartsWith s.classes (focus_class ∷ [])
  pub focus_slots : StartsWith s.slots focus_slots
  pub few_classes : length s.classes ≤ CLASS_LIMIT
  pub few_slots : length s.slots ≤ SLOT_LIMIT
  pub class_names : AreNames CLASS_LIMIT (map (λ k. k.name) s.classes)
  -- a parent is declared before its children, and their slots start with its slots
  pub parents : ParentsAreEarlier s.classes
  pub heirs : (c p : ℕ) → parent_of s.classes c ≡ Some p → StartsWith (slots_in s.classes c) (slots_in s.classes p)
  pub classes : All (IsClass (length s.slots)) s.classes
  pub owned : OwnsSlots s.classes s.slots
  pub slot_names : HasOwnNames s.classes s.slots
  pub slots : All (IsSlot s.label_sets (length s.classes)) s.slots
  pub coupled : (n : ℕ) (l : Link) → link_of s.slots n ≡ Some l → IsCoupled s.slots n l
  pub spaces : AreSpaces s s.spaces
