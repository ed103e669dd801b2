-- The properties of every result of a walk.
use Rattle.std.specs.Prelude.{◌≡◌, ◌≢◌, ◌<◌, ◌≤◌, ◌++◌, [], ◌∷◌, ℕ, true, List, map, length, slice_get, Option, Some, None, Ok, All, IfSome, IsTrue, nat_eq}
use Rattle.std.specs.List.{IsDistinct}
use Rattle.std.specs.List.Sorted.{IsStrictlySortedBy}
use Rattle.std.specs.Ordering.{nat_cmp}
use Rattle.bb_basis.specs.Names.{is_name}
use Rattle.bb_schema_classes.specs.declared.read.labels.TheConstants.{LABEL_SET_LIMIT}
use Rattle.bb_schema_classes.specs.declared.read.classes.TheConstants.{CLASS_LIMIT}
use Rattle.bb_schema_classes.specs.declared.label_set.TheConstants.{LABEL_LIMIT}
use Rattle.bb_schema_classes.specs.declared.label_set.LabelSet.{LabelSet}
use Rattle.bb_schema_classes.specs.declared.draft.TheConstants.{CLASS_SLOT_LIMIT, SLOT_LIMIT}
use Rattle.bb_schema_classes.specs.declared.class.Class.{Class}
use Rattle.bb_schema_classes.specs.declared.value.Value.{Value}
use Rattle.bb_schema_classes.specs.declared.kind.Link.{Link as NumberedLink}
use Rattle.bb_schema_classes.specs.declared.draft.Draft.{Draft}
use Rattle.bb_schema_classes.specs.declared.draft.DraftContent.{DraftContent}
use Rattle.bb_schema_classes.specs.declared.draft.DraftContent.TheVariants.{Default, Link}
use Rattle.bb_schema_classes.specs.declared.draft.LinkDraft.{LinkDraft}
use Rattle.bb_schema_classes.specs.Naming.{AreNames}
use Rattle.bb_schema_classes.specs.Values.{label_counts, value_fits}
use Rattle.bb_schema_classes.specs.Kinds.{kind_of_value}
use Rattle.bb_schema_classes.specs.Inheritance.{ParentsAreEarlier, parent_of, descends_in, slots_in, is_among}
use Rattle.bb_schema_classes.specs.Drafts.{SchemaDraft}
use Rattle.bb_schema_classes.specs.Resolution.{resolved_link}
use Rattle.bb_schema_classes.specs.Focus.{focus_class, focus_drafts}
use Rattle.bb_schema_classes.specs.Walk.{Walked}

-- the label sets have distinct names, and so do the labels of each set, within the limits
pub record AreLabelSets (sets : List LabelSet) : Type 0 where
  pub named : AreNames LABEL_SET_LIMIT (map (λ l. l.name) sets)
  pub labels : All (λ l. AreNames LABEL_LIMIT l.values) sets

-- a slot of the value's kind can hold the value
abbrev pub IsHeld : List LabelSet → Value → Type 0
IsHeld sets v = IsTrue (value_fits (label_counts sets) (kind_of_value v) v)

-- a class has at most as many slots as the limit, each one of slot_count slots, none twice; their numbers rise, so
-- class order is the order of the numbers
pub record IsClass (slot_count : ℕ) (k : Class) : Type 0 where
  pub few : length k.slots ≤ CLASS_SLOT_LIMIT
  pub distinct : IsDistinct nat_eq k.slots
  pub rising : IsStrictlySortedBy nat_cmp k.slots
  pub slots : All (λ n. n < slot_count) k.slots

-- the list starts with front
abbrev pub StartsWith : {X : Type 0} → List X → List X → Type 0
StartsWith {X} xs front = (rest : List X) × (xs ≡ front ++ rest)

-- the default of an ordinary slot
abbrev pub draft_default : DraftContent → Option Value
draft_default (Default v) = Some v
draft_default (Link link) = None

-- a slot has a name, belongs to one of class_count classes, and can hold its default
pub record IsDraft (sets : List LabelSet) (class_count : ℕ) (d : Draft) : Type 0 where
  pub name : IsTrue (is_name d.name)
  pub owner : d.owner < class_count
  pub default : IfSome (draft_default d.content) (IsHeld sets)

-- a class has a slot exactly if it descends from the class that declares the slot
abbrev pub OwnsDrafts : List Class → List Draft → Type 0
OwnsDrafts classes drafts = (c n : ℕ) (d : Draft) → c < length classes → slice_get drafts n ≡ Some d
    → is_among (slots_in classes c) n ≡ descends_in classes c d.owner

-- the slots with these numbers exist, and no two have the same name
pub record AreApart (slots : List Draft) (numbers : List ℕ) : Type 0 where
  pub there : (m : ℕ) → is_among numbers m ≡ true → m < length slots
  pub apart : (m n : ℕ) (d e : Draft) → is_among numbers m ≡ true → is_among numbers n ≡ true
      → slice_get slots m ≡ Some d → slice_get slots n ≡ Some e → d.name ≡ e.name → m ≡ n

-- no two slots of a class have the same name
abbrev pub AreNamedApart : List Class → List Draft → Type 0
AreNamedApart classes slots = (c : ℕ) → c < length classes → AreApart slots (slots_in classes c)

-- the content of a slot is a link with names, which resolves to this link with numbers
pub record LeadsBy (s : SchemaDraft) (content : DraftContent) (link : NumberedLink) : Type 0 where
  pub named : LinkDraft
  pub is : content ≡ Link named
  pub gives : resolved_link s.classes s.slots named ≡ Ok link

-- slot n holds a link, which resolves; its inverse is another slot, declared by the target class, and leads back
pub record IsPaired (s : SchemaDraft) (n : ℕ) (d : Draft) : Type 0 where
  pub link : NumberedLink
  pub leads : LeadsBy s d.content link
  pub other : Draft
  pub there : slice_get s.slots link.inverse ≡ Some other
  pub owned : other.owner ≡ link.to
  pub back : NumberedLink
  pub returns : LeadsBy s other.content back
  pub is : back.inverse ≡ n
  pub apart : link.inverse ≢ n

-- each link is paired
abbrev pub ArePaired : SchemaDraft → Type 0
ArePaired s = (n : ℕ) (d : Draft) (link : LinkDraft) → slice_get s.slots n ≡ Some d → d.content ≡ Link link
    → IsPaired s n d

-- the result of every walk without a fault
pub record IsWalked (w : Walked) : Type 0 where
  pub label_sets : AreLabelSets w.label_sets
  -- class 0 is `focus`, with slots 0 to 3
  pub focus : StartsWith w.draft.classes (focus_class ∷ [])
  pub focus_slots : StartsWith w.draft.slots focus_drafts
  pub few_classes : length w.draft.classes ≤ CLASS_LIMIT
  pub few_slots : length w.draft.slots ≤ SLOT_LIMIT
  pub class_names : AreNames CLASS_LIMIT (map (λ k. k.name) w.draft.classes)
  -- a parent is declared before its children, and their slots start with its slots
  pub parents : ParentsAreEarlier w.draft.classes
  pub heirs : (c p : ℕ) → parent_of w.draft.classes c ≡ Some p
      → StartsWith (slots_in w.draft.classes c) (slots_in w.draft.classes p)
  pub classes : All (IsClass (length w.draft.slots)) w.draft.classes
  pub owned : OwnsDrafts w.draft.classes w.draft.slots
  pub slot_names : AreNamedApart w.draft.classes w.draft.slots
  pub slots : All (IsDraft w.label_sets (length w.draft.classes)) w.draft.slots
  pub paired : ArePaired w.draft
