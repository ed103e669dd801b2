-- What holds of the classes that were read so far.
use Rattle.std.specs.Prelude.{◌≡◌, ◌≤◌, ℕ, List, map, length, Some, All}
use Rattle.bb_schema_classes.specs.declared.read.classes.TheConstants.{CLASS_LIMIT}
use Rattle.bb_schema_classes.specs.declared.draft.TheConstants.{SLOT_LIMIT}
use Rattle.bb_schema_classes.specs.declared.label_set.LabelSet.{LabelSet}
use Rattle.bb_schema_classes.specs.Naming.{AreNames}
use Rattle.bb_schema_classes.specs.Inheritance.{ParentsAreEarlier, parent_of, slots_in}
use Rattle.bb_schema_classes.specs.Drafts.{SchemaDraft}
use Rattle.bb_schema_classes.specs.Fits.{IsClass, IsDraft, StartsWith}

pub record ClassesFit (sets : List LabelSet) (s : SchemaDraft) : Type 0 where
  pub few_classes : length s.classes ≤ CLASS_LIMIT
  pub few_slots : length s.slots ≤ SLOT_LIMIT
  pub class_names : AreNames CLASS_LIMIT (map (λ k. k.name) s.classes)
  pub parents : ParentsAreEarlier s.classes
  pub heirs : (c p : ℕ) → parent_of s.classes c ≡ Some p → StartsWith (slots_in s.classes c) (slots_in s.classes p)
  pub classes : All (IsClass (length s.slots)) s.classes
  pub slots : All (IsDraft sets (length s.classes)) s.slots
