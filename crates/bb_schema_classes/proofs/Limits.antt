-- The numbers of the limits. Definitions and code go by the same constants, so here each is said once.
use Rattle.std.proofs.Common.{◌≡◌, refl}
use Rattle.bb_schema_classes.specs.declared.draft.TheConstants.{CLASS_SLOT_LIMIT, SLOT_LIMIT}
use Rattle.bb_schema_classes.specs.declared.value.TheConstants.{TEXT_LIMIT}
use Rattle.bb_schema_classes.specs.declared.label_set.TheConstants.{LABEL_LIMIT}
use Rattle.bb_schema_classes.specs.declared.read.labels.TheConstants.{LABEL_SET_LIMIT}
use Rattle.bb_schema_classes.specs.declared.read.classes.TheConstants.{CLASS_LIMIT}

-- slots of a class, inherited ones too
pub class_slot_limit : CLASS_SLOT_LIMIT ≡ 64
class_slot_limit = refl

-- slots of a schema
pub slot_limit : SLOT_LIMIT ≡ 65536
slot_limit = refl

-- bytes of a text
pub text_limit : TEXT_LIMIT ≡ 65535
text_limit = refl

-- labels of a set
pub label_limit : LABEL_LIMIT ≡ 256
label_limit = refl

-- label sets of a schema
pub label_set_limit : LABEL_SET_LIMIT ≡ 256
label_set_limit = refl

-- classes of a schema
pub class_limit : CLASS_LIMIT ≡ 256
class_limit = refl
