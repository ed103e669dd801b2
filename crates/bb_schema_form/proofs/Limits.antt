-- The number of the limit: the quick way reads as deep as `serde_json` does.
use Rattle.std.proofs.Common.{◌≡◌, refl}
use Rattle.bb_schema_form.specs.declared.quick.TheConstants.{MAX_DEPTH}

-- levels of a document
pub max_depth : MAX_DEPTH ≡ 127
max_depth = refl
