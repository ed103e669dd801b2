-- Worked rows, computed on the definitions: a truth value that a document leaves out is false.
use Rattle.std.specs.Prelude.{ℕ, List, Some, None, false}
use Rattle.std.specs.Option.{option_map_or}
use Rattle.std.proofs.Common.{◌≡◌, refl, ap}
use Rattle.serde_json.specs.Data.{Data}
use Rattle.serde_json.specs.Find.{get, as_bool}
use Rattle.bb_schema_form.specs.Shapes.{optional_bool_at}

left_out : (key : List ℕ) (d : Data) → get key d ≡ None → optional_bool_at key d ≡ Some false
left_out key d absent = ap (λ found. option_map_or as_bool found (Some false)) absent
