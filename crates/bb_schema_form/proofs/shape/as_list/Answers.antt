use Rattle.std.proofs.Common.{ap, List, map, Some}
use Rattle.serde_json.specs.declared.value.Value.{Value}
use Rattle.serde_json.specs.View.{view}
use Rattle.bb_schema_form.proofs.ShapeLemmas.{list_of-items_of}
use Rattle.bb_schema_form.proofs.shape.as_list.Goals as goal

pub returns : goal.returns
returns c =
    rw (← c.in_ok-as_array.ensures, list_of-items_of (map view c.in_ok-as_array.field-0.now.items))
    (ap (λ (vs : List Value). Some (map view vs)) c.as_slice.ensures.value)
