-- How slots are found by their numbers, and their contents.
use Rattle.std.specs.Prelude.{ℕ, Bool, false, List, slice_get, Option, Some, None, option_and_then}
use Rattle.std.specs.Option.{option_map_or}
use Rattle.std.specs.Str.{bytes_eq}
use Rattle.bb_schema_classes.specs.declared.value.Value.{Value}
use Rattle.bb_schema_classes.specs.declared.kind.Link.{Link}
use Rattle.bb_schema.specs.declared.slot.Slot.{Slot}
use Rattle.bb_schema.specs.declared.slot.Content.{Content}
use Rattle.bb_schema.specs.declared.slot.Content.TheVariants as contents

-- whether the slot with the number exists and has the name
unfoldable pub has_name : List Slot → List ℕ → ℕ → Bool
has_name slots name n = option_map_or (λ t. bytes_eq name t.name) (slice_get slots n) false

-- the default and the link in the content of a slot
abbrev pub default_in : Content → Option Value
default_in (contents.Default v) = Some v
default_in (contents.Link l) = None

abbrev pub link_in : Content → Option Link
link_in (contents.Default v) = None
link_in (contents.Link l) = Some l

-- the link of a link slot
abbrev pub link_of : List Slot → ℕ → Option Link
link_of slots n = option_and_then (λ t. link_in t.content) (slice_get slots n)
