-- Which activations a focus matches (of this project).
use Rattle.std.specs.Prelude.{ℕ, ℤ, pos, Bool, false, ◌&&◌, ◌||◌, ◌==◌, List, length, slice_get}
use Rattle.std.specs.Option.{option_map_or}
use Rattle.std.specs.Str.{bytes_eq}
use Rattle.bb_schema.specs.Schema.{Schema, class_named, descends}
use Rattle.bb_agenda.specs.declared.focusing.activation.Activation.{Activation}
use Rattle.bb_agenda.specs.declared.focusing.focus.Focus.{Focus}
use Rattle.bb_agenda.specs.declared.focusing.setting.RatedSource.{RatedSource}

-- the text has no bytes
abbrev pub is_empty : List ℕ → Bool
is_empty text = length text == 0

-- the name is the name of the source at this place
unfoldable pub is_source : List RatedSource → ℕ → List ℕ → Bool
is_source sources place name = option_map_or (λ x. bytes_eq name x.name) (slice_get sources place) false

-- the name is the name of the class or of an ancestor of it
unfoldable pub is_ancestor : Schema → ℕ → List ℕ → Bool
is_ancestor s class name = option_map_or (λ d. descends s class d) (class_named s name) false

-- the name is the name of the class of the source at this place, or of an ancestor of that class
unfoldable pub is_area : Schema → List RatedSource → ℕ → List ℕ → Bool
is_area s sources place name = option_map_or (λ x. is_ancestor s x.class name) (slice_get sources place) false

-- the focus is active; its source is empty or the name of the activation's source; and its area is empty or the name of
-- the class of that source or of an ancestor of that class. A place without a source has no such names.
unfoldable pub matches : Schema → List RatedSource → Activation → Focus → Bool
matches s sources a focus =
    focus.active && (is_empty focus.source || is_source sources a.source focus.source)
    && (is_empty focus.area || is_area s sources a.source focus.area)

-- an activation of the source at a place
abbrev pub one_at : ℕ → ℤ → Activation
one_at place base = record { number = 0; source = place; unit = 0; base = base }

-- the focus matches the activations of the source at this place
abbrev pub matches_at : Schema → List RatedSource → ℕ → Focus → Bool
matches_at s sources place focus = matches s sources (one_at place (pos 0)) focus
