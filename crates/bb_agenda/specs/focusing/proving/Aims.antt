-- A focus with its area looked up. No public clause cites it.
use Rattle.std.specs.Prelude.{ℕ, ℤ, pos, Bool, true, false, cond, List, slice_get, Option, Some, None, if◌then◌else◌}
use Rattle.std.specs.Option.{option_map_or}
use Rattle.bb_schema.specs.Schema.{Schema, class_named, descends}
use Rattle.bb_agenda.specs.declared.focusing.focus.Focus.{Focus}
use Rattle.bb_agenda.specs.declared.focusing.setting.RatedSource.{RatedSource}
use Rattle.bb_agenda.specs.declared.focusing.setting.Area.{Area}
use Rattle.bb_agenda.specs.declared.focusing.setting.Area.TheVariants.{Everywhere, Of, Nowhere}
use Rattle.bb_agenda.specs.focusing.Foci.{Setting}
use Rattle.bb_agenda.specs.focusing.Matching.{is_empty, matches_at}

-- the class that a name means, if there is one
abbrev pub area_of : Option ℕ → Area
area_of None = Nowhere
area_of (Some class) = Of class

-- the area of a name, which may be empty
abbrev pub area_named : Schema → List ℕ → Area
area_named s name = if is_empty name then Everywhere else area_of (class_named s name)

-- whether the source at a place is in an area
abbrev pub is_in : Schema → List RatedSource → ℕ → Area → Bool
is_in s sources place Everywhere = true
is_in s sources place (Of class) = option_map_or (λ x. descends s x.class class) (slice_get sources place) false
is_in s sources place Nowhere = false

-- a focus, and what it is matched with
pub record Aimed : Type 0 where
  pub setting : Setting
  pub focus : Focus

abbrev pub aimed : Setting → Focus → Aimed
aimed setting focus = record { setting = setting; focus = focus }

-- what it adds to the ratings of the source at a place
abbrev pub aimed_part : (place : ℕ) → Aimed → ℤ
aimed_part place a = cond (matches_at a.setting.schema a.setting.sources place a.focus) a.focus.weight (pos 0)
