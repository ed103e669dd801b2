-- What a focus adds by the area that was looked up is what it adds by the name of that area.
use Rattle.std.proofs.Common.{◌≡◌, ℕ, Bool, true, false, cond, pos, ◌||◌, List, Option, Some, None, refl}
use Rattle.std.specs.Prelude.{slice_get, option_map, if◌then◌else◌}
use Rattle.std.specs.Option.{option_map_or}
use Rattle.bb_schema.specs.Schema.{Schema, class_named, descends}
use Rattle.bb_agenda.specs.declared.focusing.focus.Focus.{Focus}
use Rattle.bb_agenda.specs.declared.focusing.setting.RatedSource.{RatedSource}
use Rattle.bb_agenda.specs.declared.focusing.setting.Area.TheVariants.{Everywhere}
use Rattle.bb_agenda.specs.focusing.Foci.{Setting}
use Rattle.bb_agenda.specs.focusing.Matching.{is_empty, is_source, is_ancestor, is_area, matches, matches_at}
use Rattle.bb_agenda.specs.focusing.proving.Aims.{area_of, area_named, is_in, aimed, aimed_part}
use Rattle.bb_agenda.specs.focusing.proving.Weights.{part_of}

-- ---- areas

nowhere : (o : Option RatedSource) → false ≡ option_map_or (λ (x : RatedSource). false) o false
nowhere None = refl
nowhere (Some x) = refl

module _ (s : Schema) (sources : List RatedSource) (place : ℕ) where
  in_by : (o : Option ℕ) → is_in s sources place (area_of o) ≡ option_map_or (λ x. option_map_or (λ d. descends s x.class d) o false) (slice_get sources place) false
  in_by None = nowhere (slice_get sources place)
  in_by (Some d) = refl

  area_by : (name : List ℕ) (e : Bool) → is_in s sources place (if e then Everywhere else area_of (class_named s name)) ≡ (e || is_area s sources place name)
  unfolding is_area is_ancestor
  area_by name true = refl
  area_by name false = in_by (class_named s name)

  pub area_is : (name : List ℕ) → is_in s sources place (area_named s name) ≡ (is_empty name || is_area s sources place name)
  area_is name = area_by name (is_empty name)

  -- ---- the tests of a focus, one after another

  pub inactive : (f : Focus) → f.active ≡ false → pos 0 ≡ cond (matches_at s sources place f) f.weight (pos 0)
  unfolding matches
  inactive f idle = rw idle refl

  pub of_other : (f : Focus) → f.active ≡ true → (is_empty f.source || is_source sources place f.source) ≡ false → pos 0 ≡ cond (matches_at s sources place f) f.weight (pos 0)
  unfolding matches
  of_other f active other = rw (active, other) refl

  pub elsewhere : (f : Focus) → f.active ≡ true → (is_empty f.source || is_source sources place f.source) ≡ true → (is_empty f.area || is_area s sources place f.area) ≡ false
      → pos 0 ≡ cond (matches_at s sources place f) f.weight (pos 0)
  unfolding matches
  elsewhere f active own other = rw (active, own, other) refl

  pub met : (f : Focus) → f.active ≡ true → (is_empty f.source || is_source sources place f.source) ≡ true → (is_empty f.area || is_area s sources place f.area) ≡ true
      → f.weight ≡ cond (matches_at s sources place f) f.weight (pos 0)
  unfolding matches
  met f active own there = rw (active, own, there) refl

-- ---- a focus that may be there

pub aimed_is : {R : Type 0} (setting : Setting) (place : ℕ) (f : R → Focus) (o : Option R)
    → option_map_or (aimed_part place) (option_map (λ r. aimed setting (f r)) o) (pos 0) ≡ part_of (matches_at setting.schema setting.sources place) (option_map f o)
aimed_is setting place f None = refl
aimed_is setting place f (Some r) = refl
