-- The faults of a source's text, in order, of which the first is reported, and how large its parts are.
use Rattle.std.specs.Prelude.{◌≡◌, ◌⊎◌, ℕ, Bool, true, false, ◌&&◌, List, [], ◌∷◌, ◌++◌, Option, Some, None, Result, Ok, Err, if◌then◌else◌}
use Rattle.std.specs.List.{list_all}
use Rattle.bb_basis.specs.Names.{is_name}
use Rattle.bb_schema.specs.Schema.{Schema, class_named}
use Rattle.bb_verify_effect.specs.declared.part.Part.{Part}
use Rattle.bb_verify_effect.specs.declared.part.Part.TheVariants.{Require, Obviate, Retrigger, Revalidate, Do}
use Rattle.bb_lang.specs.ActText.{ActText}
use Rattle.bb_lang.specs.ActText.TheVariants as acts
use Rattle.bb_lang.specs.Blocks.{BlockTree}
use Rattle.bb_lang.specs.PartText.{PartText}
use Rattle.bb_lang.specs.ReactionText.{ReactionText}
use Rattle.bb_lang.specs.SourceText.{SourceText}
use Rattle.bb_bundle.specs.Spelled.{are_clauses}
use Rattle.bb_compile_scope.specs.Ending.{block_ends}
use Rattle.bb_compile_scope.specs.Place.{Place}
use Rattle.bb_compile_scope.specs.declared.fault.CompileFault.{CompileFault}
use Rattle.bb_compile_scope.specs.declared.fault.CompileFault.TheVariants.{At}
use Rattle.bb_compile_scope.specs.declared.fault.TextFlaw.TheVariants.{Unknown, NoEnd, Limit}
use Rattle.bb_theorem_grammar.specs.judged.Fitting.{fits}
use Rattle.bb_theorem_grammar.specs.judged.Judgement.{part_faults, IsFirst}

-- ---- parts

abbrev pub faults_if : Schema → Part → Option PartText → List CompileFault
faults_if schema part None = []
faults_if schema part (Some text) = part_faults schema part text.place text.block

-- a reaction, for events of a class
abbrev pub events_faults : Schema → ((of : ℕ) → Part) → ReactionText → (of : Option ℕ) → List CompileFault
events_faults schema part text None = At Unknown text.on ∷ []
events_faults schema part text (Some of) = part_faults schema (part of) text.place text.block

-- a reaction that can run past its end has that fault only, whatever its class is
abbrev pub reaction_faults : Schema → ((of : ℕ) → Part) → Option ReactionText → List CompileFault
reaction_faults schema part None = []
reaction_faults schema part (Some text) =
    if block_ends text.block then events_faults schema part text (class_named schema text.class)
    else At NoEnd text.place ∷ []

abbrev pub act_faults : Schema → (class : ℕ) → ActText → List CompileFault
act_faults schema class acts.Native = []
act_faults schema class (acts.Do text) = part_faults schema (Do class) text.place text.block

-- ---- names and clauses: a text that was read has both

abbrev pub is_reaction_spelled : Option ReactionText → Bool
is_reaction_spelled None = true
is_reaction_spelled (Some text) = is_name text.class && are_clauses text.clauses

abbrev pub is_text_spelled : SourceText → Bool
is_text_spelled text =
    is_name text.header.name && is_name text.header.class && are_clauses text.clauses
    && is_reaction_spelled text.parts.obviate && is_reaction_spelled text.parts.retrigger

abbrev pub spelling_faults : SourceText → List CompileFault
spelling_faults text = if is_text_spelled text then [] else At Unknown text.header.on ∷ []

-- ---- the source

-- its parts are judged for units of its class
abbrev pub faults_of_class : Schema → SourceText → (class : Option ℕ) → List CompileFault
faults_of_class schema text None = At Unknown text.header.on ∷ []
faults_of_class schema text (Some class) =
    faults_if schema (Require class) text.parts.require
    ++ (reaction_faults schema (Obviate class) text.parts.obviate
    ++ (reaction_faults schema (Retrigger class) text.parts.retrigger
    ++ (faults_if schema (Revalidate class) text.parts.revalidate
    ++ (act_faults schema class text.act ++ spelling_faults text))))

unfoldable pub source_faults : Schema → SourceText → List CompileFault
source_faults schema text = faults_of_class schema text (class_named schema text.header.class)

-- ---- the size of its parts

-- where a part begins, and whether it fits
pub record Extent : Type 0 where
  pub start : Place
  pub fits : Bool

abbrev pub extent_of : Schema → Part → Place → BlockTree → List Extent
extent_of schema part start b = record { start = start; fits = fits schema part b } ∷ []

abbrev pub extent_if : Schema → Part → Option PartText → List Extent
extent_if schema part None = []
extent_if schema part (Some text) = extent_of schema part text.place text.block

abbrev pub events_extent : Schema → ((of : ℕ) → Part) → ReactionText → (of : Option ℕ) → List Extent
events_extent schema part text None = []
events_extent schema part text (Some of) = extent_of schema (part of) text.place text.block

abbrev pub reaction_extent : Schema → ((of : ℕ) → Part) → Option ReactionText → List Extent
reaction_extent schema part None = []
reaction_extent schema part (Some text) = events_extent schema part text (class_named schema text.class)

abbrev pub act_extent : Schema → (class : ℕ) → ActText → List Extent
act_extent schema class acts.Native = []
act_extent schema class (acts.Do text) = extent_of schema (Do class) text.place text.block

abbrev pub extents_of_class : Schema → SourceText → (class : Option ℕ) → List Extent
extents_of_class schema text None = []
extents_of_class schema text (Some class) =
    extent_if schema (Require class) text.parts.require
    ++ (reaction_extent schema (Obviate class) text.parts.obviate
    ++ (reaction_extent schema (Retrigger class) text.parts.retrigger
    ++ (extent_if schema (Revalidate class) text.parts.revalidate ++ act_extent schema class text.act)))

-- the parts of a source
abbrev pub extents : Schema → SourceText → List Extent
extents schema text = extents_of_class schema text (class_named schema text.header.class)

-- each part fits
abbrev pub all_fit : Schema → SourceText → Bool
all_fit schema text = list_all (λ (e : Extent). e.fits) (extents schema text)

-- ---- answers

-- the code of one of these parts is too large: the part does not fit, and the fault is at its beginning
abbrev pub IsTooLarge : CompileFault → List Extent → Type 0
IsTooLarge fault [] = ⊥
IsTooLarge fault (e ∷ es) = ((fault ≡ At Limit e.start) × (e.fits ≡ false)) ⊎ IsTooLarge fault es

-- a source that has its codes has no fault; one that is refused is refused for its first fault, or because a part's
-- code is too large
abbrev pub AreJudged : {X : Type 0} → List Extent → List CompileFault → Result X CompileFault → Type 0
AreJudged parts faults (Ok x) = faults ≡ []
AreJudged parts faults (Err fault) = IsFirst fault faults ⊎ IsTooLarge fault parts
