-- The parts of a source, and which are small enough for a code. Of a source that was read from a text, these are the
-- parts that fit.
use Rattle.std.specs.Prelude.{◌≡◌, ◌⊎◌, ℕ, Bool, true, false, ◌&&◌, List, [], ◌∷◌, ◌++◌, Option, Some, None, is_ok, Ok, Err}
use Rattle.std.specs.List.{list_all}
use Rattle.bb_code.specs.Code.{Code}
use Rattle.bb_schema.specs.Schema.{Schema, class_named}
use Rattle.bb_verify_effect.specs.declared.part.Part.{Part}
use Rattle.bb_verify_effect.specs.declared.part.Part.TheVariants.{Require, Obviate, Retrigger, Revalidate, Do}
use Rattle.bb_lang.specs.ActText.{ActText}
use Rattle.bb_lang.specs.ActText.TheVariants as acts
use Rattle.bb_lang.specs.Blocks.{BlockTree}
use Rattle.bb_lang.specs.PartText.{PartText}
use Rattle.bb_lang.specs.ReactionText.{ReactionText}
use Rattle.bb_lang.specs.SourceText.{SourceText}
use Rattle.bb_bundle.specs.declared.draft.SourceDraft.{SourceDraft}
use Rattle.bb_compile.specs.Compiled.{compiled}
use Rattle.bb_compile_scope.specs.Place.{Place}
use Rattle.bb_compile_scope.specs.declared.fault.CompileFault.{CompileFault}
use Rattle.bb_compile_scope.specs.declared.fault.CompileFault.TheVariants.{At}
use Rattle.bb_compile_scope.specs.declared.fault.TextFlaw.TheVariants.{Limit}
use Rattle.bb_theorem_grammar.specs.judged.Fitting.{are_few}
use Rattle.bb_theorem_grammar.specs.judged.Judgement.{IsFirst}
use Rattle.bb_theorem_grammar.specs.judged.Names.{begin_with}
use Rattle.bb_theorem_grammar.specs.judged.Sources.{source_faults}
use Rattle.bb_theorem_grammar.specs.judged.Sums.{part_sums, statements_have_room}

-- ---- parts

-- a block of a source, with the part that it is, and where the part begins
pub record PartAt : Type 0 where
  pub part : Part
  pub start : Place
  pub block : BlockTree

-- its ops, texts, queries and loops are within the limits of a code, and there is room for its names
abbrev pub is_small : Schema → PartAt → Bool
is_small schema p =
    are_few (part_sums schema p.part p.block) && statements_have_room schema (begin_with p.part) p.block

abbrev pub part_if : Part → Option PartText → List PartAt
part_if part None = []
part_if part (Some text) = record { part = part; start = text.place; block = text.block } ∷ []

-- a reaction, for events of a class
abbrev pub events_part : ((of : ℕ) → Part) → ReactionText → (of : Option ℕ) → List PartAt
events_part part text None = []
events_part part text (Some of) = record { part = part of; start = text.place; block = text.block } ∷ []

abbrev pub reaction_part : Schema → ((of : ℕ) → Part) → Option ReactionText → List PartAt
reaction_part schema part None = []
reaction_part schema part (Some text) = events_part part text (class_named schema text.class)

abbrev pub act_part : (class : ℕ) → ActText → List PartAt
act_part class acts.Native = []
act_part class (acts.Do text) = record { part = Do class; start = text.place; block = text.block } ∷ []

abbrev pub parts_of_class : Schema → SourceText → (class : Option ℕ) → List PartAt
parts_of_class schema text None = []
parts_of_class schema text (Some class) =
    part_if (Require class) text.parts.require
    ++ (reaction_part schema (Obviate class) text.parts.obviate
    ++ (reaction_part schema (Retrigger class) text.parts.retrigger
    ++ (part_if (Revalidate class) text.parts.revalidate ++ act_part class text.act)))

-- the parts of a source
abbrev pub parts_of : Schema → SourceText → List PartAt
parts_of schema text = parts_of_class schema text (class_named schema text.header.class)

-- each part is small
abbrev pub all_small : Schema → SourceText → Bool
all_small schema text = list_all (is_small schema) (parts_of schema text)

-- ---- answers

-- one of these parts is not small, and the fault is at its beginning
abbrev pub IsLarge : Schema → CompileFault → List PartAt → Type 0
IsLarge schema fault [] = ⊥
IsLarge schema fault (p ∷ ps) =
    ((fault ≡ At Limit p.start) × (is_small schema p ≡ false)) ⊎ IsLarge schema fault ps

-- a source compiles exactly if it has no fault and its parts are small, and is else refused for its first fault, or at
-- the beginning of a part that is not small
pub record IsJudgedAsRead (schema : Schema) (text : SourceText) : Type 0 where
  pub compiles : source_faults schema text ≡ [] → all_small schema text ≡ true → is_ok (compiled schema text) ≡ true
  pub clean : (draft : SourceDraft Code) → compiled schema text ≡ Ok draft → source_faults schema text ≡ []
  pub small : (draft : SourceDraft Code) → compiled schema text ≡ Ok draft → all_small schema text ≡ true
  pub refused : (fault : CompileFault) → compiled schema text ≡ Err fault
      → IsFirst fault (source_faults schema text) ⊎ IsLarge schema fault (parts_of schema text)
