-- The number of each refusal, and its line.
use Rattle.std.specs.Prelude.{ℕ, List, [], ◌++◌, Option, Some, None, codes}
use Rattle.std.specs.Fmt.{decimal}
use Rattle.std.specs.Option.{option_map_or}
use Rattle.bb_schema_classes.specs.Faults.{fault_number as schema_number}
use Rattle.bb_code.specs.CodeFault.{fault_number as code_number}
use Rattle.bb_bundle.specs.declared.fault.BundleFault.{BundleFault}
use Rattle.bb_bundle.specs.declared.fault.BundleFault.TheVariants as bundles
use Rattle.bb_lang_tree.specs.Faults.{fault_number as lang_number}
use Rattle.bb_lang_tree.specs.declared.fault.LangFault.{LangFault}
use Rattle.bb_lang_tree.specs.declared.fault.LangFault.TheVariants as langs
use Rattle.bb_lang_tree.specs.declared.place.Place.{Place}
use Rattle.bb_compile_scope.specs.Faults.{flaw_number as text_flaw_number}
use Rattle.bb_compile_scope.specs.declared.fault.CompileFault.{CompileFault}
use Rattle.bb_compile_scope.specs.declared.fault.CompileFault.TheVariants as compiles
use Rattle.bb_refusal.specs.declared.input_fault.InputFault.{InputFault}
use Rattle.bb_refusal.specs.declared.input_fault.InputFault.TheVariants as inputs
use Rattle.bb_board.specs.UnitsFaults.{fault_number as units_number}
use Rattle.bb_rules.specs.Faults.{fault_number as rule_number}
use Rattle.bb_code.specs.Flaws.{fault_number as flaw_number}
use Rattle.bb_verify.specs.Part.{part_word}

-- the number of each refusal
abbrev pub fault_number : InputFault → ℕ
fault_number (inputs.Schema fault) = 1
fault_number (inputs.Units fault) = 2
fault_number (inputs.Lang fault) = 3
fault_number (inputs.Compile name fault) = 4
fault_number (inputs.Bundle fault) = 5
fault_number (inputs.Verify name part fault) = 6
fault_number (inputs.Rule name fault) = 7
fault_number inputs.Memory = 8

-- the place of a fault of a text; none if memory ran out
abbrev pub lang_place : LangFault → Option Place
lang_place (langs.Character place) = Some place
lang_place (langs.Token place) = Some place
lang_place (langs.Nesting place) = Some place
lang_place (langs.Twice place) = Some place
lang_place (langs.Limit place) = Some place
lang_place langs.Memory = None

-- the place of a fault of a source that is text; none if memory ran out
abbrev pub compile_place : CompileFault → Option Place
compile_place (compiles.At flaw place) = Some place
compile_place compiles.Memory = None

-- the place of an input's fault in the text of sources, if it has one there
abbrev pub source_place : InputFault → Option Place
source_place (inputs.Schema fault) = None
source_place (inputs.Units fault) = None
source_place (inputs.Lang fault) = lang_place fault
source_place (inputs.Compile name fault) = compile_place fault
source_place (inputs.Bundle fault) = None
source_place (inputs.Verify name part fault) = None
source_place (inputs.Rule name fault) = None
source_place inputs.Memory = None

-- a place, `LINE:COLUMN`, and a number
abbrev pub place_text : Place → (number : ℕ) → List ℕ
place_text place number = decimal place.line ++ codes ":" ++ decimal place.column ++ codes " " ++ decimal number

-- the line of a fault of a text, with its place; empty if memory ran out
abbrev pub lang_text : LangFault → List ℕ
lang_text fault =
    option_map_or (λ place. codes "refused lang " ++ place_text place (lang_number fault)) (lang_place fault) []

-- the line of a fault of a source that is text, with its place; empty if memory ran out
abbrev pub compile_text : (name : List ℕ) → CompileFault → List ℕ
compile_text name (compiles.At flaw place) =
    codes "refused compile " ++ name ++ codes " " ++ place_text place (text_flaw_number flaw)
compile_text name compiles.Memory = []

-- the line of a bundle's fault, with the number of the bundle's line; empty if memory ran out
abbrev pub bundle_text : BundleFault → List ℕ
bundle_text (bundles.Line line) = codes "refused bundle " ++ decimal line ++ codes " 1"
bundle_text (bundles.Hex line) = codes "refused bundle " ++ decimal line ++ codes " 2"
bundle_text (bundles.Code line fault) =
    codes "refused bundle " ++ decimal line ++ codes " code " ++ decimal (code_number fault)
bundle_text bundles.Memory = []

-- the line of a refusal without its line feed; empty if memory ran out
abbrev pub refusal_text : InputFault → List ℕ
refusal_text (inputs.Schema fault) = codes "refused schema " ++ decimal (schema_number fault)
refusal_text (inputs.Units fault) = codes "refused units " ++ decimal (units_number fault)
refusal_text (inputs.Lang fault) = lang_text fault
refusal_text (inputs.Compile name fault) = compile_text name fault
refusal_text (inputs.Bundle fault) = bundle_text fault
refusal_text (inputs.Verify name part fault) =
    codes "refused verify " ++ name ++ codes " " ++ part_word part ++ codes " " ++ decimal fault.place
    ++ codes " " ++ decimal (flaw_number fault.flaw)
refusal_text (inputs.Rule name fault) = codes "refused rule " ++ name ++ codes " " ++ decimal (rule_number fault)
refusal_text inputs.Memory = []
