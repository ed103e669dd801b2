-- The sections of an input: the text between one header line and the next, byte for byte.
use Rattle.std.specs.Prelude.{ℕ, Bool, ◌||◌, List, [], ◌∷◌, ◌++◌, Option, Some, None, Result, Ok, Err, codes}
use Rattle.std.specs.Prelude.{if◌then◌else◌}
use Rattle.std.specs.Str.{bytes_eq}
use Rattle.bb_main_input.specs.declared.sections.Header.{Header}
use Rattle.bb_main_input.specs.declared.sections.Header.TheVariants.{Schema, Units, Sources, Bundle}
use Rattle.bb_main_input.specs.declared.section_fault.SectionFault.{SectionFault}
use Rattle.bb_main_input.specs.declared.section_fault.SectionFault.TheVariants.{Sections as NotInOrder}
use Rattle.bb_main_input.specs.Lines.{lines}

-- the line is only the word, ended by LF, by CR LF or, without a CR, by the end of the input
unfoldable pub is_alone : List ℕ → List ℕ → Bool
is_alone word line = bytes_eq line word || bytes_eq line (word ++ 10 ∷ []) || bytes_eq line (word ++ 13 ∷ 10 ∷ [])

-- the section that a line begins, if it is a header
unfoldable pub header_of : List ℕ → Option Header
header_of line =
    if is_alone (codes "%schema") line then Some Schema
    else if is_alone (codes "%units") line then Some Units
    else if is_alone (codes "%sources") line then Some Sources
    else if is_alone (codes "%bundle") line then Some Bundle
    else None

-- a header with the text after it, up to the next header
pub data Part : Type 0 where
  part : Header → List ℕ → Part

-- a line before the rest, unless it is a header
abbrev pub line_before : Option Header → List ℕ → List ℕ → List ℕ
line_before (Some header) line rest = []
line_before None line rest = line ++ rest

-- the text before the first header
abbrev pub before : List (List ℕ) → List ℕ
before [] = []
before (line ∷ others) = line_before (header_of line) line (before others)

-- a header's part before the others
abbrev pub with_part : Option Header → List ℕ → List Part → List Part
with_part (Some header) text others = part header text ∷ others
with_part None text others = others

-- the headers in order, each with its text
abbrev pub parts : List (List ℕ) → List Part
parts [] = []
parts (line ∷ others) = with_part (header_of line) (before others) (parts others)

-- the text of each section
pub record Texts : Type 0 where
  pub schema : List ℕ
  pub units : List ℕ
  pub sources : List ℕ
  pub bundle : List ℕ

-- the text of the initial units if they come next, else `{}`, and the parts after them
abbrev pub units_first : List Part → List ℕ × List Part
units_first (part Units text ∷ others) = (text, others)
units_first others = (codes "{}", others)

-- the text of the sources if it comes next, else an empty one, and the parts after it
abbrev pub sources_first : List Part → List ℕ × List Part
sources_first (part Sources text ∷ others) = (text, others)
sources_first others = ([], others)

-- the text of the bundle if it comes next, else an empty one, and the parts after it
abbrev pub bundle_first : List Part → List ℕ × List Part
bundle_first (part Bundle text ∷ others) = (text, others)
bundle_first others = ([], others)

-- the texts of the sections, if no part is left
abbrev pub alone : Texts → List Part → Result Texts SectionFault
alone texts [] = Ok texts
alone texts (p ∷ others) = Err NotInOrder

-- the texts of parts in order: the schema, then units, sources and a bundle, each optional, and nothing else
abbrev pub in_order : List Part → Result Texts SectionFault
in_order (part Schema schema ∷ others) =
    let units = units_first others in
    let sources = sources_first units.1 in
    let bundle = bundle_first sources.1 in
    alone (record { schema = schema; units = units.0; sources = sources.0; bundle = bundle.0 }) bundle.1
in_order _ = Err NotInOrder

-- the sections of a text, which has to begin with its first header
unfoldable pub sections_of : List ℕ → Result Texts SectionFault
sections_of text = if bytes_eq (before (lines text)) [] then in_order (parts (lines text)) else Err NotInOrder
