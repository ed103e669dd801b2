-- The lines that refuse an input without sections.
use Rattle.std.specs.Prelude.{ℕ, List, codes}
use Rattle.bb_main_input.specs.declared.section_fault.SectionFault.{SectionFault}
use Rattle.bb_main_input.specs.declared.section_fault.SectionFault.TheVariants.{Limit, Utf8, Sections}

-- the line that refuses an input if the reader failed, regardless of its bytes
abbrev pub read_line : List ℕ
read_line = codes "refused input read"

-- the line that refuses an input whose bytes have no sections
abbrev pub section_line : SectionFault → List ℕ
section_line Limit = codes "refused input limit"
section_line Utf8 = codes "refused input utf8"
section_line Sections = codes "refused input sections"
