-- The sections of an input, or why it is refused.
use Rattle.std.specs.Prelude.{nat_lt, length, ℕ, List, Result, Ok, Err, if◌then◌else◌}
use Rattle.std.specs.Str.{is_utf8}
use Rattle.bb_main_input.specs.declared.read.TheConstants.{INPUT_LIMIT}
use Rattle.bb_main_input.specs.declared.sections.Sections.{Sections}
use Rattle.bb_main_input.specs.declared.section_fault.SectionFault.{SectionFault}
use Rattle.bb_main_input.specs.declared.section_fault.SectionFault.TheVariants.{Limit, Utf8}
use Rattle.bb_main_input.specs.Sections.{Texts, sections_of}

-- the sections of an input: its length is checked first, then whether it is UTF-8, then the sections
unfoldable pub input_of : List ℕ → Result Texts SectionFault
input_of bytes =
    if nat_lt INPUT_LIMIT (length bytes) then Err Limit
    else if is_utf8 bytes then sections_of bytes
    else Err Utf8

-- the result of a call, with each section as its bytes
abbrev pub texts_of : Result Sections SectionFault → Result Texts SectionFault
texts_of (Ok s) = Ok (record { schema = s.schema.now; units = s.units.now; sources = s.sources.now; bundle = s.bundle.now })
texts_of (Err e) = Err e
