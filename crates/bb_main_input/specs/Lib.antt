-- what reading a whole input returns, and how many bytes it takes
pub mod Reading
-- the lines of a text
pub mod Lines
-- the sections of a text: headers, and the texts between them
pub mod Sections
-- the sections of an input's bytes, or why the input is refused
pub mod Input
-- the lines that refuse an input without sections
pub mod Refusals
-- relations used by proofs only
pub mod proving
