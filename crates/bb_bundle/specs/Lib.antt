-- the number of each fault of a bundle
pub mod Faults
-- the parts of a source other than its act
pub mod Drafts
-- which sources a bundle can spell
pub mod Spelled
-- which words spell a rate
pub mod Rate
-- the clause that a `when` line spells
pub mod Clauses
-- the words that begin the lines of a source after its first
pub mod Keywords
-- a single line of a bundle
pub mod Line
-- what has been read of a source so far
pub mod Partial
-- the sources of a bundle
pub mod Bundle
-- the text of sources
pub mod Written
-- used only in models and private contracts
pub mod proving
-- the clauses of a source
pub use Rattle.bb_lang_tree.specs.declared.source_text.ChangeText
pub use Rattle.bb_lang_tree.specs.declared.source_text.ClauseText
