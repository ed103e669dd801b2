-- repeated reading
pub mod Repeats
-- expressions, sequences and patterns
pub mod Expressions
-- statements and blocks
pub mod Statements
-- sources, and the sources of a text
pub mod Sources
-- definitions used only in models and proofs
pub mod proving
-- what sources are built of, from bb_lang_tree
pub use Rattle.bb_lang_tree.specs.Trees
pub use Rattle.bb_lang_tree.specs.View
pub use Rattle.bb_lang_tree.specs.Blocks
pub use Rattle.bb_lang_tree.specs.BlockView
pub use Rattle.bb_lang_tree.specs.declared.atom.Atom
pub use Rattle.bb_lang_tree.specs.declared.atom.Binary
pub use Rattle.bb_lang_tree.specs.declared.atom.Division
pub use Rattle.bb_lang_tree.specs.declared.atom.Operator
pub use Rattle.bb_lang_tree.specs.declared.atom.Relation
pub use Rattle.bb_lang_tree.specs.declared.atom.Unary
pub use Rattle.bb_lang_tree.specs.declared.atom.Variable
pub use Rattle.bb_lang_tree.specs.declared.block.Action
pub use Rattle.bb_lang_tree.specs.declared.block.Binding
pub use Rattle.bb_lang_tree.specs.declared.block.Placed
pub use Rattle.bb_lang_tree.specs.declared.source_text.ActText
pub use Rattle.bb_lang_tree.specs.declared.source_text.ChangeText
pub use Rattle.bb_lang_tree.specs.declared.source_text.ClauseText
pub use Rattle.bb_lang_tree.specs.declared.source_text.PartText
pub use Rattle.bb_lang_tree.specs.declared.source_text.PartTexts
pub use Rattle.bb_lang_tree.specs.declared.source_text.ReactionText
pub use Rattle.bb_lang_tree.specs.declared.source_text.SourceText
pub use Rattle.bb_lang_tree.specs.declared.tree.Sequence
pub use Rattle.bb_lang_tree.specs.declared.tree.Step
