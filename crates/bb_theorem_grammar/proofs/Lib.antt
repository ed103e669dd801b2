-- worked texts
mod Rows
-- blanks, comments and tokens
pub mod TokenLemmas
-- what holds of what a reader gives
pub mod SoundLemmas
-- names, numbers and text constants
pub mod NameLemmas
-- as many as come
pub mod RepeatLemmas
-- words of operations
pub mod WordLemmas
-- expressions without parts
pub mod AtomLemmas
-- expressions, sequences and patterns
pub mod ExpressionLemmas
-- statements without blocks
pub mod ActionLemmas
-- statements and blocks
pub mod StatementLemmas
-- clauses and parts
pub mod ClauseLemmas
-- sources, and the sources of a text
pub mod SourceLemmas
-- tokens that stand in a text are found
pub mod FoundTokens
-- names, numbers and text constants are read
pub mod FoundNames
-- parts of expressions are read
pub mod FoundParts
-- expressions, sequences and patterns are read where their parts are
pub mod FoundProductions
-- expressions, sequences and patterns are read
pub mod FoundExpressions
-- statements without blocks are read
pub mod FoundActions
-- statements and blocks are read
pub mod FoundStatements
-- clauses and parts are read
pub mod FoundClauses
-- sources are read
pub mod FoundSources
-- what a call answers
pub mod GrammarLemmas
pub mod judged_lemmas
