-- Definitions used only in models and private contracts.
-- an injective encoding of the parser's state
pub mod Codes
-- what the writer proves about what it wrote
pub mod Again
