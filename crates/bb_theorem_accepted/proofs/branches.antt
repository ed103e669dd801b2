-- An `if` and a `with`, with an `else` or without, lead the verifier to what stands after them.
-- For `loops` and `whole`.
pub mod BranchScopes
pub mod TestGoes
pub mod HeadVisits
pub mod HeadGoes
pub mod BranchGoes
pub mod ElseGoes
