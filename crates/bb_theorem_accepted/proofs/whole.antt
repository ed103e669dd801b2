-- Statements of all kinds lead the verifier on, and the code of a part is accepted.
-- For the theorem, and for `Laws`.
pub mod AcceptLemmas
pub mod WholeLemmas
pub mod PartLemmas
pub mod TextLemmas
