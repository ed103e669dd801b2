-- all activations ever added, which are pending, and the foci
pub mod Agenda
-- the changes of an agenda
pub mod Changes
-- the invariant of an agenda
pub mod Fits
-- changes in sequence
pub mod History
-- the rating of an activation by the foci of an agenda
pub mod Rating
-- the activation that a cycle executes
pub mod Chosen
-- for proofs only
pub mod proving
-- activations, foci, and which activations foci match
pub use Rattle.bb_agenda.specs.focusing.Foci
pub use Rattle.bb_agenda.specs.focusing.Matching
pub use Rattle.bb_agenda.specs.declared.focusing.activation.Activation
pub use Rattle.bb_agenda.specs.declared.focusing.focus.Focus
pub use Rattle.bb_agenda.specs.declared.focusing.setting.RatedSource
-- weights of the foci that match it
pub mod focusing
