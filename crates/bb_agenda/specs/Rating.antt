-- The rating of an activation by the foci of an agenda.
use Rattle.std.specs.Prelude.{ℤ}
use Rattle.bb_agenda.specs.declared.focusing.activation.Activation.{Activation}
use Rattle.bb_agenda.specs.Agenda.{Agenda}
pub use Rattle.bb_agenda.specs.focusing.Rating.{rating, total_weight}

-- the rating of an activation by the foci of an agenda
abbrev pub rating_in : Agenda → Activation → ℤ
rating_in agenda a = rating agenda.setting.schema agenda.setting.sources agenda.foci a
