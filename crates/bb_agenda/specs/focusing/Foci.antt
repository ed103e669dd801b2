-- The foci of an agenda, and what activations are rated by (of this project; that control is data on the blackboard is
-- Hayes-Roth's idea, 1985).
use Rattle.std.specs.Prelude.{List}
use Rattle.std.specs.Ordering.{nat_cmp}
use Rattle.std.specs.FinMap as fin
use Rattle.bb_schema.specs.Schema.{Schema}
use Rattle.bb_agenda.specs.declared.focusing.focus.Focus.{Focus}
use Rattle.bb_agenda.specs.declared.focusing.setting.RatedSource.{RatedSource}

-- the foci that are set, each under the number of its unit
abbrev pub Foci : Type 0
Foci = fin.FinMap nat_cmp Focus

-- what foci are matched with; it never changes
pub record Setting : Type 0 where
  pub schema : Schema
  -- the name and the class of each source, in order
  pub sources : List RatedSource

-- what activations are rated by
pub record Steered : Type 0 where
  pub setting : Setting
  pub foci : Foci

-- what activations are rated by, with other foci
abbrev pub with_foci : Steered → Foci → Steered
with_foci s foci = record { setting = s.setting; foci = foci }
