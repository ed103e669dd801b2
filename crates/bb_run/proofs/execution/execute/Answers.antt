use Rattle.std.proofs.Common.{◌∙◌, ap, sym}
use Rattle.bb_rules.specs.Parts.{Source}
use Rattle.bb_run.proofs.execution.execute.Goals as goal

pub execute_code-requires : goal.execute_code-requires
execute_code-requires g c = record { begins = c.requires.begins c.in-Code.code (sym (ap (λ (s : Source). s.act) c.parts-source.ensures) ∙ c.in-Code.is) }
