use Rattle.std.proofs.Common.{◌∙◌, ap, sym}
use Rattle.bb_rules.specs.Parts.{Source}
use Rattle.bb_run.proofs.processing.retrigger.Goals as goal

pub retrigger_all-requires : goal.retrigger_all-requires
retrigger_all-requires g c = record {
  begins = c.requires.begins c.in-Some.reaction (sym (ap (λ (s : Source). s.retrigger) c.parts.ensures) ∙ c.in-Some.is) (sym c.match_any.ensures ∙ c.if-match_any.true);
}
