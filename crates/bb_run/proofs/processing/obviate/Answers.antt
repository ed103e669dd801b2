use Rattle.std.proofs.Common.{◌∙◌, ap, sym}
use Rattle.bb_rules.specs.Parts.{Source}
use Rattle.bb_run.proofs.processing.obviate.Goals as goal

pub obviate_all-requires : goal.obviate_all-requires
obviate_all-requires g c = record {
  begins = c.requires.begins c.in-Some.reaction (sym (ap (λ (s : Source). s.obviate) c.parts.ensures) ∙ c.in-Some.is) (sym c.match_any.ensures ∙ c.if-match_any.true);
}
