use Rattle.std.proofs.Common.{◌≡◌, ◌∙◌, ap, subst, sym, true}
use Rattle.bb_rules.specs.Match.{any_match}
use Rattle.bb_rules.specs.Parts.{Source}
use Rattle.bb_run.proofs.processing.trigger.Goals as goal

pub require-requires : goal.require-requires
require-requires g c = record {
  begins = c.requires.begins c.in-Some.code (sym (ap (λ (s : Source). s.require) c.parts-source.ensures) ∙ c.in-Some.is)
      (subst (λ (s : Source). any_match c.args.schema.now s.triggers c.args.event ≡ true) c.parts-source.ensures (sym c.match_any.ensures ∙ c.if-not-match_any.false));
}
