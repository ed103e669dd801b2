use Rattle.std.proofs.Common.{ap, ◌∙◌, set}
use Rattle.bb_code.specs.declared.frame.Kind.TheVariants.{Old}
use Rattle.bb_verify.proofs.EntryLemmas.{first_set}
use Rattle.bb_verify.proofs.places.one_unit.Goals as goal

pub returns : goal.returns
returns c = c.with.ensures ∙ (ap (λ l. set l 0 (Old c.args.class)) c.anything.ensures ∙ first_set c.args.count (Old c.args.class) c.requires.some)
