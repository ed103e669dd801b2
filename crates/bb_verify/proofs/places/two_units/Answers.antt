use Rattle.std.proofs.Common.{ap, ◌∙◌, set}
use Rattle.bb_code.specs.declared.frame.Kind.TheVariants.{Old}
use Rattle.bb_verify.proofs.EntryLemmas.{second_set}
use Rattle.bb_verify.proofs.places.two_units.Goals as goal

pub returns : goal.returns
returns c =
    c.with-2.ensures ∙ (ap (λ l. set l 1 (Old c.args.of)) c.with.ensures
    ∙ (ap (λ l. set (set l 0 (Old c.args.class)) 1 (Old c.args.of)) c.anything.ensures ∙ second_set c.args.count (Old c.args.class) (Old c.args.of) c.requires.some))
