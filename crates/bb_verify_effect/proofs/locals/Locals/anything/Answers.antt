use Rattle.std.proofs.lemmas.List.{take-replicate}
use Rattle.bb_code.specs.declared.frame.Kind.TheVariants.{Any}
use Rattle.bb_verify_effect.proofs.locals.Locals.anything.Goals as goal

pub returns : goal.returns
returns c = take-replicate c.args.count 32 Any c.requires
