use Rattle.std.proofs.Common.{rules}
use Rattle.std.proofs.lemmas.Fn.{filter_same}
use Rattle.bb_verify.specs.nesting.proving.OpenLoops.{lasts}
use Rattle.bb_verify.proofs.nesting.loops.leave_ended.Goals as goal

pub returns : goal.returns
returns c = filter_same _ (lasts c.args.place) _ (λ x b f' k. search rules) _ _ c.retain.ensures.filtered
