use Rattle.std.proofs.Common.{◌∙◌}
use Rattle.bb_native.proofs.roster.Roster.handed_in.Goals as goal

pub returns : goal.returns
returns g c = c.deref.ensures.value ∙ c.args.self.now.named
