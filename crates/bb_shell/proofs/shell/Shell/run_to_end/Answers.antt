use Rattle.std.proofs.Common.{map}
use Rattle.bb_shell.proofs.UnstuckLemmas.{no_native}
use Rattle.bb_shell.proofs.shell.Shell.run_to_end.Goals as goal

pub run_to_end-requires-clause-acts : goal.run_to_end-requires-clause-acts
run_to_end-requires-clause-acts g c = no_native c.args.self.plan (map g.N.NativeSource.meaning c.args.self.roster.natives.items) c.args.self.acted
