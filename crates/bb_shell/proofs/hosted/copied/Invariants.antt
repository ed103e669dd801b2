use Rattle.std.proofs.Common.{◌≡◌, ◌++◌, drop}
use Rattle.bb_shell.specs.Fitting.{names_in}
use Rattle.bb_shell.proofs.hosted.copied.Given as goal

abbrev pub invariant-loop-native : goal.invariant-loop-native
invariant-loop-native l = names_in l.made.items ++ names_in (drop l.native-index l.natives) ≡ names_in l.natives
