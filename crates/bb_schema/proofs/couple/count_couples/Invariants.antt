use Rattle.std.proofs.Common.{◌≡◌, ◌≤◌, ◌++◌, length, take, drop}
use Rattle.bb_schema.specs.Couples.{firsts, counts}
use Rattle.bb_schema.proofs.couple.count_couples.Given as goal

abbrev pub invariant-loop-number : goal.invariant-loop-number
invariant-loop-number l = record { bound : l.count ≤ l.number; total : l.count ≡ length (firsts 0 (take l.number l.slots)); counted : l.couples_before.items ++ counts l.count l.number (drop l.number l.slots) ≡ counts 0 0 l.slots }
