use Rattle.std.proofs.Common.{◌≡◌, ◌++◌, take, codes, string_bytes}
use Rattle.std.specs.List.{flat_map}
use Rattle.bb_moves.specs.Written.{ask_line}
use Rattle.bb_moves.proofs.writing.add_asks.Given as goal

abbrev pub invariant-loop-ask : goal.invariant-loop-ask
invariant-loop-ask l = string_bytes l.text ≡ string_bytes l.fn.text ++ flat_map (λ ask. ask_line l.schema ask ++ codes "\n") (take l.ask-index l.asks)
