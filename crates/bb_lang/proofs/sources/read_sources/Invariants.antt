use Rattle.std.proofs.Common.{◌≡◌, ◌-◌}
use Rattle.bb_lang.specs.Repeats.{repeated, as_many}
use Rattle.bb_lang.specs.Sources.{next_source}
use Rattle.bb_lang.specs.proving.Fronts.{with_front}
use Rattle.bb_lang.proofs.sources.read_sources.Given as goal

-- what was read, and what is still to be read
abbrev pub invariant-loop-turn : goal.invariant-loop-turn
invariant-loop-turn l = with_front l.sources.items (repeated (l._turn-end - l._turn) next_source l.parser.state) ≡ as_many next_source l.fn.parser.state
