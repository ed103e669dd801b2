-- The size of the parts of expressions: the number of nodes.
use Rattle.std.specs.Prelude.{ℕ, List, [], ◌∷◌}
use Rattle.bb_lang.specs.Step.{Step}
use Rattle.bb_lang.specs.Sequence.{Sequence}
use Rattle.bb_lang.specs.Trees.{PatternTree}
use Rattle.bb_lang.specs.View.{steps_of, sequence_of, patterns_of}
use Rattle.bb_lang.specs.proving.Codes.{step_roses, sequence_rose, pattern_roses}
use Rattle.bb_lang.specs.proving.Rose.{nodes, all_nodes}

abbrev pub steps_size : List Step → ℕ
steps_size steps = all_nodes (step_roses (steps_of steps))

abbrev pub step_size : Step → ℕ
step_size step = steps_size (step ∷ [])

abbrev pub sequence_size : Sequence → ℕ
sequence_size sequence = nodes (sequence_rose (sequence_of sequence))

abbrev pub patterns_size : List PatternTree → ℕ
patterns_size patterns = all_nodes (pattern_roses (patterns_of patterns))
