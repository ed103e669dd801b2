use Rattle.std.proofs.Common.{◌≡◌, ◌++◌, drop}
use Rattle.std.specs.Prelude.{filter}
use Rattle.bb_query.specs.proving.Searches.{is_answer}
use Rattle.bb_query.proofs.answer.answered.Given as goal

abbrev pub invariant-loop-unit : goal.invariant-loop-unit
invariant-loop-unit l =
    l.found.items ++ filter (is_answer l.search) (drop l.unit-index l.among) ≡ filter (is_answer l.search) l.among
