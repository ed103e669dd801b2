use Rattle.std.proofs.Common.{◌≡◌, ◌++◌}
use Rattle.std.specs.Prelude.{filter}
use Rattle.std.specs.Map.{keys_of}
use Rattle.bb_space.specs.Spaces.{members}
use Rattle.bb_query.specs.proving.Searches.{is_answer}
use Rattle.bb_query.proofs.AnswerLemmas.{AreTold}
use Rattle.bb_query.proofs.answer.scanned.Given as goal

abbrev pub invariant-loop-member : goal.invariant-loop-member
invariant-loop-member l =
    (l.found.items ++ filter (is_answer l.search) (keys_of l.member-iterator) ≡ filter (is_answer l.search) (members l.search.spaces.now l.search.query.now.space))
    × AreTold l.search.spaces.now l.search.query.now.space l.member-iterator
