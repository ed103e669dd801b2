use Rattle.std.proofs.Common.{◌≡◌, ◌++◌, map, take, string_bytes}
use Rattle.bb_bundle.specs.Written.{clause_words, text_of}
use Rattle.bb_bundle.proofs.writer.put_clauses.Given as goal

-- the clauses so far
abbrev pub invariant-loop-clause : goal.invariant-loop-clause
invariant-loop-clause l = string_bytes l.out ≡ string_bytes l.fn.out ++ text_of (map clause_words (take l.clause-index l.clauses))
