use Rattle.std.proofs.Common.{◌≡◌, take, string_bytes}
use Rattle.std.specs.Prelude.{All}
use Rattle.bb_bundle.specs.Written.{bundle_text}
use Rattle.bb_bundle.specs.proving.Again.{IsSpelledAgain}
use Rattle.bb_bundle.proofs.writer.bundle.Given as goal

-- the sources so far
abbrev pub invariant-loop-source : goal.invariant-loop-source
invariant-loop-source l = record {
  text : string_bytes l.out ≡ bundle_text (take l.source-index l.sources);
  again : All IsSpelledAgain (take l.source-index l.sources);
}
