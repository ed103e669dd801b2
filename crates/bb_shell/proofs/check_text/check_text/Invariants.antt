-- The lines so far, and those of the sources that are left, are the lines of all sources.
use Rattle.std.proofs.Common.{◌≡◌, ◌++◌, drop, string_bytes}
use Rattle.std.specs.List.{flat_map}
use Rattle.bb_shell.specs.CheckText.{source_text}
use Rattle.bb_shell.proofs.check_text.check_text.Given as goal

abbrev pub invariant-loop-source : goal.invariant-loop-source
invariant-loop-source l =
    string_bytes l.text ++ flat_map source_text (drop l.source-index l.sources) ≡ flat_map source_text l.fn.sources
