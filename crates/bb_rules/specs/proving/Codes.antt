-- An injective encoding of sources.
use Rattle.std.specs.Coded.{Coded}
use Rattle.bb_rules.specs.contracts.source.SourceParts as parts
use Rattle.bb_rules.specs.Parts.{Source}

abbrev pub source_code : Coded Source
source_code = parts.the_row.coded
