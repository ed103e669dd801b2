-- What contracts see of a source.
use Rattle.bb_rules.specs.declared.source.SourceParts.{SourceParts}

-- a source is its parts
abbrev pub Source : Type 0
Source = SourceParts
