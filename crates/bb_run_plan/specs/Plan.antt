-- The plan of a run.
use Rattle.std.specs.Prelude.{ℤ, List}
use Rattle.bb_schema.specs.Schema.{Schema}
use Rattle.bb_rules.specs.Parts.{Source}

pub record Plan : Type 0 where
  pub schema : Schema
  -- the sources, in order
  pub sources : List Source
  -- the minimum rating that can be chosen
  pub floor : ℤ
