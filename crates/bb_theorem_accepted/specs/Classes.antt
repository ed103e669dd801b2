-- Parts whose classes are in the schema.
use Rattle.std.specs.Prelude.{◌<◌, ℕ, length}
use Rattle.bb_schema.specs.Schema.{Schema}
use Rattle.bb_verify_effect.specs.declared.part.Part.{Part}
use Rattle.bb_verify_effect.specs.declared.part.Part.TheVariants.{Require, Obviate, Retrigger, Revalidate, Do}

-- the classes of a part, which are those of the units it begins with, are in the schema
abbrev pub HasClass : Schema → (class : ℕ) → Type 0
HasClass s class = class < length s.classes

abbrev pub HasClasses : Schema → Part → Type 0
HasClasses s (Require class) = HasClass s class
HasClasses s (Obviate class of) = HasClass s class × HasClass s of
HasClasses s (Retrigger class of) = HasClass s class × HasClass s of
HasClasses s (Revalidate class) = HasClass s class
HasClasses s (Do class) = HasClass s class
