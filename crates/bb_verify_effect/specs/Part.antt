-- What the parts of a source may do, how they end, and their names (of this project).
use Rattle.std.specs.Prelude.{ℕ, List, [], ◌∷◌, Result, Ok, Err, codes}
use Rattle.bb_code.specs.declared.frame.Kind.{Kind}
use Rattle.bb_code.specs.declared.frame.Kind.TheVariants.{Old}
use Rattle.bb_code.specs.declared.flaw.Flaw.{Flaw}
use Rattle.bb_code.specs.declared.flaw.Flaw.TheVariants.{Effect, End}
use Rattle.bb_verify_effect.specs.declared.part.Part.{Part}
use Rattle.bb_verify_effect.specs.declared.part.Part.TheVariants.{Require, Obviate, Retrigger, Revalidate, Do}

-- the units that a part starts with, in its first locals: the activation's unit, then the event's unit
abbrev pub units_of : Part → List Kind
units_of (Require class) = Old class ∷ []
units_of (Obviate class of) = Old class ∷ Old of ∷ []
units_of (Retrigger class of) = Old class ∷ Old of ∷ []
units_of (Revalidate class) = Old class ∷ []
units_of (Do class) = Old class ∷ []

-- the name of a part
abbrev pub part_word : Part → List ℕ
part_word (Require class) = codes "require"
part_word (Obviate class of) = codes "obviate"
part_word (Retrigger class of) = codes "retrigger"
part_word (Revalidate class) = codes "revalidate"
part_word (Do class) = codes "do"

-- the part may change the blackboard
abbrev pub writes : Part → Result (Unit {0}) Flaw
writes (Do class) = Ok tt
writes _ = Err Effect

-- the part ends without an answer
abbrev pub ends_done : Part → Result (Unit {0}) Flaw
ends_done (Do class) = Ok tt
ends_done _ = Err End

-- the part ends with a rating, or declines to give one
abbrev pub ends_rated : Part → Result (Unit {0}) Flaw
ends_rated (Require class) = Ok tt
ends_rated (Retrigger class of) = Ok tt
ends_rated _ = Err End

-- the part ends with yes or no
abbrev pub ends_answered : Part → Result (Unit {0}) Flaw
ends_answered (Obviate class of) = Ok tt
ends_answered (Revalidate class) = Ok tt
ends_answered _ = Err End
