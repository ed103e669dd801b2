-- Tests in order, up to the first flaw.
use Rattle.std.specs.Prelude.{List, [], ◌∷◌, Result, Ok}
use Rattle.bb_basis.specs.Results.{◌>>=◌}

unfoldable pub each : {A E : Type 0} → (A → Result (Unit {0}) E) → List A → Result (Unit {0}) E
each f [] = Ok tt
each f (a ∷ as') = f a >>= λ _. each f as'
