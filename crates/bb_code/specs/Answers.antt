-- Results with other values.
use Rattle.std.specs.Prelude.{Result, Ok, Err}

-- a result with f applied to its value; a fault stays unchanged
abbrev pub map_ok : {X Y E : Type 0} → (X → Y) → Result X E → Result Y E
map_ok f (Ok x) = Ok (f x)
map_ok f (Err e) = Err e
