-- The kinds of the entries of a stack, the newest first.
use Rattle.std.specs.Prelude.{List, [], ◌∷◌, Option, Some, None}
use Rattle.bb_code.specs.declared.frame.Kind.{Kind}

-- the newest entry, and the stack without it
abbrev pub newest : List Kind → Option (Kind × List Kind)
newest [] = None
newest (k ∷ rest) = Some (k, rest)
