-- Repeated reading: items are read until no more follow.
use Rattle.std.specs.Prelude.{ℕ, zero, suc, List, [], ◌∷◌, Option, Some, None, Result, Ok, codes, if◌then◌else◌}
use Rattle.bb_basis.specs.Results.{◌>>=◌}
use Rattle.bb_lang_tree.specs.declared.fault.LangFault.{LangFault}
use Rattle.bb_lang_tree.specs.State.{State, Reader, next, at, left}

-- an item, if there is one, with the items after it
unfoldable pub more_after : {X : Type 0} → Reader (List X) → Option X → State → Result (List X × State) LangFault
more_after others None s = Ok ([], s)
more_after others (Some x) s = do
  (xs, t) ← others s
  Ok (x ∷ xs, t)

-- all items that follow, at most n
unfoldable pub repeated : {X : Type 0} → ℕ → Reader (Option X) → Reader (List X)
repeated zero read s = Ok ([], s)
repeated (suc n) read s = do
  (one, t) ← read s
  more_after (repeated n read) one t

-- all items that follow: each consumes at least one byte, so the number of bytes left limits them
unfoldable pub as_many : {X : Type 0} → Reader (Option X) → Reader (List X)
as_many read s = repeated (left s) read s

-- { "," item }
unfoldable pub next_item : {X : Type 0} → Reader X → Reader (Option X)
next_item item s =
    if at (codes ",") s
    then (do
      t ← next s
      (x, u) ← item t
      Ok (Some x, u))
    else Ok (None, s)

-- [ item { "," item } ], up to a symbol
unfoldable pub items : {X : Type 0} → (close : List ℕ) → Reader X → Reader (List X)
items close item s =
    if at close s then Ok ([], s)
    else (do
      (first, t) ← item s
      (others, u) ← as_many (next_item item) t
      Ok (first ∷ others, u))
