-- Results of calls that may fail. A call gives what its definition gives, unless memory runs out.
use Rattle.std.specs.Prelude.{◌≡◌, ◌⊎◌, ℕ, suc, List, [], ◌∷◌, Result, Ok, Err}
pub use Rattle.std.specs.Option.{ok_or}

-- the second step, applied to the outcome of the first, or the first step's fault
infixl 10 ◌>>=◌
abbrev pub ◌>>=◌ : {A B E : Type 0} → Result A E → (A → Result B E) → Result B E
(Ok x) >>= f = f x
(Err e) >>= f = Err e

-- a result with f applied to its fault; an answer is unchanged
abbrev pub map_err : {X E F : Type 0} → (E → F) → Result X E → Result X F
map_err f (Ok x) = Ok x
map_err f (Err e) = Err (f e)

-- what f gives for each item, in order, or the first fault
unfoldable pub try_map : {A X E : Type 0} → (A → Result X E) → List A → Result (List X) E
try_map f [] = Ok []
try_map f (a ∷ as') = do
  first ← f a
  others ← try_map f as'
  Ok (first ∷ others)

-- the state after f was applied to all items in order, or the first fault
unfoldable pub try_fold : {S A E : Type 0} → (S → A → Result S E) → S → List A → Result S E
try_fold f s [] = Ok s
try_fold f s (a ∷ as') = do
  next ← f s a
  try_fold f next as'

-- try_map, but at adds the index of the item to a fault; n is the index of the first item
unfoldable pub try_map_at : {A X E F : Type 0} → (ℕ → E → F) → (A → Result X E) → ℕ → List A → Result (List X) F
try_map_at at f n [] = Ok []
try_map_at at f n (a ∷ as') = do
  first ← map_err (at n) (f a)
  others ← try_map_at at f (suc n) as'
  Ok (first ∷ others)

-- try_fold, but at adds the index of the item to a fault; n is the index of the first item
unfoldable pub try_fold_at : {S A E F : Type 0} → (ℕ → E → F) → (S → A → Result S E) → ℕ → S → List A → Result S F
try_fold_at at f n s [] = Ok s
try_fold_at at f n s (a ∷ as') = do
  next ← map_err (at n) (f s a)
  try_fold_at at f (suc n) next as'

-- what the call returned, seen through view, is what the definition gives, or the call ran out of memory
abbrev pub Gives : {X Y E : Type 0} → E → (X → Y) → Result X E → Result Y E → Type 0
Gives memory view (Ok x) given = given ≡ Ok (view x)
Gives memory view (Err e) given = (e ≡ memory) ⊎ (given ≡ Err e)
