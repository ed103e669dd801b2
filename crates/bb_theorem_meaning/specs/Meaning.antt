-- How a text ends if it does not continue, and the names that it has declared.
use Rattle.std.specs.Prelude.{ℕ, List, [], ◌∷◌, ◌++◌, find, option_map, Result, Err, if◌then◌else◌}
use Rattle.std.specs.Str.{bytes_eq}
use Rattle.bb_basis.specs.Results.{ok_or}
use Rattle.bb_machine.specs.declared.outcome.Answer.{Answer}
use Rattle.bb_machine.specs.declared.value.Value.{Value}
use Rattle.bb_board.specs.Board.{Board}

pub data End : Type 0 where
  -- the part has answered, and leaves this blackboard
  answered : Answer → Board → End
  -- a unit was to be created, and there is no room for one
  full : Board → End
  -- the text has no meaning: it uses a unit that was deleted, or the compiler does not accept it
  meaningless : End

-- what a text results in, or how it ends
abbrev pub Meaning : Type 0 → Type 0
Meaning X = Result X End

abbrev pub nothing : {X : Type 0} → Meaning X
nothing = Err meaningless

-- a name with its value
pub record Name : Type 0 where
  pub name : List ℕ
  pub value : Value

-- the value of a name
abbrev pub named : List ℕ → List Name → Meaning Value
named name names = ok_or (option_map (λ n. n.value) (find (λ n. bytes_eq n.name name) names)) meaningless

-- the names and another one
abbrev pub with_name : List ℕ → Value → List Name → List Name
with_name name value names = names ++ record { name = name; value = value } ∷ []

-- the names after an assignment to one of them
abbrev pub assigned : List ℕ → Value → List Name → List Name
assigned name value [] = []
assigned name value (n ∷ ns) =
    if bytes_eq n.name name then record { name = n.name; value = value } ∷ ns else n ∷ assigned name value ns
