-- Square and curly brackets in productions, for items that do not contain themselves.
use Rattle.std.specs.Prelude.{List, [], ◌∷◌, Option, Some, None, codes}
use Rattle.bb_lang_tree.specs.State.{State}
use Rattle.bb_theorem_grammar.specs.Tokens.{Takes}

-- [ item ]
pub data IsOptional {X : Type 0} (Item : X → State → State → Type 0) : Option X → State → State → Type 0 where
  missing : {s : State} → IsOptional Item None s s
  there : {x : X} {s t : State} → Item x s t → IsOptional Item (Some x) s t

-- { item }
pub data AreMany {X : Type 0} (Item : X → State → State → Type 0) : List X → State → State → Type 0 where
  no_item : {s : State} → AreMany Item [] s s
  items : {x : X} {xs : List X} {s t u : State} → Item x s t → AreMany Item xs t u → AreMany Item (x ∷ xs) s u

-- "," item
pub data IsNextItem {X : Type 0} (Item : X → State → State → Type 0) (x : X) (s u : State) : Type 0 where
  next_item : {t : State} → Takes (codes ",") s t → Item x t u → IsNextItem Item x s u

-- [ item { "," item } ]
pub data AreListed {X : Type 0} (Item : X → State → State → Type 0) : List X → State → State → Type 0 where
  none_listed : {s : State} → AreListed Item [] s s
  listed : {x : X} {xs : List X} {s t u : State}
      → Item x s t → AreMany (IsNextItem Item) xs t u → AreListed Item (x ∷ xs) s u
