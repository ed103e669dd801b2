-- As many as are read stand there.
use Rattle.std.proofs.Common.{ℕ, zero, suc, List, [], ◌∷◌, Option, Some, None, codes}
use Rattle.bb_lang_tree.specs.State.{State, Reader, at, left}
use Rattle.bb_lang.specs.Repeats.{more_after, repeated, as_many, next_item, items}
use Rattle.bb_theorem_grammar.specs.Tokens.{Takes}
use Rattle.bb_theorem_grammar.specs.Repeats.{AreMany, IsNextItem, AreListed}
use Rattle.bb_theorem_grammar.proofs.SoundLemmas.{Stands, Sound, by_read, by_move, by_if, done, next_moves, takes}

-- one more item goes before those after it; none is an end
abbrev pub Joins : {X : Type 0} → (List X → State → State → Type 0) → State → Option X → State → Type 0
Joins Many s None t = Many [] s t
Joins {X} Many s (Some x) t = (xs : List X) (u : State) → Many xs t u → Many (x ∷ xs) s u

module _ {X : Type 0} (Many : List X → State → State → Type 0) (ends : (s : State) → Many [] s s) where
  after : {s : State} (others : Reader (List X)) → ((t : State) → Sound t (λ xs u. Many xs t u) (others t)) → (o : Option X) (t : State) → Joins Many s o t → Sound t (λ xs u. Many xs s u) (more_after others o t)
  unfolding more_after
  after others read None t j = done j
  after others read (Some x) t j = by_read _ (read t) (λ xs u d. done (j xs u d))

  repeated_read : (read : Reader (Option X)) → ((s : State) → Sound s (Joins Many s) (read s)) → (n : ℕ) (s : State) → Sound s (λ xs t. Many xs s t) (repeated n read s)
  unfolding repeated
  repeated_read read one zero s = done (ends s)
  repeated_read read one (suc n) s = by_read _ (one s) (after (repeated n read) (repeated_read read one n))

  pub many_read : (read : Reader (Option X)) → ((s : State) → Sound s (Joins Many s) (read s)) → (s : State) → Sound s (λ xs t. Many xs s t) (as_many read s)
  unfolding as_many
  many_read read one s = repeated_read read one (left s) s

-- ---- items with commas between them

module _ {X : Type 0} (Item : X → State → State → Type 0) (item : Reader X) (read : (s : State) → Stands s → Sound s (λ x t. Item x s t) (item s)) where
  -- one more item, where those after a comma are many
  pub comma_read : (Many : List X → State → State → Type 0) → ((s : State) → Many [] s s)
      → ((x : X) (xs : List X) (s t u v : State) → Takes (codes ",") s t → Item x t u → Many xs u v → Many (x ∷ xs) s v)
      → (s : State) → Sound s (Joins Many s) (next_item item s)
  unfolding next_item
  comma_read Many ends joins s =
      by_if (at (codes ",") s) _ _
      (λ is. by_move _ (next_moves s) (λ t n. by_read _ (read t n.is_token) (λ x u d. done (λ xs v more. joins x xs s t u v (takes (codes ",") s t is n) d more))))
      (λ _. done (ends s))

  pub listed_read : (close : List ℕ) (s : State) → Stands s → Sound s (λ xs t. AreListed Item xs s t) (items close item s)
  unfolding items
  listed_read close s stands =
      by_if (at close s) _ _
      (λ _. done AreListed.none_listed)
      (λ _. by_read _ (read s stands) (λ x t d. by_read _ (many_read (AreMany (IsNextItem Item)) (λ _. AreMany.no_item) (next_item item) (comma_read (AreMany (IsNextItem Item)) (λ _. AreMany.no_item) (λ _ _ _ _ _ _ c e more. AreMany.items (IsNextItem.next_item c e) more)) t)
      (λ xs u ds. done (AreListed.listed d ds))))
