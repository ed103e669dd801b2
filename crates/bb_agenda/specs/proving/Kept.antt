-- How the code keeps an agenda: the count of activations given, the pending ones, and the numbers of obviated ones. No
-- public clause cites it.
use Rattle.std.specs.Prelude.{◌≡◌, ◌<◌, ◌≤◌, ℕ, Bool, false, List, map, find, if◌then◌else◌}
use Rattle.std.specs.List.{AllByRecursion, filter_map, range_with_len}
use Rattle.std.specs.Option.{option_map_or}
use Rattle.bb_agenda.specs.declared.focusing.activation.Activation.{Activation}
use Rattle.bb_agenda.specs.Agenda.{Entry, pending, executed, obviated, if_pending, has_number}

-- what became of the activation with a number
abbrev pub entry_in : List Activation → (gone : ℕ → Bool) → ℕ → Entry
entry_in kept gone number =
    if gone number then obviated else option_map_or pending (find (has_number number) kept) executed

-- what became of all activations given
unfoldable pub entries_of : ℕ → List Activation → (gone : ℕ → Bool) → List Entry
entries_of given kept gone = map (entry_in kept gone) (range_with_len 1 given)

pub record IsKept (given : ℕ) (kept : List Activation) (gone : ℕ → Bool) : Type 0 where
  -- each pending number was given
  pub numbers : AllByRecursion (λ a. a.number ≤ given) kept
  -- no other number was obviated
  pub gone_given : (number : ℕ) → given < number → gone number ≡ false
  -- the kept activations are all pending ones
  pub all : filter_map if_pending (entries_of given kept gone) ≡ kept
