-- The invariant of an agenda.
use Rattle.std.specs.Prelude.{◌≡◌, ◌<◌, ◌↔◌, ℕ, List, [], ◌∷◌, Some, IsSome}
use Rattle.std.specs.List.{AllByRecursion}
use Rattle.bb_agenda.specs.declared.status.Status.TheVariants as statuses
use Rattle.bb_agenda.specs.Agenda.{Agenda, pending_of, number_of, pending_at, status}

-- the numbers of the items of a list ascend
abbrev pub RisesBy : {X : Type 0} → (X → ℕ) → List X → Type 0
RisesBy number [] = Unit {0}
RisesBy number (x ∷ xs) = AllByRecursion (λ y. number x < number y) xs × RisesBy number xs

pub record Fits (a : Agenda) : Type 0 where
  -- the numbers of pending activations ascend
  pub rising : RisesBy number_of (pending_of a)
  -- an activation is pending exactly if its status says so
  pub known : (number : ℕ) → IsSome (pending_at a number) ↔ (status a number ≡ Some statuses.Pending)
