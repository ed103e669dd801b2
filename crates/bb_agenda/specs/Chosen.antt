-- The activation that a cycle executes, for any rating (Hayes-Roth 1985, scheduling).
use Rattle.std.specs.Prelude.{◌≡◌, ◌≤◌, ◌≤ℤ◌, ℤ, Bool, ◌&&◌, ◌||◌, not, nat_lt, int_lt, List, find, Option, Contains}
use Rattle.std.specs.List.{list_all}
use Rattle.std.specs.Ordering.{int_eq}
use Rattle.bb_agenda.specs.declared.focusing.activation.Activation.{Activation}

-- b comes before a: it is rated higher, or the same with a lower number
abbrev pub is_before : (Activation → ℤ) → Activation → Activation → Bool
is_before rate b a = int_lt (rate a) (rate b) || (int_eq (rate a) (rate b) && nat_lt b.number a.number)

-- a is rated at least the floor, and no pending activation comes before it
abbrev pub is_best : (Activation → ℤ) → ℤ → List Activation → Activation → Bool
is_best rate floor pending a = not (int_lt (rate a) floor) && list_all (λ b. not (is_before rate b a)) pending

-- the best pending activation, if there is one
abbrev pub chosen : (Activation → ℤ) → ℤ → List Activation → Option Activation
chosen rate floor pending = find (is_best rate floor pending) pending

-- the properties of a chosen activation
pub record IsChosen (rate : Activation → ℤ) (floor : ℤ) (pending : List Activation) (a : Activation) : Type 0 where
  pub waits : Contains pending a
  pub enough : floor ≤ℤ rate a
  pub highest : (b : Activation) → Contains pending b → rate b ≤ℤ rate a
  -- no activation rated the same has a lower number
  pub earliest : (b : Activation) → Contains pending b → rate b ≡ rate a → a.number ≤ b.number
