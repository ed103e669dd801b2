-- The maximum number of further steps of an execution of an accepted code: the sum, over all places, of how often the
-- place can still be executed.
use Rattle.std.specs.Prelude.{◌≡◌, ◌⊎◌, ◌≤◌, ℕ, ◌+◌, ◌*◌, ◌^◌, Bool, true, not, ◌==◌, ◌&&◌, nat_le, cond, List, length, filter, slice_get, Some}
use Rattle.std.specs.List.{sum_by}
use Rattle.bb_code.specs.Code.{Code, places}
use Rattle.bb_code.specs.declared.frame.Loop.{Loop}
use Rattle.bb_verify.specs.nesting.Loops.{holds, is_head}

-- a list has this element
abbrev pub In : {A : Type 0} → List A → A → Type 0
In xs x = (i : ℕ) × (slice_get xs i ≡ Some x)

-- the number of loops that hold `place` and not `other`
abbrev pub apart : List Loop → (other place : ℕ) → ℕ
apart ls other place = length (filter (λ l. holds place l && not (holds other l)) ls)

-- how often `place` can be executed during one round of the loops that also hold `other`, if no sequence has more than
-- m units
abbrev pub often : List Loop → (m other place : ℕ) → ℕ
often ls m other place = (m + 1) ^ apart ls other place

-- how many rounds a loop can still begin, given the units left for it; at its head, the next unit is not taken yet
abbrev pub rounds : (left : Loop → ℕ) → (at : ℕ) → Loop → ℕ
rounds left at l = cond (l.head == at) (left l) (left l + 1)

-- how often a place can be executed in the rounds that a loop around it can still begin
abbrev pub in_rounds : (once : ℕ → ℕ) → (left : Loop → ℕ) → (at place : ℕ) → Loop → ℕ
in_rounds once left at place l = cond (holds at l && holds place l) (rounds left at l * once l.head) 0

-- how often a place can still be executed: in the current rounds of the loops, and in those that they can still begin
unfoldable pub comes : List Loop → (m : ℕ) → (left : Loop → ℕ) → (at place : ℕ) → ℕ
comes ls m left at place =
    cond (nat_le at place) (often ls m at place) 0
    + sum_by (in_rounds (λ head. often ls m head place) left at place) ls

-- the maximum number of further steps from a place
unfoldable pub steps_left : Code → (m : ℕ) → (left : Loop → ℕ) → (at : ℕ) → ℕ
steps_left code m left at = sum_by (comes code.loops m left at) (places code)

-- a loop has its head at `head` and holds `place`
abbrev pub is_between : (head place : ℕ) → Loop → Bool
is_between head place l = is_head head l && holds place l

-- a loop around the next place was around this one and begins no more rounds than it could before, or begins at the
-- next place with at most m units, as any sequence
abbrev pub Onward : (m : ℕ) → (left next : Loop → ℕ) → (at to : ℕ) → Loop → Type 0
Onward m left next at to l =
    ((holds at l ≡ true) × (rounds next to l ≤ rounds left at l)) ⊎ ((l.head ≡ to) × (next l ≤ m))

-- `Onward` holds for every loop around the next place, if the execution goes ahead
abbrev pub Ahead : List Loop → (m : ℕ) → (left next : Loop → ℕ) → (at to : ℕ) → Type 0
Ahead ls m left next at to = (l : Loop) → In ls l → holds to l ≡ true → Onward m left next at to l

-- the execution goes back from the last place of a loop to its head: every loop is around both or around neither
pub record GoesBack (ls : List Loop) (left next : Loop → ℕ) (at to : ℕ) : Type 0 where
  pub loop : Loop
  pub is_one : In ls loop
  pub head : loop.head ≡ to
  pub around : holds at loop ≡ true
  pub both : (l : Loop) → In ls l → holds to l ≡ holds at l
  pub same : (l : Loop) → In ls l → holds at l ≡ true → next l ≤ left l
