-- The loops that hold a place, as the places are scanned in order.
use Rattle.std.specs.Prelude.{◌≡◌, ℕ, ◌+◌, ◌<◌, ◌≤◌, Bool, ◌==◌, ◌++◌, ◌∷◌, min, nat_le, nat_lt, List, length, filter, take, drop, map, All, slice_get}
use Rattle.std.specs.Prelude.{Option, Some, None, Result, Ok, Err, if◌then◌else◌}
use Rattle.std.specs.List.{range_with_len}
use Rattle.std.specs.Option.{option_to_list}
use Rattle.bb_basis.specs.Results.{◌>>=◌}
use Rattle.bb_code.specs.Code.{Code}
use Rattle.bb_code.specs.declared.frame.Loop.{Loop}
use Rattle.bb_code.specs.declared.op.Op.{Op}
use Rattle.bb_code.specs.declared.flaw.Flaw.{Flaw}
use Rattle.bb_code.specs.declared.flaw.Flaw.TheVariants as flaws
use Rattle.bb_code.specs.declared.flaw.VerifyFault.{VerifyFault}
use Rattle.bb_verify.specs.declared.nesting.loops.TheConstants.{NESTING_LIMIT}
use Rattle.bb_code.specs.Each.{each}
use Rattle.bb_code.specs.Flaws.{fault_at}
use Rattle.bb_verify.specs.nesting.Loops.{holds, depth, check_order, rising, is_head, head_due, op_due, loop_at, lowest_outside, none_outside}

-- a loop, if its head is at the place
abbrev pub at_head : ℕ → Loop → Option Loop
at_head place l = if l.head == place then Some l else None

-- the next loop of a list, if its head is at the place
abbrev pub if_at_head : ℕ → Option Loop → Option Loop
if_at_head place None = None
if_at_head place (Some l) = at_head place l

abbrev pub loops_at : (place next : ℕ) → List Loop → Option Loop
loops_at place next loops = if_at_head place (slice_get loops next)

-- the index of the next loop in the list, after the one with its head here
abbrev pub passed : ℕ → Option Loop → ℕ
passed next None = next
passed next (Some l) = next + 1

-- a loop ends after the place
abbrev pub lasts : ℕ → Loop → Bool
lasts place l = nat_lt place l.end

-- a loop ends at the place or after it
abbrev pub stays : ℕ → Loop → Bool
stays place l = nat_le place l.end

-- the loops around, with the one that begins at the place, without those that ended
abbrev pub entered : (place : ℕ) → List Loop → Option Loop → List Loop
entered place around here = filter (lasts place) (around ++ option_to_list here)

-- the loops before index `next` are those whose heads are before the place
pub record IsPassed (place next : ℕ) (loops : List Loop) : Type 0 where
  pub low : All (λ l. l.head < place) (take next loops)
  pub high : All (λ l. place ≤ l.head) (drop next loops)

-- the list ascends at the place, at most one loop (`here`) has its head there, and the loops `around` hold the place
pub record IsAt (code : Code) (place : ℕ) (here : Option Loop) (around : List Loop) : Type 0 where
  pub rises : rising place code.loops ≡ Ok tt
  pub loops_at : filter (is_head place) code.loops ≡ option_to_list here
  pub holding : around ≡ filter (holds place) code.loops

-- the checks at a place where the list ascends
unfoldable pub rest_due : Code → ℕ → Op → Result (Unit {0}) Flaw
rest_due code place op = do
  _ ← each (head_due code place) code.loops
  _ ← check_order (nat_le (depth code place) NESTING_LIMIT)
  op_due code place op

-- the number of loops that hold each of the first `count` places, if the loops are in order there
unfoldable pub depths_below : Code → ℕ → Result (List ℕ) VerifyFault
depths_below code count = do
  _ ← each (loop_at code) (range_with_len 0 count)
  Ok (map (depth code) (range_with_len 0 count))

-- the smaller of a place and the second head, if the second head is not after the first
abbrev pub least_misplaced : ℕ → (first second : Loop) → ℕ
least_misplaced so_far first second = if nat_le second.head first.head then min so_far second.head else so_far

-- the place up to which the list ascends, but at most `so_far`
unfoldable pub sorted_below : ℕ → List Loop → ℕ
sorted_below so_far (first ∷ second ∷ ls) = sorted_below (least_misplaced so_far first second) (second ∷ ls)
sorted_below so_far _ = so_far

-- the rest of the list: it ascends to the end of the code, and no head is outside the code
unfoldable pub rest_of : Code → Result (Unit {0}) VerifyFault
rest_of code =
    if nat_lt (sorted_below (length code.ops) code.loops) (length code.ops)
    then Err (fault_at (sorted_below (length code.ops) code.loops) flaws.Loop)
    else none_outside (lowest_outside (length code.ops) None code.loops)
