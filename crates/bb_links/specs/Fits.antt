-- The invariant of the couples.
use Rattle.std.specs.Prelude.{◌≡◌, ◌<◌, ◌≤◌, ℕ, filter, length, Some, IsTrue, All}
use Rattle.bb_schema.specs.declared.couple.Side.{Side}
use Rattle.bb_links.specs.Pairs.{same_pair, is_singular}
use Rattle.bb_links.specs.Links.{partners}
use Rattle.bb_links.specs.Couples.{Couple, Couples, end_of}

pub record FitsCouple (k : Couple) : Type 0 where
  -- no pair occurs twice
  pub once : (p : ℕ × ℕ) → length (filter (same_pair p) k.pairs) ≤ 1
  -- a unit has at most one partner at a singular side
  pub single : (side : Side) (n : ℕ) → IsTrue (is_singular k.singular side) → length (partners side n k.pairs) ≤ 1

pub record Fits (c : Couples) : Type 0 where
  pub couples : All FitsCouple c.couples
  -- the couple of every link slot exists
  pub ends : (slot : ℕ) (e : ℕ × Side) → end_of c slot ≡ Some e → e.0 < length c.couples
