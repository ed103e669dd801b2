-- The stamps of pairs. They rise, so the order of stamps is the order of addition.
use Rattle.std.specs.Prelude.{◌≡◌, ◌==◌, ◌<◌, ℕ, zero, suc, Bool, false, not, List, [], ◌++◌, Option, Some, filter, find}
use Rattle.std.specs.Option.{option_map_or, option_to_list}
use Rattle.std.specs.BTreeMap.{BTreeMap, keys}
use Rattle.bb_schema.specs.declared.couple.Side.{Side}
use Rattle.bb_links.specs.declared.partners.Partners.{Partners}
use Rattle.bb_links.specs.Pairs.{near}
use Rattle.bb_links.specs.proving.Maps.{value_at}
use Rattle.bb_links.specs.proving.Partners.{Follow}

abbrev pub is_stamp : ℕ → Option ℕ → Bool
is_stamp s stamp = option_map_or (λ k. k == s) stamp false

-- the pair that has a stamp
abbrev pub pair_under : BTreeMap (ℕ × ℕ) ℕ → ℕ → Option (ℕ × ℕ)
pair_under stamps s = find (λ p. is_stamp s (value_at stamps p)) (keys stamps)

-- the pairs under stamps below one, in the order of their stamps
abbrev pub in_order : ℕ → (ℕ → Option (ℕ × ℕ)) → List (ℕ × ℕ)
in_order zero under = []
in_order (suc n) under = in_order n under ++ option_to_list (under n)

-- the stamp of each stamped pair, and the pair under each used stamp
pub record AreStamped (next : ℕ) (stamp : ℕ × ℕ → Option ℕ) (under : ℕ → Option (ℕ × ℕ)) : Type 0 where
  pub below : (p : ℕ × ℕ) (s : ℕ) → stamp p ≡ Some s → s < next
  pub there : (p : ℕ × ℕ) (s : ℕ) → stamp p ≡ Some s → under s ≡ Some p
  pub found : (p : ℕ × ℕ) (s : ℕ) → under s ≡ Some p → stamp p ≡ Some s

pub record AreKept (next : ℕ) (stamps : BTreeMap (ℕ × ℕ) ℕ) (partners : Partners) : Type 0 where
  pub stamped : AreStamped next (value_at stamps) (pair_under stamps)
  pub follow : Follow (pair_under stamps) partners

-- each stamped pair is the pair under its stamp, and each pair under a stamp has that stamp
pub record ArePaired (stamps : BTreeMap (ℕ × ℕ) ℕ) : Type 0 where
  pub there : (p : ℕ × ℕ) (s : ℕ) → value_at stamps p ≡ Some s → pair_under stamps s ≡ Some p
  pub found : (p : ℕ × ℕ) (s : ℕ) → pair_under stamps s ≡ Some p → value_at stamps p ≡ Some s

-- the pairs without the pairs of a unit at a side
unfoldable pub without_at : Side → ℕ → List (ℕ × ℕ) → List (ℕ × ℕ)
without_at side n pairs = filter (λ p. not (near side p == n)) pairs
