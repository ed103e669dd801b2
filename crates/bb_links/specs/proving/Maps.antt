-- Maps from two numbers to one.
use Rattle.std.specs.Prelude.{ℕ, List, Option}
use Rattle.std.specs.declared.cmp.Ordering.{Ordering}
use Rattle.std.specs.declared.ops.Bound.TheVariants.{Included, Excluded}
use Rattle.std.specs.Ordering.{ordering_then, nat_cmp}
use Rattle.std.specs.Map.{values_of}
use Rattle.std.specs.BTreeMap.{BTreeMap, get}
use Rattle.std.specs.BTreeMap.Range.{entries_between}

-- the order of pairs of numbers
abbrev pub pair_cmp : ℕ × ℕ → ℕ × ℕ → Ordering
pair_cmp p q = ordering_then (nat_cmp p.0 q.0) (nat_cmp p.1 q.1)

-- the value under a key
abbrev pub value_at : BTreeMap (ℕ × ℕ) ℕ → ℕ × ℕ → Option ℕ
value_at m key = get pair_cmp m key

-- the values under a first number and second numbers below `end`, in their order
abbrev pub row : BTreeMap (ℕ × ℕ) ℕ → ℕ → ℕ → List ℕ
row m n end = values_of (entries_between pair_cmp (Included (n, 0)) (Excluded (n, end)) m.entries)
