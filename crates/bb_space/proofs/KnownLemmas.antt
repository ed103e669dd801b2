-- What is noted of units stays so.
use Rattle.std.proofs.Common.{◌≡◌, ℕ, suc, ◌+◌, ◌⊎◌, inl, inr, Bool, false, List, ◌∷◌, Option, Some, ap, ◌∙◌, arith, slice_get}
use Rattle.std.specs.List.{All}
use Rattle.std.specs.Map.{lookup}
use Rattle.std.specs.Option.{option_map_or}
use Rattle.std.specs.Ordering.{nat_cmp}
use Rattle.std.specs.BTreeMap.{BTreeMap, is_at, get}
use Rattle.std.specs.BTreeMap.Range.{IsRangeOf}
use Rattle.std.specs.declared.ops.Bound.{Bound}
use Rattle.bb_pattern.specs.declared.value.DimValue.{DimValue}
use Rattle.bb_space.specs.declared.index.leaf.Leaf.{Leaf}
use Rattle.bb_space.specs.index.Leaf.{fit_each}
use Rattle.bb_space.specs.Passing.{passes}
use Rattle.bb_space.specs.Spaces.{Membership}
use Rattle.bb_space.specs.proving.Entries.{members_of_entries}
use Rattle.bb_space.specs.proving.Known.{AreKnown}
use Rattle.bb_basis.proofs.EntryLemmas.{get_is_lookup}

-- with one more noted
pub known_more : (m : Membership) (tests : List Leaf) (first unit : ℕ) (pass : Bool) (old new : List (Option Bool)) → AreKnown m tests first old → passes m tests unit ≡ pass
    → ((k : ℕ) (b : Bool) → slice_get new k ≡ Some (Some b) → (slice_get old k ≡ Some (Some b)) ⊎ ((first + k ≡ unit) × (pass ≡ b)))
    → AreKnown m tests first new
known_more m tests first unit pass old new known is noted = λ k b there. elim (noted k b there) [
  | inl h ↦ known k b h
  | inr p ↦ ap (passes m tests) p.0 ∙ (is ∙ p.1)
]

-- whether a member passes, by its values among the entries
pub passes_told : (es : List (ℕ × List DimValue)) (tests : List Leaf) (n : ℕ) (told : List DimValue) → lookup (is_at (nat_cmp n)) es ≡ Some told → passes (members_of_entries es) tests n ≡ fit_each tests told
passes_told es tests n told there = ap (λ o. option_map_or (fit_each tests) o false) (get_is_lookup es n ∙ there)

-- entries of a map
abbrev pub AreEntries : BTreeMap ℕ (List DimValue) → List (ℕ × List DimValue) → Type 0
AreEntries values list = All (λ e. get nat_cmp values e.0 ≡ Some e.1) list

pub first_entry : (values : BTreeMap ℕ (List DimValue)) (e : ℕ × List DimValue) (es : List (ℕ × List DimValue)) → AreEntries values (e ∷ es) → get nat_cmp values e.0 ≡ Some e.1
first_entry values e es all = all 0 e (omega arith)

pub other_entries : (values : BTreeMap ℕ (List DimValue)) (e : ℕ × List DimValue) (es : List (ℕ × List DimValue)) → AreEntries values (e ∷ es) → AreEntries values es
other_entries values e es all = λ k d lt. all (suc k) d (omega (arith, lt))

pub range_entries : (values : BTreeMap ℕ (List DimValue)) (from to : Bound ℕ) (list : List (ℕ × List DimValue)) → IsRangeOf nat_cmp from to values list → AreEntries values list
range_entries values from to list range = λ k d lt. (range.0 k d lt).1
