-- All couples of link slots with their pairs, and every change of them (GBBopen Reference Manual, link slots).
use Rattle.std.specs.Prelude.{ℕ, Bool, List, [], map, slice_get, slice_set, Option, option_map}
use Rattle.std.specs.Option.{option_map_or}
use Rattle.bb_schema.specs.declared.couple.Side.{Side}
use Rattle.bb_schema.specs.Schema.{Schema}
use Rattle.bb_links.specs.declared.couple.Singular.{Singular}
use Rattle.bb_links.specs.declared.taken.Taken.{Taken}
use Rattle.bb_links.specs.Pairs.{has_pair, without_pair, without_unit, taken_among, with_link}
use Rattle.bb_links.specs.Layout.{singulars, slot_ends, end_among}

-- which sides of a couple are singular, and its pairs in order of addition
pub record Couple : Type 0 where
  pub singular : Singular
  pub pairs : List (ℕ × ℕ)

pub record Couples : Type 0 where
  -- the couples, by number
  pub couples : List Couple
  -- by slot, the couple and the side of a link slot
  pub ends : List (Option (ℕ × Side))

-- a couple without pairs
abbrev pub no_pairs : Singular → Couple
no_pairs s = record { singular = s; pairs = [] }

-- the couples of a schema, without pairs
abbrev pub no_links : Schema → Couples
no_links s = record { couples = map no_pairs (singulars s); ends = slot_ends s }

-- the couple and the side of a slot, if it is a link slot
abbrev pub end_of : Couples → ℕ → Option (ℕ × Side)
end_of c slot = end_among c.ends slot

-- the pairs of a couple
abbrev pub pairs_of : Couples → ℕ → List (ℕ × ℕ)
pairs_of c couple = option_map_or (λ k. k.pairs) (slice_get c.couples couple) []

-- a couple with other pairs
abbrev pub with_pairs : Couple → List (ℕ × ℕ) → Couple
with_pairs k pairs = record { singular = k.singular; pairs = pairs }

-- a couple after each change
abbrev pub linked : ℕ → ℕ → Couple → Couple
linked a b k = with_pairs k (with_link k.singular a b k.pairs)

abbrev pub unlinked : ℕ → ℕ → Couple → Couple
unlinked a b k = with_pairs k (without_pair (a, b) k.pairs)

abbrev pub forgotten : ℕ → Couple → Couple
forgotten n k = with_pairs k (without_unit n k.pairs)

-- the couples with another couple at a number
abbrev pub with_couple : Couples → ℕ → Couple → Couples
with_couple c couple k = record { couples = slice_set c.couples couple k; ends = c.ends }

-- the couples with a changed one
abbrev pub changed : (Couple → Couple) → Couples → ℕ → Couples
changed change c couple = option_map_or (λ k. with_couple c couple (change k)) (slice_get c.couples couple) c

-- after a link of two units through a couple
abbrev pub after_link : Couples → ℕ → ℕ → ℕ → Couples
after_link c couple a b = changed (linked a b) c couple

-- what the link removes, and whether it adds a pair
abbrev pub taken : Couples → ℕ → ℕ → ℕ → Option Taken
taken c couple a b = option_map (λ k. taken_among k.singular a b k.pairs) (slice_get c.couples couple)

-- after an unlink
abbrev pub after_unlink : Couples → ℕ → ℕ → ℕ → Couples
after_unlink c couple a b = changed (unlinked a b) c couple

-- whether two units are linked through a couple
abbrev pub are_linked : Couples → ℕ → ℕ → ℕ → Bool
are_linked c couple a b = has_pair (a, b) (pairs_of c couple)

-- after all links of a unit are forgotten
abbrev pub after_forget : Couples → ℕ → Couples
after_forget c n = record { couples = map (forgotten n) c.couples; ends = c.ends }
