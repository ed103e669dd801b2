-- Sets of numbers as bits of words, one word per 64 numbers.
use Rattle.std.specs.Prelude.{◌==◌, ◌/◌, ◌%◌, ℕ, Bool, false, List}
use Rattle.std.specs.Int.{bit_at}
use Rattle.std.specs.Map.{lookup}
use Rattle.std.specs.Option.{option_map_or}
use Rattle.std.specs.Ordering.{nat_cmp}
use Rattle.std.specs.BTreeMap.{is_at}

-- the word has this bit
abbrev pub has_bit : (word : ℕ) → (bit : ℕ) → Bool
has_bit word bit = bit_at word bit == 1

-- the number is in the set
abbrev pub is_in : (words : List (ℕ × ℕ)) → (number : ℕ) → Bool
is_in words number = option_map_or (λ word. has_bit word (number % 64)) (lookup (is_at (nat_cmp (number / 64))) words) false
