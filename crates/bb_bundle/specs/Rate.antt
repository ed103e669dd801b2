-- The rate that a word spells.
use Rattle.std.specs.Prelude.{ℕ, ◌+◌, ◌-◌, ◌*◌, ◌^◌, ℤ, pos, neg_ℤ, ◌&&◌, ◌==◌, nat_le, List, [], ◌∷◌, length, Option}
use Rattle.std.specs.Prelude.{Some, None, option_map, if◌then◌else◌}
use Rattle.std.specs.List.{list_all}
use Rattle.bb_basis.specs.Names.{is_digit}

-- the number spelled by the digits of n followed by these digits
abbrev pub with_digits : ℕ → List ℕ → ℕ
with_digits n [] = n
with_digits n (d ∷ ds) = with_digits (n * 10 + (d - 48)) ds

-- the number spelled by one digit or more, if it is at most the limit
unfoldable pub number_up_to : ℕ → List ℕ → Option ℕ
number_up_to limit ds =
    if list_all is_digit ds && nat_le 1 (length ds) && nat_le (with_digits 0 ds) limit
    then Some (with_digits 0 ds) else None

-- a rate: digits, or `-` and digits, of a number that fits in 64 bits
unfoldable pub rate_of : List ℕ → Option ℤ
rate_of [] = None
rate_of (b ∷ bs) =
    if b == 45 then option_map (λ n. neg_ℤ (pos n)) (number_up_to (2 ^ 63) bs)
    else option_map (λ n. pos n) (number_up_to (2 ^ 63 - 1) (b ∷ bs))
