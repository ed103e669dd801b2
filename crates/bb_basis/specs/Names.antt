-- Names: which texts are names.
use Rattle.std.specs.Prelude.{ℕ, Bool, false, ◌&&◌, ◌||◌, ◌==◌, nat_le, List, [], ◌∷◌, length}
use Rattle.std.specs.List.{list_all}

abbrev pub is_small_letter : ℕ → Bool
is_small_letter b = nat_le 97 b && nat_le b 122

abbrev pub is_digit : ℕ → Bool
is_digit b = nat_le 48 b && nat_le b 57

-- a letter from a to z, a digit or `_`
abbrev pub is_name_byte : ℕ → Bool
is_name_byte b = is_small_letter b || is_digit b || (b == 95)

abbrev pub starts_with_letter : List ℕ → Bool
starts_with_letter [] = false
starts_with_letter (b ∷ bs) = is_small_letter b

-- a letter from a to z, then such letters, digits and `_`, at most 31 bytes in all
unfoldable pub is_name : List ℕ → Bool
is_name bs = starts_with_letter bs && list_all is_name_byte bs && nat_le (length bs) 31
