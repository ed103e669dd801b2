-- Locations in a text.
use Rattle.std.specs.Prelude.{ℕ, ◌+◌, Bool, ◌&&◌, ◌==◌, nat_le, nat_lt, List, [], ◌∷◌, if◌then◌else◌}
use Rattle.bb_lang_tree.specs.declared.place.Place.{Place}

-- the first location: lines and columns count from 1
abbrev pub start : Place
start = record { line = 1; column = 1 }

-- whether a byte continues a character of UTF-8
abbrev pub continues : ℕ → Bool
continues b = nat_le 128 b && nat_lt b 192

-- the location after a byte: a line feed ends the line, and each character counts once
abbrev pub after_byte : Place → ℕ → Place
after_byte p b =
    if b == 10 then record { line = p.line + 1; column = 1 }
    else if continues b then p
    else record { line = p.line; column = p.column + 1 }

-- the location after bytes
abbrev pub place_after : Place → List ℕ → Place
place_after p [] = p
place_after p (b ∷ bs) = place_after (after_byte p b) bs
