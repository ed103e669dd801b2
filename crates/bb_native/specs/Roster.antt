-- The meaning of a roster: a list of natives, in the order in which they were handed in.
use Rattle.std.specs.Prelude.{ℕ, ℤ, pos, Bool, List, [], Option, map, fold, position, slice_get, slice_set}
use Rattle.std.specs.Int.{int_wrapping_add, w64}
use Rattle.std.specs.Option.{option_map_or}
use Rattle.std.specs.List.{list_all}
use Rattle.std.specs.Str.{bytes_eq}
use Rattle.bb_native.specs.declared.ask.Ask.{Ask}
use Rattle.bb_native.specs.declared.closing.Closing.{Closing}
use Rattle.bb_native.specs.Sight.{Sight}
use Rattle.bb_native.specs.Native.{Native, asks_of, after_act, closing_of}

-- whether all natives are open
abbrev pub all_open : List Native → Bool
all_open natives = list_all (λ (n : Native). n.is_open) natives

-- the index of the first native with a name
abbrev pub place_of : List Native → (name : List ℕ) → Option ℕ
place_of natives name = position (λ (n : Native). bytes_eq n.name name) natives

-- the asks of the native at an index
abbrev pub asks_at : List Native → (place unit : ℕ) → Sight → List Ask
asks_at natives place unit seen = option_map_or (λ n. asks_of n unit seen) (slice_get natives place) []

-- the natives after the one at an index was called: it holds its next list, and all others are unchanged
abbrev pub after_act_at : List Native → (place unit : ℕ) → Sight → List Native
after_act_at natives place unit seen =
    option_map_or (λ n. slice_set natives place (after_act n unit seen)) (slice_get natives place) natives

-- the name of a native that was not closed yet, with number 0
abbrev pub unclosed : Native → Closing
unclosed n = record { name = n.name; number = pos 0 }

-- the name of a native, and the number that it says if it is closed now
abbrev pub closing : Native → Closing
closing n = record { name = n.name; number = closing_of n }

-- a sum plus the numbers that natives say if they are closed now, wrapping around at 64 bits
abbrev pub sum_said : ℤ → List Native → ℤ
sum_said sum natives = fold (λ sum n. int_wrapping_add w64 sum (closing_of n)) sum natives

-- the names and numbers of natives, in order
abbrev pub closings_of : List Native → List Closing
closings_of natives = map closing natives
