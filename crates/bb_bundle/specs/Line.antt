-- A single line of a bundle, regardless of the lines around it.
use Rattle.std.specs.Prelude.{ℕ, ◌&&◌, ◌==◌, nat_le, List, [], ◌∷◌, length, take, Option, Some, None, option_map, codes}
use Rattle.std.specs.Prelude.{if◌then◌else◌}
use Rattle.std.specs.List.{slice_split}
use Rattle.std.specs.Str.{bytes_eq}
use Rattle.bb_basis.specs.Names.{is_name}
use Rattle.bb_bundle.specs.declared.line.TheConstants.{WORD_LIMIT}
use Rattle.bb_bundle.specs.declared.draft.Header.{Header}
use Rattle.bb_bundle.specs.Rate.{rate_of}

-- the first words of a line, which are separated by single spaces
abbrev pub words_of : List ℕ → List (List ℕ)
words_of line = take WORD_LIMIT (slice_split (λ b. b == 32) line)

-- `source NAME CLASS RATE`: a header whose triggers are still to come
unfoldable pub header_of : List (List ℕ) → Option Header
header_of (keyword ∷ name ∷ class ∷ rate ∷ []) =
    if bytes_eq keyword (codes "source") && is_name name && is_name class
    then option_map (λ r. record { name = name; class = class; rate = r; triggers = [] }) (rate_of rate) else None
header_of _ = None

-- `HEX`: its digits, at least one
unfoldable pub digits_of : List (List ℕ) → Option (List ℕ)
digits_of (digits ∷ []) = if nat_le 1 (length digits) then Some digits else None
digits_of _ = None

-- `CLASS HEX`: a name, and at least one digit
unfoldable pub class_and_digits_of : List (List ℕ) → Option (List ℕ × List ℕ)
class_and_digits_of (class ∷ digits ∷ []) =
    if is_name class && nat_le 1 (length digits) then Some (class, digits) else None
class_and_digits_of _ = None
