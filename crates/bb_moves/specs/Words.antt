-- The words of a line: one space separates two words, and the last operand is everything that is left.
use Rattle.std.specs.Prelude.{ℕ, ◌^◌, ◌==◌, nat_lt, List, [], ◌∷◌, length, Option, Some, None, option_map}
use Rattle.std.specs.Prelude.{option_and_then, Result, Ok, Err, if◌then◌else◌}
use Rattle.std.specs.Option.{option_map_or}
use Rattle.serde_json.specs.Find.{as_number, as_u64}
use Rattle.serde_json.specs.Read.{read}
use Rattle.bb_basis.specs.Names.{is_name}
use Rattle.bb_basis.specs.Results.{◌>>=◌, ok_or}
use Rattle.bb_moves.specs.declared.fault.MovesFlaw.TheVariants.{Word, Name, Number}
use Rattle.bb_moves.specs.declared.fault.Slip.{Slip}
use Rattle.bb_moves.specs.declared.fault.Slip.TheVariants.{Flaw}

-- what comes before the first byte with this number, and what comes after it
unfoldable pub split_at : (byte : ℕ) → List ℕ → Option (List ℕ × List ℕ)
split_at byte [] = None
split_at byte (b ∷ bs) = if b == byte then Some ([], bs) else option_map (λ p. (b ∷ p.0, p.1)) (split_at byte bs)

-- the first word of a text; the whole text if it has no space
abbrev pub first : List ℕ → List ℕ
first text = option_map_or (λ p. p.0) (split_at 32 text) text

-- what comes after the first space; nothing if there is none
abbrev pub behind : List ℕ → List ℕ
behind text = option_map_or (λ p. p.1) (split_at 32 text) []

-- nothing follows
abbrev pub nothing_in : List ℕ → Result (Unit {0}) Slip
nothing_in text = if length text == 0 then Ok tt else Err (Flaw Word)

-- a text that is a name
unfoldable pub name_of : List ℕ → Result (List ℕ) Slip
name_of text = if is_name text then Ok text else Err (Flaw Name)

-- a text that is a number, as JSON writes it, of 64 bits
unfoldable pub number_of : List ℕ → Result ℕ Slip
number_of text = do
  json ← ok_or (read text) (Flaw Number)
  ok_or (option_and_then as_u64 (as_number json)) (Flaw Number)

-- a text that is a number of cycles, of 32 bits
unfoldable pub count_of : List ℕ → Result ℕ Slip
count_of text = do
  number ← number_of text
  if nat_lt number (2 ^ 32) then Ok number else Err (Flaw Number)
