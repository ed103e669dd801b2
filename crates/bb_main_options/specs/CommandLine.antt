-- The words that the command accepts, and the options that its matches choose.
use Rattle.std.specs.Prelude.{ℕ, ℤ, pos, negsuc, true, List, [], ◌∷◌, map, Option, Some, None, codes, unwrap_or}
use Rattle.std.specs.Prelude.{option_and_then, if◌then◌else◌}
use Rattle.std.specs.Str.{bytes_eq}
use Rattle.std.specs.Str.Parse.{digits_value, signed_digits_value, without_leading_plus}
use Rattle.clap.specs.Walk.{Row, Rule, Text, first_of, one_of}
use Rattle.clap.specs.Simple.{App, new_app, new_rule, on_top, with_rule}
use Rattle.clap.specs.ValueTests.{is_signed_in, is_unsigned_in}
use Rattle.clap.specs.declared.builder.possible_value.PossibleValue.{PossibleValue}
use Rattle.clap.specs.declared.builder.value_parser.ValueParser.{ValueParser}
use Rattle.clap.specs.declared.builder.value_parser.ValueParser.TheVariants.{Signed}
use Rattle.bb_main_options.specs.declared.choice.Mode.{Mode}
use Rattle.bb_main_options.specs.declared.choice.Mode.TheVariants.{Run, Check, Compile, Units}
use Rattle.bb_main_options.specs.declared.choice.Options.{Options}
use Rattle.bb_main_options.specs.declared.choice.TheConstants.{CYCLE_LIMIT, FLOOR}

-- the minimum and maximum floor, and the maximum limit
abbrev pub least_floor : ℤ
least_floor = negsuc 9223372036854775807

abbrev pub most_floor : ℤ
most_floor = pos 9223372036854775807

abbrev pub most_limit : ℕ
most_limit = 4294967295

-- a word that is one of the parser's modes
abbrev pub mode_rule : ValueParser → Rule
mode_rule modes = record (new_rule (codes "mode")) { value_names = 1; parser = Some modes }

-- `--NAME` with a number from `least` to `most`
abbrev pub number_rule : Text → (least most : ℤ) → Rule
number_rule name least most =
    record (new_rule name) { long = Some name; value_names = 1; parser = Some (Signed least most) }

-- a command with a version, whose words do not include the program's name
abbrev pub named_app : App
named_app = on_top (λ s. record s { has_version = true; no_binary_name = true }) (new_app (codes "bb"))

-- the command with a mode, a limit and a floor, in any order
abbrev pub command_with : (modes : ValueParser) → App
command_with modes =
    let moded = with_rule named_app (mode_rule modes) in
    let limited = with_rule moded (number_rule (codes "limit") (pos 0) (pos most_limit)) in
    with_rule limited (number_rule (codes "floor") least_floor most_floor)

-- the mode with a name; `run` if the words give none
abbrev pub mode_of : Text → Mode
mode_of name =
    if bytes_eq name (codes "check") then Check
    else if bytes_eq name (codes "compile") then Compile
    else if bytes_eq name (codes "units") then Units
    else Run

abbrev pub mode_in : List Row → Mode
mode_in rows = mode_of (unwrap_or (first_of (codes "mode") rows) (codes "run"))

-- the number that a text spells
abbrev pub limit_of : Text → Option ℕ
limit_of text = if is_unsigned_in 0 most_limit text then Some (digits_value 10 (without_leading_plus text)) else None

abbrev pub floor_of : Text → Option ℤ
floor_of text = if is_signed_in least_floor most_floor text then Some (signed_digits_value 10 text) else None

-- the limit and the floor, or their defaults if the words give none
abbrev pub limit_in : List Row → ℕ
limit_in rows = unwrap_or (option_and_then limit_of (one_of (codes "limit") rows)) CYCLE_LIMIT

abbrev pub floor_in : List Row → ℤ
floor_in rows = unwrap_or (option_and_then floor_of (one_of (codes "floor") rows)) FLOOR

-- the options that the matches choose
abbrev pub options_in : List Row → Options
options_in rows = record { mode = mode_in rows; limit = limit_in rows; floor = floor_in rows }

-- the names of values; the modes have exactly these
abbrev pub names_in : List PossibleValue → List (Text × List Text)
names_in values = map (λ v. (v.name.now, map (λ s. s.now) v.aliases.now)) values

abbrev pub mode_names : List (Text × List Text)
mode_names = (codes "run", []) ∷ (codes "check", []) ∷ (codes "compile", []) ∷ (codes "units", []) ∷ []
