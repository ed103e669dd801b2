-- How moves are written, in the format in which a history is read, and which moves the format can tell.
use Rattle.std.specs.Prelude.{◌≡◌, ◌⊎◌, ◌^◌, ℕ, ℤ, pos, negsuc, int_le, nat_lt, Bool, true, ◌&&◌, List, [], ◌++◌, codes, unwrap_or}
use Rattle.std.specs.Fmt.{decimal}
use Rattle.std.specs.List.{flat_map, list_all}
use Rattle.std.specs.Option.{is_some}
use Rattle.serde_json.specs.Data.{string}
use Rattle.serde_json.specs.Written.{compact_text}
use Rattle.bb_basis.specs.Names.{is_name}
use Rattle.bb_schema.specs.Schema.{Schema, name_of_label, name_of_label_set}
use Rattle.bb_shell.specs.Ask.{Ask}
use Rattle.bb_shell.specs.Ask.TheVariants.{New, Delete, Set, Link, Unlink, Enter, Leave, Say}
use Rattle.bb_shell.specs.TraceText.{value_text}
use Rattle.bb_shell.specs.Value.{Value}
use Rattle.bb_shell.specs.Value.TheVariants.{Int, Text, Bool as Truth, Label, Interval}
use Rattle.bb_run_held.specs.Moves.{Move, one_turn, advance, post, answer}

-- `SET:LABEL`; a name is empty if there is none
abbrev pub label_text : Schema → (set label : ℕ) → List ℕ
label_text s set label =
    unwrap_or (name_of_label_set s set) [] ++ codes ":" ++ unwrap_or (name_of_label s set label) []

-- a value as a trace has it, but a label follows its set
abbrev pub spelt : Schema → Value → List ℕ
spelt s (Label set label) = label_text s set label
spelt s value = value_text s value

-- `U NAME`: a unit, and a slot or a space
abbrev pub named_text : (unit : ℕ) → (name : List ℕ) → List ℕ
named_text unit name = decimal unit ++ codes " " ++ name

-- the line of an ask
unfoldable pub ask_line : Schema → Ask → List ℕ
ask_line s (New class) = codes "new " ++ class
ask_line s (Delete unit) = codes "delete " ++ decimal unit
ask_line s (Set unit slot value) = codes "set " ++ named_text unit slot ++ codes " " ++ spelt s value
ask_line s (Link unit slot other) = codes "link " ++ named_text unit slot ++ codes " " ++ decimal other
ask_line s (Unlink unit slot other) = codes "unlink " ++ named_text unit slot ++ codes " " ++ decimal other
ask_line s (Enter unit space) = codes "enter " ++ named_text unit space
ask_line s (Leave unit space) = codes "leave " ++ named_text unit space
ask_line s (Say text) = codes "say " ++ compact_text (string text)

-- the lines of asks, and of their end
abbrev pub asks_text : Schema → List Ask → List ℕ
asks_text s asks = flat_map (λ ask. ask_line s ask ++ codes "\n") asks ++ codes "end\n"

-- the lines of a move
unfoldable pub move_text : Schema → Move → List ℕ
move_text s one_turn = codes "turn\n"
move_text s (advance cycles) = codes "advance " ++ decimal cycles ++ codes "\n"
move_text s (post asks) = codes "post\n" ++ asks_text s asks
move_text s (answer asks) = codes "answer\n" ++ asks_text s asks

-- ---- what the format can tell

-- a number of 64 bits without a sign, and one with a sign
abbrev pub is_u64 : ℕ → Bool
is_u64 n = nat_lt n (2 ^ 64)

abbrev pub is_i64 : ℤ → Bool
is_i64 (pos n) = nat_lt n (2 ^ 63)
is_i64 (negsuc n) = nat_lt n (2 ^ 63)

-- the schema has the label, and no interval ends before it begins
abbrev pub tells_value : Schema → Value → Bool
tells_value s (Int z) = is_i64 z
tells_value s (Text t) = true
tells_value s (Truth b) = true
tells_value s (Label set label) = is_some (name_of_label s set label)
tells_value s (Interval low high) = is_i64 low && is_i64 high && int_le low high

-- each name is one
unfoldable pub tells_ask : Schema → Ask → Bool
tells_ask s (New class) = is_name class
tells_ask s (Delete unit) = is_u64 unit
tells_ask s (Set unit slot value) = is_u64 unit && is_name slot && tells_value s value
tells_ask s (Link unit slot other) = is_u64 unit && is_name slot && is_u64 other
tells_ask s (Unlink unit slot other) = is_u64 unit && is_name slot && is_u64 other
tells_ask s (Enter unit space) = is_u64 unit && is_name space
tells_ask s (Leave unit space) = is_u64 unit && is_name space
tells_ask s (Say text) = true

-- the format can tell the move: it has a text that is read as this move
unfoldable pub can_tell : Schema → Move → Bool
can_tell s one_turn = true
can_tell s (advance cycles) = nat_lt cycles (2 ^ 32)
can_tell s (post asks) = list_all (tells_ask s) asks
can_tell s (answer asks) = list_all (tells_ask s) asks

-- ---- one text after another

-- the text is empty, or its last line is ended
abbrev pub IsEnded : List ℕ → Type 0
IsEnded text = (text ≡ []) ⊎ ((before : List ℕ) × (text ≡ before ++ codes "\n"))

-- the lines of moves, as a host keeps them
abbrev pub history_text : Schema → List Move → List ℕ
history_text s moves = flat_map (move_text s) moves
