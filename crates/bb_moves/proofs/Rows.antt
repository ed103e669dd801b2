-- Worked rows, computed on the definitions: the lines of some moves, and moves that the format can't tell.
use Rattle.std.proofs.Common.{◌≡◌, ◌^◌, pos, negsuc, true, false, [], ◌∷◌, codes, refl}
use Rattle.std.specs.Fmt.{digits}
use Rattle.json.specs.Print.{escape_byte}
use Rattle.bb_basis.specs.Names.{is_name}
use Rattle.bb_schema.specs.Schema.{Schema}
use Rattle.bb_shell.specs.Ask.TheVariants.{New, Delete, Set, Link, Unlink, Enter, Leave, Say}
use Rattle.bb_shell.specs.Value.TheVariants as values
use Rattle.bb_run_held.specs.Moves.{one_turn, advance, post, answer}
use Rattle.bb_moves.specs.Written.{ask_line, can_tell, history_text, move_text, tells_ask}

-- a schema with the label set `colour`
colours : Schema
colours = record { label_sets = record { name = codes "colour"; values = codes "red" ∷ codes "blue" ∷ [] } ∷ []; classes = []; slots = []; spaces = [] }

cycles : move_text colours (advance 10) ≡ codes "advance 10\n"
unfolding move_text digits
cycles = refl

no_asks : move_text colours (answer []) ≡ codes "answer\nend\n"
unfolding move_text
no_asks = refl

values_and_links : move_text colours (post (
    New (codes "job")
    ∷ Set 2 (codes "weight") (values.Int (negsuc 4))
    ∷ Set 2 (codes "span") (values.Interval (negsuc 0) (pos 3))
    ∷ Set 2 (codes "open") (values.Bool false)
    ∷ Link 2 (codes "needs") 7
    ∷ Unlink 2 (codes "needs") 0
    ∷ Enter 2 (codes "yard")
    ∷ Leave 2 (codes "yard")
    ∷ Delete 9
    ∷ [])) ≡ codes "post\nnew job\nset 2 weight -5\nset 2 span [-1,3]\nset 2 open false\nlink 2 needs 7\nunlink 2 needs 0\nenter 2 yard\nleave 2 yard\ndelete 9\nend\n"
unfolding move_text ask_line digits
values_and_links = refl

label_behind_its_set : ask_line colours (Set 1 (codes "paint") (values.Label 0 1)) ≡ codes "set 1 paint colour:blue"
unfolding colours ask_line digits
label_behind_its_set = refl

line_feed_in_quotes : ask_line colours (Say (97 ∷ 10 ∷ 34 ∷ [])) ≡ codes "say \"a\\n\\\"\""
unfolding ask_line escape_byte
line_feed_in_quotes = refl

one_behind_the_other : history_text colours (one_turn ∷ post [] ∷ one_turn ∷ []) ≡ codes "turn\npost\nend\nturn\n"
unfolding move_text
one_behind_the_other = refl

-- ---- what can't be told

no_name : tells_ask colours (New (codes "Job")) ≡ false
unfolding tells_ask is_name
no_name = refl

no_slot : tells_ask colours (Link 1 [] 2) ≡ false
unfolding tells_ask is_name
no_slot = refl

label_behind_the_last : tells_ask colours (Set 1 (codes "paint") (values.Label 0 2)) ≡ false
unfolding colours tells_ask is_name
label_behind_the_last = refl

ends_before_it_begins : tells_ask colours (Set 1 (codes "span") (values.Interval (pos 3) (pos 2))) ≡ false
unfolding tells_ask is_name
ends_before_it_begins = refl

begins_at_its_end : tells_ask colours (Set 1 (codes "span") (values.Interval (pos 3) (pos 3))) ≡ true
unfolding tells_ask is_name
begins_at_its_end = refl

last_of_two : can_tell colours (post (Say [] ∷ Delete (2 ^ 64) ∷ [])) ≡ false
unfolding can_tell tells_ask
last_of_two = refl

cycles_of_33_bits : can_tell colours (advance (2 ^ 32)) ≡ false
unfolding can_tell
cycles_of_33_bits = refl
