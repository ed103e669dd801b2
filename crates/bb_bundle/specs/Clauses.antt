-- The clause that a `when` line spells.
use Rattle.std.specs.Prelude.{ℕ, ◌==◌, List, [], ◌∷◌, Option, Some, None, option_map, codes, if◌then◌else◌}
use Rattle.std.specs.Str.{bytes_eq}
use Rattle.bb_basis.specs.Names.{is_name}
use Rattle.bb_lang_tree.specs.declared.source_text.ChangeText.{ChangeText}
use Rattle.bb_lang_tree.specs.declared.source_text.ChangeText.TheVariants.{Create, Delete, Update, Link, Unlink}
use Rattle.bb_lang_tree.specs.declared.source_text.ChangeText.TheVariants.{Enter, Leave}
use Rattle.bb_lang_tree.specs.declared.source_text.ClauseText.{ClauseText}
use Rattle.bb_lang_tree.specs.declared.source_text.ClauseText.TheVariants.{Change, Quiescence}

-- `create` or `delete`: a change of a unit as a whole
unfoldable pub unit_change : List ℕ → Option ChangeText
unit_change event =
    if bytes_eq event (codes "create") then Some Create
    else if bytes_eq event (codes "delete") then Some Delete
    else None

-- `update`, `link` or `unlink`: a change of a slot
unfoldable pub slot_change : (event slot : List ℕ) → Option ChangeText
slot_change event slot =
    if bytes_eq event (codes "update") then Some (Update slot)
    else if bytes_eq event (codes "link") then Some (Link slot)
    else if bytes_eq event (codes "unlink") then Some (Unlink slot)
    else None

-- `enter` or `leave`: a change between a unit and a space
unfoldable pub space_change : (event space : List ℕ) → Option ChangeText
space_change event space =
    if bytes_eq event (codes "enter") then Some (Enter space)
    else if bytes_eq event (codes "leave") then Some (Leave space)
    else None

-- the parts of a word before and after its first dot
unfoldable pub split_dot : List ℕ → Option (List ℕ × List ℕ)
split_dot [] = None
split_dot (b ∷ bs) = if b == 46 then Some ([], bs) else option_map (λ p. (b ∷ p.0, p.1)) (split_dot bs)

-- a change of units of a class, if the name of the class is valid
unfoldable pub unit_clause : ChangeText → (class : List ℕ) → Option ClauseText
unit_clause kind class = if is_name class then Some (Change kind class) else None

-- a change of units of a class, if there is a change and the name of the class is valid
abbrev pub change_clause : Option ChangeText → (class : List ℕ) → Option ClauseText
change_clause None class = None
change_clause (Some kind) class = unit_clause kind class

-- a change of a slot of units of a class
unfoldable pub slot_clause : (event class slot : List ℕ) → Option ClauseText
slot_clause event class slot = if is_name slot then change_clause (slot_change event slot) class else None

-- a change between units of a class and a space
unfoldable pub space_clause : (event class space : List ℕ) → Option ClauseText
space_clause event class space = if is_name space then change_clause (space_change event space) class else None

-- a change of a slot, if a dot separates class and slot
abbrev pub dotted_clause : (event : List ℕ) → Option (List ℕ × List ℕ) → Option ClauseText
dotted_clause event None = None
dotted_clause event (Some p) = slot_clause event p.0 p.1

-- a change of units whose class is the word; or, if the event is not such a change, a change of a slot
abbrev pub unit_or_slot_clause : Option ChangeText → (event subject : List ℕ) → Option ClauseText
unit_or_slot_clause (Some kind) event subject = unit_clause kind subject
unit_or_slot_clause None event subject = dotted_clause event (split_dot subject)

-- `create C`, `delete C`, `update C.S`, `link C.S` or `unlink C.S`
unfoldable pub subject_clause : (event subject : List ℕ) → Option ClauseText
subject_clause event subject = unit_or_slot_clause (unit_change event) event subject

-- `quiescence`
unfoldable pub quiescence_clause : (event : List ℕ) → Option ClauseText
quiescence_clause event = if bytes_eq event (codes "quiescence") then Some Quiescence else None

-- `quiescence`, a clause of an event and one more word, `enter C W` or `leave C W`
unfoldable pub clause_of : List (List ℕ) → Option ClauseText
clause_of (event ∷ []) = quiescence_clause event
clause_of (event ∷ subject ∷ []) = subject_clause event subject
clause_of (event ∷ class ∷ space ∷ []) = space_clause event class space
clause_of _ = None
