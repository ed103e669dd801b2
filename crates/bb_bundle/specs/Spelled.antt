-- Which sources a bundle can spell.
use Rattle.std.specs.Prelude.{◌≡◌, Bool, true, ◌&&◌, nat_le, List, length, Option, Some, None, if◌then◌else◌}
use Rattle.std.specs.List.{list_all}
use Rattle.bb_basis.specs.Names.{is_name}
use Rattle.bb_lang_tree.specs.declared.source_text.ChangeText.{ChangeText}
use Rattle.bb_lang_tree.specs.declared.source_text.ChangeText.TheVariants.{Create, Delete, Update, Link, Unlink}
use Rattle.bb_lang_tree.specs.declared.source_text.ChangeText.TheVariants.{Enter, Leave}
use Rattle.bb_lang_tree.specs.declared.source_text.ClauseText.{ClauseText}
use Rattle.bb_lang_tree.specs.declared.source_text.ClauseText.TheVariants.{Change, Quiescence}
use Rattle.bb_bundle.specs.declared.draft.ReactionDraft.{ReactionDraft}
use Rattle.bb_bundle.specs.declared.draft.SourceDraft.{SourceDraft}

-- whether the slot or space of a change, if it has one, has a valid name
abbrev pub is_change : ChangeText → Bool
is_change Create = true
is_change Delete = true
is_change (Update slot) = is_name slot
is_change (Link slot) = is_name slot
is_change (Unlink slot) = is_name slot
is_change (Enter space) = is_name space
is_change (Leave space) = is_name space

-- whether all names in a clause are valid
abbrev pub is_clause : ClauseText → Bool
is_clause (Change kind class) = is_change kind && is_name class
is_clause Quiescence = true

-- whether there is a clause, and all names in the clauses are valid
abbrev pub are_clauses : List ClauseText → Bool
are_clauses clauses = nat_le 1 (length clauses) && list_all is_clause clauses

-- whether a reaction, if there is one, has a class with a valid name, and clauses
abbrev pub is_reaction : {C : Type 0} → Option (ReactionDraft C) → Bool
is_reaction None = true
is_reaction (Some reaction) = is_name reaction.class && are_clauses reaction.clauses

-- whether a bundle can spell the source: all names are valid, it has a trigger, and each reaction has a clause
unfoldable pub is_spelled : {C : Type 0} → SourceDraft C → Bool
is_spelled draft =
    is_name draft.header.name && is_name draft.header.class && are_clauses draft.header.triggers
    && is_reaction draft.parts.obviate && is_reaction draft.parts.retrigger

-- a bundle can spell the source
abbrev pub IsSpelled : {C : Type 0} → SourceDraft C → Type 0
IsSpelled draft = is_spelled draft ≡ true

-- the source, if a bundle can spell it
abbrev pub if_spelled : {C : Type 0} → SourceDraft C → Option (SourceDraft C)
if_spelled draft = if is_spelled draft then Some draft else None
