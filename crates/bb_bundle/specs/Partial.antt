-- What has been read of a source so far.
use Rattle.std.specs.Prelude.{Bool, true, ◌&&◌, ◌||◌, nat_le, [], ◌∷◌, ◌++◌, length, Option, Some, None}
use Rattle.std.specs.Prelude.{is_some, is_none}
use Rattle.bb_code.specs.Code.{Code}
use Rattle.bb_bundle.specs.declared.keyword.Keyword.{Keyword}
use Rattle.bb_bundle.specs.declared.keyword.Keyword.TheVariants.{When, Require, Obviate, Retrigger, Revalidate, Do}
use Rattle.bb_bundle.specs.declared.keyword.Keyword.TheVariants.{Native}
use Rattle.bb_bundle.specs.declared.partial.PartialSource.{PartialSource}
use Rattle.bb_lang_tree.specs.declared.source_text.ClauseText.{ClauseText}
use Rattle.bb_bundle.specs.declared.draft.ActDraft.{ActDraft}
use Rattle.bb_bundle.specs.declared.draft.Parts.{Parts}
use Rattle.bb_bundle.specs.declared.draft.ReactionDraft.{ReactionDraft}
use Rattle.bb_bundle.specs.declared.draft.SourceDraft.{SourceDraft}
use Rattle.bb_bundle.specs.Drafts.{with_obviate, with_retrigger}

-- whether a reaction, if it was begun, has a clause
abbrev pub has_clause : Option (ReactionDraft Code) → Bool
has_clause None = true
has_clause (Some reaction) = nat_le 1 (length reaction.clauses)

-- whether each list of clauses that was begun has at least one clause
unfoldable pub has_clauses : PartialSource → Bool
has_clauses s = nat_le 1 (length s.header.triggers) && has_clause s.parts.obviate && has_clause s.parts.retrigger

-- whether the part that was begun last is the triggers or a reaction
unfoldable pub takes_clause : PartialSource → Bool
takes_clause s = is_none s.parts.revalidate && (is_none s.parts.require || is_some s.parts.obviate || is_some s.parts.retrigger)

-- whether `revalidate` may still come: no list of clauses is empty, and it has not come yet
abbrev pub before_revalidate : PartialSource → Bool
before_revalidate s = has_clauses s && is_none s.parts.revalidate

-- whether `retrigger` may still come: it comes before `revalidate`
abbrev pub before_retrigger : PartialSource → Bool
before_retrigger s = before_revalidate s && is_none s.parts.retrigger

-- whether `obviate` may still come: it comes before `retrigger`
abbrev pub before_obviate : PartialSource → Bool
before_obviate s = before_retrigger s && is_none s.parts.obviate

-- whether `require` may still come: it comes before `obviate`
abbrev pub before_require : PartialSource → Bool
before_require s = before_obviate s && is_none s.parts.require

-- whether a line with this keyword may come next
unfoldable pub may_come : PartialSource → Keyword → Bool
may_come s When = takes_clause s
may_come s Require = before_require s
may_come s Obviate = before_obviate s
may_come s Retrigger = before_retrigger s
may_come s Revalidate = before_revalidate s
may_come s Do = has_clauses s
may_come s Native = has_clauses s

-- the source with these parts
abbrev pub with_parts : PartialSource → Parts Code → PartialSource
with_parts s parts = record s { parts = parts }

-- a reaction with another clause
abbrev pub one_more : ReactionDraft Code → ClauseText → ReactionDraft Code
one_more reaction clause = record reaction { clauses = reaction.clauses ++ clause ∷ [] }

-- the source with another clause of the last of these reactions that was begun, or else with another trigger
abbrev pub with_clause_of : PartialSource → (obviate retrigger : Option (ReactionDraft Code)) → ClauseText
    → PartialSource
with_clause_of s obviate (Some reaction) clause = with_parts s (with_retrigger s.parts (Some (one_more reaction clause)))
with_clause_of s (Some reaction) None clause = with_parts s (with_obviate s.parts (Some (one_more reaction clause)))
with_clause_of s None None clause =
    record s { header = record s.header { triggers = s.header.triggers ++ clause ∷ [] } }

-- the source with another clause of the part that was begun last
unfoldable pub with_clause : PartialSource → ClauseText → PartialSource
with_clause s clause = with_clause_of s s.parts.obviate s.parts.retrigger clause

-- the source, completed by its act
abbrev pub with_act : PartialSource → ActDraft Code → SourceDraft Code
with_act s act = record { header = s.header; parts = s.parts; act = act }
