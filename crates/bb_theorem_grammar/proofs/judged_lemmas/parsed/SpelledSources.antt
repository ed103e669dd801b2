-- The names and the clauses of sources that stand in a text are valid.
use Rattle.std.proofs.Common.{◌≡◌, ℕ, suc, true, ◌&&◌, List, ◌∷◌, length, Option, refl, arith}
use Rattle.std.specs.Prelude.{nat_le}
use Rattle.std.specs.List.{list_all}
use Rattle.std.proofs.lemmas.Bool.{and_from, le-leb}
use Rattle.bb_basis.specs.Names.{is_name}
use Rattle.bb_bundle.specs.Spelled.{is_clause, are_clauses}
use Rattle.bb_lang_tree.specs.State.{State}
use Rattle.bb_lang_tree.specs.declared.source_text.ClauseText.{ClauseText}
use Rattle.bb_lang_tree.specs.declared.source_text.PartTexts.{PartTexts}
use Rattle.bb_lang_tree.specs.declared.source_text.ReactionText.{ReactionText}
use Rattle.bb_lang_tree.specs.declared.source_text.SourceText.{SourceText}
use Rattle.bb_theorem_grammar.specs.Repeats.{IsOptional, AreMany}
use Rattle.bb_theorem_grammar.specs.Sources.{IsClassSlot, IsEvent, IsClause, AreClauses, IsReaction, AreParts, IsHeader, IsSource}
use Rattle.bb_theorem_grammar.specs.judged.Sources.{is_reaction_spelled, is_text_spelled}

-- ---- clauses

class_spelled : {class x : List ℕ} {s t : State} → IsClassSlot class x s t → is_name class ≡ true
class_spelled (IsClassSlot.class_slot a k b) = a.member.is_name

slot_spelled : {class x : List ℕ} {s t : State} → IsClassSlot class x s t → is_name x ≡ true
slot_spelled (IsClassSlot.class_slot a k b) = b.is_name

event_spelled : {x : ClauseText} {s t : State} → IsEvent x s t → is_clause x ≡ true
event_spelled (IsEvent.create k a) = a.member.is_name
event_spelled (IsEvent.delete k a) = a.member.is_name
event_spelled (IsEvent.update {class = class} {x = x} k a) = and_from (is_name x) (is_name class) (slot_spelled a) (class_spelled a)
event_spelled (IsEvent.link {class = class} {x = x} k a) = and_from (is_name x) (is_name class) (slot_spelled a) (class_spelled a)
event_spelled (IsEvent.unlink {class = class} {x = x} k a) = and_from (is_name x) (is_name class) (slot_spelled a) (class_spelled a)
event_spelled (IsEvent.enter {class = class} {space = space} k a b) = and_from (is_name space) (is_name class) b.member.is_name a.member.is_name
event_spelled (IsEvent.leave {class = class} {space = space} k a b) = and_from (is_name space) (is_name class) b.member.is_name a.member.is_name
event_spelled (IsEvent.quiescence k) = refl

clause_spelled : {x : ClauseText} {s t : State} → IsClause x s t → is_clause x ≡ true
clause_spelled (IsClause.clause k d c) = event_spelled d

many_spelled : {xs : List ClauseText} {s t : State} → AreMany IsClause xs s t → list_all is_clause xs ≡ true
many_spelled AreMany.no_item = refl
many_spelled (AreMany.items {x = x} {xs = xs} d ds) = and_from (is_clause x) (list_all is_clause xs) (clause_spelled d) (many_spelled ds)

clauses_spelled : {xs : List ClauseText} {s t : State} → AreClauses xs s t → are_clauses xs ≡ true
clauses_spelled (AreClauses.clauses {x = x} {xs = xs} d ds) =
    and_from (nat_le 1 (suc (length xs))) (list_all is_clause (x ∷ xs)) (le-leb 1 (suc (length xs)) (omega arith))
    (and_from (is_clause x) (list_all is_clause xs) (clause_spelled d) (many_spelled ds))

-- ---- reactions

reaction_spelled : {word : List ℕ} {r : ReactionText} {s t : State} → IsReaction word r s t → (is_name r.class && are_clauses r.clauses) ≡ true
reaction_spelled (IsReaction.reaction {class = class} {cs = cs} k on a whens b) = and_from (is_name class) (are_clauses cs) a.member.is_name (clauses_spelled whens)

if_reaction : {word : List ℕ} {o : Option ReactionText} {s t : State} → IsOptional (IsReaction word) o s t → is_reaction_spelled o ≡ true
if_reaction IsOptional.missing = refl
if_reaction (IsOptional.there d) = reaction_spelled d

obviate_spelled : {ps : PartTexts} {s t : State} → AreParts ps s t → is_reaction_spelled ps.obviate ≡ true
obviate_spelled (AreParts.parts one two three four) = if_reaction two

retrigger_spelled : {ps : PartTexts} {s t : State} → AreParts ps s t → is_reaction_spelled ps.retrigger ≡ true
retrigger_spelled (AreParts.parts one two three four) = if_reaction three

-- ---- sources

source_spelled : {x : SourceText} {s t : State} → IsSource x s t → is_text_spelled x ≡ true
source_spelled (IsSource.source {name = name} {class = class} {cs = cs} {ps = ps} (IsHeader.header few word named on_at on of) opens whens rate with_parts act closes) =
    let obviate = is_reaction_spelled ps.obviate in
    let names = is_name name && is_name class in
    and_from (names && are_clauses cs && obviate) (is_reaction_spelled ps.retrigger)
    (and_from (names && are_clauses cs) obviate
    (and_from names (are_clauses cs) (and_from (is_name name) (is_name class) named.is_name of.member.is_name) (clauses_spelled whens))
    (obviate_spelled with_parts)) (retrigger_spelled with_parts)

pub sources_spelled : {xs : List SourceText} {s t : State} → AreMany IsSource xs s t → list_all is_text_spelled xs ≡ true
sources_spelled AreMany.no_item = refl
sources_spelled (AreMany.items {x = x} {xs = xs} d ds) =
    and_from (is_text_spelled x) (list_all is_text_spelled xs) (source_spelled d) (sources_spelled ds)
