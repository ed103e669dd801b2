-- Clauses and parts that stand in a text are read.
use Rattle.std.proofs.Common.{◌≡◌, ℕ, zero, suc, ◌≤◌, false, List, [], ◌∷◌, length, Option, Some, None, Result, Ok, refl, ap, codes, arith}
use Rattle.bb_lang_tree.specs.declared.fault.LangFault.{LangFault}
use Rattle.bb_lang_tree.specs.State.{State, at, left}
use Rattle.bb_lang_tree.specs.declared.source_text.ActText.{ActText}
use Rattle.bb_lang_tree.specs.declared.source_text.ClauseText.{ClauseText}
use Rattle.bb_lang_tree.specs.declared.source_text.PartText.{PartText}
use Rattle.bb_lang_tree.specs.declared.source_text.PartTexts.{PartTexts}
use Rattle.bb_lang_tree.specs.declared.source_text.ReactionText.{ReactionText}
use Rattle.bb_lang.specs.Repeats.{repeated, as_many}
use Rattle.bb_lang.specs.Sources.{unit_event, slot_event, space_event, change_event, event, clause, next_clause, clauses, part, part_if, reaction, reaction_if, parts, act}
use Rattle.bb_theorem_grammar.specs.Repeats.{IsOptional, AreMany}
use Rattle.bb_theorem_grammar.specs.Sources.{IsClassSlot, IsEvent, IsClause, AreClauses, IsPart, IsReaction, AreParts, IsAct}
use Rattle.bb_theorem_grammar.proofs.ClauseLemmas.{clause_read}
use Rattle.bb_theorem_grammar.proofs.FoundTokens.{next_found, yes_is, no_is, ok_then, at_its_token, skip_found, NotAt, missed}
use Rattle.bb_theorem_grammar.proofs.FoundNames.{member_found, name_found}
use Rattle.bb_theorem_grammar.proofs.FoundParts.{none_found, more_found}
use Rattle.bb_theorem_grammar.proofs.FoundActions.{ok_within}
use Rattle.bb_theorem_grammar.proofs.FoundStatements.{block_at, block_found}

-- ---- events

module _ (s : State) (r : Result (ClauseText × State) LangFault) where
  change_word : NotAt (codes "create" ∷ codes "delete" ∷ codes "quiescence" ∷ []) s → change_event s ≡ r → event s ≡ r
  unfolding event
  change_word others h = no_is (at (codes "create") s) _ _ others.0 (no_is (at (codes "delete") s) _ _ others.1.0 (no_is (at (codes "quiescence") s) _ _ others.1.1.0 h))

event_found : (x : ClauseText) (s t : State) → IsEvent x s t → event s ≡ Ok (x, t)
unfolding event unit_event slot_event space_event change_event
event_found x s t (IsEvent.create {class = class} {t = u} k a) = yes_is (at (codes "create") s) _ _ (at_its_token (codes "create") s k.is) (ok_then _ (next_found s u k.next) (ok_then _ (name_found u t class a) refl))
event_found x s t (IsEvent.delete {class = class} {t = u} k a) =
    no_is (at (codes "create") s) _ _ (missed (codes "delete") s k.is (codes "create" ∷ []) refl).0
    (yes_is (at (codes "delete") s) _ _ (at_its_token (codes "delete") s k.is) (ok_then _ (next_found s u k.next) (ok_then _ (name_found u t class a) refl)))
event_found x s t (IsEvent.quiescence k) =
    let others = missed (codes "quiescence") s k.is (codes "create" ∷ codes "delete" ∷ []) refl in
    no_is (at (codes "create") s) _ _ others.0 (no_is (at (codes "delete") s) _ _ others.1.0 (yes_is (at (codes "quiescence") s) _ _ (at_its_token (codes "quiescence") s k.is) (ok_then _ (next_found s t k.next) refl)))
event_found x s t (IsEvent.update {class = class} {x = slot} {t = u} k (IsClassSlot.class_slot {t = v} {u = w} a b c)) =
    change_word s (Ok (x, t)) (missed (codes "update") s k.is (codes "create" ∷ codes "delete" ∷ codes "quiescence" ∷ []) refl)
    (yes_is (at (codes "update") s) _ _ (at_its_token (codes "update") s k.is)
    (ok_within _ _ (next_found s u k.next) (ok_within _ _ (name_found u v class a) (ok_within _ _ (skip_found (codes ".") v w b) (ok_within _ _ (member_found w t slot c) refl)))))
event_found x s t (IsEvent.link {class = class} {x = slot} {t = u} k (IsClassSlot.class_slot {t = v} {u = w} a b c)) =
    change_word s (Ok (x, t)) (missed (codes "link") s k.is (codes "create" ∷ codes "delete" ∷ codes "quiescence" ∷ []) refl)
    (no_is (at (codes "update") s) _ _ (missed (codes "link") s k.is (codes "update" ∷ []) refl).0 (yes_is (at (codes "link") s) _ _ (at_its_token (codes "link") s k.is)
    (ok_within _ _ (next_found s u k.next) (ok_within _ _ (name_found u v class a) (ok_within _ _ (skip_found (codes ".") v w b) (ok_within _ _ (member_found w t slot c) refl))))))
event_found x s t (IsEvent.unlink {class = class} {x = slot} {t = u} k (IsClassSlot.class_slot {t = v} {u = w} a b c)) =
    let others = missed (codes "unlink") s k.is (codes "update" ∷ codes "link" ∷ []) refl in
    change_word s (Ok (x, t)) (missed (codes "unlink") s k.is (codes "create" ∷ codes "delete" ∷ codes "quiescence" ∷ []) refl)
    (no_is (at (codes "update") s) _ _ others.0 (no_is (at (codes "link") s) _ _ others.1.0 (yes_is (at (codes "unlink") s) _ _ (at_its_token (codes "unlink") s k.is)
    (ok_within _ _ (next_found s u k.next) (ok_within _ _ (name_found u v class a) (ok_within _ _ (skip_found (codes ".") v w b) (ok_within _ _ (member_found w t slot c) refl)))))))
event_found x s t (IsEvent.enter {class = class} {space = space} {t = u} {u = v} k a b) =
    let others = missed (codes "enter") s k.is (codes "update" ∷ codes "link" ∷ codes "unlink" ∷ []) refl in
    change_word s (Ok (x, t)) (missed (codes "enter") s k.is (codes "create" ∷ codes "delete" ∷ codes "quiescence" ∷ []) refl)
    (no_is (at (codes "update") s) _ _ others.0 (no_is (at (codes "link") s) _ _ others.1.0 (no_is (at (codes "unlink") s) _ _ others.1.1.0 (yes_is (at (codes "enter") s) _ _ (at_its_token (codes "enter") s k.is)
    (ok_within _ _ (next_found s u k.next) (ok_within _ _ (name_found u v class a) (ok_within _ _ (name_found v t space b) refl)))))))
event_found x s t (IsEvent.leave {class = class} {space = space} {t = u} {u = v} k a b) =
    let others = missed (codes "leave") s k.is (codes "update" ∷ codes "link" ∷ codes "unlink" ∷ codes "enter" ∷ []) refl in
    change_word s (Ok (x, t)) (missed (codes "leave") s k.is (codes "create" ∷ codes "delete" ∷ codes "quiescence" ∷ []) refl)
    (no_is (at (codes "update") s) _ _ others.0 (no_is (at (codes "link") s) _ _ others.1.0 (no_is (at (codes "unlink") s) _ _ others.1.1.0 (no_is (at (codes "enter") s) _ _ others.1.1.1.0
    (yes_is (at (codes "leave") s) _ _ (at_its_token (codes "leave") s k.is) (ok_within _ _ (next_found s u k.next) (ok_within _ _ (name_found u v class a) (ok_within _ _ (name_found v t space b) refl))))))))

-- ---- clauses

clause_found : (x : ClauseText) (s t : State) → IsClause x s t → clause s ≡ Ok (x, t)
unfolding clause
clause_found x s t (IsClause.clause {t = u} {u = v} k a c) = ok_then _ (skip_found (codes "when") s u k) (ok_then _ (event_found x u v a) (ok_then _ (skip_found (codes ";") v t c) refl))

clause_at : (x : ClauseText) (s t : State) → IsClause x s t → s.token ≡ codes "when"
clause_at x s t (IsClause.clause k a c) = k.is

one_clause : (x : ClauseText) (s t : State) → IsClause x s t → next_clause s ≡ Ok (Some x, t)
unfolding next_clause
one_clause x s t d = yes_is (at (codes "when") s) _ _ (at_its_token (codes "when") s (clause_at x s t d)) (ok_then _ (clause_found x s t d) refl)

no_clause : (s : State) → at (codes "when") s ≡ false → next_clause s ≡ Ok (None, s)
unfolding next_clause
no_clause s other = no_is (at (codes "when") s) _ _ other refl

clause_more : (x : ClauseText) (xs : List ClauseText) (s t u : State) (k : ℕ) → left s ≤ k → IsClause x s t → ((j : ℕ) → left t ≤ j → repeated j next_clause t ≡ Ok (xs, u)) → repeated k next_clause s ≡ Ok (x ∷ xs, u)
clause_more x xs s t u zero le d more = let some : length s.token ≡ 4 = ap length (clause_at x s t d) in absurd (omega (arith, le, some))
clause_more x xs s t u (suc j) le d more =
    let some : length s.token ≡ 4 = ap length (clause_at x s t d) in
    let later = (clause_read s).later x t (clause_found x s t d) in
    more_found next_clause s t u x xs j (one_clause x s t d) (more j (omega (arith, le, some, later)))

more_clauses : {xs : List ClauseText} {s t : State} → AreMany IsClause xs s t → at (codes "when") t ≡ false → (k : ℕ) → left s ≤ k → repeated k next_clause s ≡ Ok (xs, t)
more_clauses (AreMany.no_item {s = s}) other k le = none_found next_clause s (no_clause s other) k
more_clauses (AreMany.items {x = x} {xs = xs} {s = s} {t = t} {u = u} d ds) other k le = clause_more x xs s t u k le d (λ j later. more_clauses ds other j later)

pub clauses_found : (xs : List ClauseText) (s t : State) → AreClauses xs s t → at (codes "when") t ≡ false → clauses s ≡ Ok (xs, t)
unfolding clauses as_many
clauses_found xs s t (AreClauses.clauses {x = x} {t = u} d ds) other = ok_then _ (clause_found x s u d) (ok_then _ (more_clauses ds other (left u) (omega arith)) refl)

-- ---- parts

part_found : (word : List ℕ) (p : PartText) (s t : State) → IsPart word p s t → part s ≡ Ok (p, t)
unfolding part
part_found word p s t (IsPart.part {t = u} k b) = ok_then _ (next_found s u k.next) (ok_then _ (block_found b _ refl) refl)

part_at : (word : List ℕ) (p : PartText) (s t : State) → IsPart word p s t → s.token ≡ word
part_at word p s t (IsPart.part k b) = k.is

part_if_found : (word : List ℕ) (o : Option PartText) (s t : State) → IsOptional (IsPart word) o s t → at word t ≡ false → part_if word s ≡ Ok (o, t)
unfolding part_if
part_if_found word o s t IsOptional.missing other = no_is (at word s) _ _ other refl
part_if_found word o s t (IsOptional.there {x = p} d) other = yes_is (at word s) _ _ (at_its_token word s (part_at word p s t d)) (ok_then _ (part_found word p s t d) refl)

reaction_found : (word : List ℕ) (x : ReactionText) (s t : State) → IsReaction word x s t → reaction s ≡ Ok (x, t)
unfolding reaction
reaction_found word x s t (IsReaction.reaction {class = class} {cs = cs} {t = u} {u = v} {v = w} {w = y} k a c d b) =
    ok_then _ (next_found s u k.next) (ok_then _ (skip_found (codes "on") u v a) (ok_then _ (name_found v w class c) (ok_then _ (clauses_found cs w y d (missed (codes "{") y (block_at b) (codes "when" ∷ []) refl).0)
    (ok_then _ (block_found b _ refl) refl))))

reaction_at : (word : List ℕ) (x : ReactionText) (s t : State) → IsReaction word x s t → s.token ≡ word
reaction_at word x s t (IsReaction.reaction k a c d b) = k.is

reaction_if_found : (word : List ℕ) (o : Option ReactionText) (s t : State) → IsOptional (IsReaction word) o s t → at word t ≡ false → reaction_if word s ≡ Ok (o, t)
unfolding reaction_if
reaction_if_found word o s t IsOptional.missing other = no_is (at word s) _ _ other refl
reaction_if_found word o s t (IsOptional.there {x = x} d) other = yes_is (at word s) _ _ (at_its_token word s (reaction_at word x s t d)) (ok_then _ (reaction_found word x s t d) refl)

-- ---- what comes after a part

abbrev part_words : List (List ℕ)
part_words = codes "require" ∷ codes "obviate" ∷ codes "retrigger" ∷ codes "revalidate" ∷ []

act_others : (a : ActText) (s t : State) → IsAct a s t → NotAt part_words s
act_others a s t (IsAct.acts {p = p} d) = missed (codes "do") s (part_at (codes "do") p s t d) part_words refl
act_others a s t (IsAct.native k c) = missed (codes "native") s k.is part_words refl

before_revalidate : (o : Option PartText) (s t : State) → IsOptional (IsPart (codes "revalidate")) o s t → NotAt part_words t → NotAt (codes "require" ∷ codes "obviate" ∷ codes "retrigger" ∷ []) s
before_revalidate o s t IsOptional.missing others = (others.0, (others.1.0, (others.1.1.0, tt)))
before_revalidate o s t (IsOptional.there {x = p} d) others = missed (codes "revalidate") s (part_at (codes "revalidate") p s t d) (codes "require" ∷ codes "obviate" ∷ codes "retrigger" ∷ []) refl

before_retrigger : (o : Option ReactionText) (s t : State) → IsOptional (IsReaction (codes "retrigger")) o s t → NotAt (codes "require" ∷ codes "obviate" ∷ codes "retrigger" ∷ []) t → NotAt (codes "require" ∷ codes "obviate" ∷ []) s
before_retrigger o s t IsOptional.missing others = (others.0, (others.1.0, tt))
before_retrigger o s t (IsOptional.there {x = x} d) others = missed (codes "retrigger") s (reaction_at (codes "retrigger") x s t d) (codes "require" ∷ codes "obviate" ∷ []) refl

before_obviate : (o : Option ReactionText) (s t : State) → IsOptional (IsReaction (codes "obviate")) o s t → NotAt (codes "require" ∷ codes "obviate" ∷ []) t → NotAt (codes "require" ∷ []) s
before_obviate o s t IsOptional.missing others = (others.0, tt)
before_obviate o s t (IsOptional.there {x = x} d) others = missed (codes "obviate") s (reaction_at (codes "obviate") x s t d) (codes "require" ∷ []) refl

pub parts_found : (ps : PartTexts) (a : ActText) (s t u : State) → AreParts ps s t → IsAct a t u → parts s ≡ Ok (ps, t)
unfolding parts
parts_found ps a s t u (AreParts.parts {a = require} {d = revalidate} {b = obviate} {c = retrigger} {t = t1} {u = t2} {v = t3} d e f g) act =
    let fourth = act_others a t u act in
    let third = before_revalidate revalidate t3 t g fourth in
    let second = before_retrigger retrigger t2 t3 f third in
    let first = before_obviate obviate t1 t2 e second in
    ok_then _ (part_if_found (codes "require") require s t1 d first.0) (ok_then _ (reaction_if_found (codes "obviate") obviate t1 t2 e second.1.0)
    (ok_then _ (reaction_if_found (codes "retrigger") retrigger t2 t3 f third.1.1.0) (ok_then _ (part_if_found (codes "revalidate") revalidate t3 t g fourth.1.1.1.0) refl)))

pub act_found : (a : ActText) (s t : State) → IsAct a s t → act s ≡ Ok (a, t)
unfolding act
act_found a s t (IsAct.acts {p = p} d) = yes_is (at (codes "do") s) _ _ (at_its_token (codes "do") s (part_at (codes "do") p s t d)) (ok_then _ (part_found (codes "do") p s t d) refl)
act_found a s t (IsAct.native {t = u} k c) =
    no_is (at (codes "do") s) _ _ (missed (codes "native") s k.is (codes "do" ∷ []) refl).0 (ok_then _ (skip_found (codes "native") s u k) (ok_then _ (skip_found (codes ";") u t c) refl))
