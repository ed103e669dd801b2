-- Clauses and parts that are read stand there.
use Rattle.std.proofs.Common.{arith, ◌≡◌, ℕ, true, List, refl, codes}
use Rattle.bb_lang_tree.specs.declared.fault.LangFault.TheVariants.{Token}
use Rattle.bb_lang_tree.specs.State.{State, at}
use Rattle.bb_lang.specs.Sources.{unit_event, slot_event, space_event, change_event, event, clause, next_clause, clauses, part, part_if, reaction, reaction_if, parts, act}
use Rattle.bb_theorem_grammar.specs.Tokens.{Next}
use Rattle.bb_theorem_grammar.specs.Words.{IsName}
use Rattle.bb_theorem_grammar.specs.Repeats.{IsOptional, AreMany}
use Rattle.bb_theorem_grammar.specs.Sources.{IsClassSlot, IsEvent, IsClause, AreClauses, IsPart, IsReaction, AreParts, IsAct}
use Rattle.bb_theorem_grammar.proofs.SoundLemmas.{Sound, Read, by_move, by_if, by_read, done, fails, from_more, behind, skip_strict, next_moves, skip_moves, takes}
use Rattle.bb_theorem_grammar.proofs.NameLemmas.{name_read, member_read}
use Rattle.bb_theorem_grammar.proofs.RepeatLemmas.{Joins, many_read}
use Rattle.bb_theorem_grammar.proofs.StatementLemmas.{block_read}

-- ---- clauses

slot_read : (s : State) → Read s (slot_event s) (λ of w. (t : State) × Next s t × IsClassSlot of.class of.slot t w)
unfolding slot_event
slot_read s = by_move _ (next_moves s) (λ t k. by_read _ (name_read t) (λ class u a. by_move _ (skip_moves (codes ".") u) (λ v b. by_read _ (member_read v) (λ x w c. done (t, k, IsClassSlot.class_slot a b c)))))

space_read : (s : State) → Read s (space_event s) (λ of v. (t u : State) × Next s t × IsName of.class t u × IsName of.space u v)
unfolding space_event
space_read s = by_move _ (next_moves s) (λ t k. by_read _ (name_read t) (λ class u a. by_read _ (name_read u) (λ space v b. done (t, u, k, a, b))))

change_read : (s : State) → Sound s (λ c t. IsEvent c s t) (change_event s)
unfolding change_event
change_read s =
    by_if (at (codes "update") s) _ _ (λ is. by_read _ (slot_read s) (λ of t d. done (IsEvent.update (takes (codes "update") s d.0 is d.1) d.2)))
    (λ _. by_if (at (codes "link") s) _ _ (λ is. by_read _ (slot_read s) (λ of t d. done (IsEvent.link (takes (codes "link") s d.0 is d.1) d.2)))
    (λ _. by_if (at (codes "unlink") s) _ _ (λ is. by_read _ (slot_read s) (λ of t d. done (IsEvent.unlink (takes (codes "unlink") s d.0 is d.1) d.2)))
    (λ _. by_if (at (codes "enter") s) _ _ (λ is. by_read _ (space_read s) (λ of t d. done (IsEvent.enter (takes (codes "enter") s d.0 is d.2) d.3 d.4)))
    (λ _. by_if (at (codes "leave") s) _ _ (λ is. by_read _ (space_read s) (λ of t d. done (IsEvent.leave (takes (codes "leave") s d.0 is d.2) d.3 d.4)))
    (λ _. fails (Token s.place))))))

event_read : (s : State) → Sound s (λ c t. IsEvent c s t) (event s)
unfolding event unit_event
event_read s =
    by_if (at (codes "create") s) _ _ (λ is. by_move _ (next_moves s) (λ t k. by_read _ (name_read t) (λ class u a. done (IsEvent.create (takes (codes "create") s t is k) a))))
    (λ _. by_if (at (codes "delete") s) _ _ (λ is. by_move _ (next_moves s) (λ t k. by_read _ (name_read t) (λ class u a. done (IsEvent.delete (takes (codes "delete") s t is k) a))))
    (λ _. by_if (at (codes "quiescence") s) _ _ (λ is. by_move _ (next_moves s) (λ t k. done (IsEvent.quiescence (takes (codes "quiescence") s t is k))))
    (λ _. change_read s)))

pub clause_read : (s : State) → Sound (behind s) (λ c t. IsClause c s t) (clause s)
unfolding clause
clause_read s = by_move _ (skip_strict (codes "when") s) (λ t a. by_read _ (event_read t) (λ c u b. by_move _ (skip_moves (codes ";") u) (λ v d. done (IsClause.clause a b d))))

next_read : (s : State) → Sound s (Joins (AreMany IsClause) s) (next_clause s)
unfolding next_clause
next_read s =
    by_if (at (codes "when") s) _ _
    (λ _. by_read _ (from_more (behind s) s (omega arith) refl (clause_read s)) (λ c t d. done (λ cs u more. AreMany.items d more)))
    (λ _. done AreMany.no_item)

pub clauses_read : (s : State) → Sound s (λ cs t. AreClauses cs s t) (clauses s)
unfolding clauses
clauses_read s = by_read _ (from_more (behind s) s (omega arith) refl (clause_read s)) (λ c t d. by_read _ (many_read (AreMany IsClause) (λ _. AreMany.no_item) next_clause next_read t) (λ cs u ds. done (AreClauses.clauses d ds)))

-- ---- parts

part_read : (word : List ℕ) (s : State) → at word s ≡ true → Sound s (λ p t. IsPart word p s t) (part s)
unfolding part
part_read word s is = by_move _ (next_moves s) (λ t k. by_read _ (block_read _ 1 refl t) (λ b u d. done (IsPart.part (takes word s t is k) d)))

part_if_read : (word : List ℕ) (s : State) → Sound s (λ o t. IsOptional (IsPart word) o s t) (part_if word s)
unfolding part_if
part_if_read word s =
    by_if (at word s) _ _
    (λ is. by_read _ (part_read word s is) (λ p t d. done (IsOptional.there d)))
    (λ _. done IsOptional.missing)

reaction_read : (word : List ℕ) (s : State) → at word s ≡ true → Sound s (λ r t. IsReaction word r s t) (reaction s)
unfolding reaction
reaction_read word s is = by_move _ (next_moves s) (λ t k. by_move _ (skip_moves (codes "on") t) (λ u a. by_read _ (name_read u) (λ class v b. by_read _ (clauses_read v) (λ cs w c.
    by_read _ (block_read _ 1 refl w) (λ body x d. done (IsReaction.reaction (takes word s t is k) a b c d))))))

reaction_if_read : (word : List ℕ) (s : State) → Sound s (λ o t. IsOptional (IsReaction word) o s t) (reaction_if word s)
unfolding reaction_if
reaction_if_read word s =
    by_if (at word s) _ _
    (λ is. by_read _ (reaction_read word s is) (λ r t d. done (IsOptional.there d)))
    (λ _. done IsOptional.missing)

pub parts_read : (s : State) → Sound s (λ ps t. AreParts ps s t) (parts s)
unfolding parts
parts_read s = by_read _ (part_if_read (codes "require") s) (λ a t d. by_read _ (reaction_if_read (codes "obviate") t) (λ b u e. by_read _ (reaction_if_read (codes "retrigger") u) (λ c v f.
    by_read _ (part_if_read (codes "revalidate") v) (λ p w g. done (AreParts.parts d e f g)))))

pub act_read : (s : State) → Sound s (λ a t. IsAct a s t) (act s)
unfolding act
act_read s =
    by_if (at (codes "do") s) _ _
    (λ is. by_read _ (part_read (codes "do") s is) (λ p t d. done (IsAct.acts d)))
    (λ _. by_move _ (skip_moves (codes "native") s) (λ t a. by_move _ (skip_moves (codes ";") t) (λ u b. done (IsAct.native a b))))
