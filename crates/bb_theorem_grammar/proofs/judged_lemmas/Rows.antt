-- Worked texts: which faults the judgement finds in them, and how much they lay out, computed on the definitions.
use Rattle.std.proofs.Common.{◌≡◌, ℕ, ◌^◌, true, false, [], ◌∷◌, None, refl, codes}
use Rattle.std.specs.Prelude.{pos}
use Rattle.bb_basis.specs.Closure.{closure}
use Rattle.bb_schema.specs.Schema.{Schema}
use Rattle.bb_schema_classes.specs.Inheritance.{climbs, is_among}
use Rattle.bb_schema_classes.specs.declared.value.Value.TheVariants as held
use Rattle.bb_schema.specs.Heirs.{heirs_in, strikes_in}
use Rattle.bb_schema.specs.Slots.{has_name}
use Rattle.bb_schema.specs.declared.slot.Content.TheVariants.{Default}
use Rattle.bb_verify_effect.specs.Kinds.{struck}
use Rattle.bb_verify_effect.specs.declared.part.Part.TheVariants.{Do, Require}
use Rattle.bb_lang.specs.Action.{Action}
use Rattle.bb_lang.specs.Action.TheVariants as actions
use Rattle.bb_lang.specs.Atom.TheVariants as atoms
use Rattle.bb_lang.specs.Binding.TheVariants.{As}
use Rattle.bb_lang.specs.Blocks.{BlockTree, StatementTree, no_statement, before_others, action, with_of, for_of, absent}
use Rattle.bb_lang.specs.Operator.TheVariants.{Plus}
use Rattle.bb_lang.specs.Sequence.TheVariants.{Find}
use Rattle.bb_lang.specs.Trees.{atom, chain, no_step, apply, all}
use Rattle.bb_lang.specs.Variable.TheVariants.{It, Named}
use Rattle.bb_compile_scope.specs.Ending.{always_ends, block_ends}
use Rattle.bb_compile_scope.specs.Faults.{lowest}
use Rattle.bb_compile_scope.specs.Place.{Place}
use Rattle.bb_compile_scope.specs.Slots.{slot_of, value_slot}
use Rattle.bb_compile_scope.specs.declared.fault.CompileFault.TheVariants.{At}
use Rattle.bb_compile_scope.specs.declared.fault.TextFlaw.TheVariants.{Unknown, Kind, DeadName, NoEnd}
use Rattle.bb_theorem_grammar.specs.judged.Actions.{action_flaws, after_action}
use Rattle.bb_theorem_grammar.specs.judged.Expressions.{expr_flaws}
use Rattle.bb_theorem_grammar.specs.judged.Fitting.{fits}
use Rattle.bb_theorem_grammar.specs.judged.Flaws.{least}
use Rattle.bb_theorem_grammar.specs.judged.Held.{expr_held, sequence_held, pattern_held, action_held, statement_held, otherwise_held, statements_held}
use Rattle.bb_theorem_grammar.specs.judged.Judgement.{part_faults}
use Rattle.bb_theorem_grammar.specs.judged.Killed.{killed_statement}
use Rattle.bb_theorem_grammar.specs.judged.Sums.{action_sums, expr_sums, sequence_sums, pattern_sums, statement_sums, otherwise_sums, statements_sums, statement_has_room, otherwise_has_room, statements_have_room, part_sums, different}
use Rattle.bb_theorem_grammar.specs.judged.Statements.{after_statement, statement_faults, statements_faults}

-- class 1 is `thing`, with a number `score`; its units may enter the space `board`
abbrev small : Schema
small = record {
  label_sets = [];
  classes = record { name = codes "focus"; parent = None; slots = [] } ∷ record { name = codes "thing"; parent = None; slots = 0 ∷ [] } ∷ [];
  slots = record { name = codes "score"; owner = 1; content = Default (held.Int (pos 0)) } ∷ [];
  spaces = record { name = codes "board"; classes = 1 ∷ []; dims = [] } ∷ [];
}

-- the place of a statement
abbrev at : ℕ → Place
at line = record { line = line; column = 1 }

abbrev alone : ℕ → StatementTree → BlockTree
alone line s = before_others (at line) s no_statement

abbrev set_score : Action
set_score = actions.Set (Named (codes "a")) (codes "score") (atom (atoms.Int (pos 1)))

abbrev with_it : BlockTree → StatementTree
with_it b = with_of (As (codes "a") It (codes "thing")) b absent

abbrev find_things : BlockTree → StatementTree
find_things b = for_of (codes "w") (Find (codes "thing") (codes "board") all) b

-- with a = it as thing { set a.score = 1; }
live : part_faults small (Do 1) (at 1) (alone 2 (with_it (alone 3 (action set_score)))) ≡ []
unfolding part_faults block_ends always_ends statements_faults statement_faults least lowest climbs action_flaws expr_flaws after_statement after_action killed_statement value_slot slot_of has_name struck strikes_in heirs_in closure is_among
live = refl

-- set it.score = 1, where nothing tells that the unit of the part is still there
not_tested : part_faults small (Do 1) (at 1) (alone 2 (action (actions.Set It (codes "score") (atom (atoms.Int (pos 1)))))) ≡ At DeadName (at 2) ∷ []
unfolding part_faults block_ends always_ends statements_faults statement_faults least lowest climbs action_flaws expr_flaws after_statement after_action killed_statement value_slot slot_of has_name struck strikes_in heirs_in closure is_among
not_tested = refl

-- with a = it as thing { for w in find thing in board { set a.score = 1; delete w; } }: the second time around, a may
-- be the unit that was deleted
deleted_in_a_loop : part_faults small (Do 1) (at 1) (alone 2 (with_it (alone 3 (find_things (before_others (at 4) (action set_score) (alone 5 (action (actions.Delete (Named (codes "w")))))))))) ≡ At DeadName (at 4) ∷ []
unfolding part_faults block_ends always_ends statements_faults statement_faults least lowest climbs action_flaws expr_flaws after_statement after_action killed_statement value_slot slot_of has_name struck strikes_in heirs_in closure is_among
deleted_in_a_loop = refl

-- the same with the deletion first; and with a test of it in the loop, which is no fault, as it may be gone there
tested_in_a_loop : part_faults small (Do 1) (at 1) (alone 2 (with_it (alone 3 (find_things (before_others (at 4) (with_of (As (codes "b") (Named (codes "a")) (codes "thing")) no_statement absent) (alone 5 (action (actions.Delete (Named (codes "w")))))))))) ≡ []
unfolding part_faults block_ends always_ends statements_faults statement_faults least lowest climbs action_flaws expr_flaws after_statement after_action killed_statement value_slot slot_of has_name struck strikes_in heirs_in closure is_among
tested_in_a_loop = refl

-- without the deletion it is live, and the test tells nothing new
tested_again : part_faults small (Do 1) (at 1) (alone 2 (with_it (alone 3 (find_things (alone 4 (with_of (As (codes "b") (Named (codes "a")) (codes "thing")) no_statement absent)))))) ≡ At Kind (at 4) ∷ []
unfolding part_faults block_ends always_ends statements_faults statement_faults least lowest climbs action_flaws expr_flaws after_statement after_action killed_statement value_slot slot_of has_name struck strikes_in heirs_in closure is_among
tested_again = refl

-- say 1 + true, x: of two flaws of a statement that of the least number
two_flaws : part_faults small (Do 1) (at 1) (alone 2 (action (actions.Say (chain (atom (atoms.Int (pos 1))) (apply Plus (atom (atoms.Bool true)) no_step) ∷ atom (atoms.Variable (Named (codes "x"))) ∷ [])))) ≡ At Unknown (at 2) ∷ []
unfolding part_faults block_ends always_ends statements_faults statement_faults least lowest climbs action_flaws expr_flaws after_statement after_action killed_statement value_slot slot_of has_name struck strikes_in heirs_in closure is_among
two_flaws = refl

-- rate 1; decline: a part that ends by a statement has none after it
behind_an_end : part_faults small (Require 1) (at 1) (before_others (at 2) (action (actions.Rate (atom (atoms.Int (pos 1))))) (alone 3 (action actions.Decline))) ≡ At NoEnd (at 3) ∷ []
unfolding part_faults block_ends always_ends statements_faults statement_faults least lowest climbs action_flaws expr_flaws after_statement after_action killed_statement value_slot slot_of has_name struck strikes_in heirs_in closure is_among
behind_an_end = refl

-- a part that has to end by a statement, and does not
no_end : part_faults small (Require 1) (at 1) no_statement ≡ At NoEnd (at 1) ∷ []
unfolding part_faults block_ends always_ends statements_faults statement_faults least lowest climbs action_flaws expr_flaws after_statement after_action killed_statement value_slot slot_of has_name struck strikes_in heirs_in closure is_among
no_end = refl

-- ---- how much it is

abbrev deleting : BlockTree
deleting = alone 2 (with_it (alone 3 (find_things (before_others (at 4) (action set_score) (alone 5 (action (actions.Delete (Named (codes "w")))))))))

-- the loop above: `with` takes 3 ops, as the unit is of the class and only may be deleted, the sequence 2, the head 2,
-- `set` 3, `delete` 2, the way back and the end one each
much : part_sums small (Do 1) deleting ≡ record { ops = 14; texts = []; queries = 1; loops = 1 }
unfolding statements_sums statement_sums otherwise_sums action_sums expr_sums sequence_sums pattern_sums block_ends always_ends climbs after_statement after_action killed_statement struck strikes_in heirs_in closure is_among
much = refl

-- a text that stands twice is one text
twice : different (action_sums (actions.Say (atom (atoms.Text (codes "a")) ∷ atom (atoms.Text (codes "b")) ∷ atom (atoms.Text (codes "a")) ∷ []))).texts ≡ 2
unfolding action_sums expr_sums
twice = refl

-- it is small enough for a code, and with a number of more than 64 bits it is not
small_enough : fits small (Do 1) deleting ≡ true
unfolding fits statements_sums statement_sums otherwise_sums action_sums expr_sums sequence_sums pattern_sums statements_have_room statement_has_room otherwise_has_room statements_held statement_held otherwise_held action_held expr_held sequence_held pattern_held block_ends always_ends climbs after_statement after_action killed_statement struck strikes_in heirs_in closure is_among
small_enough = refl

too_long : fits small (Do 1) (alone 2 (action (actions.Let (codes "n") (atom (atoms.Int (pos (2 ^ 63))))))) ≡ false
unfolding fits statements_sums statement_sums action_sums expr_sums statements_have_room statement_has_room statements_held statement_held action_held expr_held after_statement after_action
too_long = refl

-- a name, where there is no room for one more
no_room : statements_have_room small (record { held = []; room = 0 }) (alone 2 (action (actions.Let (codes "n") (atom (atoms.Int (pos 1)))))) ≡ false
unfolding statements_have_room
no_room = refl
