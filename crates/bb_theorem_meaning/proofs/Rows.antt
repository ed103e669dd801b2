-- Worked texts, computed on the definitions.
use Rattle.std.proofs.Common.{◌≡◌, refl, ℕ, [], ◌∷◌, None, Some, Ok, true, false, codes}
use Rattle.std.specs.Prelude.{pos, negsuc}
use Rattle.bb_basis.specs.Results.{try_map}
use Rattle.bb_compile_scope.specs.Place.{Place}
use Rattle.bb_verify_effect.specs.declared.part.Part.TheVariants.{Do, Obviate, Require}
use Rattle.bb_lang.specs.Atom.TheVariants as atoms
use Rattle.bb_lang.specs.Binary.TheVariants as binaries
use Rattle.bb_lang.specs.Operator.TheVariants.{Plus, Times}
use Rattle.bb_lang.specs.Division.TheVariants.{Quotient, Remainder}
use Rattle.bb_lang.specs.Variable.TheVariants.{It, Ev, Named}
use Rattle.bb_lang.specs.Action.{Action}
use Rattle.bb_lang.specs.Action.TheVariants as actions
use Rattle.bb_lang.specs.Trees.{ExprTree, atom, binary, chain, no_step, apply, divide}
use Rattle.bb_lang.specs.Blocks.{BlockTree, StatementTree, no_statement, before_others, action, if_of, otherwise}
use Rattle.bb_board.specs.Board.{Board, with_world}
use Rattle.bb_board.specs.World.{after_say}
use Rattle.bb_board.specs.declared.note.Said.TheVariants as saids
use Rattle.bb_schema_classes.specs.declared.value.Value.TheVariants as held
use Rattle.bb_machine.specs.declared.outcome.Answer.TheVariants.{Done, Rated, Yes, No}
use Rattle.bb_machine.specs.declared.value.Value.TheVariants.{Int}
use Rattle.bb_theorem_meaning.specs.Meaning.{answered, meaningless}
use Rattle.bb_theorem_meaning.specs.Values.{binary_value, operator_value, division_value, of_numbers}
use Rattle.bb_theorem_meaning.specs.Expressions.{value_of, atom_value, after_steps}
use Rattle.bb_theorem_meaning.specs.Statements.{acted, statement, statements, otherwise_done}
use Rattle.bb_theorem_meaning.specs.Parts.{meaning}

abbrev int : ℕ → ExprTree
int n = atom (atoms.Int (pos n))

-- 2 + 3 * 4
sum_first : (b : Board) → value_of b [] (chain (int 2) (apply Plus (chain (int 3) (apply Times (int 4) no_step)) no_step)) ≡ Ok (Int (pos 14))
unfolding value_of atom_value after_steps operator_value of_numbers
sum_first b = refl

-- -7 / 2 and -7 % 2
rounds_down : (b : Board) → value_of b [] (chain (atom (atoms.Int (negsuc 6))) (divide Quotient (pos 2) no_step)) ≡ Ok (Int (negsuc 3))
unfolding value_of atom_value after_steps division_value
rounds_down b = refl

leaves_one : (b : Board) → value_of b [] (chain (atom (atoms.Int (negsuc 6))) (divide Remainder (pos 2) no_step)) ≡ Ok (Int (pos 1))
unfolding value_of atom_value after_steps division_value
leaves_one b = refl

-- ---- parts

abbrev here : Place
here = record { line = 1; column = 1 }

abbrev then : StatementTree → BlockTree → BlockTree
then s others = before_others here s others

abbrev alone : Action → BlockTree
alone a = then (action a) no_statement

abbrev names_same : ExprTree
names_same = binary binaries.Equal (atom (atoms.Variable It)) (atom (atoms.Variable Ev))

-- answer it = ev; of one unit, and of two
answers_yes : (b : Board) → meaning (Obviate 1 1) (alone (actions.Answer names_same)) (record { it = 7; ev = Some 7 }) b ≡ answered Yes b
unfolding statements statement acted value_of atom_value binary_value
answers_yes b = refl

answers_no : (b : Board) → meaning (Obviate 1 1) (alone (actions.Answer names_same)) (record { it = 7; ev = Some 8 }) b ≡ answered No b
unfolding statements statement acted value_of atom_value binary_value
answers_no b = refl

-- let x = 2; x = x + 5; rate x;
abbrev x : ExprTree
x = atom (atoms.Variable (Named (codes "x")))

rates_seven : (b : Board)
    → meaning (Require 1)
    (then (action (actions.Let (codes "x") (int 2))) (then (action (actions.Assign (codes "x") (chain x (apply Plus (int 5) no_step)))) (alone (actions.Rate x))))
    (record { it = 1; ev = None }) b ≡ answered (Rated (pos 7)) b
unfolding statements statement acted value_of atom_value after_steps operator_value of_numbers
rates_seven b = refl

-- if it = ev { answer false; } else { answer true; }
abbrev chooses : BlockTree
chooses = then (if_of names_same (alone (actions.Answer (atom (atoms.Bool false)))) (otherwise (alone (actions.Answer (atom (atoms.Bool true)))))) no_statement

takes_first : (b : Board) → meaning (Obviate 1 1) chooses (record { it = 7; ev = Some 7 }) b ≡ answered No b
unfolding statements statement otherwise_done acted value_of atom_value binary_value
takes_first b = refl

takes_other : (b : Board) → meaning (Obviate 1 1) chooses (record { it = 7; ev = Some 8 }) b ≡ answered Yes b
unfolding statements statement otherwise_done acted value_of atom_value binary_value
takes_other b = refl

-- say "hello", it;
says : (b : Board)
    → meaning (Do 1) (alone (actions.Say (atom (atoms.Text (codes "hello")) ∷ atom (atoms.Variable It) ∷ []))) (record { it = 3; ev = None }) b
    ≡ answered Done (with_world b (after_say b.world (saids.Value (held.Text (codes "hello")) ∷ saids.Unit 3 ∷ [])))
unfolding statements statement acted value_of atom_value try_map
says b = refl

-- a `do` that says nothing has done its work; another part may not come to its end
does_nothing : (b : Board) → meaning (Do 1) no_statement (record { it = 3; ev = None }) b ≡ answered Done b
unfolding statements
does_nothing b = refl

has_no_end : (b : Board) → meaning (Require 1) no_statement (record { it = 3; ev = None }) b ≡ meaningless
unfolding statements
has_no_end b = refl

-- a name that is not there
is_unknown : (b : Board) → meaning (Require 1) (alone (actions.Rate x)) (record { it = 3; ev = None }) b ≡ meaningless
unfolding statements statement acted value_of atom_value
is_unknown b = refl
