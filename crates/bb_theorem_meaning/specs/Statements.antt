-- What statements do to names and the blackboard.
use Rattle.std.specs.Prelude.{ℕ, Bool, true, false, ◌&&◌, List, [], ◌∷◌, length, take, slice_get, Option, Some, None, Ok, Err, if◌then◌else◌}
use Rattle.bb_basis.specs.Results.{◌>>=◌, ok_or, try_map}
use Rattle.bb_schema.specs.Schema.{class_named, space_named, descends}
use Rattle.bb_links.specs.Links.{ends}
use Rattle.bb_lang.specs.Variable.{Variable}
use Rattle.bb_lang.specs.Action.{Action}
use Rattle.bb_lang.specs.Action.TheVariants as actions
use Rattle.bb_lang.specs.Binding.{Binding}
use Rattle.bb_lang.specs.Binding.TheVariants.{As, Linked}
use Rattle.bb_lang.specs.Trees.{ExprTree}
use Rattle.bb_lang.specs.View.{sequence_of}
use Rattle.bb_lang.specs.Blocks.{BlockTree, StatementTree, OtherwiseTree, no_statement, before_others, action, if_of, with_of, for_of, absent, otherwise}
use Rattle.bb_compile_scope.specs.Scope.{name_of}
use Rattle.bb_board.specs.Board.{Board, with_world}
use Rattle.bb_units.specs.Units.{is_live, is_full}
use Rattle.bb_board.specs.World.{class_at, after_create, after_set, after_say}
use Rattle.bb_board.specs.Links.{after_link, after_unlink}
use Rattle.bb_board.specs.Deletion.{after_delete}
use Rattle.bb_board.specs.Spaces.{after_enter, after_leave}
use Rattle.bb_board.specs.State.{World}
use Rattle.bb_machine.specs.declared.outcome.Answer.TheVariants.{Rated, Declined, Yes, No}
use Rattle.bb_machine.specs.Value.{slot_value_of, said_of}
use Rattle.bb_machine.specs.declared.value.Value.{Value}
use Rattle.bb_machine.specs.declared.value.Value.TheVariants.{Unit as One}
use Rattle.bb_theorem_meaning.specs.Meaning.{End, Meaning, Name, answered, full, meaningless, named, with_name, assigned}
use Rattle.bb_theorem_meaning.specs.Values.{number, truth}
use Rattle.bb_theorem_meaning.specs.Units.{unit_of, live_unit, live_value, slot_of}
use Rattle.bb_theorem_meaning.specs.Expressions.{value_of, units_of}

-- the names with their values, and the blackboard
pub record Scene : Type 0 where
  pub names : List Name
  pub board : Board

-- the same names, and the blackboard in another state
abbrev pub in_world : Scene → World → Scene
in_world s w = record { names = s.names; board = with_world s.board w }

-- another name, and the same blackboard
abbrev pub where_named : List ℕ → Value → Scene → Scene
where_named name value s = record { names = with_name name value s.names; board = s.board }

-- the value of an expression
abbrev pub value : Scene → ExprTree → Meaning Value
value s e = value_of s.board s.names e

-- ---- statements without blocks

-- new
unfoldable pub created : (name : List ℕ) → (class : ℕ) → Scene → Meaning Scene
created name class s =
    if is_full s.board.world.units then Err (full s.board)
    else Ok (where_named name (One s.board.world.units.next) (in_world s (after_create s.board.world class)))

-- set: the unit, which must be live, gets the value in its slot
unfoldable pub set_to : (unit : Value) → (slot : List ℕ) → Value → Scene → Meaning Scene
set_to u name v s = do
  n ← live_value s.board u
  slot ← slot_of s.board n name
  held ← ok_or (slot_value_of v) meaningless
  Ok (in_world s (after_set s.board.schema s.board.world n slot held))

-- link, unlink: two units, which must be live
unfoldable pub relinked : (World → (unit slot partner : ℕ) → World) → (slot : List ℕ) → (unit other : Value) → Scene
    → Meaning Scene
relinked change name u v s = do
  n ← live_value s.board u
  m ← live_value s.board v
  slot ← slot_of s.board n name
  Ok (in_world s (change s.board.world n slot m))

-- enter, leave: a unit, which must be live, and a space
unfoldable pub moved : (World → (unit space : ℕ) → World) → (space : List ℕ) → (unit : Value) → Scene
    → Meaning Scene
moved change name u s = do
  n ← live_value s.board u
  space ← ok_or (space_named s.board.schema name) meaningless
  Ok (in_world s (change s.board.world n space))

-- delete: a unit, which must be live
unfoldable pub deleted : (unit : Value) → Scene → Meaning Scene
deleted u s = live_value s.board u >>= λ n. Ok (in_world s (after_delete s.board.schema s.board.world n))

-- the value of a name
abbrev pub variable : Scene → Variable → Meaning Value
variable s v = named (name_of v) s.names

-- the values of expressions, in order
abbrev pub values : Scene → List ExprTree → Meaning (List Value)
values s es = try_map (value s) es

-- an end with yes or no
abbrev pub yes_or_no : Board → Bool → End
yes_or_no b true = answered Yes b
yes_or_no b false = answered No b

unfoldable pub acted : Action → Scene → Meaning Scene
acted (actions.Let name e) s = value s e >>= λ v. Ok (where_named name v s)
acted (actions.Assign name e) s = do
  v ← value s e
  _ ← named name s.names
  Ok (record { names = assigned name v s.names; board = s.board })
acted (actions.New name class) s = ok_or (class_named s.board.schema class) meaningless >>= λ c. created name c s
acted (actions.Set unit slot e) s = do
  u ← variable s unit
  v ← value s e
  set_to u slot v s
acted (actions.Link unit slot other) s = do
  u ← variable s unit
  v ← variable s other
  relinked (after_link s.board.schema) slot u v s
acted (actions.Unlink unit slot other) s = do
  u ← variable s unit
  v ← variable s other
  relinked (after_unlink s.board.schema) slot u v s
acted (actions.Enter unit space) s = variable s unit >>= λ u. moved (after_enter s.board.schema) space u s
acted (actions.Leave unit space) s = variable s unit >>= λ u. moved after_leave space u s
acted (actions.Delete unit) s = variable s unit >>= λ u. deleted u s
acted (actions.Say es) s = do
  vs ← values s es
  said ← try_map (λ v. ok_or (said_of v) meaningless) vs
  Ok (in_world s (after_say s.board.world said))
acted (actions.Rate e) s = do
  v ← value s e
  n ← number v
  Err (answered (Rated n) s.board)
acted actions.Decline s = Err (answered Declined s.board)
acted (actions.Answer e) s = do
  v ← value s e
  b ← truth v
  Err (yes_or_no s.board b)

-- ---- what `with` tests: the unit that its name stands for, if the test passes

-- the unit is live and of the class
abbrev pub as_class : Scene → (unit class : ℕ) → Option ℕ
as_class s n class =
    if is_live s.board.world.units n && descends s.board.schema (class_at s.board.world n) class then Some n else None

unfoldable pub bound : Binding → Scene → Meaning (List ℕ × Option ℕ)
bound (As name unit class) s = do
  n ← unit_of s.names unit
  c ← ok_or (class_named s.board.schema class) meaningless
  Ok (name, as_class s n c)
bound (Linked name unit slot) s = do
  n ← live_unit s.board s.names unit
  k ← slot_of s.board n slot
  Ok (name, slice_get (ends s.board.world.links n k) 0)

-- ---- statements with blocks, and blocks

-- names declared since `before` are removed
abbrev pub left : Scene → Meaning Scene → Meaning Scene
left before after =
    after >>= λ s. Ok (record { names = take (length before.names) s.names; board = s.board })

-- a block, before which another name is declared for a unit
abbrev pub where_unit : (Scene → Meaning Scene) → (name : List ℕ) → (unit : ℕ) → Scene → Meaning Scene
where_unit block name n s = left s (block (where_named name (One n) s))

-- a block for each unit of a list; units that have been deleted meanwhile are skipped
abbrev pub for_each : (Scene → Meaning Scene) → (name : List ℕ) → List ℕ → Scene → Meaning Scene
for_each block name [] s = Ok s
for_each block name (n ∷ ns) s =
    if is_live s.board.world.units n then where_unit block name n s >>= for_each block name ns
    else for_each block name ns s

-- the first block if there is a unit, else the other
abbrev pub with_unit : (Scene → Meaning Scene) → Meaning Scene → List ℕ × Option ℕ → Scene → Meaning Scene
with_unit block other (name, None) s = other
with_unit block other (name, Some n) s = where_unit block name n s

unfoldable mutual
  pub statement : StatementTree → Scene → Meaning Scene
  statement (action a) s = acted a s
  statement (if_of test first other) s = do
    v ← value s test
    b ← truth v
    if b then left s (statements first s) else otherwise_done other s
  statement (with_of binding first other) s = do
    test ← bound binding s
    with_unit (statements first) (otherwise_done other s) test s
  statement (for_of name sequence body) s = do
    units ← units_of s.board s.names (sequence_of sequence)
    for_each (statements body) name units s

  pub otherwise_done : OtherwiseTree → Scene → Meaning Scene
  otherwise_done absent s = Ok s
  otherwise_done (otherwise b) s = left s (statements b s)

  -- statements, one after another
  pub statements : BlockTree → Scene → Meaning Scene
  statements no_statement s = Ok s
  statements (before_others place first others) s = statement first s >>= λ t. statements others t
