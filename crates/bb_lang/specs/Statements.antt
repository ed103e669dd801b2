-- Statements and blocks: one definition for each production.
use Rattle.std.specs.Prelude.{ℕ, zero, suc, List, length, take, Option, Some, None, Ok, Err, codes, if◌then◌else◌}
use Rattle.bb_basis.specs.Results.{◌>>=◌}
use Rattle.bb_lang_tree.specs.declared.atom.Variable.{Variable}
use Rattle.bb_lang_tree.specs.declared.block.Action.{Action}
use Rattle.bb_lang_tree.specs.declared.block.Action.TheVariants as actions
use Rattle.bb_lang_tree.specs.declared.block.Binding.{Binding}
use Rattle.bb_lang_tree.specs.declared.block.Binding.TheVariants.{As, Linked}
use Rattle.bb_lang_tree.specs.declared.block.Placed.{Placed}
use Rattle.bb_lang_tree.specs.declared.block.Statement.{Statement}
use Rattle.bb_lang_tree.specs.declared.block.Statement.TheVariants as statements
use Rattle.bb_lang_tree.specs.declared.fault.LangFault.TheVariants.{Token, Nesting}
use Rattle.bb_lang_tree.specs.State.{State, Reader, next, at, skip}
use Rattle.bb_lang_tree.specs.Words.{name, member, declared}
use Rattle.bb_lang_tree.specs.Blocks.{BlockTree}
use Rattle.bb_lang_tree.specs.BlockView.{block_of}
use Rattle.bb_lang.specs.declared.actions.UnitSlot.{UnitSlot}
use Rattle.bb_lang.specs.declared.actions.UnitSpace.{UnitSpace}
use Rattle.bb_lang.specs.Repeats.{as_many, items}
use Rattle.bb_lang.specs.Expressions.{variable, expr, pattern, sequence}

-- ---- statements without blocks, up to their ";"

-- var "." NAME
unfoldable pub slot_of : Reader UnitSlot
slot_of s = do
  (unit, t) ← variable s
  u ← skip (codes ".") t
  (slot, v) ← member u
  Ok (record { unit = unit; slot = slot }, v)

-- var NAME
unfoldable pub space_of : Reader UnitSpace
space_of s = do
  (unit, t) ← variable s
  (space, u) ← name t
  Ok (record { unit = unit; space = space }, u)

-- "let" NAME "=" expr
unfoldable pub let_of : (nesting : ℕ) → Reader Action
let_of nesting s = do
  t ← next s
  (x, u) ← declared t
  v ← skip (codes "=") u
  (e, w) ← expr nesting v
  Ok (actions.Let x e, w)

-- NAME "=" expr
unfoldable pub assign_of : (nesting : ℕ) → Reader Action
assign_of nesting s = do
  (x, t) ← name s
  u ← skip (codes "=") t
  (e, v) ← expr nesting u
  Ok (actions.Assign x e, v)

-- "new" NAME ":" NAME
unfoldable pub new_of : Reader Action
new_of s = do
  t ← next s
  (x, u) ← declared t
  v ← skip (codes ":") u
  (class, w) ← name v
  Ok (actions.New x class, w)

-- "set" var "." NAME "=" expr
unfoldable pub set_of : (nesting : ℕ) → Reader Action
set_of nesting s = do
  t ← next s
  (of, u) ← slot_of t
  v ← skip (codes "=") u
  (e, w) ← expr nesting v
  Ok (actions.Set of.unit of.slot e, w)

-- "link" var "." NAME var
unfoldable pub link_of : Reader Action
link_of s = do
  t ← next s
  (of, u) ← slot_of t
  (other, v) ← variable u
  Ok (actions.Link of.unit of.slot other, v)

-- "unlink" var "." NAME var
unfoldable pub unlink_of : Reader Action
unlink_of s = do
  t ← next s
  (of, u) ← slot_of t
  (other, v) ← variable u
  Ok (actions.Unlink of.unit of.slot other, v)

-- "enter" var NAME
unfoldable pub enter_of : Reader Action
enter_of s = do
  t ← next s
  (of, u) ← space_of t
  Ok (actions.Enter of.unit of.space, u)

-- "leave" var NAME
unfoldable pub leave_of : Reader Action
leave_of s = do
  t ← next s
  (of, u) ← space_of t
  Ok (actions.Leave of.unit of.space, u)

-- "delete" var
unfoldable pub delete_of : Reader Action
delete_of s = do
  t ← next s
  (unit, u) ← variable t
  Ok (actions.Delete unit, u)

-- "say" [ expr { "," expr } ]
unfoldable pub say_of : (nesting : ℕ) → Reader Action
say_of nesting s = do
  t ← next s
  (es, u) ← items (codes ";") (expr nesting) t
  Ok (actions.Say es, u)

-- "rate" expr
unfoldable pub rate_of : (nesting : ℕ) → Reader Action
rate_of nesting s = do
  t ← next s
  (e, u) ← expr nesting t
  Ok (actions.Rate e, u)

-- "decline"
unfoldable pub decline_of : Reader Action
decline_of s = do
  t ← next s
  Ok (actions.Decline, t)

-- "answer" expr
unfoldable pub answer_of : (nesting : ℕ) → Reader Action
answer_of nesting s = do
  t ← next s
  (e, u) ← expr nesting t
  Ok (actions.Answer e, u)

-- a statement that changes a unit or a name
unfoldable pub change_of : (nesting : ℕ) → Reader Action
change_of nesting s =
    if at (codes "set") s then set_of nesting s
    else if at (codes "link") s then link_of s
    else if at (codes "unlink") s then unlink_of s
    else if at (codes "enter") s then enter_of s
    else if at (codes "leave") s then leave_of s
    else if at (codes "delete") s then delete_of s
    else assign_of nesting s

unfoldable pub action_of : (nesting : ℕ) → Reader Action
action_of nesting s =
    if at (codes "let") s then let_of nesting s
    else if at (codes "new") s then new_of s
    else if at (codes "say") s then say_of nesting s
    else if at (codes "rate") s then rate_of nesting s
    else if at (codes "decline") s then decline_of s
    else if at (codes "answer") s then answer_of nesting s
    else change_of nesting s

-- a statement without blocks
unfoldable pub plain : (nesting : ℕ) → Reader Statement
plain nesting s = do
  (a, t) ← action_of nesting s
  u ← skip (codes ";") t
  Ok (statements.Action a, u)

-- ---- statements with blocks, which `block` reads

-- the state after, with the names that were in scope before: names declared since then are removed
abbrev pub leave_scope : (before after : State) → State
leave_scope s t = record t { scope = take (length s.scope) t.scope }

-- [ "else" block ]
unfoldable pub otherwise_in : Reader BlockTree → Reader (Option BlockTree)
otherwise_in block s =
    if at (codes "else") s
    then (do
      t ← next s
      (b, u) ← block t
      Ok (Some b, u))
    else Ok (None, s)

-- "if" expr block [ "else" block ]
unfoldable pub if_in : (nesting : ℕ) → Reader BlockTree → Reader Statement
if_in nesting block s = do
  t ← next s
  (test, u) ← expr nesting t
  (b, v) ← block u
  (other, w) ← otherwise_in block v
  Ok (statements.If test (record { then = b; otherwise = other }), w)

-- "as" NAME | "." NAME
unfoldable pub bound : (name : List ℕ) → Variable → Reader Binding
bound x unit s =
    if at (codes "as") s
    then (do
      t ← next s
      (class, u) ← name t
      Ok (As x unit class, u))
    else (do
      t ← skip (codes ".") s
      (slot, u) ← member t
      Ok (Linked x unit slot, u))

-- NAME "=" var ( "as" NAME | "." NAME )
unfoldable pub binding : Reader Binding
binding s = do
  (x, t) ← declared s
  u ← skip (codes "=") t
  (unit, v) ← variable u
  bound x unit v

-- "with" NAME "=" var ( "as" NAME | "." NAME ) block [ "else" block ]: the name is in scope in the first block only
unfoldable pub with_in : Reader BlockTree → Reader Statement
with_in block s = do
  t ← next s
  (found, u) ← binding t
  (b, v) ← block u
  (other, w) ← otherwise_in block (leave_scope s v)
  Ok (statements.With found (record { then = b; otherwise = other }), w)

-- "for" NAME "in" seq block
unfoldable pub for_in : (nesting : ℕ) → Reader BlockTree → Reader Statement
for_in nesting block s = do
  t ← next s
  (x, u) ← declared t
  v ← skip (codes "in") u
  (q, w) ← sequence (pattern nesting) v
  (b, y) ← block w
  Ok (statements.For (record { name = x; sequence = q; body = b }), leave_scope s y)

-- stmt
unfoldable pub statement_in : (nesting : ℕ) → Reader BlockTree → Reader Statement
statement_in nesting block s =
    if at (codes "if") s then if_in nesting block s
    else if at (codes "with") s then with_in block s
    else if at (codes "for") s then for_in nesting block s
    else plain nesting s

-- another statement, with its place, unless "}" follows
unfoldable pub next_statement : (nesting : ℕ) → Reader BlockTree → Reader (Option Placed)
next_statement nesting block s =
    if at (codes "}") s then Ok (None, s)
    else (do
      (one, t) ← statement_in nesting block s
      Ok (Some (record { place = s.place; statement = one }), t))

-- ---- blocks

-- block = "{" { stmt } "}", if `nesting` more brackets may be opened
unfoldable pub block : (nesting : ℕ) → Reader BlockTree
block zero s = if at (codes "{") s then Err (Nesting s.place) else Err (Token s.place)
block (suc nesting) s = do
  t ← skip (codes "{") s
  (ss, u) ← as_many (next_statement nesting (block nesting)) t
  v ← skip (codes "}") u
  Ok (block_of ss, leave_scope s v)
