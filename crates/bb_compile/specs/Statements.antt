-- Statements and blocks.
use Rattle.std.specs.Prelude.{ℕ, Bool, false, ◌==◌, ◌-◌, ◌&&◌, ◌||◌, List, length, Option, Some, None, Result, Ok, Err, if◌then◌else◌}
use Rattle.bb_basis.specs.Results.{◌>>=◌, ok_or}
use Rattle.bb_code.specs.declared.parts.TheConstants.{STACK_LIMIT}
use Rattle.bb_verify_effect.specs.declared.part.Part.{Part}
use Rattle.bb_code.specs.declared.frame.Kind.{Kind}
use Rattle.bb_code.specs.declared.frame.Kind.TheVariants.{Bool as Truth, Ref, Seq}
use Rattle.bb_code.specs.declared.op.Op.TheVariants.{Unless, Store, Jump, Next, Back}
use Rattle.bb_schema.specs.Schema.{Schema}
use Rattle.bb_lang.specs.Action.{Action}
use Rattle.bb_lang.specs.Binding.{Binding}
use Rattle.bb_lang.specs.Placed.{Placed}
use Rattle.bb_lang.specs.Sequence.{Sequence}
use Rattle.bb_lang.specs.Trees.{ExprTree}
use Rattle.bb_lang.specs.View.{sequence_of}
use Rattle.bb_lang.specs.BlockView.{statement_of}
use Rattle.bb_lang.specs.Blocks.{BlockTree, StatementTree, OtherwiseTree, no_statement, before_others, action, if_of, with_of, for_of, absent, otherwise}
use Rattle.bb_compile_scope.specs.Place.{Place}
use Rattle.bb_compile_scope.specs.declared.fault.TextFlaw.TheVariants.{Unknown, NoEnd, Limit}
use Rattle.bb_compile_scope.specs.declared.fault.CompileFault.{CompileFault}
use Rattle.bb_compile_scope.specs.declared.fault.CompileFault.TheVariants.{At}
use Rattle.bb_compile_scope.specs.declared.scope.Mark.{Mark}
use Rattle.bb_compile_scope.specs.Scope.{mark_of}
use Rattle.bb_compile_scope.specs.Ending.{ends}
use Rattle.bb_compile_scope.specs.Killed.{killed_under}
use Rattle.bb_compile.specs.declared.exits.Exits.{Exits}
use Rattle.bb_compile.specs.declared.branches.Branch.{Branch}
use Rattle.bb_compile.specs.declared.looping.Begun.{Begun}
use Rattle.bb_compile_buffer.specs.declared.buffer.Buffer.{Buffer}
use Rattle.bb_compile_buffer.specs.Buffers.{Step, Change, noted, due, settled, put, aim, begun_loop, ended_at, labelled, with_kinds, leave, take_local, declare, met}
use Rattle.bb_compile.specs.Expressions.{expr_code, sequence_code}
use Rattle.bb_compile.specs.Actions.{action_code}
use Rattle.bb_compile.specs.Bindings.{one_exit, exits_aimed, binding_code}

-- ---- the heads of statements with blocks

-- the test of an `if`
unfoldable pub if_code : Schema → ExprTree → Place → Step Exits
if_code schema test place s = do
  (kind, t) ← expr_code schema STACK_LIMIT test s
  u ← put (Unless 0) (due kind Truth t)
  right ← settled place u
  Ok (one_exit (length t.ops), u)

-- the test of a `with`
unfoldable pub with_code : Schema → Binding → Place → Step Exits
with_code schema binding place s = do
  (found, t) ← binding_code schema binding s
  right ← settled place t
  exits ← ok_or found (At Unknown place)
  Ok (exits, t)

-- one loop too many in each other is a flaw
abbrev pub loop_noted : (loops : ℕ) → Buffer → Buffer
loop_noted loops s = if loops == 0 then noted Limit s else s

-- the sequence of a `for`: the class of its units, and the local that holds it
unfoldable pub for_code : Schema → Sequence → Place → (loops : ℕ) → Step (ℕ × ℕ)
for_code schema sequence place loops s = do
  (found, t) ← sequence_code schema STACK_LIMIT (sequence_of sequence) s
  right ← settled place (loop_noted loops t)
  class ← ok_or found (At Unknown place)
  (local, u) ← take_local (Seq class) (loop_noted loops t)
  v ← put (Store local) u
  Ok ((class, local), v)

-- ---- branches

-- a jump over the block of `else`
abbrev pub jumped : Branch → Change
jumped branch s = if branch.ended then Ok s else put (Jump 0) s

-- after a first block: the block of `else` begins, and the result is the place of the jump over it
unfoldable pub else_begun : Branch → Step ℕ
else_begun branch s = do
  t ← jumped branch s
  Ok (length s.ops, labelled (with_kinds branch.before.kinds (exits_aimed branch.exits t)))

-- after both blocks; the first leaves the kinds given
unfoldable pub else_ended : Branch → (jump : ℕ) → List Kind → (ended : Bool) → Buffer → Buffer
else_ended branch jump kinds ended s =
    if branch.ended then met ended kinds branch.ended s
    else labelled (aim jump (met ended kinds branch.ended s))

-- after the block, without `else`
unfoldable pub if_ended : Branch → Buffer → Buffer
if_ended branch s = labelled (met branch.ended branch.before.kinds false (exits_aimed branch.exits s))

-- ---- loops

-- the head of a loop, and the name for its units
unfoldable pub loop_begun : Schema → (name : List ℕ) → (class local : ℕ) → BlockTree → Step Begun
loop_begun schema name class local body s = do
  (index, t) ← begun_loop (labelled (record s { scope = killed_under schema s.scope name (Some class) body }))
  u ← put (Next local 0) t
  v ← declare name (Ref class) u
  Ok (record { index = index; head = length t.ops; start = mark_of t.scope }, v)

-- at the end of a loop's body the locals hold what they hold at its start
abbrev pub at_back : Begun → (ended : Bool) → Buffer → Buffer
at_back begun ended s =
    let t = with_kinds begun.start.kinds (leave begun.start s) in
    if ended then labelled t else t

abbrev pub loop_closed : Begun → Buffer → Buffer
loop_closed begun s = record (aim begun.head s) { loops = ended_at begun.index (length (aim begun.head s).ops) s.loops }

-- the end of a loop
unfoldable pub loop_ended : Begun → (ended : Bool) → Change
loop_ended begun ended s = do
  t ← put (Back begun.head) (at_back begun ended s)
  Ok (loop_closed begun t)

-- ---- statements and blocks, in which `loops` loops may be nested; each returns whether it always ends

-- the names declared in a block are removed at its end
abbrev pub left : Mark → Bool × Buffer → Result (Bool × Buffer) CompileFault
left mark r = Ok (r.0, leave mark r.1)

-- another statement after one that ends is a flaw
abbrev pub after_end : (ended : Bool) → Buffer → Buffer
after_end ended s = if ended then noted NoEnd s else s

-- a statement without blocks
abbrev pub action_of : Schema → Part → Place → Action → Step Bool
action_of schema part place a s = do
  t ← action_code schema part a s
  right ← settled place t
  Ok (ends a, t)

unfoldable mutual
  pub statement_code : Schema → Part → (loops : ℕ) → Place → StatementTree → Step Bool
  statement_code schema part loops place (action a) s = action_of schema part place a s
  statement_code schema part loops place (if_of test first other) s = do
    (exits, t) ← if_code schema test place s
    (ended, u) ← (statements_code schema part loops false first t >>= left (mark_of t.scope))
    otherwise_code schema part loops (record { before = mark_of t.scope; exits = exits; ended = ended }) other (leave (mark_of t.scope) u)
  statement_code schema part loops place (with_of binding first other) s = do
    (exits, t) ← with_code schema binding place s
    (ended, u) ← (statements_code schema part loops false first t >>= left (mark_of t.scope))
    otherwise_code schema part loops (record { before = mark_of s.scope; exits = exits; ended = ended }) other (leave (mark_of s.scope) u)
  statement_code schema part loops place (for_of name sequence body) s = do
    (over, t) ← for_code schema sequence place loops s
    (begun, u) ← loop_begun schema name over.0 over.1 body t
    (ended, v) ← (statements_code schema part (loops - 1) false body u >>= left (mark_of u.scope))
    w ← loop_ended begun ended v
    Ok (false, labelled (leave (mark_of s.scope) w))

  -- what comes after the first block of an `if` or a `with`
  pub otherwise_code : Schema → Part → (loops : ℕ) → Branch → OtherwiseTree → Step Bool
  otherwise_code schema part loops branch absent s = Ok (false, if_ended branch s)
  otherwise_code schema part loops branch (otherwise b) s = do
    (jump, t) ← else_begun branch s
    (ended, u) ← (statements_code schema part loops false b t >>= left (mark_of t.scope))
    Ok (branch.ended && ended, else_ended branch jump s.scope.kinds ended u)

  -- the statements of a block; `ended` tells whether one before them ends
  pub statements_code : Schema → Part → (loops : ℕ) → (ended : Bool) → BlockTree → Step Bool
  statements_code schema part loops ended no_statement s = Ok (ended, s)
  statements_code schema part loops ended (before_others place statement others) s = do
    (now, t) ← statement_code schema part loops place statement (after_end ended s)
    statements_code schema part loops (ended || now) others t

-- a statement of a block
abbrev pub placed_code : Schema → Part → (loops : ℕ) → (ended : Bool) → Placed → Step Bool
placed_code schema part loops ended p s = do
  (now, t) ← statement_code schema part loops p.place (statement_of p.statement) (after_end ended s)
  Ok (ended || now, t)

-- a block
abbrev pub block_code : Schema → Part → (loops : ℕ) → BlockTree → Step Bool
block_code schema part loops b s = statements_code schema part loops false b s >>= left (mark_of s.scope)

-- the blocks of an `if` or a `with`, after its test
abbrev pub branches_code : Schema → Part → (loops : ℕ) → Mark → Exits → BlockTree → OtherwiseTree → Step Bool
branches_code schema part loops before exits first other s = do
  (ended, u) ← block_code schema part loops first s
  otherwise_code schema part loops (record { before = before; exits = exits; ended = ended }) other (leave before u)
