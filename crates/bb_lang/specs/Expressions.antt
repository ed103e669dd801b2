-- Expressions, sequences and patterns: one definition for each production.
use Rattle.std.specs.Prelude.{ℕ, zero, suc, true, false, ◌||◌, List, [], ◌∷◌, Option, Some, None, Result, Ok, Err, codes, if◌then◌else◌}
use Rattle.bb_basis.specs.Results.{◌>>=◌, ok_or}
use Rattle.bb_lang_tree.specs.declared.atom.Atom.{Atom}
use Rattle.bb_lang_tree.specs.declared.atom.Atom.TheVariants as atoms
use Rattle.bb_lang_tree.specs.declared.atom.Variable.{Variable}
use Rattle.bb_lang_tree.specs.declared.atom.Variable.TheVariants.{It, Ev, Named}
use Rattle.bb_lang_tree.specs.declared.atom.Unary.{Unary}
use Rattle.bb_lang_tree.specs.declared.atom.Unary.TheVariants as unaries
use Rattle.bb_lang_tree.specs.declared.atom.Binary.{Binary}
use Rattle.bb_lang_tree.specs.declared.atom.Binary.TheVariants as binaries
use Rattle.bb_lang_tree.specs.declared.atom.Operator.{Operator}
use Rattle.bb_lang_tree.specs.declared.atom.Operator.TheVariants as operators
use Rattle.bb_lang_tree.specs.declared.atom.Division.{Division}
use Rattle.bb_lang_tree.specs.declared.atom.Division.TheVariants.{Quotient, Remainder}
use Rattle.bb_lang_tree.specs.declared.atom.Relation.{Relation}
use Rattle.bb_lang_tree.specs.declared.atom.Relation.TheVariants as relations
use Rattle.bb_lang.specs.declared.level.Level.{Level}
use Rattle.bb_lang.specs.declared.level.Level.TheVariants as levels
use Rattle.bb_lang_tree.specs.declared.fault.LangFault.{LangFault}
use Rattle.bb_lang_tree.specs.declared.fault.LangFault.TheVariants.{Token, Nesting}
use Rattle.bb_lang_tree.specs.declared.tree.Step.{Step}
use Rattle.bb_lang_tree.specs.declared.tree.Step.TheVariants.{Apply, Divide}
use Rattle.bb_lang_tree.specs.declared.tree.Sequence.{Sequence}
use Rattle.bb_lang_tree.specs.declared.tree.Sequence.TheVariants.{Find, Links}
use Rattle.bb_lang_tree.specs.State.{State, Reader, next, at, skip}
use Rattle.bb_lang_tree.specs.Tokens.{is_int, is_text}
use Rattle.bb_lang_tree.specs.Words.{name_at, name, member}
use Rattle.bb_lang_tree.specs.Literals.{int, divisor, text}
use Rattle.bb_lang_tree.specs.Trees.{ExprTree, PatternTree, atom, unary, binary, chain, size_of, all, and_of, or_of, not_of, test}
use Rattle.bb_lang_tree.specs.View.{steps_of, sequence_of, patterns_of}
use Rattle.bb_lang.specs.Repeats.{as_many, items}

-- the readers of the contents of one more bracket
pub record Inner : Type 0 where
  pub expr : Reader ExprTree
  pub pattern : Reader PatternTree

-- an opening bracket, which gives the readers of its contents; a fault if no more brackets may be opened
unfoldable pub opened : (bracket : List ℕ) → Option Inner → Reader Inner
opened bracket inside s = do
  inner ← if at bracket s then ok_or inside (Nesting s.place) else Err (Token s.place)
  t ← next s
  Ok (inner, t)

-- ---- expressions without parts

-- var = NAME | "it" | "ev"
unfoldable pub variable_at : State → Result Variable LangFault
variable_at s =
    if at (codes "it") s then Ok It
    else if at (codes "ev") s then Ok Ev
    else (do
      word ← name_at s
      Ok (Named word))

unfoldable pub variable : Reader Variable
variable s = do
  v ← variable_at s
  t ← next s
  Ok (v, t)

-- NAME ":" NAME, or a name alone; `it` and `ev` are not label sets
unfoldable pub label_or_variable : Variable → Reader Atom
label_or_variable (Named set) s =
    if at (codes ":") s
    then (do
      t ← next s
      (label, u) ← name t
      Ok (atoms.Label set label, u))
    else Ok (atoms.Variable (Named set), s)
label_or_variable It s = Ok (atoms.Variable It, s)
label_or_variable Ev s = Ok (atoms.Variable Ev, s)

-- NAME ":" NAME | var "." NAME | var
unfoldable pub named : Reader Atom
named s = do
  (v, t) ← variable s
  if at (codes ".") t
      then (do
        u ← next t
        (slot, w) ← member u
        Ok (atoms.Slot v slot, w))
      else label_or_variable v t

-- int | TEXT | "true" | "false" | an atom that begins with a name
unfoldable pub atom_of : Reader Atom
atom_of s =
    if is_int s.kind || at (codes "-") s then (do
      (n, t) ← int s
      Ok (atoms.Int n, t))
    else if is_text s.kind then (do
      (bytes, t) ← text s
      Ok (atoms.Text bytes, t))
    else if at (codes "true") s then (do
      t ← next s
      Ok (atoms.Bool true, t))
    else if at (codes "false") s then (do
      t ← next s
      Ok (atoms.Bool false, t))
    else named s

-- ---- operators

-- "not", "low" and "high" take one operand, "min" and "max" two
unfoldable pub unary_at : State → Option Unary
unary_at s =
    if at (codes "not") s then Some unaries.Not
    else if at (codes "low") s then Some unaries.Low
    else if at (codes "high") s then Some unaries.High
    else None

unfoldable pub binary_at : State → Option Binary
binary_at s =
    if at (codes "min") s then Some binaries.Min
    else if at (codes "max") s then Some binaries.Max
    else None

-- "<" | "<=" | "="
unfoldable pub comparison_at : State → Option Binary
comparison_at s =
    if at (codes "<") s then Some binaries.Less
    else if at (codes "<=") s then Some binaries.AtMost
    else if at (codes "=") s then Some binaries.Equal
    else None

-- the operators of each level
unfoldable pub operator_at : Level → State → Option Operator
operator_at levels.Or s = if at (codes "or") s then Some operators.Or else None
operator_at levels.And s = if at (codes "and") s then Some operators.And else None
operator_at levels.Sum s =
    if at (codes "+") s then Some operators.Plus
    else if at (codes "-") s then Some operators.Minus
    else None
operator_at levels.Term s = if at (codes "*") s then Some operators.Times else None

-- "/" and "%" are operators of terms only
unfoldable pub division_at : Level → State → Option Division
division_at levels.Or s = None
division_at levels.And s = None
division_at levels.Sum s = None
division_at levels.Term s =
    if at (codes "/") s then Some Quotient
    else if at (codes "%") s then Some Remainder
    else None

-- ---- chains

-- a division by INT; an operator with its operand; or no step
unfoldable pub step_by : Option Division → Option Operator → Reader ExprTree → Reader (Option Step)
step_by (Some division) operator operand s = do
  t ← next s
  (n, u) ← divisor t
  Ok (Some (Divide division n), u)
step_by None (Some operator) operand s = do
  t ← next s
  (e, u) ← operand t
  Ok (Some (Apply operator e), u)
step_by None None operand s = Ok (None, s)

-- the next step of a chain, if one follows
unfoldable pub step : Level → Reader ExprTree → Reader (Option Step)
step level operand s = step_by (division_at level s) (operator_at level s) operand s

-- a chain of an operand and steps; without steps, the operand alone
abbrev pub chained : ExprTree → List Step → ExprTree
chained first [] = first
chained first (one ∷ steps) = chain first (steps_of (one ∷ steps))

-- operands with the operators of a level between them
unfoldable pub chain_of : Level → Reader ExprTree → Reader ExprTree
chain_of level operand s = do
  (first, t) ← operand s
  (steps, u) ← as_many (step level operand) t
  Ok (chained first steps, u)

-- ---- sequences

-- [ "where" pat ]
unfoldable pub condition : Reader PatternTree → Reader PatternTree
condition pattern s =
    if at (codes "where") s then (do
      t ← next s
      pattern t)
    else Ok (all, s)

-- seq = "find" NAME "in" NAME [ "where" pat ] | var "." NAME
unfoldable pub found_in : Reader PatternTree → Reader Sequence
found_in pattern s = do
  t ← skip (codes "find") s
  (class, u) ← name t
  v ← skip (codes "in") u
  (space, w) ← name v
  (p, x) ← condition pattern w
  Ok (Find class space p, x)

unfoldable pub linked_to : Reader Sequence
linked_to s = do
  (unit, t) ← variable s
  u ← skip (codes ".") t
  (slot, v) ← member u
  Ok (Links unit slot, v)

unfoldable pub sequence : Reader PatternTree → Reader Sequence
sequence pattern s = if at (codes "find") s then found_in pattern s else linked_to s

-- ---- expressions

-- "(" expr ")"
unfoldable pub grouped : Option Inner → Reader ExprTree
grouped inside s = do
  (inner, t) ← opened (codes "(") inside s
  (e, u) ← inner.expr t
  v ← skip (codes ")") u
  Ok (e, v)

-- an opening bracket, expr "," expr, and a closing bracket
unfoldable pub pair_of : Binary → (opening closing : List ℕ) → Option Inner → Reader ExprTree
pair_of operation opening closing inside s = do
  (inner, t) ← opened opening inside s
  (l, u) ← inner.expr t
  v ← skip (codes ",") u
  (r, w) ← inner.expr v
  x ← skip closing w
  Ok (binary operation l r, x)

-- "[" expr "," expr "]"
unfoldable pub interval : Option Inner → Reader ExprTree
interval inside s = pair_of binaries.Interval (codes "[") (codes "]") inside s

-- "size" "(" seq ")"
unfoldable pub sized : Option Inner → Reader ExprTree
sized inside s = do
  t ← next s
  (inner, u) ← opened (codes "(") inside t
  (q, v) ← sequence inner.pattern u
  w ← skip (codes ")") v
  Ok (size_of (sequence_of q), w)

-- ( "not" | "low" | "high" ) "(" expr ")" | ( "min" | "max" ) "(" expr "," expr ")" | an expression without parts
unfoldable pub applied : Option Unary → Option Binary → Option Inner → Reader ExprTree
applied (Some operation) two inside s = do
  t ← next s
  (e, u) ← grouped inside t
  Ok (unary operation e, u)
applied None (Some operation) inside s = do
  t ← next s
  pair_of operation (codes "(") (codes ")") inside t
applied None None inside s = do
  (a, t) ← atom_of s
  Ok (atom a, t)

-- fact
unfoldable pub factor : Option Inner → Reader ExprTree
factor inside s =
    if at (codes "(") s then grouped inside s
    else if at (codes "[") s then interval inside s
    else if at (codes "size") s then sized inside s
    else applied (unary_at s) (binary_at s) inside s

-- term = fact { "*" fact | ( "/" | "%" ) INT }
unfoldable pub term : Option Inner → Reader ExprTree
term inside = chain_of levels.Term (factor inside)

-- sum = term { ( "+" | "-" ) term }
unfoldable pub sum : Option Inner → Reader ExprTree
sum inside = chain_of levels.Sum (term inside)

unfoldable pub compared : Option Binary → ExprTree → Reader ExprTree → Reader ExprTree
compared (Some operation) l operand s = do
  t ← next s
  (r, u) ← operand t
  Ok (binary operation l r, u)
compared None l operand s = Ok (l, s)

-- cmp = sum [ ( "<" | "<=" | "=" ) sum ]
unfoldable pub comparison : Option Inner → Reader ExprTree
comparison inside s = do
  (l, t) ← sum inside s
  compared (comparison_at t) l (sum inside) t

-- conj = cmp { "and" cmp }
unfoldable pub conjunction : Option Inner → Reader ExprTree
conjunction inside = chain_of levels.And (comparison inside)

-- expr = conj { "or" conj }
unfoldable pub expr_in : Option Inner → Reader ExprTree
expr_in inside = chain_of levels.Or (conjunction inside)

-- ---- patterns

-- op = "within" | "covers" | "overlaps" | "less" | "more" | "is"
unfoldable pub relation_at : State → Option Relation
relation_at s =
    if at (codes "within") s then Some relations.Within
    else if at (codes "covers") s then Some relations.Covers
    else if at (codes "overlaps") s then Some relations.Overlaps
    else if at (codes "less") s then Some relations.Less
    else if at (codes "more") s then Some relations.More
    else if at (codes "is") s then Some relations.Is
    else None

-- NAME op expr
unfoldable pub tested : Reader ExprTree → Reader PatternTree
tested expr s = do
  (dimension, t) ← name s
  relation ← ok_or (relation_at t) (Token t.place)
  u ← next t
  (operand, v) ← expr u
  Ok (test dimension relation operand, v)

-- "(" [ pat { "," pat } ] ")"
unfoldable pub parts : Option Inner → Reader (List PatternTree)
parts inside s = do
  (inner, t) ← opened (codes "(") inside s
  (ps, u) ← items (codes ")") inner.pattern t
  v ← skip (codes ")") u
  Ok (ps, v)

-- "(" pat ")"
unfoldable pub part : Option Inner → Reader PatternTree
part inside s = do
  (inner, t) ← opened (codes "(") inside s
  (p, u) ← inner.pattern t
  v ← skip (codes ")") u
  Ok (p, v)

-- pat = "all" | ( "and" | "or" ) "(" [ pat { "," pat } ] ")" | "not" "(" pat ")" | NAME op expr
unfoldable pub pattern_in : Option Inner → Reader PatternTree
pattern_in inside s =
    if at (codes "all") s then (do
      t ← next s
      Ok (all, t))
    else if at (codes "and") s then (do
      t ← next s
      (ps, u) ← parts inside t
      Ok (and_of (patterns_of ps), u))
    else if at (codes "or") s then (do
      t ← next s
      (ps, u) ← parts inside t
      Ok (or_of (patterns_of ps), u))
    else if at (codes "not") s then (do
      t ← next s
      (p, u) ← part inside t
      Ok (not_of p, u))
    else tested (expr_in inside) s

-- ---- brackets

-- the readers of the contents of another bracket, if `nesting` more brackets may be opened
unfoldable pub inside : (nesting : ℕ) → Option Inner
inside zero = None
inside (suc nesting) = Some (record { expr = expr_in (inside nesting); pattern = pattern_in (inside nesting) })

-- an expression, a pattern, and the contents of a bracket, if `nesting` more brackets may be opened
abbrev pub expr : (nesting : ℕ) → Reader ExprTree
expr nesting = expr_in (inside nesting)

abbrev pub pattern : (nesting : ℕ) → Reader PatternTree
pattern nesting = pattern_in (inside nesting)

abbrev pub inner_of : (nesting : ℕ) → Inner
inner_of nesting = record { expr = expr nesting; pattern = pattern nesting }

-- the operands of a level, and its chains
abbrev pub operand_of : Level → Option Inner → Reader ExprTree
operand_of levels.Or i = conjunction i
operand_of levels.And i = comparison i
operand_of levels.Sum i = term i
operand_of levels.Term i = factor i

abbrev pub chain_at : Level → Option Inner → Reader ExprTree
chain_at levels.Or i = expr_in i
chain_at levels.And i = conjunction i
chain_at levels.Sum i = sum i
chain_at levels.Term i = term i
