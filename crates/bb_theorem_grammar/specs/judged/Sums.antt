-- How much code a text needs: ops, texts, queries and loops, as sums over its tree. And whether there is room for each
-- name that it declares.
use Rattle.std.specs.Prelude.{ℕ, ◌+◌, nat_le, Bool, true, ◌&&◌, List, [], ◌∷◌, ◌++◌, length, Option, Some, is_ok, if◌then◌else◌}
use Rattle.std.specs.List.{list_any}
use Rattle.std.specs.Str.{bytes_eq}
use Rattle.bb_code.specs.declared.frame.Kind.{Kind}
use Rattle.bb_verify_effect.specs.Part.{ends_done}
use Rattle.bb_schema.specs.Schema.{Schema, class_named}
use Rattle.bb_verify_effect.specs.declared.part.Part.{Part}
use Rattle.bb_lang.specs.Action.{Action}
use Rattle.bb_lang.specs.Action.TheVariants as actions
use Rattle.bb_lang.specs.Atom.{Atom}
use Rattle.bb_lang.specs.Atom.TheVariants as atoms
use Rattle.bb_lang.specs.Binding.{Binding}
use Rattle.bb_lang.specs.Binding.TheVariants as bindings
use Rattle.bb_lang.specs.Blocks.{BlockTree, StatementTree, OtherwiseTree, no_statement, before_others, action, if_of, with_of, for_of, absent, otherwise}
use Rattle.bb_lang.specs.Trees.{ExprTree, Steps, SequenceTree, PatternTree, Patterns, atom, unary, binary, chain, size_of, no_step, apply, divide, found, linked, all, and_of, or_of, not_of, test, no_pattern, more}
use Rattle.bb_lang.specs.View.{sequence_of}
use Rattle.bb_compile_scope.specs.Ending.{block_ends}
use Rattle.bb_compile_scope.specs.Kinds.{class_of, is_live}
use Rattle.bb_compile.specs.Bindings.{is_class}
use Rattle.bb_theorem_grammar.specs.judged.Names.{Names, kind_of, begin_with}
use Rattle.bb_theorem_grammar.specs.judged.Statements.{bound, looped, in_loop, after_statement}

-- the texts are those of the tree, in its order
pub record Sums : Type 0 where
  pub ops : ℕ
  pub texts : List (List ℕ)
  pub queries : ℕ
  pub loops : ℕ

abbrev pub plus : Sums → Sums → Sums
plus a b = record {
  ops = a.ops + b.ops;
  texts = a.texts ++ b.texts;
  queries = a.queries + b.queries;
  loops = a.loops + b.loops;
}

abbrev pub nothing : Sums
nothing = record { ops = 0; texts = []; queries = 0; loops = 0 }

-- n ops, and nothing else
abbrev pub ops : ℕ → Sums
ops n = record { ops = n; texts = []; queries = 0; loops = 0 }

abbrev pub one_text : (text : List ℕ) → Sums
one_text text = record { ops = 0; texts = text ∷ []; queries = 0; loops = 0 }

abbrev pub one_query : Sums
one_query = record { ops = 0; texts = []; queries = 1; loops = 0 }

abbrev pub one_loop : Sums
one_loop = record { ops = 0; texts = []; queries = 0; loops = 1 }

-- ---- expressions, sequences and patterns

abbrev pub atom_sums : Atom → Sums
atom_sums (atoms.Text text) = plus (one_text text) (ops 1)
atom_sums (atoms.Slot unit slot) = plus (ops 1) (ops 1)
atom_sums _ = ops 1

unfoldable mutual
  pub expr_sums : ExprTree → Sums
  expr_sums (atom a) = atom_sums a
  expr_sums (unary operation e) = plus (expr_sums e) (ops 1)
  expr_sums (binary operation l r) = plus (expr_sums l) (plus (expr_sums r) (ops 1))
  expr_sums (chain first steps) = plus (expr_sums first) (steps_sums steps)
  expr_sums (size_of sequence) = plus (sequence_sums sequence) (ops 1)

  pub steps_sums : Steps → Sums
  steps_sums no_step = nothing
  steps_sums (apply operator e steps) = plus (expr_sums e) (plus (ops 1) (steps_sums steps))
  steps_sums (divide division divisor steps) = plus (ops 1) (steps_sums steps)

  pub sequence_sums : SequenceTree → Sums
  sequence_sums (linked unit slot) = plus (ops 1) (ops 1)
  sequence_sums (found class space p) = plus (pattern_sums p) (plus one_query (ops 1))

  pub pattern_sums : PatternTree → Sums
  pattern_sums all = nothing
  pattern_sums (and_of ps) = patterns_sums ps
  pattern_sums (or_of ps) = patterns_sums ps
  pattern_sums (not_of p) = pattern_sums p
  pattern_sums (test dim relation e) = expr_sums e

  pub patterns_sums : Patterns → Sums
  patterns_sums no_pattern = nothing
  patterns_sums (more p ps) = plus (pattern_sums p) (patterns_sums ps)

-- ---- statements

abbrev pub values_sums : List ExprTree → Sums
values_sums [] = nothing
values_sums (e ∷ es) = plus (expr_sums e) (values_sums es)

unfoldable pub action_sums : Action → Sums
action_sums (actions.Let name value) = plus (expr_sums value) (ops 1)
action_sums (actions.Assign name value) = plus (expr_sums value) (ops 1)
action_sums (actions.New name class) = plus (ops 1) (ops 1)
action_sums (actions.Set unit slot value) = plus (ops 1) (plus (expr_sums value) (ops 1))
action_sums (actions.Link unit slot other) = plus (ops 1) (plus (ops 1) (ops 1))
action_sums (actions.Unlink unit slot other) = plus (ops 1) (plus (ops 1) (ops 1))
action_sums (actions.Enter unit space) = plus (ops 1) (ops 1)
action_sums (actions.Leave unit space) = plus (ops 1) (ops 1)
action_sums (actions.Delete unit) = plus (ops 1) (ops 1)
action_sums (actions.Say values) = plus (values_sums values) (ops 1)
action_sums (actions.Rate value) = plus (expr_sums value) (ops 1)
action_sums actions.Decline = ops 1
action_sums (actions.Answer value) = plus (expr_sums value) (ops 1)

-- the tests of a `with`: for a live unit, of its class; for one that may be deleted, whether it is live, and of its
-- class, unless that is known
abbrev pub test_count : (held : Option Kind) → (class : Option ℕ) → ℕ
test_count (Some held) (Some class) = if is_live held then 1 else (if is_class (class_of held) class then 1 else 2)
test_count _ _ = 0

-- a unit, its tests, and the name
abbrev pub binding_sums : Schema → Names → Binding → Sums
binding_sums schema names (bindings.As name unit class) =
    plus (ops 1) (plus (ops (test_count (kind_of names unit) (class_named schema class))) (ops 1))
binding_sums schema names (bindings.Linked name unit slot) = plus (ops 1) (plus (ops 1) (ops 1))

-- a loop has its sequence, a head with the name, its body and the jump back
unfoldable mutual
  pub statement_sums : Schema → Names → StatementTree → Sums
  statement_sums schema names (action a) = action_sums a
  statement_sums schema names (if_of condition first other) =
      plus (plus (expr_sums condition) (ops 1))
      (plus (statements_sums schema names first) (otherwise_sums schema names (block_ends first) other))
  statement_sums schema names (with_of binding first other) =
      plus (binding_sums schema names binding)
      (plus (statements_sums schema (bound schema names binding) first)
      (otherwise_sums schema names (block_ends first) other))
  statement_sums schema names (for_of name sequence body) =
      plus (plus (sequence_sums (sequence_of sequence)) (ops 1))
      (plus (plus one_loop (plus (ops 1) (ops 1)))
      (plus (statements_sums schema (in_loop schema names name sequence body) body) (ops 1)))

  -- a jump over the block, unless the first block has ended
  pub otherwise_sums : Schema → Names → (ended : Bool) → OtherwiseTree → Sums
  otherwise_sums schema names ended absent = nothing
  otherwise_sums schema names ended (otherwise b) = plus (ops (if ended then 0 else 1)) (statements_sums schema names b)

  pub statements_sums : Schema → Names → BlockTree → Sums
  statements_sums schema names no_statement = nothing
  statements_sums schema names (before_others place statement others) =
      plus (statement_sums schema names statement)
      (statements_sums schema (after_statement schema names statement) others)

-- ---- room for each name

abbrev pub has_room : Names → Bool
has_room names = nat_le 1 names.room

abbrev pub action_has_room : Names → Action → Bool
action_has_room names (actions.Let name value) = has_room names
action_has_room names (actions.New name class) = has_room names
action_has_room names _ = true

-- a loop needs room for its sequence too
unfoldable mutual
  pub statement_has_room : Schema → Names → StatementTree → Bool
  statement_has_room schema names (action a) = action_has_room names a
  statement_has_room schema names (if_of condition first other) =
      statements_have_room schema names first && otherwise_has_room schema names other
  statement_has_room schema names (with_of binding first other) =
      has_room names && (statements_have_room schema (bound schema names binding) first
      && otherwise_has_room schema names other)
  statement_has_room schema names (for_of name sequence body) =
      has_room names && (has_room (looped schema names name sequence body)
      && statements_have_room schema (in_loop schema names name sequence body) body)

  pub otherwise_has_room : Schema → Names → OtherwiseTree → Bool
  otherwise_has_room schema names absent = true
  otherwise_has_room schema names (otherwise b) = statements_have_room schema names b

  pub statements_have_room : Schema → Names → BlockTree → Bool
  statements_have_room schema names no_statement = true
  statements_have_room schema names (before_others place statement others) =
      statement_has_room schema names statement
      && statements_have_room schema (after_statement schema names statement) others

-- ---- a part

-- a `do` has one more op, which ends it
abbrev pub end_sums : Part → Sums
end_sums part = ops (if is_ok (ends_done part) then 1 else 0)

abbrev pub part_sums : Schema → Part → BlockTree → Sums
part_sums schema part b = plus (statements_sums schema (begin_with part) b) (end_sums part)

-- texts, each kept once, however often it occurs
abbrev pub with_text : (kept : List (List ℕ)) → (text : List ℕ) → List (List ℕ)
with_text kept text = if list_any (bytes_eq text) kept then kept else kept ++ text ∷ []

abbrev pub kept_once : (kept texts : List (List ℕ)) → List (List ℕ)
kept_once kept [] = kept
kept_once kept (text ∷ texts) = kept_once (with_text kept text) texts

-- the number of different texts
abbrev pub different : (texts : List (List ℕ)) → ℕ
different texts = length (kept_once [] texts)
