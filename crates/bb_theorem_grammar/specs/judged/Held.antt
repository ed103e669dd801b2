-- What a text can contain: 64-bit numbers, and texts in UTF-8. No text that was read contains anything else.
use Rattle.std.specs.Prelude.{Bool, true, ◌&&◌, List, [], ◌∷◌, Option, Some, None}
use Rattle.std.specs.Str.{is_utf8}
use Rattle.bb_compile_buffer.specs.Within.{two_bytes, eight_bytes}
use Rattle.bb_verify_effect.specs.declared.part.Part.{Part}
use Rattle.bb_verify_effect.specs.declared.part.Part.TheVariants.{Require, Obviate, Retrigger, Revalidate, Do}
use Rattle.bb_lang.specs.ActText.{ActText}
use Rattle.bb_lang.specs.ActText.TheVariants as acts
use Rattle.bb_lang.specs.Action.{Action}
use Rattle.bb_lang.specs.Action.TheVariants as actions
use Rattle.bb_lang.specs.Atom.{Atom}
use Rattle.bb_lang.specs.Atom.TheVariants as atoms
use Rattle.bb_lang.specs.Blocks.{BlockTree, StatementTree, OtherwiseTree, no_statement, before_others, action, if_of, with_of, for_of, absent, otherwise}
use Rattle.bb_lang.specs.PartText.{PartText}
use Rattle.bb_lang.specs.ReactionText.{ReactionText}
use Rattle.bb_lang.specs.SourceText.{SourceText}
use Rattle.bb_lang.specs.Trees.{ExprTree, Steps, SequenceTree, PatternTree, Patterns, atom, unary, binary, chain, size_of, no_step, apply, divide, found, linked, all, and_of, or_of, not_of, test, no_pattern, more}
use Rattle.bb_lang.specs.View.{sequence_of}

-- ---- expressions, sequences and patterns

abbrev pub atom_held : Atom → Bool
atom_held (atoms.Int n) = eight_bytes n
atom_held (atoms.Text text) = is_utf8 text
atom_held _ = true

unfoldable mutual
  pub expr_held : ExprTree → Bool
  expr_held (atom a) = atom_held a
  expr_held (unary operation e) = expr_held e
  expr_held (binary operation l r) = expr_held l && expr_held r
  expr_held (chain first steps) = expr_held first && steps_held steps
  expr_held (size_of sequence) = sequence_held sequence

  pub steps_held : Steps → Bool
  steps_held no_step = true
  steps_held (apply operator e steps) = expr_held e && steps_held steps
  steps_held (divide division divisor steps) = eight_bytes divisor && steps_held steps

  pub sequence_held : SequenceTree → Bool
  sequence_held (linked unit slot) = true
  sequence_held (found class space p) = pattern_held p

  pub pattern_held : PatternTree → Bool
  pattern_held all = true
  pattern_held (and_of ps) = patterns_held ps
  pattern_held (or_of ps) = patterns_held ps
  pattern_held (not_of p) = pattern_held p
  pattern_held (test dim relation e) = expr_held e

  pub patterns_held : Patterns → Bool
  patterns_held no_pattern = true
  patterns_held (more p ps) = pattern_held p && patterns_held ps

-- ---- statements

abbrev pub values_held : List ExprTree → Bool
values_held [] = true
values_held (e ∷ es) = expr_held e && values_held es

unfoldable pub action_held : Action → Bool
action_held (actions.Let name value) = expr_held value
action_held (actions.Assign name value) = expr_held value
action_held (actions.Set unit slot value) = expr_held value
action_held (actions.Say values) = values_held values
action_held (actions.Rate value) = expr_held value
action_held (actions.Answer value) = expr_held value
action_held _ = true

unfoldable mutual
  pub statement_held : StatementTree → Bool
  statement_held (action a) = action_held a
  statement_held (if_of condition first other) = expr_held condition && (statements_held first && otherwise_held other)
  statement_held (with_of binding first other) = statements_held first && otherwise_held other
  statement_held (for_of name sequence body) = sequence_held (sequence_of sequence) && statements_held body

  pub otherwise_held : OtherwiseTree → Bool
  otherwise_held absent = true
  otherwise_held (otherwise b) = statements_held b

  pub statements_held : BlockTree → Bool
  statements_held no_statement = true
  statements_held (before_others place statement others) = statement_held statement && statements_held others

-- ---- a part: the numbers of its classes have two bytes

abbrev pub part_held : Part → Bool
part_held (Require class) = two_bytes class
part_held (Obviate class of) = two_bytes class && two_bytes of
part_held (Retrigger class of) = two_bytes class && two_bytes of
part_held (Revalidate class) = two_bytes class
part_held (Do class) = two_bytes class

-- ---- a source: each of its parts

abbrev pub text_held : Option PartText → Bool
text_held None = true
text_held (Some text) = statements_held text.block

abbrev pub reaction_held : Option ReactionText → Bool
reaction_held None = true
reaction_held (Some text) = statements_held text.block

abbrev pub act_held : ActText → Bool
act_held acts.Native = true
act_held (acts.Do text) = statements_held text.block

abbrev pub source_held : SourceText → Bool
source_held text =
    text_held text.parts.require
    && (reaction_held text.parts.obviate
    && (reaction_held text.parts.retrigger && (text_held text.parts.revalidate && act_held text.act)))
