-- Worked codes: what the compiler gives for small texts, and that the verifier takes it, computed on the definitions.
use Rattle.std.proofs.Common.{◌≡◌, ℕ, true, false, List, [], ◌∷◌, Ok, refl}
use Rattle.std.specs.Prelude.{pos}
use Rattle.bb_code.specs.declared.op.Calculation.TheVariants.{Add}
use Rattle.bb_schema.specs.Schema.{Schema}
use Rattle.bb_code.specs.declared.frame.Kind.TheVariants as kinds
use Rattle.bb_code.specs.declared.op.Op.TheVariants as ops
use Rattle.bb_lang.specs.Blocks.{BlockTree, no_statement, before_others, action, if_of, with_of, for_of, absent, otherwise}
use Rattle.bb_lang.specs.Atom.TheVariants as atoms
use Rattle.bb_lang.specs.Binding.TheVariants.{As}
use Rattle.bb_lang.specs.Operator.TheVariants.{Plus}
use Rattle.bb_lang.specs.Action.TheVariants.{Rate, Decline}
use Rattle.bb_lang.specs.Trees.{ExprTree, atom, chain, no_step, apply}
use Rattle.bb_lang.specs.Sequence.{Sequence}
use Rattle.bb_lang.specs.Variable.TheVariants.{It}
use Rattle.bb_compile_scope.specs.Place.{Place}
use Rattle.bb_compile_buffer.specs.Atoms.{pushed, atom_code}
use Rattle.bb_compile_buffer.specs.Finish.{if_within}
use Rattle.bb_compile_buffer.specs.Operations.{two_due}
use Rattle.bb_compile_buffer.specs.Buffers.{put, put_value, due, labelled, kept, met}
use Rattle.bb_compile_buffer.specs.Within.{is_within}
use Rattle.bb_compile.specs.Expressions.{expr_code, steps_code}
use Rattle.bb_compile.specs.Actions.{end_code, action_code}
use Rattle.bb_compile.specs.Statements.{if_code, if_ended, otherwise_code, statement_code, statements_code}
use Rattle.bb_compile.specs.Parts.{version_for, part_code}
use Rattle.bb_compile_scope.specs.Ending.{block_ends, always_ends}
use Rattle.bb_verify_effect.specs.declared.part.Part.TheVariants.{Require, Do}
use Rattle.bb_theorem_accepted.specs.Loopless.{is_loopless}
use Rattle.bb_theorem_accepted.proofs.buffers.StraightLemmas.{straight_code}

module _ (schema : Schema) (place : Place) where
  -- nothing to do
  nothing : part_code schema (Do 0) place no_statement ≡ Ok (straight_code (version_for schema) 1 [] [] (ops.Done ∷ []))
  unfolding part_code block_ends statements_code put if_within is_within
  nothing = refl

  -- rate 1 + 2
  sum : ExprTree
  sum = chain (atom (atoms.Int (pos 1))) (apply Plus (atom (atoms.Int (pos 2))) no_step)

  rated : part_code schema (Require 0) place (before_others place (action (Rate sum)) no_statement) ≡ Ok (straight_code (version_for schema) 1 [] [] (ops.PushInt (pos 1) ∷ ops.PushInt (pos 2) ∷ ops.Calculate Add ∷ ops.Rate ∷ []))
  unfolding part_code block_ends always_ends statements_code statement_code action_code end_code expr_code steps_code atom_code pushed put_value put two_due due if_within is_within sum
  rated = refl

  -- if true: rate 1; after it decline, where the frame is declared
  chosen : BlockTree
  chosen = before_others place (if_of (atom (atoms.Bool true)) (before_others place (action (Rate (atom (atoms.Int (pos 1))))) no_statement) absent) (before_others place (action Decline) no_statement)

  admitted : is_loopless chosen ≡ true
  unfolding chosen
  admitted = refl

  -- with a name for a unit of a class: decline; a text with a loop is another one
  tested : (name class : List ℕ) → is_loopless (before_others place (with_of (As name It class) (before_others place (action Decline) no_statement) (otherwise chosen)) no_statement) ≡ true
  unfolding chosen
  tested name class = refl

  looped : (name : List ℕ) (units : Sequence) → is_loopless (before_others place (for_of name units chosen) no_statement) ≡ false
  looped name units = refl

  declared : part_code schema (Require 0) place chosen ≡ Ok (record {
    version = version_for schema;
    locals = 1;
    texts = [];
    queries = [];
    frames = record { place = 4; frame = record { locals = kinds.Old 0 ∷ []; stack = [] } } ∷ [];
    loops = [];
    ops = ops.PushBool true ∷ ops.Unless 4 ∷ ops.PushInt (pos 1) ∷ ops.Rate ∷ ops.Decline ∷ [];
  })
  unfolding part_code block_ends always_ends statements_code statement_code otherwise_code if_code if_ended action_code end_code expr_code atom_code pushed put_value put due met labelled kept if_within is_within chosen
  declared = refl
