-- An injective encoding of expressions and patterns: as trees with a label at each node.
use Rattle.std.specs.Prelude.{◌≡◌, ◌⊎◌, ℕ, zero, suc, ℤ, true, List, []}
use Rattle.std.proofs.Common.{inl, inr, refl, ap, ◌∙◌}
use Rattle.std.specs.Coded.{Coded, code_by, coded×, coded⊎, coded_ℕ, coded_ℤ, coded_list}
use Rattle.bb_lang_tree.specs.declared.atom.Atom.{Atom}
use Rattle.bb_lang_tree.specs.declared.atom.Atom.TheVariants.{Bool}
use Rattle.bb_lang_tree.specs.declared.atom.Unary.{Unary}
use Rattle.bb_lang_tree.specs.declared.atom.Binary.{Binary}
use Rattle.bb_lang_tree.specs.declared.atom.Operator.{Operator}
use Rattle.bb_lang_tree.specs.declared.atom.Division.{Division}
use Rattle.bb_lang_tree.specs.declared.atom.Relation.{Relation}
use Rattle.bb_lang_tree.specs.declared.atom.Variable.{Variable}
use Rattle.bb_lang_tree.specs.declared.atom.Variable.TheVariants.{It}
use Rattle.bb_lang_tree.specs.contracts.atom.Atom as atoms
use Rattle.bb_lang_tree.specs.contracts.atom.Unary as unaries
use Rattle.bb_lang_tree.specs.contracts.atom.Binary as binaries
use Rattle.bb_lang_tree.specs.contracts.atom.Operator as operators
use Rattle.bb_lang_tree.specs.contracts.atom.Division as divisions
use Rattle.bb_lang_tree.specs.contracts.atom.Relation as relations
use Rattle.bb_lang_tree.specs.contracts.atom.Variable as variables
use Rattle.bb_lang_tree.specs.Trees.{ExprTree, Steps, SequenceTree, PatternTree, Patterns, atom, unary, binary, chain, size_of, no_step, apply, divide, found, linked, all, and_of, or_of, not_of, test, no_pattern, more}
use Rattle.bb_lang_tree.specs.proving.Rose.{Rose, Roses, node, none, one_more, nodes, rose_code}

-- the labels: a node of an expression, of a chain's steps, of a sequence or of a pattern, without its parts
abbrev ExprLabel : Type 0
ExprLabel = Atom ⊎ (Unary ⊎ (Binary ⊎ ℕ))

abbrev StepLabel : Type 0
StepLabel = Operator ⊎ (Division × ℤ)

abbrev SequenceLabel : Type 0
SequenceLabel = (List ℕ × List ℕ) ⊎ (Variable × List ℕ)

abbrev PatternLabel : Type 0
PatternLabel = (List ℕ × Relation) ⊎ ℕ

abbrev Label : Type 0
Label = (ExprLabel ⊎ StepLabel) ⊎ (SequenceLabel ⊎ PatternLabel)

abbrev label_code : Coded Label
label_code =
    coded⊎
    (coded⊎ (coded⊎ atoms.the_row.coded (coded⊎ unaries.the_row.coded (coded⊎ binaries.the_row.coded coded_ℕ)))
    (coded⊎ operators.the_row.coded (coded× divisions.the_row.coded coded_ℤ)))
    (coded⊎ (coded⊎ (coded× (coded_list coded_ℕ) (coded_list coded_ℕ)) (coded× variables.the_row.coded (coded_list coded_ℕ)))
    (coded⊎ (coded× (coded_list coded_ℕ) relations.the_row.coded) coded_ℕ))

abbrev at_expr : ExprLabel → Roses Label → Rose Label
at_expr l rs = node (inl (inl l)) rs

abbrev at_step : StepLabel → Roses Label → Rose Label
at_step l rs = node (inl (inr l)) rs

abbrev at_sequence : SequenceLabel → Roses Label → Rose Label
at_sequence l rs = node (inr (inl l)) rs

abbrev at_pattern : PatternLabel → Roses Label → Rose Label
at_pattern l rs = node (inr (inr l)) rs

abbrev only : Rose Label → Roses Label
only r = one_more r none

abbrev mutual
  pub expr_rose : ExprTree → Rose Label
  expr_rose (atom a) = at_expr (inl a) none
  expr_rose (unary op e) = at_expr (inr (inl op)) (only (expr_rose e))
  expr_rose (binary op l r) = at_expr (inr (inr (inl op))) (one_more (expr_rose l) (only (expr_rose r)))
  expr_rose (chain first steps) = at_expr (inr (inr (inr 0))) (one_more (expr_rose first) (step_roses steps))
  expr_rose (size_of s) = at_expr (inr (inr (inr 1))) (only (sequence_rose s))

  pub step_roses : Steps → Roses Label
  step_roses no_step = none
  step_roses (apply op e steps) = one_more (at_step (inl op) (only (expr_rose e))) (step_roses steps)
  step_roses (divide d n steps) = one_more (at_step (inr (d, n)) none) (step_roses steps)

  pub sequence_rose : SequenceTree → Rose Label
  sequence_rose (found class space p) = at_sequence (inl (class, space)) (only (pattern_rose p))
  sequence_rose (linked unit slot) = at_sequence (inr (unit, slot)) none

  pub pattern_rose : PatternTree → Rose Label
  pattern_rose all = at_pattern (inr 0) none
  pattern_rose (and_of ps) = at_pattern (inr 1) (pattern_roses ps)
  pattern_rose (or_of ps) = at_pattern (inr 2) (pattern_roses ps)
  pattern_rose (not_of p) = at_pattern (inr 3) (only (pattern_rose p))
  pattern_rose (test dimension relation e) = at_pattern (inl (dimension, relation)) (only (expr_rose e))

  pub pattern_roses : Patterns → Roses Label
  pattern_roses no_pattern = none
  pattern_roses (more p ps) = one_more (pattern_rose p) (pattern_roses ps)

-- for labels that do not belong to an expression or a sequence
abbrev no_expr : ExprTree
no_expr = atom (Bool true)

abbrev no_sequence : SequenceTree
no_sequence = linked It []

-- the tree of a label, given the trees of its parts
abbrev expr_made : Label → (first second : ExprTree) → Steps → SequenceTree → ExprTree
expr_made (inl (inl (inl a))) first second steps s = atom a
expr_made (inl (inl (inr (inl op)))) first second steps s = unary op first
expr_made (inl (inl (inr (inr (inl op))))) first second steps s = binary op first second
expr_made (inl (inl (inr (inr (inr zero))))) first second steps s = chain first steps
expr_made (inl (inl (inr (inr (inr (suc _)))))) first second steps s = size_of s
expr_made (inl (inr _)) first second steps s = no_expr
expr_made (inr _) first second steps s = no_expr

abbrev step_made : Label → ExprTree → Steps → Steps
step_made (inl (inr (inl op))) first steps = apply op first steps
step_made (inl (inr (inr t))) first steps = divide t.0 t.1 steps
step_made (inl (inl _)) first steps = no_step
step_made (inr _) first steps = no_step

abbrev sequence_made : Label → PatternTree → SequenceTree
sequence_made (inr (inl (inl t))) p = found t.0 t.1 p
sequence_made (inr (inl (inr t))) p = linked t.0 t.1
sequence_made (inr (inr _)) p = no_sequence
sequence_made (inl _) p = no_sequence

abbrev pattern_made : Label → PatternTree → Patterns → ExprTree → PatternTree
pattern_made (inr (inr (inl t))) first ps e = test t.0 t.1 e
pattern_made (inr (inr (inr zero))) first ps e = all
pattern_made (inr (inr (inr (suc zero)))) first ps e = and_of ps
pattern_made (inr (inr (inr (suc (suc zero))))) first ps e = or_of ps
pattern_made (inr (inr (inr (suc (suc (suc _)))))) first ps e = not_of first
pattern_made (inr (inl _)) first ps e = all
pattern_made (inl _) first ps e = all

abbrev mutual
  expr_back : Rose Label → ExprTree
  expr_back (node l rs) = expr_made l (first_expr rs) (second_expr rs) (later_steps rs) (first_sequence rs)

  first_expr : Roses Label → ExprTree
  first_expr none = no_expr
  first_expr (one_more r rs) = expr_back r

  second_expr : Roses Label → ExprTree
  second_expr none = no_expr
  second_expr (one_more r rs) = first_expr rs

  later_steps : Roses Label → Steps
  later_steps none = no_step
  later_steps (one_more r rs) = steps_back rs

  steps_back : Roses Label → Steps
  steps_back none = no_step
  steps_back (one_more (node l rs) others) = step_made l (first_expr rs) (steps_back others)

  sequence_back : Rose Label → SequenceTree
  sequence_back (node l rs) = sequence_made l (first_pattern rs)

  first_sequence : Roses Label → SequenceTree
  first_sequence none = no_sequence
  first_sequence (one_more r rs) = sequence_back r

  pattern_back : Rose Label → PatternTree
  pattern_back (node l rs) = pattern_made l (first_pattern rs) (patterns_back rs) (first_expr rs)

  first_pattern : Roses Label → PatternTree
  first_pattern none = all
  first_pattern (one_more r rs) = pattern_back r

  patterns_back : Roses Label → Patterns
  patterns_back none = no_pattern
  patterns_back (one_more r rs) = more (pattern_back r) (patterns_back rs)

mutual
  pub same_expr : (e : ExprTree) → expr_back (expr_rose e) ≡ e
  same_expr (atom a) = refl
  same_expr (unary op e) = ap (unary op) (same_expr e)
  same_expr (binary op l r) = ap (λ x. binary op x (expr_back (expr_rose r))) (same_expr l) ∙ ap (binary op l) (same_expr r)
  same_expr (chain first steps) = ap (λ x. chain x (steps_back (step_roses steps))) (same_expr first) ∙ ap (chain first) (same_steps steps)
  same_expr (size_of s) = ap size_of (same_sequence s)

  same_steps : (steps : Steps) → steps_back (step_roses steps) ≡ steps
  same_steps no_step = refl
  same_steps (apply op e steps) = ap (λ x. apply op x (steps_back (step_roses steps))) (same_expr e) ∙ ap (apply op e) (same_steps steps)
  same_steps (divide d n steps) = ap (divide d n) (same_steps steps)

  same_sequence : (s : SequenceTree) → sequence_back (sequence_rose s) ≡ s
  same_sequence (found class space p) = ap (found class space) (same_pattern p)
  same_sequence (linked unit slot) = refl

  pub same_pattern : (p : PatternTree) → pattern_back (pattern_rose p) ≡ p
  same_pattern all = refl
  same_pattern (and_of ps) = ap and_of (same_patterns ps)
  same_pattern (or_of ps) = ap or_of (same_patterns ps)
  same_pattern (not_of p) = ap not_of (same_pattern p)
  same_pattern (test dimension relation e) = ap (test dimension relation) (same_expr e)

  same_patterns : (ps : Patterns) → patterns_back (pattern_roses ps) ≡ ps
  same_patterns no_pattern = refl
  same_patterns (more p ps) = ap (λ x. more x (patterns_back (pattern_roses ps))) (same_pattern p) ∙ ap (more p) (same_patterns ps)

abbrev pub expr_code : Coded ExprTree
expr_code = code_by (Rose Label) (rose_code label_code) expr_rose expr_back same_expr

abbrev pub pattern_code : Coded PatternTree
pattern_code = code_by (Rose Label) (rose_code label_code) pattern_rose pattern_back same_pattern

-- the number of nodes
abbrev pub expr_size : ExprTree → ℕ
expr_size e = nodes (expr_rose e)

abbrev pub pattern_size : PatternTree → ℕ
pattern_size p = nodes (pattern_rose p)
