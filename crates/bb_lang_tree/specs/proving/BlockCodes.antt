-- An injective encoding of blocks: as trees with a label at each node.
use Rattle.std.specs.Prelude.{◌≡◌, ◌⊎◌, ℕ, List}
use Rattle.std.proofs.Common.{inl, inr, refl, ap, ◌∙◌}
use base.Stored.{coded_unit}
use Rattle.std.specs.Coded.{Coded, code_by, coded×, coded⊎, coded_ℕ, coded_list}
use Rattle.bb_lang_tree.specs.declared.block.Action.{Action}
use Rattle.bb_lang_tree.specs.declared.block.Binding.{Binding}
use Rattle.bb_lang_tree.specs.declared.place.Place.{Place}
use Rattle.bb_lang_tree.specs.declared.tree.Sequence.{Sequence}
use Rattle.bb_lang_tree.specs.contracts.block.Action as actions
use Rattle.bb_lang_tree.specs.contracts.block.Binding as bindings
use Rattle.bb_lang_tree.specs.contracts.place.Place as places
use Rattle.bb_lang_tree.specs.contracts.tree.Sequence as sequences
use Rattle.bb_lang_tree.specs.Trees.{ExprTree}
use Rattle.bb_lang_tree.specs.Blocks.{BlockTree, StatementTree, OtherwiseTree, no_statement, before_others, action, if_of, with_of, for_of, absent, otherwise}
use Rattle.bb_lang_tree.specs.proving.Codes.{expr_code}
use Rattle.bb_lang_tree.specs.proving.Rose.{Rose, Roses, node, none, one_more, nodes, rose_code}

-- a statement without its blocks, at its place; or a block
abbrev StatementLabel : Type 0
StatementLabel = Action ⊎ (ExprTree ⊎ (Binding ⊎ (List ℕ × Sequence)))

abbrev Label : Type 0
Label = (Place × StatementLabel) ⊎ Unit {0}

abbrev label_code : Coded Label
label_code =
    coded⊎ (coded× places.the_row.coded
    (coded⊎ actions.the_row.coded (coded⊎ expr_code (coded⊎ bindings.the_row.coded (coded× (coded_list coded_ℕ) sequences.the_row.coded)))))
    coded_unit

abbrev label_of : StatementTree → StatementLabel
label_of (action a) = inl a
label_of (if_of test b o) = inr (inl test)
label_of (with_of binding b o) = inr (inr (inl binding))
label_of (for_of name sequence b) = inr (inr (inr (name, sequence)))

abbrev mutual
  pub block_roses : BlockTree → Roses Label
  block_roses no_statement = none
  block_roses (before_others p s b) = one_more (node (inl (p, label_of s)) (parts s)) (block_roses b)

  pub parts : StatementTree → Roses Label
  parts (action a) = none
  parts (if_of test b o) = one_more (node (inr tt) (block_roses b)) (otherwise_roses o)
  parts (with_of binding b o) = one_more (node (inr tt) (block_roses b)) (otherwise_roses o)
  parts (for_of name sequence b) = one_more (node (inr tt) (block_roses b)) none

  otherwise_roses : OtherwiseTree → Roses Label
  otherwise_roses absent = none
  otherwise_roses (otherwise b) = one_more (node (inr tt) (block_roses b)) none

abbrev pub block_rose : BlockTree → Rose Label
block_rose b = node (inr tt) (block_roses b)

abbrev statement_made : StatementLabel → BlockTree → OtherwiseTree → StatementTree
statement_made (inl a) b o = action a
statement_made (inr (inl test)) b o = if_of test b o
statement_made (inr (inr (inl binding))) b o = with_of binding b o
statement_made (inr (inr (inr t))) b o = for_of t.0 t.1 b

abbrev block_made : Label → BlockTree → OtherwiseTree → BlockTree → BlockTree
block_made (inl t) b o rest = before_others t.0 (statement_made t.1 b o) rest
block_made (inr _) b o rest = rest

abbrev mutual
  blocks_back : Roses Label → BlockTree
  blocks_back none = no_statement
  blocks_back (one_more (node l rs) others) = block_made l (first_block rs) (second_block rs) (blocks_back others)

  first_block : Roses Label → BlockTree
  first_block none = no_statement
  first_block (one_more r rs) = inner_block r

  inner_block : Rose Label → BlockTree
  inner_block (node l rs) = blocks_back rs

  second_block : Roses Label → OtherwiseTree
  second_block none = absent
  second_block (one_more r rs) = otherwise_back rs

  otherwise_back : Roses Label → OtherwiseTree
  otherwise_back none = absent
  otherwise_back (one_more r rs) = otherwise (inner_block r)

mutual
  same_block : (b : BlockTree) → blocks_back (block_roses b) ≡ b
  same_block no_statement = refl
  same_block (before_others p s b) = ap (λ x. before_others p x (blocks_back (block_roses b))) (same_statement s) ∙ ap (before_others p s) (same_block b)

  same_statement : (s : StatementTree) → statement_made (label_of s) (first_block (parts s)) (second_block (parts s)) ≡ s
  same_statement (action a) = refl
  same_statement (if_of test b o) = ap (λ x. if_of test x (otherwise_back (otherwise_roses o))) (same_block b) ∙ ap (if_of test b) (same_otherwise o)
  same_statement (with_of binding b o) = ap (λ x. with_of binding x (otherwise_back (otherwise_roses o))) (same_block b) ∙ ap (with_of binding b) (same_otherwise o)
  same_statement (for_of name sequence b) = ap (for_of name sequence) (same_block b)

  same_otherwise : (o : OtherwiseTree) → otherwise_back (otherwise_roses o) ≡ o
  same_otherwise absent = refl
  same_otherwise (otherwise b) = ap otherwise (same_block b)

pub same_inner : (b : BlockTree) → inner_block (block_rose b) ≡ b
same_inner b = same_block b

abbrev pub block_code : Coded BlockTree
block_code = code_by (Rose Label) (rose_code label_code) block_rose inner_block same_inner

-- the number of nodes
abbrev pub block_size : BlockTree → ℕ
block_size b = nodes (block_rose b)
