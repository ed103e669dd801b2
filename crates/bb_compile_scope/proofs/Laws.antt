-- Lemmas that crates above use.
use Rattle.std.proofs.Common.{◌≡◌, ℕ, zero, suc, ◌+◌, ◌<◌, ◌≤◌, List, [], ◌∷◌, length, get_or, refl, sym, ap, ◌∙◌, arith, subst}
use Rattle.bb_lang_tree.specs.declared.block.Placed.{Placed}
use Rattle.bb_lang_tree.specs.Blocks.{BlockTree}
use Rattle.bb_lang_tree.specs.BlockView.{block_of, statement_of}
use Rattle.bb_lang_tree.specs.proving.BlockCodes.{block_size}
use Rattle.bb_compile_scope.specs.proving.Sizes.{statement_size}
pub use Rattle.bb_compile_scope.proofs.LocalLemmas.{at_same, at_other, set_twice, free_first, taken_within, struck_at}
pub use Rattle.bb_compile_scope.proofs.LocalLemmas.{frees, frees_same, frees_taken, length_paired, met_free}
pub use Rattle.bb_compile_scope.proofs.SlotLemmas.{set_of_slot, class_of_link}

at_index : (ss : List Placed) (i : ℕ) (d : Placed) → i < length ss → statement_size (statement_of (get_or ss i d).statement) + 2 ≤ block_size (block_of ss)
at_index [] i d lt = absurd (omega arith)
at_index (s ∷ ss) zero d lt = omega arith
at_index (s ∷ ss) (suc i) d lt = let rest = at_index ss i d (omega arith) in omega (arith, rest)

-- a block is larger than each of its statements
pub statement_in_block : (b : BlockTree) (ss : List Placed) (i : ℕ) (p : Placed) → block_of ss ≡ b → i < length ss → p ≡ get_or ss i p → statement_size (statement_of p.statement) + 2 ≤ block_size b
statement_in_block b ss i p is lt at =
    let here = at_index ss i p lt in
    let size : statement_size (statement_of p.statement) ≡ statement_size (statement_of (get_or ss i p).statement) = ap (λ q. statement_size (statement_of q.statement)) at in
    let whole : block_size (block_of ss) ≡ block_size b = ap block_size is in
    omega (arith, here, size, whole)
