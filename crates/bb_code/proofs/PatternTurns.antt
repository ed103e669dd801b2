-- The turns of reading a pattern.
use Rattle.std.proofs.Common.{◌≡◌, ◌≢◌, ℕ, zero, suc, ◌-◌, List, Err, refl, arith}
use Rattle.bb_code.specs.declared.fault.CodeFault.TheVariants.{Limit}
use Rattle.bb_code.specs.Patterns.{node_at, pattern_at}

pub too_deep : (depth room : ℕ) (bytes : List ℕ) → depth ≡ 0 → pattern_at depth (room, bytes) ≡ Err Limit
unfolding pattern_at
too_deep depth room bytes is = rw is refl

pub no_room : (depth room : ℕ) (bytes : List ℕ) → room ≡ 0 → pattern_at depth (room, bytes) ≡ Err Limit
unfolding pattern_at
no_room zero room bytes is = refl
no_room (suc depth) room bytes is = rw is refl

pub one_node : (depth room : ℕ) (bytes : List ℕ) → depth ≢ 0 → room ≢ 0 → pattern_at depth (room, bytes) ≡ node_at (pattern_at (depth - 1)) (room - 1, bytes)
unfolding pattern_at
one_node zero room bytes some more = absurd (some refl)
one_node (suc depth) zero bytes some more = absurd (more refl)
one_node (suc depth) (suc room) bytes some more =
    let d : suc depth - 1 ≡ depth = omega arith in
    let r : suc room - 1 ≡ room = omega arith in
    rw (d, r) refl
