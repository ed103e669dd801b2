-- The number of the limit. Definitions and code go by the same constant, so here it is said once.
use Rattle.std.proofs.Common.{◌≡◌, refl}
use Rattle.bb_compile.specs.declared.part.TheConstants.{LOOP_NESTING}

-- loops that lie in one another
pub loop_nesting : LOOP_NESTING ≡ 4
loop_nesting = refl
