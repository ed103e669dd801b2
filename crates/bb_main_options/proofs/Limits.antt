-- What holds where the words say nothing. Definitions and code go by the same constants, so here each is said once.
use Rattle.std.specs.Prelude.{pos}
use Rattle.std.proofs.Common.{◌≡◌, refl}
use Rattle.bb_main_options.specs.declared.choice.TheConstants.{CYCLE_LIMIT, FLOOR}

-- the cycles of a run
pub cycle_limit : CYCLE_LIMIT ≡ 1000000
cycle_limit = refl

-- the least rating that is executed
pub floor : FLOOR ≡ pos 0
floor = refl
