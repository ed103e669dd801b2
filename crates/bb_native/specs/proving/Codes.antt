-- Views as coded data, through the code of blackboards.
use Rattle.std.specs.Prelude.{false, refl}
use Rattle.std.specs.Coded.{Coded, code_by}
use Rattle.bb_board.specs.Board.{Board}
use Rattle.bb_board.specs.proving.Codes.{board_code}
use Rattle.bb_native.specs.Sight.{Sight}

abbrev pub sight_code : Coded Sight
sight_code =
    code_by Board board_code (λ s. record { schema = s.schema; world = s.world; refused = false })
    (λ b. record { schema = b.schema; world = b.world }) (λ _. refl)
