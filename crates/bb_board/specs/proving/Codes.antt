-- How a blackboard is stored as data that can be told apart.
use Rattle.std.specs.Prelude.{Bool, refl}
use Rattle.std.specs.Coded.{Coded, code_by, coded×, coded_bool}
use Rattle.bb_schema.specs.Schema.{Schema}
use Rattle.bb_schema.specs.contracts.schema.Schema as schemas
use Rattle.bb_board.specs.State.{World}
use Rattle.bb_board.specs.contracts.state.State as states
use Rattle.bb_board.specs.Board.{Board}

abbrev pub board_code : Coded Board
board_code =
    code_by (Schema × (World × Bool)) (coded× schemas.the_row.coded (coded× states.the_row.coded coded_bool))
    (λ b. (b.schema, (b.world, b.refused)))
    (λ p. record { schema = p.0; world = p.1.0; refused = p.1.1 }) (λ _. refl)
