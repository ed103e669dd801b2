-- What the code has read of a history so far.
use Rattle.std.specs.Prelude.{map, option_map}
use Rattle.bb_moves.specs.Meant.{meant}
use Rattle.bb_moves.specs.MovesText.{Asks, Progress}
use Rattle.bb_moves.specs.declared.reading.Gathered.{Gathered}
use Rattle.bb_moves.specs.declared.reading.Reading.{Reading}

abbrev pub asks_so_far : Gathered → Asks
asks_so_far g = record { gathering = g.gathering; asks = g.asks.items }

abbrev pub so_far : Reading → Progress
so_far r = record { moves = map meant r.moves.items; gathered = option_map asks_so_far r.gathered }
