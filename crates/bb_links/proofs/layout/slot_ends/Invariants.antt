use Rattle.std.proofs.Common.{◌≡◌, ◌<◌, map, length}
use Rattle.std.specs.Prelude.{All, IfSome}
use Rattle.std.specs.List.{range_with_len}
use Rattle.bb_schema.specs.Couples.{couples, couple_of}
use Rattle.bb_links.proofs.layout.slot_ends.Given as goal

abbrev pub invariant-loop-slot : goal.invariant-loop-slot
invariant-loop-slot l =
    (l.ends.items ≡ map (couple_of l.schema) (range_with_len 0 l.slot)) × All (λ e. IfSome e (λ x. x.0 < length (couples l.schema))) l.ends.items
