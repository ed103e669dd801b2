use Rattle.std.proofs.Common.{◌≡◌, ◌++◌, map, drop}
use Rattle.bb_schema.specs.Couples.{firsts}
use Rattle.bb_links.specs.Couples.{no_pairs}
use Rattle.bb_links.specs.Layout.{singular_of}
use Rattle.bb_links.proofs.layout.couples_of.Given as goal

abbrev pub invariant-loop-slot : goal.invariant-loop-slot
invariant-loop-slot l =
    l.couples.items ++ map no_pairs (map (singular_of l.schema.slots) (firsts l.slot (drop l.slot l.schema.slots))) ≡ map no_pairs (map (singular_of l.schema.slots) (firsts 0 l.schema.slots))
