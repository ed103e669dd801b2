use Rattle.std.proofs.Common.{◌≡◌, ◌∷◌, ◌++◌, ◌<◌, drop}
use Rattle.bb_pattern.specs.Trees.{nodes_count}
use Rattle.bb_pattern.specs.View.{trees_of}
use Rattle.bb_code.specs.Spelling.{part_count, trees_bytes}
use Rattle.bb_code.proofs.encode.+putting.Given as goal

-- what was put and what is still to be put are the whole
abbrev pub invariant-put_parts-loop-part : goal.invariant-put_parts-loop-part
invariant-put_parts-loop-part l = record {
  few : nodes_count (trees_of (drop l.part-index l.parts)) < 256;
  whole : l.out.items ++ trees_bytes (trees_of (drop l.part-index l.parts)) ≡ l.fn.out.items ++ l.tag ∷ part_count (trees_of l.parts) ∷ trees_bytes (trees_of l.parts);
}
