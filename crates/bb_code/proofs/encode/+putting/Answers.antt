use Rattle.std.proofs.Common.{[], ◌∷◌, length, arith, sym, ap, ◌∙◌, append_assoc}
use Rattle.bb_pattern.specs.View.{tree_of, trees_of}
use Rattle.bb_code.proofs.OpsLaws.{parts_below_and, parts_below_or}
use Rattle.bb_code.specs.Spelling.{trees_bytes}
use Rattle.bb_code.proofs.PartsLemmas.{few_of_and, few_of_or, few_parts, part_count-length}
use Rattle.bb_code.proofs.encode.+putting.Goals as goal

pub put_pattern-put_parts-requires : goal.put_pattern-put_parts-requires
put_pattern-put_parts-requires t c =
    let is = sym (ap tree_of c.in-And.is) ∙ c.node.ensures in
    let below = parts_below_and c.args.pattern.now c.in-And.parts.items c.as_slice.result.now is c.as_slice.ensures.value in
    let few = few_of_and c.args.pattern.now c.in-And.parts.items c.as_slice.result.now is c.as_slice.ensures.value in
    (omega (arith, below), omega (arith, few))

pub put_pattern-put_parts-requires-in-Or : goal.put_pattern-put_parts-requires-in-Or
put_pattern-put_parts-requires-in-Or t c =
    let is = sym (ap tree_of c.in-Or.is) ∙ c.node.ensures in
    let below = parts_below_or c.args.pattern.now c.in-Or.parts.items c.as_slice-in-Or.result.now is c.as_slice-in-Or.ensures.value in
    let few = few_of_or c.args.pattern.now c.in-Or.parts.items c.as_slice-in-Or.result.now is c.as_slice-in-Or.ensures.value in
    (omega (arith, below), omega (arith, few))

pub put_parts-overflow_cast-parts : goal.put_parts-overflow_cast-parts
put_parts-overflow_cast-parts t c = omega (arith, few_parts c.args.parts.now)

pub put_parts-loop-part-init : goal.put_parts-loop-part-init
put_parts-loop-part-init t c = record {
  few = c.requires;
  whole = rw (c.in_ok-extend_from_slice.ensures.items, part_count-length c.args.parts.now) (append_assoc c.args.out.now.items (c.args.tag ∷ length c.args.parts.now ∷ []) (trees_bytes (trees_of c.args.parts.now)));
}
