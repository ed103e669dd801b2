use Rattle.std.proofs.Common.{sym, ap, ◌∙◌, arith}
use Rattle.bb_code.specs.View.{tree_of}
use Rattle.bb_code.proofs.Laws.{parts_below_and, parts_below_or}
use Rattle.bb_code_asm.proofs.text.+writing.Goals as goal

pub write_pattern-write_parts-requires : goal.write_pattern-write_parts-requires
write_pattern-write_parts-requires t c =
    let is = sym (ap tree_of c.in-And.is) ∙ c.node.ensures in
    let below = parts_below_and c.args.pattern.now c.in-And.parts.items c.as_slice.result.now is c.as_slice.ensures.value in
    omega (arith, below)

pub write_pattern-write_parts-requires-in-Or : goal.write_pattern-write_parts-requires-in-Or
write_pattern-write_parts-requires-in-Or t c =
    let is = sym (ap tree_of c.in-Or.is) ∙ c.node.ensures in
    let below = parts_below_or c.args.pattern.now c.in-Or.parts.items c.as_slice-in-Or.result.now is c.as_slice-in-Or.ensures.value in
    omega (arith, below)
