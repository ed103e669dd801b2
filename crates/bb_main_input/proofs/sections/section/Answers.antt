use Rattle.std.proofs.Common.{rules, ◌≡◌, ◌≢◌, ◌<◌, length, Some, sym, ◌∙◌}
use Rattle.bb_main_input.proofs.PartLemmas.{begun, begins-with, parts-with, lacks-part}
use Rattle.bb_main_input.specs.Sections.{header_of}
use Rattle.bb_main_input.proofs.sections.section.Goals as goal

pub returns-then-ne : goal.returns-then-ne
returns-then-ne c =
    let other : c.header_of.result ≢ Some c.args.header = search rules in
    lacks-part c.args.text.now c.first_line.result.0.now c.first_line.result.1.now c.args.header c.first_line.ensures.first c.first_line.ensures.some (λ is. other (c.header_of.ensures ∙ is))

pub returns : goal.returns
returns c =
    let is : c.header_of.result ≡ Some c.args.header = search rules in
    let found : header_of c.first_line.result.0.now ≡ Some c.args.header = sym c.header_of.ensures ∙ is in
    let some : 0 < length c.args.text.now = begun c.args.text.now c.first_line.result.0.now c.first_line.result.1.now c.args.header c.first_line.ensures.joined found in
    let first = c.first_line.ensures.first some in (
      begins-with c.args.text.now c.first_line.result.0.now c.first_line.result.1.now c.args.header first found,
      rw (c.to_header.ensures.before, ← c.to_header.ensures.parts) (parts-with c.args.text.now c.first_line.result.0.now c.first_line.result.1.now c.args.header first found),
      c.to_header.ensures.begins,
    )
