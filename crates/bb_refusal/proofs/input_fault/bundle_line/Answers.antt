use Rattle.std.proofs.Common.{◌≡◌, subst, sym, ap, ◌∙◌}
use Rattle.std.specs.Prelude.{◌++◌, codes, IfOk, string_bytes}
use Rattle.std.specs.Fmt.{decimal}
use Rattle.bb_refusal.specs.Refusals.{bundle_text}
use Rattle.bb_refusal.proofs.RefusalLemmas.{four_pieces}
use Rattle.bb_refusal.proofs.input_fault.bundle_line.Goals as goal

pub returns-in-Code : goal.returns-in-Code
returns-in-Code c =
    let pieces = sym (four_pieces (codes "refused bundle ") (decimal c.in-Code.line) (codes " code ") (decimal c.number-number.result)) in
    let number = ap (λ n. codes "refused bundle " ++ decimal c.in-Code.line ++ codes " code " ++ decimal n) c.number-number.ensures in
    subst (λ t. IfOk c.format-in-Code.result (λ line. string_bytes line ≡ t)) (pieces ∙ (number ∙ ap bundle_text (sym c.in-Code.is))) c.format-in-Code.ensures.ok
