use Rattle.std.proofs.Common.{◌≡◌, subst, sym, ap, ◌∙◌}
use Rattle.std.specs.Prelude.{◌++◌, codes, IfOk, string_bytes}
use Rattle.std.specs.Fmt.{decimal}
use Rattle.bb_verify.specs.Part.{part_word}
use Rattle.bb_refusal.specs.Refusals.{refusal_text}
use Rattle.bb_refusal.proofs.RefusalLemmas.{four_pieces, eight_pieces}
use Rattle.bb_refusal.proofs.input_fault.InputFault.line.Goals as goal

pub returns-in-Verify : goal.returns-in-Verify
returns-in-Verify c =
    let place = c.in-Verify.fault.place in
    let k = c.number-number-in-Verify.result in
    let pieces = sym (eight_pieces (codes "refused verify ") c.as_str-name.result.now (codes " ") c.word-part.result.now (codes " ") (decimal place) (codes " ") (decimal k)) in
    let name = ap (λ n. codes "refused verify " ++ n ++ codes " " ++ c.word-part.result.now ++ codes " " ++ decimal place ++ codes " " ++ decimal k) c.as_str-name.ensures in
    let part = ap (λ p. codes "refused verify " ++ c.in-Verify.name ++ codes " " ++ p ++ codes " " ++ decimal place ++ codes " " ++ decimal k) c.word-part.ensures in
    let number = ap (λ n. codes "refused verify " ++ c.in-Verify.name ++ codes " " ++ part_word c.in-Verify.part ++ codes " " ++ decimal place ++ codes " " ++ decimal n) c.number-number-in-Verify.ensures in
    subst (λ t. IfOk c.format-in-Verify.result (λ line. string_bytes line ≡ t)) (pieces ∙ (name ∙ (part ∙ (number ∙ ap refusal_text (sym c.in-Verify.is))))) c.format-in-Verify.ensures.ok

pub returns-in-Rule : goal.returns-in-Rule
returns-in-Rule c =
    let k = c.number-number-in-Rule.result in
    let pieces = sym (four_pieces (codes "refused rule ") c.as_str-name-in-Rule.result.now (codes " ") (decimal k)) in
    let name = ap (λ n. codes "refused rule " ++ n ++ codes " " ++ decimal k) c.as_str-name-in-Rule.ensures in
    let number = ap (λ n. codes "refused rule " ++ c.in-Rule.name ++ codes " " ++ decimal n) c.number-number-in-Rule.ensures in
    subst (λ t. IfOk c.format-in-Rule.result (λ line. string_bytes line ≡ t)) (pieces ∙ (name ∙ (number ∙ ap refusal_text (sym c.in-Rule.is)))) c.format-in-Rule.ensures.ok
