use Rattle.std.proofs.Common.{◌≡◌, subst, sym, ap, ◌∙◌}
use Rattle.std.specs.Prelude.{◌++◌, codes, IfOk, string_bytes}
use Rattle.std.specs.Fmt.{decimal}
use Rattle.bb_refusal.specs.Refusals.{compile_text, place_text}
use Rattle.bb_refusal.proofs.RefusalLemmas.{five_pieces, four_pieces}
use Rattle.bb_refusal.proofs.input_fault.compile_line.Goals as goal

pub returns-in-At : goal.returns-in-At
returns-in-At c =
    let name = c.args.name.now in
    let line = decimal c.in-At.place.line in
    let column = decimal c.in-At.place.column in
    let number = decimal c.number-number.result in
    let place = ap (λ t. codes "refused compile " ++ (name ++ (codes " " ++ t))) (sym (five_pieces line (codes ":") column (codes " ") number)) in
    let pieces = place ∙ sym (four_pieces (codes "refused compile ") name (codes " ") (place_text c.in-At.place c.number-number.result)) in
    let flaw = ap (λ n. codes "refused compile " ++ name ++ codes " " ++ place_text c.in-At.place n) c.number-number.ensures in
    subst (λ t. IfOk c.format.result (λ line. string_bytes line ≡ t)) (pieces ∙ (flaw ∙ ap (compile_text name) (sym c.in-At.is))) c.format.ensures.ok
