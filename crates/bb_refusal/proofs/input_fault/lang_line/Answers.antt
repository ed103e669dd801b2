use Rattle.std.proofs.Common.{◌≡◌, [], subst, sym, ap, ◌∙◌}
use Rattle.std.specs.Prelude.{◌++◌, codes, IfOk, string_bytes}
use Rattle.std.specs.Fmt.{decimal}
use Rattle.std.specs.Option.{option_map_or}
use Rattle.bb_lang_tree.specs.Faults.{fault_number as lang_number}
use Rattle.bb_refusal.specs.Refusals.{place_text}
use Rattle.bb_refusal.proofs.RefusalLemmas.{five_pieces}
use Rattle.bb_refusal.proofs.input_fault.lang_line.Goals as goal

pub returns : goal.returns
returns c =
    let line = decimal c.in-Some.place.line in
    let column = decimal c.in-Some.place.column in
    let pieces = ap (λ t. codes "refused lang " ++ t) (sym (five_pieces line (codes ":") column (codes " ") (decimal c.number-number.result))) in
    let number = ap (λ n. codes "refused lang " ++ place_text c.in-Some.place n) c.number-number.ensures in
    let place = ap (λ o. option_map_or (λ p. codes "refused lang " ++ place_text p (lang_number c.args.fault)) o []) (sym c.in-Some.is ∙ c.lang_place.ensures) in
    subst (λ t. IfOk c.format.result (λ line. string_bytes line ≡ t)) (pieces ∙ (number ∙ place)) c.format.ensures.ok
