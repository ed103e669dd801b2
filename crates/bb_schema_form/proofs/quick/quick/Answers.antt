use Rattle.std.proofs.Common.{◌≡◌, [], Some, Ok, IfSome, sym, subst, ap, ◌∙◌, rules}
use Rattle.json.specs.Json.{value}
use Rattle.json.specs.Lex.{tokens}
use Rattle.json.specs.Value.{value_view}
use Rattle.bb_schema_form.specs.UnitsDocument.{units_declaration}
use Rattle.bb_schema_form.proofs.DocumentLemmas.{text_made}
use Rattle.bb_schema_form.proofs.quick.quick.Goals as goal

pub returns : goal.returns
returns c =
    let j = value_view c.in_ok-value.value in
    let all : value 127 c.in_ok-reader.reader ≡ Some (j, c.read.new.reader) = search rules in
    let from : c.in_ok-reader.reader ≡ tokens c.args.text.now = search rules in
    let over : c.read.new.reader ≡ [] = search rules in
    let whole : value 127 (tokens c.args.text.now) ≡ Some (j, []) = ap (value 127) (sym from) ∙ all ∙ ap (λ rest. Some (j, rest)) over in
    subst (λ given. IfSome c.document.result (λ document. given ≡ Ok (units_declaration document))) (sym (text_made c.args.text.now j whole)) c.document.ensures
