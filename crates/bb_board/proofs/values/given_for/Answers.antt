use Rattle.std.proofs.Common.{rules, ap, sym, ◌∙◌, option_map, Bor}
use Rattle.std.specs.Str.{bytes_eq}
use Rattle.std.proofs.lemmas.Iterator.{YieldsList-from_slice}
use Rattle.std.proofs.lemmas.Iterator.Search.{find_from_yields_List}
use Rattle.bb_schema_form.specs.declared.document.GivenEntry.{GivenEntry}
use Rattle.bb_schema_form.specs.declared.document.GivenValue.{GivenValue}
use Rattle.bb_schema_form.specs.UnitsDocument.{given_declaration, value_declaration}
use Rattle.bb_board.proofs.ValueLemmas.{given_is}
use Rattle.bb_board.proofs.values.given_for.Goals as goal

pub returns-in_err-entry : goal.returns-in_err-entry
returns-in_err-entry c =
    let found = find_from_yields_List (λ (g : GivenEntry). bytes_eq c.args.name.now (given_declaration g).slot) _ _ _ c.find.ensures.ran (YieldsList-from_slice c.args.given.now c.iter.ensures.rest) (λ x b f' k. search rules) in
    ap (option_map (λ (v : Bor GivenValue). value_declaration v.now)) c.from_residual.ensures
    ∙ sym (ap (option_map (λ (g : Bor GivenEntry). value_declaration g.now.value)) c.in_err-entry.was) ∙ given_is c.args.name.now c.args.given.now c.find.result found

pub returns : goal.returns
returns c =
    let found = find_from_yields_List (λ (g : GivenEntry). bytes_eq c.args.name.now (given_declaration g).slot) _ _ _ c.find.ensures.ran (YieldsList-from_slice c.args.given.now c.iter.ensures.rest) (λ x b f' k. search rules) in
    sym (ap (option_map (λ (g : Bor GivenEntry). value_declaration g.now.value)) c.in_ok-entry.was) ∙ given_is c.args.name.now c.args.given.now c.find.result found
