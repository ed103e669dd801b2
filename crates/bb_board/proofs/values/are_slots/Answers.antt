use Rattle.std.proofs.Common.{rules, sym, ◌∙◌}
use Rattle.std.proofs.lemmas.Iterator.{YieldsList-from_slice}
use Rattle.std.proofs.lemmas.Iterator.Search.{all_from_yields_List}
use Rattle.bb_schema_form.specs.declared.document.GivenEntry.{GivenEntry}
use Rattle.bb_schema_form.specs.UnitsDocument.{GivenDeclaration, given_declaration}
use Rattle.bb_board.specs.Load.{is_ordinary_in}
use Rattle.std.proofs.lemmas.List.Folds.{list_all-map}
use Rattle.bb_board.proofs.values.are_slots.Goals as goal

pub returns : goal.returns
returns c =
    all_from_yields_List (λ (g : GivenEntry). is_ordinary_in c.args.schema.now c.args.class (given_declaration g).slot) _ _ _ c.all.ensures.ran
    (YieldsList-from_slice c.args.given.now c.iter.ensures.rest) (λ x b f' k. search rules)
    ∙ sym (list_all-map (λ (g : GivenDeclaration). is_ordinary_in c.args.schema.now c.args.class g.slot) given_declaration c.args.given.now)
