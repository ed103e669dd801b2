use Rattle.std.proofs.Common.{◌≡◌, ◌<◌, ◌∙◌, ap, sym, arith, get_or, length, map, take, List, [], ◌∷◌, ◌++◌}
use Rattle.std.proofs.Math.ListN.{get_or-map}
use Rattle.std.proofs.lemmas.List.{length-map, take_more}
use Rattle.bb_schema_form.specs.Document.{ClassDeclaration, class_declaration}
use Rattle.bb_schema_classes.proofs.read.entries.class_indexes.Goals as goal

pub loop-entry-preserved : goal.loop-entry-preserved
loop-entry-preserved c =
    let all : List ClassDeclaration = map class_declaration c.args.entries.now in
    let class : ClassDeclaration = class_declaration c.entry-item.result in
    let within : c.loop-entry.entry-index < length all = omega (arith, length-map c.args.entries.now class_declaration, c.loop-entry-test.true) in
    let at : get_or all c.loop-entry.entry-index class ≡ class = get_or-map class_declaration c.args.entries.now c.loop-entry.entry-index c.entry-item.result ∙ ap class_declaration (sym c.entry-item.is) in
    c.in_ok-push.ensures.items
    ∙ (ap (λ (classes : List ClassDeclaration). classes ++ c.in_ok-of.field-0 ∷ []) c.loop-entry.invariant
    ∙ (ap (λ (d : ClassDeclaration). take c.loop-entry.entry-index all ++ d ∷ []) c.in_ok-of.ensures
    ∙ sym (take_more all c.loop-entry.entry-index class within ∙ ap (λ (d : ClassDeclaration). take c.loop-entry.entry-index all ++ d ∷ []) at)))
