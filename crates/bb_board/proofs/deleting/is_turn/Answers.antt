use Rattle.std.proofs.Common.{◌≡◌, ◌∙◌, Bool, true, false, not, [], ap, sym}
use Rattle.std.specs.Prelude.{◌&&◌}
use Rattle.bb_schema.specs.declared.couple.Side.TheVariants.{A, B}
use Rattle.bb_board.specs.proving.Deleted.{is_of, is_turn}
use Rattle.bb_board.proofs.DeletingLemmas.{searched_of}
use Rattle.bb_board.proofs.FoldLemmas.{turn_rest}
use Rattle.bb_board.proofs.deleting.is_turn.Goals as goal

pub returns-then-is_ok : goal.returns-then-is_ok
returns-then-is_ok c =
    let gone = c.args.deleted.gone.now in
    let there : is_of gone c.args.partner ≡ true =
    sym (searched_of gone c.args.partner c.binary_search.result c.binary_search.ensures.position c.requires) ∙ (sym c.is_ok.ensures.value ∙ c.if-is_ok.true) in
    sym (turn_rest gone c.args.side c.args.deleted.unit c.args.partner ∙ ap (λ (b : Bool). not b && is_turn [] c.args.side c.args.deleted.unit c.args.partner) there)

pub returns-in-A : goal.returns-in-A
returns-in-A c =
    let gone = c.args.deleted.gone.now in
    let out : is_of gone c.args.partner ≡ false =
    sym (searched_of gone c.args.partner c.binary_search.result c.binary_search.ensures.position c.requires) ∙ (sym c.is_ok.ensures.value ∙ c.if-is_ok.false) in
    rw c.in-A.is (sym (turn_rest gone A c.args.deleted.unit c.args.partner ∙ ap (λ (b : Bool). not b && is_turn [] A c.args.deleted.unit c.args.partner) out))

pub returns-in-B : goal.returns-in-B
returns-in-B c =
    let gone = c.args.deleted.gone.now in
    let out : is_of gone c.args.partner ≡ false =
    sym (searched_of gone c.args.partner c.binary_search.result c.binary_search.ensures.position c.requires) ∙ (sym c.is_ok.ensures.value ∙ c.if-is_ok.false) in
    rw c.in-B.is (sym (turn_rest gone B c.args.deleted.unit c.args.partner ∙ ap (λ (b : Bool). not b && is_turn [] B c.args.deleted.unit c.args.partner) out))
