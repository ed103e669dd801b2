use Rattle.std.proofs.Common.{◌<◌, ◌∙◌, ◌++◌, ap, sym, subst, length, get_or}
use Rattle.std.specs.Prelude.{option_map}
use Rattle.std.specs.List.{filter_map}
use Rattle.std.proofs.lemmas.Bool.{eqb-true}
use Rattle.std.proofs.lemmas.List.{nil_from_length}
use Rattle.bb_query.specs.Moves.{values_anew}
use Rattle.bb_query.proofs.MovesLemmas.{no_moves, own_moves, space_within}
use Rattle.bb_query.proofs.moves.moves_of.Goals as goal

pub returns-then-is_empty : goal.returns-then-is_empty
returns-then-is_empty c =
    let row = c.readings.result.now in
    c.new-moves.ensures.items ∙ no_moves c.args.schema.now c.args.spaces.now c.args.unit c.args.set.now.slot c.args.set.now.value.now
    (sym c.readings.ensures ∙ nil_from_length row (eqb-true (length row) 0 (sym c.if-is_empty.ensures)))

pub loop-space-init : goal.loop-space-init
loop-space-init c =
    let anew = values_anew c.args.schema.now c.args.spaces.now c.args.unit c.args.set.now.slot c.args.set.now.value.now in
    ap (λ made. made ++ filter_map (λ space. option_map (λ values. (space, values)) (anew space)) c.spaces_of-own.result.now) c.new-moves.ensures.items
    ∙ (ap (filter_map (λ space. option_map (λ values. (space, values)) (anew space))) c.spaces_of-own.ensures
    ∙ own_moves c.args.schema.now c.args.spaces.now c.args.unit c.args.set.now.slot c.args.set.now.value.now)

pub values_anew-requires : goal.values_anew-requires
values_anew-requires c =
    subst (λ own. c.loop-space.space-index < length own → get_or own c.loop-space.space-index 0 < length c.args.spaces.now.spaces) (sym c.spaces_of-own.ensures)
    (space_within c.args.spaces.now c.args.unit c.loop-space.space-index 0) c.loop-space-test.true
