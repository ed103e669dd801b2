use Rattle.std.proofs.Common.{◌≡◌, ◌++◌, drop}
use Rattle.std.specs.Prelude.{option_map}
use Rattle.std.specs.List.{filter_map}
use Rattle.bb_query.specs.Moves.{values_anew, moves_for}
use Rattle.bb_query.proofs.moves.moves_of.Given as goal

abbrev pub invariant-loop-space : goal.invariant-loop-space
invariant-loop-space l =
    l.moves.items ++ filter_map (λ space. option_map (λ values. (space, values)) (values_anew l.schema l.spaces l.unit l.set.slot l.set.value.now space)) (drop l.space-index l.own)
    ≡ moves_for l.schema l.spaces l.unit l.set.slot l.set.value.now
