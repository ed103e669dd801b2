use Rattle.std.proofs.Common.{◌≡◌, map, take}
use Rattle.bb_schema.specs.proving.Readings.{first_named}
use Rattle.bb_schema.proofs.readings.dim_firsts.Given as goal

abbrev pub invariant-loop-space : goal.invariant-loop-space
invariant-loop-space l = l.dims.items ≡ map (λ p. map (λ d. first_named l.bare.slots d.name) p.dims) (take l.space-index l.spaces)
