use Rattle.std.proofs.Common.{◌∙◌, map, ap}
use Rattle.std.specs.Prelude.{position}
use Rattle.std.specs.Str.{bytes_eq}
use Rattle.bb_native.specs.declared.closing.Closing.{Closing}
use Rattle.bb_native.proofs.RosterLemmas.{place_among, place_within}
use Rattle.bb_native.proofs.roster.Roster.place.Goals as goal

pub returns : goal.returns
returns g c =
    let natives = map g.N.NativeSource.meaning c.args.self.now.natives.items in
    let is = c.place_of.ensures ∙ (ap (position (λ (one : Closing). bytes_eq one.name c.args.name.now)) (c.deref.ensures.value ∙ c.args.self.now.named) ∙ place_among natives c.args.name.now) in
    record { place = is; within = place_within natives c.args.name.now c.place_of.result is }
