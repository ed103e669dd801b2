use Rattle.std.proofs.Common.{◌∙◌, None, sym, ap}
use Rattle.std.specs.Prelude.{◌==◌}
use Rattle.bb_units.proofs.PlaceLemmas.{is_place, is_nowhere}
use Rattle.bb_units.proofs.EntryLemmas.{content}
use Rattle.bb_units.proofs.numbered.key_of.Goals as goal

pub returns-in_err-place : goal.returns-in_err-place
returns-in_err-place c =
    let nowhere = is_nowhere (λ k. c.args.unit == k) c.args.entries.now (sym c.in_err-place.ensures) in
    c.from_residual.ensures ∙ sym (ap content nowhere.0)

pub returns : goal.returns
returns c =
    let there = is_place (λ k. c.args.unit == k) (0, None) c.in_ok-place.place c.args.entries.now (sym c.in_ok-place.ensures) in
    sym (ap content there.found)
