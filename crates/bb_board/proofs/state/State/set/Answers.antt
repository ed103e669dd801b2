use Rattle.std.proofs.Common.{rules, ◌≡◌, ℕ, List, true, ap, ◌∙◌}
use Rattle.bb_units.specs.Units.{is_live, takes, after_set as with_value}
use Rattle.bb_pattern.specs.declared.value.DimValue.{DimValue}
use Rattle.bb_space.specs.Spaces.{after_moves}
use Rattle.bb_board.specs.State.{World}
use Rattle.bb_board.specs.Told.{told_again}
use Rattle.bb_board.proofs.ReadLemmas.{told_enough}
use Rattle.bb_board.proofs.state.State.set.Goals as goal

pub returns-in-Ok-clause-ok : goal.returns-in-Ok-clause-ok
returns-in-Ok-clause-ok c =
    let s = c.args.schema.now in
    let w = c.args.self.now in
    let n = c.args.unit in
    let live : is_live w.units n ≡ true = search rules in
    let takes_it : takes w.units n c.args.slot c.args.value ≡ true = search rules in
    let enough = told_enough s w c.requires.schema c.requires.fits n c.args.slot c.args.value live takes_it in
    let told : c.moved_all.new.self ≡ told_again s (with_value w.units n c.args.slot c.args.value) w.spaces n =
    c.in-Ok.ensures.moved ∙ (ap (λ (x : World). after_moves x.spaces n c.in_ok-moves.moves.items) c.in_ok-note.ensures.ok
    ∙ (ap (λ (moves : List (ℕ × List DimValue)). after_moves w.spaces n moves) c.in_ok-moves.ensures ∙ enough)) in
    rw told (search rules)
