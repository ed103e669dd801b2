use Rattle.std.proofs.Common.{◌≡◌, ◌∙◌, false, sym, subst, rules}
use Rattle.std.specs.List.Sorted.{IsStrictlyIncreasing}
use Rattle.bb_schema.specs.Ownership.{owns_any}
use Rattle.bb_board.proofs.DeletionLemmas.{delete_at_once}
use Rattle.bb_board.proofs.OwningLemmas.{none_owns}
use Rattle.bb_board.proofs.PartLemmas.{parts_rise, parts_live, alone_there}
use Rattle.bb_board.proofs.state.State.delete.Goals as goal

pub returns-then-not-owns_any-clause-ok : goal.returns-then-not-owns_any-clause-ok
returns-then-not-owns_any-clause-ok c =
    let s = c.args.schema.now in
    let w = c.args.self.now in
    let none : owns_any s ≡ false = sym c.owns_any.ensures ∙ search rules in
    rw (delete_at_once s w c.requires.schema c.requires.fits c.args.unit, ← alone_there s w (none_owns s none) c.args.unit c.requires.live) c.delete_all.ensures.ok

pub delete_all-requires-2-clause-live : goal.delete_all-requires-2-clause-live
delete_all-requires-2-clause-live c =
    rw (c.deref.ensures.value, c.in_ok-units.ensures) (parts_live c.args.schema.now c.args.self.now c.args.unit)

pub delete_all-requires-2-clause-rising : goal.delete_all-requires-2-clause-rising
delete_all-requires-2-clause-rising c =
    subst IsStrictlyIncreasing (sym (c.deref.ensures.value ∙ c.in_ok-units.ensures)) (parts_rise c.args.schema.now c.args.self.now c.args.unit)

pub returns-clause-ok : goal.returns-clause-ok
returns-clause-ok c =
    rw (delete_at_once c.args.schema.now c.args.self.now c.requires.schema c.requires.fits c.args.unit, ← c.in_ok-units.ensures, ← c.deref.ensures.value) c.delete_all-2.ensures.ok
