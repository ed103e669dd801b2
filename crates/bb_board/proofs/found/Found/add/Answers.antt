use Rattle.std.proofs.Common.{◌∙◌, sym, rules, false, ◌≡◌}
use Rattle.bb_board.specs.proving.Deleted.{is_of}
use Rattle.bb_board.proofs.FoundLemmas.{one_found}
use Rattle.bb_board.proofs.found.Found.add.Goals as goal

pub invariant_of-self-2 : goal.invariant_of-self-2
invariant_of-self-2 c =
    let found = c.self.inside.units.items in
    let unknown : is_of found c.args.unit ≡ false = sym (c.self.invariant.same c.args.unit) ∙ search rules in
    rw (c.push_reserved.ensures.items, c.reserve.ensures.items) (one_found found c.args.unit c.self.inside.known c.insert.new.self c.self.invariant unknown c.in_ok-insert.ensures.updates)
