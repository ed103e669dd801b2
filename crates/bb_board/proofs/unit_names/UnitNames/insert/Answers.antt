use Rattle.std.proofs.Common.{◌∙◌, ap, sym, List, ℕ}
use Rattle.std.specs.Ordering.{nat_cmp}
use Rattle.std.specs.Cmp.Lexicographic.{slice_cmp}
use Rattle.std.specs.FinMap.{FinMap, get, insert}
use Rattle.std.specs.String.{string_bytes}
use Rattle.bb_board.proofs.NameLemmas.{seen, get_seen, seen_inserted}
use Rattle.bb_board.proofs.unit_names.UnitNames.insert.Goals as goal

pub returns-clause-had : goal.returns-clause-had
returns-clause-had c =
    c.in_ok-had.ensures.old
    ∙ sym (get_seen c.self.inside.units (string_bytes c.in_ok-from_str.field-0))
    ∙ ap (λ (name : List ℕ). get (seen c.self.inside.units) name) c.in_ok-from_str.ensures.ok
    ∙ ap (λ (m : FinMap (slice_cmp nat_cmp) ℕ). get m c.args.name.now) c.self.view_is

pub returns-clause-ok : goal.returns-clause-ok
returns-clause-ok c =
    seen_inserted c.self.inside.units c.insert.new.self (string_bytes c.in_ok-from_str.field-0) c.args.unit c.in_ok-had.ensures.updates
    ∙ ap (λ (name : List ℕ). insert (seen c.self.inside.units) name c.args.unit) c.in_ok-from_str.ensures.ok
    ∙ ap (λ (m : FinMap (slice_cmp nat_cmp) ℕ). insert m c.args.name.now c.args.unit) c.self.view_is
