use Rattle.std.proofs.Common.{rules, ◌≡◌, ℕ, Option, sym, subst}
use Rattle.std.specs.Prelude.{is_some}
use Rattle.std.proofs.lemmas.Fn.{filter_same}
use Rattle.bb_units.specs.proving.Numbered.{HaveSame}
use Rattle.bb_units.proofs.ChangeLemmas.{filled, filled_has_same}
use Rattle.bb_units.proofs.numbered.close_gaps.Goals as goal

pub returns : goal.returns
returns c =
    let es = c.args.entries.now.items in
    let left : c.retain.new.self.items ≡ filled es = filter_same _ (λ (e : ℕ × Option ℕ). is_some e.1) _ (λ x b f' k. search rules) _ _ c.retain.ensures.filtered in
    subst (HaveSame es) (sym left) (filled_has_same es)
