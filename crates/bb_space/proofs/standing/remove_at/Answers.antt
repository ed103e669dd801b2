use Rattle.std.proofs.Common.{rules, not, ◌==◌, filter, ◌≡◌, arith}
use Rattle.std.proofs.lemmas.Fn.{filter_same}
use Rattle.std.proofs.lemmas.Grind.{common_steps}
use Rattle.bb_space.proofs.standing.remove_at.Goals as goal

pub returns-in-Some : goal.returns-in-Some
returns-in-Some c =
    let kept : c.retain.new.self.items ≡ filter (λ m. not (m == c.args.space)) c.in-Some.list.now.items = filter_same _ (λ m. not (m == c.args.space)) _ (λ x b f' k. search rules) _ _ c.retain.ensures.filtered in
    λ n. grind (arith, common_steps, kept)
