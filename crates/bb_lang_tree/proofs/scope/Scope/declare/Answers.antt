use Rattle.std.proofs.Common.{ℕ, rules, false, List, sym, subst, ◌≡◌}
use Rattle.std.specs.List.{list_any}
use Rattle.std.specs.Str.{bytes_eq}
use Rattle.bb_lang_tree.proofs.ScopeLemmas.{declared_strings}
use Rattle.bb_lang_tree.proofs.scope.Scope.declare.Goals as goal

pub invariant_of-self-2 : goal.invariant_of-self-2
invariant_of-self-2 c =
    let fresh = subst (λ (names : List (List ℕ)). list_any (bytes_eq c.args.name.now) names ≡ false) (sym c.self.view_is) c.requires in
    declared_strings c.self.inside.names.items c.push_reserved.new.self.items c.in_ok-listed.listed c.in_ok-key.key c.args.name.now c.self.inside.found c.insert.new.self c.self.invariant fresh
    c.in_ok-listed.ensures.ok c.in_ok-key.ensures.ok (search rules) c.in_ok-insert.ensures.updates
