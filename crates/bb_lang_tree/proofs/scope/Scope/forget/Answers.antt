use Rattle.bb_lang_tree.proofs.ScopeLemmas.{forgotten_strings}
use Rattle.bb_lang_tree.proofs.scope.Scope.forget.Goals as goal

pub invariant_of-self : goal.invariant_of-self
invariant_of-self c = forgotten_strings c.self.inside.names.items c.pop.new.self.items c.in-Some.name c.as_str.result.now c.self.inside.found c.remove.new.self c.self.invariant c.in-Some.ensures.items c.as_str.ensures.value c.remove.ensures.updates
