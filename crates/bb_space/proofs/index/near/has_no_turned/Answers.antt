use Rattle.std.proofs.Common.{sym, ◌∙◌}
use Rattle.bb_space.proofs.index_lemmas.CountLemmas.{no_turned, has_none}
use Rattle.bb_space.proofs.index.near.has_no_turned.Goals as goal

pub returns-in-None : goal.returns-in-None
returns-in-None c = λ _. no_turned c.args.leaf.now c.args.places.now (sym c.turned_of.ensures ∙ c.in-None.is)

pub returns-in-Some : goal.returns-in-Some
returns-in-Some c = λ few. has_none c.args.leaf.now c.args.places.now c.in-Some.turned (sym c.turned_of.ensures ∙ c.in-Some.is) (sym c.are_few.ensures.few ∙ few)
