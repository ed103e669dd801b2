use Rattle.std.proofs.Common.{◌∙◌, sym}
use Rattle.bb_board.proofs.NameLemmas.{get_seen}
use Rattle.bb_board.proofs.unit_names.UnitNames.get.Goals as goal

pub returns : goal.returns
returns c = rw (← c.self.view_is) (c.copied.ensures ∙ c.get.ensures.value ∙ sym (get_seen c.self.inside.units c.args.name.now))
