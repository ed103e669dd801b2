use Rattle.std.proofs.Common.{◌∙◌, ap}
use Rattle.std.specs.List.{list_any}
use Rattle.std.specs.Str.{bytes_eq}
use Rattle.bb_basis.proofs.table.Table.contains.Goals as goal

pub returns : goal.returns
returns g c = rw (← c.self.view_is) (c.contains.ensures ∙ ap (list_any (bytes_eq c.args.name.now)) c.self.invariant.named)
