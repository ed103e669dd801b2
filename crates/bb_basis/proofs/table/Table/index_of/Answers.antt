use Rattle.std.proofs.Common.{◌∙◌, ap, rules}
use Rattle.std.specs.Prelude.{position}
use Rattle.std.specs.Str.{bytes_eq}
use Rattle.bb_basis.proofs.table.Table.index_of.Goals as goal

pub returns-in_err-index : goal.returns-in_err-index
returns-in_err-index g c = rw (← c.self.view_is, ← c.self.invariant.named) (search rules)

pub returns : goal.returns
returns g c = rw (← c.self.view_is) (c.in_ok-index.ensures ∙ ap (position (bytes_eq c.args.name.now)) c.self.invariant.named)
