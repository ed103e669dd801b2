use Rattle.std.proofs.Common.{◌∙◌, ap, sym}
use Rattle.std.specs.Prelude.{is_some}
use Rattle.std.specs.Str.{bytes_eq}
use Rattle.bb_basis.proofs.ListLemmas.{position-map}
use Rattle.bb_run.specs.Closing.{Closing}
use Rattle.bb_shell.proofs.fitting.has_native.Goals as goal

pub returns : goal.returns
returns c =
    let same = position-map (λ one. bytes_eq one c.args.name.now) (λ (k : Closing). k.name) c.args.natives.now in
    c.is_some.ensures ∙ ap is_some (c.place_of.ensures ∙ sym same)
