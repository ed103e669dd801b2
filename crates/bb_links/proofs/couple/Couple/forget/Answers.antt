use Rattle.std.proofs.Common.{◌∙◌, ap}
use Rattle.bb_schema.specs.declared.couple.Side.TheVariants.{B}
use Rattle.bb_links.specs.Pairs.{without_unit}
use Rattle.bb_links.specs.Couples.{Couple, with_pairs}
use Rattle.bb_links.specs.proving.Stamps.{without_at}
use Rattle.bb_links.proofs.CutLemmas.{cut_at_both}
use Rattle.bb_links.proofs.couple.Couple.forget.Goals as goal

pub returns : goal.returns
returns c =
    let seen : Couple = record { singular = c.self.inside.singular; pairs = c.self.inside.pairs } in
    ap (with_pairs seen) (c.cut-2.ensures ∙ (ap (without_at B c.args.unit) c.cut.ensures ∙ cut_at_both c.args.unit c.self.inside.pairs))
    ∙ ap (λ (k : Couple). with_pairs k (without_unit c.args.unit k.pairs)) c.self.view_is
