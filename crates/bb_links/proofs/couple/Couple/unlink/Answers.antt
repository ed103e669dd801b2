use Rattle.std.proofs.Common.{◌≡◌, ◌∙◌, ap, sym, false}
use Rattle.bb_links.specs.Pairs.{has_pair}
use Rattle.bb_links.specs.Couples.{Couple, with_pairs}
use Rattle.bb_links.proofs.PairLemmas.{without_absent}
use Rattle.bb_links.proofs.couple.Couple.unlink.Goals as goal

pub returns-then-not-contains-clause-unlinked : goal.returns-then-not-contains-clause-unlinked
returns-then-not-contains-clause-unlinked c =
    let now : Couple = c.args.self.now in
    let absent : has_pair (c.args.a, c.args.b) now.pairs ≡ false = ap (λ (k : Couple). has_pair (c.args.a, c.args.b) k.pairs) (sym c.self.view_is) ∙ (sym c.contains.ensures ∙ c.if-not-contains.true) in
    ap (with_pairs now) (sym (without_absent (c.args.a, c.args.b) now.pairs absent))
