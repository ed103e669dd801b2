use Rattle.std.proofs.Common.{◌≡◌, ◌∙◌, ap, sym, length, arith}
use Rattle.bb_schema.specs.Couples.{pair_of}
use Rattle.bb_links.specs.Pairs.{without_pair}
use Rattle.bb_links.specs.proving.Stamps.{without_at}
use Rattle.bb_links.proofs.ClearLemmas.{one_gone, fewer_left, all_gone}
use Rattle.bb_links.proofs.pairs.Pairs.cut.Goals as goal

pub loop-partner-smaller : goal.loop-partner-smaller
loop-partner-smaller c =
    let now = c.loop-partner.self in
    let gone : c.remove.new.self ≡ without_pair (pair_of c.args.side c.args.unit c.in-Some.partner) now = c.remove.ensures ∙ ap (λ p. without_pair p now) c.pair.ensures in
    let fewer = fewer_left c.args.side c.args.unit c.in-Some.partner now (sym c.first.ensures ∙ c.in-Some.is) in
    omega (arith, fewer, ap length gone)

pub loop-partner-preserved : goal.loop-partner-preserved
loop-partner-preserved c =
    let now = c.loop-partner.self in
    ap (without_at c.args.side c.args.unit) (c.remove.ensures ∙ ap (λ p. without_pair p now) c.pair.ensures)
    ∙ (one_gone c.args.side c.args.unit c.in-Some.partner now ∙ c.loop-partner.invariant)

pub returns : goal.returns
returns c = sym (all_gone c.args.side c.args.unit c.loop-partner.self (sym c.first.ensures ∙ c.in_default.is)) ∙ c.loop-partner.invariant
