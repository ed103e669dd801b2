use Rattle.std.proofs.Common.{◌∙◌, ap, sym}
use Rattle.bb_links.specs.Pairs.{without_pair}
use Rattle.bb_links.specs.proving.Maps.{value_at}
use Rattle.bb_links.specs.proving.Stamps.{pair_under}
use Rattle.bb_links.proofs.StampLemmas.{take_is, take_stamped, take_order}
use Rattle.bb_links.proofs.FollowLemmas.{follow_less}
use Rattle.bb_links.proofs.pairs.Pairs.remove.Goals as goal

pub invariant_of-self : goal.invariant_of-self
invariant_of-self c =
    let old = c.self.inside in
    let kept = c.self.invariant in
    let u = pair_under old.stamps in
    let is = sym c.take.ensures.value ∙ c.in-Some.is in
    record {
      stamped = take_stamped old.next (value_at old.stamps) u kept.stamped c.args.pair c.take.new.map c.take.ensures.gone;
      follow = follow_less u (pair_under c.take.new.map) old.partners c.take-in-Some.new.self c.args.pair c.in-Some.stamp kept.follow (kept.stamped.there c.args.pair c.in-Some.stamp is)
          (take_is old.next (value_at old.stamps) u kept.stamped c.args.pair c.take.new.map c.take.ensures.gone c.in-Some.stamp is) c.take-in-Some.ensures;
    }

pub returns-in-Some : goal.returns-in-Some
returns-in-Some c =
    let old = c.self.inside in
    take_order old.next (value_at old.stamps) (pair_under old.stamps) c.self.invariant.stamped c.args.pair c.take.new.map c.take.ensures.gone ∙ ap (without_pair c.args.pair) c.self.view_is

pub invariant_of-self-in_default : goal.invariant_of-self-in_default
invariant_of-self-in_default c = record { stamped = rw c.in_default.ensures.none c.self.invariant.stamped; follow = rw c.in_default.ensures.none c.self.invariant.follow }

pub returns-in_default : goal.returns-in_default
returns-in_default c =
    let old = c.self.inside in
    take_order old.next (value_at old.stamps) (pair_under old.stamps) c.self.invariant.stamped c.args.pair c.take.new.map c.take.ensures.gone ∙ ap (without_pair c.args.pair) c.self.view_is
