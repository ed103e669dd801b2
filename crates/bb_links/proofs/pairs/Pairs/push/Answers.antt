use Rattle.std.proofs.Common.{◌≡◌, ◌∙◌, ap, false, List, [], ◌∷◌, ◌++◌, ℕ}
use Rattle.bb_links.specs.Pairs.{has_pair}
use Rattle.bb_links.specs.proving.Maps.{value_at}
use Rattle.bb_links.specs.proving.Stamps.{pair_under, in_order}
use Rattle.bb_links.proofs.StampLemmas.{none_next, put_is, put_stamped, put_order}
use Rattle.bb_links.proofs.FollowLemmas.{none_under, follow_put, follow_again}
use Rattle.bb_links.proofs.pairs.Pairs.push.Goals as goal

pub put-requires : goal.put-requires
put-requires c =
    let old = c.self.inside in
    let kept = c.self.invariant in
    none_under (pair_under old.stamps) old.partners kept.follow c.args.pair old.next (none_next old.next (value_at old.stamps) (pair_under old.stamps) kept.stamped)

pub invariant_of-self-in-Ok : goal.invariant_of-self-in-Ok
invariant_of-self-in-Ok c =
    let old = c.self.inside in
    let kept = c.self.invariant in
    let u = pair_under old.stamps in
    let after = rw c.in_ok-after.ensures.ok_part at c.next_stamp.ensures in
    let absent : has_pair c.args.pair (in_order old.next u) ≡ false = ap (has_pair c.args.pair) c.self.view_is ∙ c.requires in
    record {
      stamped = rw after.1 (put_stamped old.next (value_at old.stamps) u kept.stamped c.args.pair c.put-2.new.map absent c.in-Ok.ensures.ok);
      follow = follow_put u old.partners kept.follow c.args.pair old.next (none_next old.next (value_at old.stamps) u kept.stamped) (pair_under c.put-2.new.map) c.put.new.self
          (put_is old.next (value_at old.stamps) u kept.stamped c.args.pair c.put-2.new.map absent c.in-Ok.ensures.ok) c.in_ok-put.ensures.ok;
    }

pub returns-in-Ok-clause-ok : goal.returns-in-Ok-clause-ok
returns-in-Ok-clause-ok c =
    let old = c.self.inside in
    let u = pair_under old.stamps in
    let after = rw c.in_ok-after.ensures.ok_part at c.next_stamp.ensures in
    let absent : has_pair c.args.pair (in_order old.next u) ≡ false = ap (has_pair c.args.pair) c.self.view_is ∙ c.requires in
    ap (λ n. in_order n (pair_under c.put-2.new.map)) after.1
    ∙ (put_order old.next (value_at old.stamps) u c.self.invariant.stamped c.args.pair c.put-2.new.map absent c.in-Ok.ensures.ok
    ∙ ap (λ (ps : List (ℕ × ℕ)). ps ++ c.args.pair ∷ []) c.self.view_is)

pub invariant_of-self-in-Err : goal.invariant_of-self-in-Err
invariant_of-self-in-Err c =
    let old = c.self.inside in
    let kept = c.self.invariant in
    let none = none_next old.next (value_at old.stamps) (pair_under old.stamps) kept.stamped in
    record {
      stamped = rw c.in-Err.ensures.err kept.stamped;
      follow = rw c.in-Err.ensures.err (follow_again (pair_under old.stamps) old.partners kept.follow c.args.pair old.next none c.put.new.self c.take.new.self c.in_ok-put.ensures.ok c.take.ensures);
    }
