use Rattle.std.proofs.Common.{◌∙◌, ap, sym, subst, List, ℕ}
use Rattle.bb_links.specs.Couples.{Couple, Couples}
use Rattle.bb_links.specs.Fits.{Fits}
use Rattle.bb_links.specs.proving.Standing.{is_in, AreListed}
use Rattle.bb_links.proofs.ChangeLemmas.{forget_fits}
use Rattle.bb_links.proofs.StandingLemmas.{all_forgotten}
use Rattle.bb_links.proofs.couples.Couples.forget.Goals as goal

pub invariant_of-self : goal.invariant_of-self
invariant_of-self c =
    let seen : Couples = record { couples = c.self.inside.couples.items; ends = c.self.inside.ends.items } in
    record {
      fits = subst (λ (ks : List Couple). Fits (record { couples = ks; ends = seen.ends })) (sym c.forget_each.ensures) (forget_fits seen c.args.unit c.self.invariant.fits);
      each = subst (λ (ks : List Couple). AreListed ks c.take-couples.new.self) (sym c.forget_each.ensures) (all_forgotten seen.couples c.args.unit c.self.inside.standing c.take-couples.new.self c.self.invariant.each c.take-couples.ensures.others);
    }

pub forget_each-requires : goal.forget_each-requires
forget_each-requires c = λ i k is stands. ap (λ (l : List ℕ). is_in l i) (c.deref.ensures.value ∙ c.take-couples.ensures.list) ∙ c.self.invariant.each c.args.unit i k is stands
