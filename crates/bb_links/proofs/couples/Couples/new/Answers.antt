use Rattle.std.proofs.Common.{◌∙◌, ap, sym, subst, List}
use Rattle.bb_links.specs.Layout.{end_among, singulars}
use Rattle.bb_links.specs.Couples.{Couple}
use Rattle.bb_links.specs.proving.Standing.{AreListed}
use Rattle.bb_links.proofs.LayoutLemmas.{new_fits, end_is}
use Rattle.bb_links.proofs.StandingLemmas.{none_stand}
use Rattle.bb_links.proofs.couples.Couples.new.Goals as goal

pub invariant_of-result : goal.invariant_of-result
invariant_of-result c = record {
  fits = new_fits c.args.schema.now c.in_ok-couples_of.field-0.items c.in_ok-slot_ends.field-0.items c.in_ok-couples_of.ensures c.in_ok-slot_ends.ensures.there;
  each = subst (λ (ks : List Couple). AreListed ks c.new.result) (sym c.in_ok-couples_of.ensures) (none_stand (singulars c.args.schema.now) c.new.result);
}

pub returns-clause-ends : goal.returns-clause-ends
returns-clause-ends c = λ slot. ap (λ es. end_among es slot) c.in_ok-slot_ends.ensures.ends ∙ end_is c.args.schema.now slot
