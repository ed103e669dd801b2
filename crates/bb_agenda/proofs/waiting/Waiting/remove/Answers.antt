use Rattle.std.proofs.Common.{◌≡◌, ◌∙◌, List, Some, filter, find, ap, subst, sym}
use Rattle.std.specs.Map.{values_of}
use Rattle.bb_agenda.specs.declared.focusing.activation.Activation.{Activation}
use Rattle.bb_agenda.specs.Agenda.{has_number}
use Rattle.bb_agenda.specs.Changes.{other_than}
use Rattle.bb_agenda.specs.proving.Filed.{AreFiled, AreKeyed}
use Rattle.bb_agenda.specs.proving.Ranks.{AreRanked, ranked_less}
use Rattle.bb_agenda.proofs.FiledLemmas.{filed_less}
use Rattle.bb_agenda.proofs.KeyedLemmas.{lookup_is_find, values_less, keyed_less}
use Rattle.bb_agenda.proofs.RankLemmas.{ranked_gone}
use Rattle.bb_agenda.proofs.waiting.Waiting.remove.Goals as goal

pub invariant_of-self : goal.invariant_of-self
invariant_of-self c =
    let old = c.self.inside in
    let n = c.args.number in
    let a = c.in-Some.activation in
    let es = old.activations.entries in
    let is : find (has_number n) (values_of es) ≡ Some a = sym (lookup_is_find n es c.self.invariant.keyed) ∙ sym c.remove.ensures.value ∙ c.in-Some.is in
    let values : values_of c.remove.new.self.entries ≡ filter (other_than n) (values_of es) = ap values_of c.remove.ensures.entries ∙ values_less n es c.self.invariant.keyed c.self.invariant.filed.rising in
    record {
      keyed = subst AreKeyed (sym c.remove.ensures.entries) (keyed_less n es c.self.invariant.keyed);
      filed = subst (λ (xs : List Activation). AreFiled xs c.remove-in-Some.new.self) (sym values) (filed_less (values_of es) old.lists c.self.invariant.filed n a is c.remove-in-Some.new.self c.remove-in-Some.ensures);
      ranked = subst (λ (xs : List Activation). AreRanked xs c.rank_out.new.orders.items) (sym values)
          (ranked_gone (values_of es) old.orders.items c.self.invariant.ranked n a is c.rank_out.new.orders.items (λ s r. c.rank_out.ensures s r ∙ ap (λ k. ranked_less old.orders.items a.source k s r) c.of.ensures));
    }

pub returns-in-Some : goal.returns-in-Some
returns-in-Some c =
    ap values_of c.remove.ensures.entries ∙ values_less c.args.number c.self.inside.activations.entries c.self.invariant.keyed c.self.invariant.filed.rising ∙ ap (filter (other_than c.args.number)) c.self.view_is

pub returns-in_default : goal.returns-in_default
returns-in_default c =
    ap values_of c.remove.ensures.entries ∙ values_less c.args.number c.self.inside.activations.entries c.self.invariant.keyed c.self.invariant.filed.rising ∙ ap (filter (other_than c.args.number)) c.self.view_is
