use Rattle.std.proofs.Common.{rules, ◌≡◌, ◌∙◌, w64, List, Some, None, map, find, ap, subst, sym}
use Rattle.std.specs.Map.{values_of, set_value}
use Rattle.std.specs.Ordering.{nat_cmp}
use Rattle.std.specs.BTreeMap.{is_at}
use Rattle.std.proofs.lemmas.Int.{to_z-of_z}
use Rattle.bb_agenda.specs.declared.focusing.activation.Activation.{Activation}
use Rattle.bb_agenda.specs.Agenda.{has_number}
use Rattle.bb_agenda.specs.Changes.{based_at, rebased}
use Rattle.bb_agenda.specs.proving.Filed.{AreFiled, AreKeyed}
use Rattle.bb_agenda.specs.proving.Ranks.{AreRanked, reranked}
use Rattle.bb_agenda.proofs.FiledLemmas.{filed_rebased}
use Rattle.bb_agenda.proofs.KeyedLemmas.{lookup_is_find, values_rebased, keyed_rebased, nothing_rebased, same_base}
use Rattle.bb_agenda.proofs.RankLemmas.{ranked_rebased}
use Rattle.bb_agenda.proofs.waiting.Waiting.rerate.Goals as goal

pub returns-in_default-clause-ok : goal.returns-in_default-clause-ok
returns-in_default-clause-ok c =
    let n = c.args.number in
    let es = c.self.inside.activations.entries in
    let none : find (has_number n) (values_of es) ≡ None = sym (lookup_is_find n es c.self.invariant.keyed) ∙ sym c.get.ensures.value ∙ sym c.copied.ensures ∙ c.in_default.is in
    sym (ap (map (rebased n c.args.base)) (sym c.self.view_is) ∙ nothing_rebased n c.args.base (values_of es) none ∙ c.self.view_is)

pub returns-then-activation-base-clause-ok : goal.returns-then-activation-base-clause-ok
returns-then-activation-base-clause-ok c =
    let n = c.args.number in
    let a = c.in-Some.activation in
    let es = c.self.inside.activations.entries in
    let is : find (has_number n) (values_of es) ≡ Some a = sym (lookup_is_find n es c.self.invariant.keyed) ∙ sym c.get.ensures.value ∙ sym c.copied.ensures ∙ c.in-Some.is in
    let same : a.base ≡ c.args.base = search rules in
    sym (ap (map (rebased n c.args.base)) (sym c.self.view_is) ∙ ap (λ z. map (rebased n z) (values_of es)) (sym same) ∙ same_base n (values_of es) a c.self.invariant.filed.rising is ∙ c.self.view_is)

pub invariant_of-self-2 : goal.invariant_of-self-2
invariant_of-self-2 c =
    let n = c.args.number in
    let a = c.in-Some.activation in
    let old = c.self.inside in
    let es = old.activations.entries in
    let is : find (has_number n) (values_of es) ≡ Some a = sym (lookup_is_find n es c.self.invariant.keyed) ∙ sym c.get.ensures.value ∙ sym c.copied.ensures ∙ c.in-Some.is in
    let other : a.base ≡ c.args.base → ⊥ = search rules in
    let made : c.rebase.new.activations.entries ≡ set_value (is_at (nat_cmp n)) es (based_at c.args.base a) =
    c.rebase.ensures a (sym c.get.ensures.value ∙ sym c.copied.ensures ∙ c.in-Some.is) ∙ ap (λ z. set_value (is_at (nat_cmp n)) es (based_at z a)) (to_z-of_z w64 c.args.base c.ranges.base) in
    let values : values_of c.rebase.new.activations.entries ≡ map (rebased n c.args.base) (values_of es) = ap values_of made ∙ values_rebased n c.args.base a es c.self.invariant.keyed c.self.invariant.filed.rising is in
    record {
      keyed = subst AreKeyed (sym made) (keyed_rebased n c.args.base a es c.self.invariant.keyed is);
      filed = subst (λ (xs : List Activation). AreFiled xs old.lists) (sym values) (filed_rebased (values_of es) old.lists c.self.invariant.filed n c.args.base);
      ranked = subst (λ (xs : List Activation). AreRanked xs c.rerank.new.orders.items) (sym values)
          (ranked_rebased (values_of es) old.orders.items c.self.invariant.ranked n a is c.args.base c.rerank.new.orders.items other
          (λ s r. c.in_ok-rerank.ensures.ok s r ∙ ap (λ z. reranked old.orders.items a z s r) (to_z-of_z w64 c.args.base c.ranges.base)));
    }

pub returns-clause-ok : goal.returns-clause-ok
returns-clause-ok c =
    let n = c.args.number in
    let a = c.in-Some.activation in
    let es = c.self.inside.activations.entries in
    let is : find (has_number n) (values_of es) ≡ Some a = sym (lookup_is_find n es c.self.invariant.keyed) ∙ sym c.get.ensures.value ∙ sym c.copied.ensures ∙ c.in-Some.is in
    ap values_of (c.rebase.ensures a (sym c.get.ensures.value ∙ sym c.copied.ensures ∙ c.in-Some.is)) ∙ ap (λ z. values_of (set_value (is_at (nat_cmp n)) es (based_at z a))) (to_z-of_z w64 c.args.base c.ranges.base)
    ∙ values_rebased n c.args.base a es c.self.invariant.keyed c.self.invariant.filed.rising is ∙ ap (map (rebased n c.args.base)) c.self.view_is
