use Rattle.std.proofs.Common.{◌≡◌, ◌∙◌, ◌<◌, ◌++◌, ◌∷◌, [], List, ℕ, Result, Ok, Err, ap, subst, sym}
use Rattle.std.specs.Prelude.{OnErr}
use Rattle.std.specs.List.{AllByRecursion}
use Rattle.std.specs.Map.{values_of}
use Rattle.bb_agenda.specs.declared.focusing.activation.Activation.{Activation}
use Rattle.bb_agenda.specs.proving.Filed.{AreFiled, AreKeyed}
use Rattle.bb_agenda.specs.proving.Ranks.{AreRanked}
use Rattle.bb_agenda.proofs.FiledLemmas.{filed_put, filed_back}
use Rattle.bb_agenda.proofs.KeyedLemmas.{values_put, keyed_put, keys_below}
use Rattle.bb_agenda.proofs.RankLemmas.{ranked_put, not_ranked_yet}
use Rattle.bb_agenda.proofs.waiting.Waiting.push.Goals as goal

pub store-requires : goal.store-requires
store-requires c =
    let a = c.args.activation in
    let es = c.self.inside.activations.entries in
    keys_below a.number es c.self.invariant.keyed (subst (AllByRecursion (λ (b : Activation). b.number < a.number)) (sym c.self.view_is) c.requires)

pub invariant_of-self : goal.invariant_of-self
invariant_of-self c =
    let a = c.args.activation in
    let old = c.self.inside in
    let es = old.activations.entries in
    let below = subst (AllByRecursion (λ (b : Activation). b.number < a.number)) (sym c.self.view_is) c.requires in
    let again = c.in_err-store.ensures.unkept in
    record {
      keyed = subst AreKeyed (sym again) c.self.invariant.keyed;
      filed = subst (λ (fs : List (ℕ × Activation)). AreFiled (values_of fs) c.store.new.lists) (sym again) (filed_back (values_of es) old.lists c.self.invariant.filed a below c.store.new.lists c.in_err-store.ensures.unlisted);
      ranked = subst (λ (fs : List (ℕ × Activation)). AreRanked (values_of fs) c.store.new.orders.items) (sym again)
          (record { ranked = λ s r. c.in_err-store.ensures.unranked s r (not_ranked_yet (values_of es) old.orders.items c.self.invariant.ranked a below s r) ∙ c.self.invariant.ranked.ranked s r });
    }

pub invariant_of-self-2 : goal.invariant_of-self-2
invariant_of-self-2 c =
    let a = c.args.activation in
    let old = c.self.inside in
    let es = old.activations.entries in
    let below = subst (AllByRecursion (λ (b : Activation). b.number < a.number)) (sym c.self.view_is) c.requires in
    let values : values_of c.store.new.activations.entries ≡ values_of es ++ a ∷ [] = ap values_of c.in_ok-store.ensures.kept ∙ values_put es c.self.invariant.keyed a below in
    record {
      keyed = subst AreKeyed (sym c.in_ok-store.ensures.kept) (keyed_put es c.self.invariant.keyed a below);
      filed = subst (λ (xs : List Activation). AreFiled xs c.store.new.lists) (sym values) (filed_put (values_of es) old.lists c.self.invariant.filed a below c.store.new.lists c.in_ok-store.ensures.listed);
      ranked = subst (λ (xs : List Activation). AreRanked xs c.store.new.orders.items) (sym values) (ranked_put (values_of es) old.orders.items c.self.invariant.ranked a below c.store.new.orders.items c.in_ok-store.ensures.ranked);
    }

on_err : {X E P : Type 0} (r : Result X E) → P → OnErr r P
on_err (Ok x) holds = tt
on_err (Err e) holds = holds

pub returns-in_err-store-clause-err : goal.returns-in_err-store-clause-err
returns-in_err-store-clause-err c = on_err c.from_residual.result (ap values_of c.in_err-store.ensures.unkept ∙ c.self.view_is)

pub returns-clause-ok : goal.returns-clause-ok
returns-clause-ok c =
    let a = c.args.activation in
    let below = subst (AllByRecursion (λ (b : Activation). b.number < a.number)) (sym c.self.view_is) c.requires in
    ap values_of c.in_ok-store.ensures.kept ∙ values_put c.self.inside.activations.entries c.self.invariant.keyed a below ∙ ap (λ (xs : List Activation). xs ++ a ∷ []) c.self.view_is
