use Rattle.std.proofs.Common.{rules, ◌≡◌, ◌∙◌, ◌≤ℤ◌, ◌<ℤ◌, ℕ, Some, None, List, true, find, ap, subst, sym, arith, w64}
use Rattle.std.specs.Prelude.{option_map}
use mir.Val.{SFits}
use Rattle.std.specs.Int.{w128}
use Rattle.std.specs.Map.{values_of}
use Rattle.std.specs.BTreeSet.{BTreeSet}
use Rattle.std.proofs.lemmas.Int.{ints, to_z-of_z}
use Rattle.bb_agenda.specs.declared.rank.Rank.{Rank}
use Rattle.bb_agenda.specs.Agenda.{number_of, has_number}
use Rattle.bb_agenda.specs.Chosen.{chosen}
use Rattle.bb_agenda.specs.focusing.Rating.{rating}
use Rattle.bb_agenda.specs.proving.Best.{rate_by, StandsFor, IsFirst}
use Rattle.bb_agenda.specs.proving.Ranks.{is_ranked}
use Rattle.bb_agenda.proofs.ChoiceLemmas.{no_best, too_low, best_is}
use Rattle.bb_agenda.proofs.focusing_lemmas.Laws.{rating_is}
use Rattle.bb_agenda.proofs.waiting.Waiting.choose.Goals as goal

pub returns-in_err-best-clause-number : goal.returns-in_err-best-clause-number
returns-in_err-best-clause-number c =
    let s = c.args.steering.now in
    let rate = rating s.setting.schema s.setting.sources s.foci in
    let xs = values_of c.self.inside.activations.entries in
    let orders = c.self.inside.orders.items in
    let all : (n : ℕ) (r : Rank) → is_ranked orders n r ≡ true → IsFirst (rate_by s n r.base.0) r.number None =
    subst (λ (os : List (BTreeSet Rank)). (n : ℕ) (r : Rank) → is_ranked os n r ≡ true → IsFirst (rate_by s n r.base.0) r.number None) c.deref.ensures.value c.in_err-best.ensures.all in
    c.from_residual.ensures
    ∙ sym (ap (option_map number_of) (ap (chosen rate c.args.floor) (sym c.self.view_is) ∙ no_best rate c.args.floor xs c.self.invariant.filed.rising orders c.self.invariant.ranked (rate_by s) (rating_is s.setting.schema s.setting.sources s.foci) all))

pub returns-then-best-from-clause-number : goal.returns-then-best-from-clause-number
returns-then-best-from-clause-number c =
    let s = c.args.steering.now in
    let b = c.in_ok-best.best in
    let rate = rating s.setting.schema s.setting.sources s.foci in
    let xs = values_of c.self.inside.activations.entries in
    let orders = c.self.inside.orders.items in
    let all : (n : ℕ) (r : Rank) → is_ranked orders n r ≡ true → IsFirst (rate_by s n r.base.0) r.number (Some b) =
    subst (λ (os : List (BTreeSet Rank)). (n : ℕ) (r : Rank) → is_ranked os n r ≡ true → IsFirst (rate_by s n r.base.0) r.number (Some b)) c.deref.ensures.value c.in_ok-best.ensures.all in
    let same = to_z-of_z w64 c.args.floor c.ranges.floor in
    let fits : SFits w128 b.rating = search rules in
    let floor_fits : SFits w128 c.from.result = search rules in
    let rated = to_z-of_z w128 b.rating fits in
    let least = to_z-of_z w128 c.from.result floor_fits in
    let test = c.if-best-from.true in
    let low : b.rating <ℤ c.args.floor = omega (arith, ints, test, rated, least, c.from.ensures, same) in
    sym (ap (option_map number_of) (ap (chosen rate c.args.floor) (sym c.self.view_is) ∙ too_low rate c.args.floor xs c.self.invariant.filed.rising orders c.self.invariant.ranked (rate_by s) (rating_is s.setting.schema s.setting.sources s.foci) b low all))

pub returns : goal.returns
returns c =
    let s = c.args.steering.now in
    let b = c.in_ok-best.best in
    let rate = rating s.setting.schema s.setting.sources s.foci in
    let xs = values_of c.self.inside.activations.entries in
    let orders = c.self.inside.orders.items in
    let all : (n : ℕ) (r : Rank) → is_ranked orders n r ≡ true → IsFirst (rate_by s n r.base.0) r.number (Some b) =
    subst (λ (os : List (BTreeSet Rank)). (n : ℕ) (r : Rank) → is_ranked os n r ≡ true → IsFirst (rate_by s n r.base.0) r.number (Some b)) c.deref.ensures.value c.in_ok-best.ensures.all in
    let stands : StandsFor (rate_by s) orders b = subst (λ (os : List (BTreeSet Rank)). StandsFor (rate_by s) os b) c.deref.ensures.value c.in_ok-best.ensures.some in
    let fits : SFits w128 b.rating = search rules in
    let floor_fits : SFits w128 c.from.result = search rules in
    let rated = to_z-of_z w128 b.rating fits in
    let least = to_z-of_z w128 c.from.result floor_fits in
    let same = to_z-of_z w64 c.args.floor c.ranges.floor in
    let test = c.if-best-from.false in
    let enough : c.args.floor ≤ℤ b.rating = omega (arith, ints, test, rated, least, c.from.ensures, same) in
    let it = best_is rate c.args.floor xs c.self.invariant.filed.rising orders c.self.invariant.ranked (rate_by s) (rating_is s.setting.schema s.setting.sources s.foci) b enough stands all in
    let chosen_it : chosen rate c.args.floor c.args.self.now ≡ Some it.a = ap (chosen rate c.args.floor) (sym c.self.view_is) ∙ it.chosen_it in
    record {
      number = ap (λ n. Some n) (sym it.number) ∙ ap (option_map number_of) (sym chosen_it);
      same = ap (find (has_number b.number)) (sym c.self.view_is) ∙ it.found ∙ sym chosen_it;
    }
