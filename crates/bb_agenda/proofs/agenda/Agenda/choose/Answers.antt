use Rattle.std.proofs.Common.{◌≡◌, ◌∙◌, ap, find, subst, sym, w64}
use Rattle.std.proofs.lemmas.Int.{to_z-of_z}
use Rattle.std.specs.Prelude.{IfSome, option_map}
use Rattle.bb_agenda.specs.Agenda.{Agenda, number_of, has_number, pending_at, pending_of}
use Rattle.bb_agenda.specs.Chosen.{chosen}
use Rattle.bb_agenda.specs.Rating.{rating_in}
use Rattle.bb_agenda.specs.proving.Kept.{entries_of}
use Rattle.bb_agenda.specs.proving.Numbers.{is_in}
use Rattle.bb_agenda.proofs.ChoiceLemmas.{same_choice}
use Rattle.bb_agenda.proofs.agenda.Agenda.choose.Goals as goal

pub returns : goal.returns
returns c =
    let old = c.self.inside in
    let seen : Agenda = record { given = entries_of old.given old.waiting (is_in old.obviated); foci = old.steering.foci; setting = old.steering.setting; refused = old.refused } in
    record {
      number = c.choose.ensures.number ∙ ap (λ z. option_map number_of (chosen (rating_in seen) z old.waiting)) (to_z-of_z w64 c.args.floor c.ranges.floor)
          ∙ ap (λ xs. option_map number_of (chosen (rating_in seen) c.args.floor xs)) (sym c.self.invariant.all)
          ∙ ap (λ (g : Agenda). option_map number_of (chosen (rating_in g) c.args.floor (pending_of g))) c.self.view_is;
      same = subst (λ (g : Agenda). IfSome c.choose.result (λ n. pending_at g n ≡ chosen (rating_in g) c.args.floor (pending_of g))) c.self.view_is
          (same_choice (rating_in seen) c.args.floor c.choose.result old.waiting (pending_of seen) (sym c.self.invariant.all)
          (subst (λ z. IfSome c.choose.result (λ n. find (has_number n) old.waiting ≡ chosen (rating_in seen) z old.waiting)) (to_z-of_z w64 c.args.floor c.ranges.floor) c.choose.ensures.same));
    }
