use Rattle.std.proofs.Common.{ℕ, Option, None, get_or, ◌∙◌, sym, ap, set}
use Rattle.std.specs.Prelude.{◌==◌}
use Rattle.bb_units.specs.proving.Numbered.{place_in}
use Rattle.bb_units.proofs.PlaceLemmas.{is_place, is_nowhere}
use Rattle.bb_units.proofs.EntryLemmas.{content}
use Rattle.bb_units.proofs.numbered.vacate.Goals as goal

pub returns-in_err-place-clause-key : goal.returns-in_err-place-clause-key
returns-in_err-place-clause-key c =
    let nowhere = is_nowhere (λ k. c.args.unit == k) c.args.entries.now.items (sym (c.in_err-place.ensures ∙ ap (place_in c.args.unit) c.deref.ensures.value)) in
    c.from_residual.ensures ∙ sym (ap content nowhere.0)

pub returns-in_err-place-clause-gone : goal.returns-in_err-place-clause-gone
returns-in_err-place-clause-gone c =
    let nowhere = is_nowhere (λ k. c.args.unit == k) c.args.entries.now.items (sym (c.in_err-place.ensures ∙ ap (place_in c.args.unit) c.deref.ensures.value)) in
    sym (nowhere.1 None)

pub returns-clause-key : goal.returns-clause-key
returns-clause-key c =
    let there = is_place (λ k. c.args.unit == k) c.index_mut.result.now c.in_ok-place.place c.args.entries.now.items (sym (c.in_ok-place.ensures ∙ ap (place_in c.args.unit) c.deref.ensures.value)) in
    c.take.ensures.value ∙ (ap (λ (e : ℕ × Option ℕ). e.1) c.index_mut.ensures.value ∙ sym (ap content there.found))

pub returns-clause-gone : goal.returns-clause-gone
returns-clause-gone c =
    let es = c.args.entries.now.items in
    let there = is_place (λ k. c.args.unit == k) c.index_mut.result.now c.in_ok-place.place es (sym (c.in_ok-place.ensures ∙ ap (place_in c.args.unit) c.deref.ensures.value)) in
    ap (λ (e : ℕ × Option ℕ). set es c.in_ok-place.place (e.0, c.take.new.self)) c.index_mut.ensures.value
    ∙ (ap (λ (key : Option ℕ). set es c.in_ok-place.place ((get_or es c.in_ok-place.place c.index_mut.result.now).0, key)) c.take.ensures.after ∙ sym (there.writes None))
