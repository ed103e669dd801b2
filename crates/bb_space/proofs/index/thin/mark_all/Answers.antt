use Rattle.std.proofs.Common.{◌≡◌, ◌∷◌, ℕ, Bool, subst, rules}
use Rattle.bb_space.specs.index.proving.Stretches.{stands_in}
use Rattle.bb_space.specs.index.proving.Marks.{is_kept, is_left}
use Rattle.bb_space.proofs.index_lemmas.MarkLemmas.{LeftBut, left_but_less}
use Rattle.bb_space.proofs.index.thin.mark_all.Goals as goal

pub loop-place-preserved : goal.loop-place-preserved
loop-place-preserved c =
    let stands = stands_in c.args.stretch c.args.places.now in
    let place = c.in-Some.place.now in
    let new : ℕ → Bool = is_kept c.loop-place.marks.first c.mark.new.marks.items in
    let next : c.loop-place.place-iterator ≡ place ∷ c.next.new.self = search rules in (
      λ n h. c.mark.ensures.keeps n (c.loop-place.invariant.0 n h),
      left_but_less stands (is_left c.loop-place.marks) new place c.next.new.self c.mark.ensures.keeps c.mark.ensures.marked (subst (LeftBut stands (is_left c.loop-place.marks)) next c.loop-place.invariant.1),
    )
