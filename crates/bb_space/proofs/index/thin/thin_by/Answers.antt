use Rattle.std.proofs.Common.{◌≡◌, true, ap, ◌∙◌, rules}
use Rattle.std.specs.Prelude.{filter}
use Rattle.bb_space.specs.index.proving.Stretches.{is_near}
use Rattle.bb_space.specs.index.proving.Marks.{is_kept}
use Rattle.bb_space.proofs.index_lemmas.MarkLemmas.{leaves_near}
use Rattle.bb_space.proofs.index.thin.thin_by.Goals as goal

pub returns : goal.returns
returns c =
    let marks = c.mark_near.new.marks in
    let list = c.in_ok-kept.field-0.items in
    let came : c.mark_near.result ≡ true = search rules in
    let is : list ≡ filter (is_kept marks.first marks.marks.items) c.args.among.now = c.in_ok-kept.ensures ∙ ap (λ ms. filter (is_kept marks.first ms) c.args.among.now) c.deref.ensures.value in
    leaves_near (is_near c.args.test.now c.args.places.now) (is_kept marks.first marks.marks.items) c.args.among.now list is (c.mark_near.ensures came)
