use Rattle.std.proofs.Common.{◌≡◌, ◌∙◌, ◌++◌, List, length, map, ap, sym}
use Rattle.std.proofs.lemmas.List.{append-nil, nil_from_length}
use Rattle.std.specs.Vec.Iter.{into_iter_items}
use Rattle.bb_trace.specs.declared.note.Note.TheVariants.{Board}
use Rattle.bb_run.proofs.noting.add_board_notes.Goals as goal

-- nothing is left to move
all_moved : {A B : Type 0} (f : A → B) (front total : List B) (items : List A) → length items ≡ 0 → front ++ map f items ≡ total → front ≡ total
all_moved f front total items none so_far = sym (append-nil front) ∙ ap (λ xs. front ++ map f xs) (sym (nil_from_length items none)) ∙ so_far

pub returns : goal.returns
returns c =
    all_moved (λ n. Board n) c.loop-note.notes.items (c.args.notes.now.items ++ map (λ n. Board n) c.args.noted.items) (into_iter_items c.loop-note.note-iterator) (sym c.loop-note.note-iterator.rest.ok.0 ∙ c.in-None.ensures.steps.0) c.loop-note.invariant
