use Rattle.std.proofs.Common.{◌≡◌, ◌∙◌, ap, sym, subst, Bool, List, Option, ℕ}
use Rattle.bb_schema.specs.Schema.{Schema}
use Rattle.bb_schema.specs.proving.Readings.{firsts_of, read_slots, rows_of}
use Rattle.bb_schema.proofs.ReadingLemmas.{made_as}
use Rattle.bb_schema.proofs.readings.Readings.of.Goals as goal

pub returns : goal.returns
returns c =
    let firsts = subst (λ (s : Schema). c.from-firsts.result ≡ firsts_of s.slots) c.bare.view_is (c.from-firsts.ensures ∙ (c.in_ok-copy_of.ensures ∙ (c.as_slice.ensures ∙ c.bare.invariant.firsts))) in
    let read = c.in_ok-read.ensures ∙ ap (λ (dims : List (List (Option ℕ))). read_slots c.len.result dims) (c.deref.ensures.value ∙ sym c.from.ensures) in
    let rows = c.from-2.ensures ∙ (c.in_ok-rows.ensures
    ∙ (ap (λ (row : List Bool). rows_of row c.deref-3.result.now) c.deref-2.ensures.value
    ∙ ap (λ (dims : List (List (Option ℕ))). rows_of c.in_ok-read.read.items dims) (c.deref-3.ensures.value ∙ sym c.from.ensures))) in
    made_as c.args.bare.now c.args.spaces.now _ _ _ _ _ c.requires firsts (c.from.ensures ∙ c.in_ok-dims.ensures) c.len.ensures read rows
