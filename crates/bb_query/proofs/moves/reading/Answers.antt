use Rattle.std.proofs.Common.{◌≡◌, ◌<◌, ◌≤◌, ◌∙◌, ℕ, Option, Some, None, length, get_or, refl, ap, rules}
use Rattle.std.proofs.lemmas.Option.{slice_get_read, slice_get_past}
use Rattle.bb_query.proofs.MovesLemmas.{reading_by}
use Rattle.bb_query.proofs.moves.reading.Goals as goal

pub returns-in_err-get : goal.returns-in_err-get
returns-in_err-get c =
    let row = c.readings.result.now in
    let past : length row ≤ c.args.space = search rules in
    c.from_residual.ensures ∙ reading_by c.args.schema.now c.args.slot c.args.space row None c.readings.ensures (slice_get_past row c.args.space past)

pub returns-in_err-place : goal.returns-in_err-place
returns-in_err-place c =
    let row = c.readings.result.now in
    let found = c.in_ok-get.field-0.now in
    let lt : c.args.space < length row = search rules in
    let is : found ≡ get_or row c.args.space found = search rules in
    let none : found ≡ None = search rules in
    c.from_residual-in_err-place.ensures ∙ reading_by c.args.schema.now c.args.slot c.args.space row (Some None) c.readings.ensures
    (slice_get_read row (length row) c.args.space found refl lt is ∙ ap (λ (o : Option ℕ). Some o) none)

pub returns : goal.returns
returns c =
    let row = c.readings.result.now in
    let found = c.in_ok-get.field-0.now in
    let lt : c.args.space < length row = search rules in
    let is : found ≡ get_or row c.args.space found = search rules in
    let some : found ≡ Some c.in_ok-place.place = search rules in
    reading_by c.args.schema.now c.args.slot c.args.space row (Some (Some c.in_ok-place.place)) c.readings.ensures
    (slice_get_read row (length row) c.args.space found refl lt is ∙ ap (λ (o : Option ℕ). Some o) some)
