use Rattle.std.proofs.Common.{◌≡◌, ◌<◌, ◌∙◌, false, Some, ap, length, refl, subst, sym}
use Rattle.std.specs.Prelude.{slice_get}
use Rattle.std.specs.FinMap as fin
use Rattle.std.proofs.lemmas.Option.{slice_get_read}
use Rattle.bb_space.specs.Spaces.{is_member}
use Rattle.bb_space.specs.proving.Indexed.{seen}
use Rattle.bb_space.specs.proving.Standing.{AreStanding}
use Rattle.bb_space.proofs.ListLemmas.{in_space, seen_count}
use Rattle.bb_space.proofs.StandingLemmas.{enters_nothing, standing_entered, standing_back}
use Rattle.bb_space.proofs.spaces.enter_new.Goals as goal

pub returns-then-contains-clause-entered : goal.returns-then-contains-clause-entered
returns-then-contains-clause-entered c =
    let now = c.args.spaces.now.items in
    let m = c.index.result.now in
    let there : slice_get now c.args.space ≡ Some m = slice_get_read now (length now) c.args.space m refl c.requires.space c.index.ensures in
    enters_nothing now c.args.space m c.args.unit c.args.values there (sym c.contains.ensures ∙ c.if-contains.true)

pub returns-in-Ok-clause-standing : goal.returns-in-Ok-clause-standing
returns-in-Ok-clause-standing c =
    let now = c.args.spaces.now.items in
    let m = c.index.result.now in
    let there : slice_get now c.args.space ≡ Some m = slice_get_read now (length now) c.args.space m refl c.requires.space c.index.ensures in
    let lt : c.args.space < length (seen now).spaces = subst (λ k. c.args.space < k) (sym (seen_count now (seen now) refl)) c.requires.space in
    let out : is_member (seen now) c.args.space c.args.unit ≡ false = ap (λ w. fin.contains_key w c.args.unit) (in_space now c.args.space m there) ∙ (sym c.contains.ensures ∙ c.if-contains.false) in
    subst (λ t. AreStanding t c.put.new.self) (sym c.in-Ok.ensures.entered)
    (standing_entered (seen now) c.args.standing.now c.args.space c.args.unit lt c.requires.standing c.put.new.self c.args.values out c.in_ok-put.ensures.ok)

pub returns-in-Err-clause-standing : goal.returns-in-Err-clause-standing
returns-in-Err-clause-standing c =
    let now = c.args.spaces.now.items in
    let m = c.index.result.now in
    let there : slice_get now c.args.space ≡ Some m = slice_get_read now (length now) c.args.space m refl c.requires.space c.index.ensures in
    let lt : c.args.space < length (seen now).spaces = subst (λ k. c.args.space < k) (sym (seen_count now (seen now) refl)) c.requires.space in
    let out : is_member (seen now) c.args.space c.args.unit ≡ false = ap (λ w. fin.contains_key w c.args.unit) (in_space now c.args.space m there) ∙ (sym c.contains.ensures ∙ c.if-contains.false) in
    subst (λ t. AreStanding t c.remove.new.self) (sym c.in-Err.ensures.err)
    (standing_back (seen now) c.args.standing.now c.args.space c.args.unit lt c.requires.standing c.put.new.self c.remove.new.self out c.in_ok-put.ensures.ok c.remove.ensures)
