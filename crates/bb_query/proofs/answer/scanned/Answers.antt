use Rattle.std.proofs.Common.{◌≡◌, ◌∷◌, ◌++◌, ◌∙◌, Some, sym, ap, subst, rules}
use Rattle.std.specs.Prelude.{filter}
use Rattle.std.specs.Map.{keys_of}
use Rattle.bb_space.specs.Spaces.{members}
use Rattle.bb_query.specs.proving.Searches.{is_answer}
use Rattle.bb_query.proofs.AnswerLemmas.{AreTold, first_told, others_told, map_told, map_members, scan_more, scan_over}
use Rattle.bb_query.proofs.FitLemmas.{fitting_space}
use Rattle.bb_query.proofs.answer.scanned.Goals as goal

pub told-requires : goal.told-requires
told-requires c =
    let asked = c.args.search.now in
    fitting_space asked.schema.now asked.spaces.now asked.query.now c.requires.suits.knows.spaces c.requires.suits.fits

pub loop-member-init : goal.loop-member-init
loop-member-init c =
    let asked = c.args.search.now in
    let t = asked.spaces.now in
    let space = asked.query.now.space in
    let passes = is_answer asked in
    let es = c.told.result.now.entries in
    let same : c.iter-member-items.result ≡ c.into_iter-member-iterator.result = search rules in
    let all = map_members t space es c.told.ensures c.iter-member-items.ensures.ordered in
    subst (λ fs. (c.new-found.result.items ++ filter passes (keys_of fs) ≡ filter passes (members t space)) × AreTold t space fs) (sym c.iter-member-items.ensures.rest ∙ same)
    (ap (λ ys. ys ++ filter passes (keys_of es)) c.new-found.ensures.items ∙ ap (filter passes) all, map_told t space es c.told.ensures c.iter-member-items.ensures.found)

pub answers_told-requires-clause-told : goal.answers_told-requires-clause-told
answers_told-requires-clause-told c =
    let asked = c.args.search.now in
    let t = asked.spaces.now in
    let space = asked.query.now.space in
    let member = c.in-Some.member.now in
    let values = c.in-Some.values.now in
    let next : c.loop-member.member-iterator ≡ (member, values) ∷ c.next.new.self = search rules in
    let all = subst (AreTold t space) next c.loop-member.invariant.1 in
    first_told t space (member, values) c.next.new.self all ∙ ap Some (sym c.as_slice.ensures)

pub loop-member-preserved-in-Continue-1 : goal.loop-member-preserved-in-Continue-1
loop-member-preserved-in-Continue-1 c =
    let asked = c.args.search.now in
    let t = asked.spaces.now in
    let space = asked.query.now.space in
    let passes = is_answer asked in
    let member = c.in-Some.member.now in
    let values = c.in-Some.values.now in
    let rest = c.next.new.self in
    let made = c.loop-member.found.items in
    let next : c.loop-member.member-iterator ≡ (member, values) ∷ rest = search rules in
    let all = subst (AreTold t space) next c.loop-member.invariant.1 in
    let was : made ++ filter passes (member ∷ keys_of rest) ≡ filter passes (members t space) = subst (λ fs. made ++ filter passes (keys_of fs) ≡ filter passes (members t space)) next c.loop-member.invariant.0 in
    let more = scan_more passes made member (keys_of rest) (filter passes (members t space)) was (sym c.answers_told.ensures ∙ c.if-answers_told.true) in
    (ap (λ ys. ys ++ filter passes (keys_of rest)) c.in_ok-push.ensures.items ∙ more, others_told t space (member, values) rest all)

pub loop-member-preserved : goal.loop-member-preserved
loop-member-preserved c =
    let asked = c.args.search.now in
    let t = asked.spaces.now in
    let space = asked.query.now.space in
    let passes = is_answer asked in
    let member = c.in-Some.member.now in
    let values = c.in-Some.values.now in
    let rest = c.next.new.self in
    let made = c.loop-member.found.items in
    let next : c.loop-member.member-iterator ≡ (member, values) ∷ rest = search rules in
    let all = subst (AreTold t space) next c.loop-member.invariant.1 in
    let was : made ++ filter passes (member ∷ keys_of rest) ≡ filter passes (members t space) = subst (λ fs. made ++ filter passes (keys_of fs) ≡ filter passes (members t space)) next c.loop-member.invariant.0 in
    (scan_over passes made member (keys_of rest) (filter passes (members t space)) was (sym c.answers_told.ensures ∙ c.if-answers_told.false), others_told t space (member, values) rest all)
