use Rattle.std.proofs.Common.{◌≡◌, ◌-◌, ◌+◌, ◌++◌, ◌<◌, ◌≤◌, length, take, drop, ap, sym, arith, length-drop, ◌∙◌}
use Rattle.std.proofs.lemmas.List.{take_all}
use Rattle.std.specs.Vec.{vec_len}
use Rattle.bb_verify_effect.proofs.KindLemmas.{kinds_decide}
use Rattle.bb_verify_effect.proofs.PackedLemmas.{is_there, is_completed}
use Rattle.bb_verify_effect.proofs.packed_frames.store.Goals as goal

pub returns-then-eq-clause-stored : goal.returns-then-eq-clause-stored
returns-then-eq-clause-stored c =
    let more = c.args.more.now in
    let near = c.args.near in
    let read = c.deref.result.now in
    let same = (kinds_decide (take ((near + length more) - near) (drop near read)) more).0 (sym c.eq.ensures ∙ c.if-eq.true) in
    is_there c.args.kinds.now.items more read near c.deref.ensures.value same

pub returns-then-eq-2-clause-stored : goal.returns-then-eq-2-clause-stored
returns-then-eq-2-clause-stored c =
    let more = c.args.more.now in
    let near = c.args.near in
    let read = c.deref-then-left-more.result.now in
    let left = c.len.result - near in
    let known = sym c.deref-then-left-more.ensures.len ∙ ap (λ l. length l) c.deref-then-left-more.ensures.value in
    let counts : left ≡ length c.args.kinds.now.items - near = ap (λ n. n - near) (c.len.ensures ∙ known) in
    let rest : take (length more - left) (drop left more) ≡ drop left more = take_all (length more - left) (drop left more) (omega (arith, length-drop left more)) in
    let made = c.add_kinds.ensures.items ∙ ap (λ l. c.args.kinds.now.items ++ l) rest in
    let ends = c.len-then-eq-2.ensures ∙ (c.add_kinds.ensures.len ∙ (ap (λ l. vec_len c.args.kinds.now + length l) rest ∙ ap (λ n. n + length (drop left more)) known)) in
    let all : take (length read - near) (drop near read) ≡ drop near read = take_all (length read - near) (drop near read) (omega (arith, length-drop near read)) in
    let same = sym all ∙ (kinds_decide (take (length read - near) (drop near read)) (take left more)).0 (sym c.eq-then-left-more.ensures ∙ c.if-eq-2.true) in
    let less : left < length more = c.if-left-more.true in
    is_completed c.args.kinds.now.items more read c.add_kinds.new.kinds.items near left c.len-then-eq-2.result c.requires.near counts
    c.deref-then-left-more.ensures.value same made ends (omega (arith, less))
