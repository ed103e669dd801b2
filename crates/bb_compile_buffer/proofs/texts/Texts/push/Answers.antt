use Rattle.std.proofs.Common.{◌≡◌, ◌++◌, ◌∷◌, [], ap, sym, ◌∙◌, ◌+◌, arith, length, length-append, false, not}
use Rattle.std.specs.Prelude.{if◌then◌else◌}
use Rattle.std.specs.List.{list_any}
use Rattle.std.specs.Str.{bytes_eq}
use Rattle.bb_basis.proofs.PositionLemmas.{position_spot, spot_none}
use Rattle.bb_compile_buffer.proofs.texts.Texts.push.Goals as goal

pub invariant_of-self-2 : goal.invariant_of-self-2
invariant_of-self-2 c =
    let p = bytes_eq c.args.text.now in
    let was = c.self.inside.names in
    let same : was ≡ c.self.inside.texts.items = c.self.invariant.0 in
    let seen : c.self.inside.texts.items ≡ c.args.self.now = c.self.view_is in
    let gone : list_any p was ≡ false = ap (list_any p) (same ∙ seen) ∙ spot_none p c.args.self.now (sym (position_spot p c.args.self.now) ∙ c.requires.fresh) in
    let fresh = c.in_ok-insert.ensures.fresh ∙ ap not gone in
    let kept : c.reserve.new.self.items ≡ c.self.inside.texts.items = c.reserve.ensures.items in
    let added : c.insert.new.self ≡ was ++ c.args.text.now ∷ [] = c.in_ok-insert.ensures.added ∙ ap (λ b. if b then was ++ c.args.text.now ∷ [] else was) fresh in
    let grown : was ++ c.args.text.now ∷ [] ≡ c.push_reserved.new.self.items =
    ap (λ l. l ++ c.args.text.now ∷ []) (same ∙ sym kept) ∙ ap (λ x. c.reserve.new.self.items ++ x ∷ []) (sym c.in_ok-copy.ensures) ∙ sym c.push_reserved.ensures.items in
    let long : length c.push_reserved.new.self.items ≡ length c.args.self.now + 1 =
    ap (λ l. length l) (c.push_reserved.ensures.items ∙ ap (λ l. l ++ c.in_ok-copy.copy ∷ []) (kept ∙ seen)) ∙ length-append c.args.self.now (c.in_ok-copy.copy ∷ []) in
    (added ∙ grown, omega (arith, long, c.requires.room))
