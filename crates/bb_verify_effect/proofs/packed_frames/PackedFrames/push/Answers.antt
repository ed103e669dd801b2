use Rattle.std.proofs.Common.{◌≡◌, [], ◌∷◌, ◌++◌, ap, length, map, ◌∙◌}
use Rattle.std.proofs.lemmas.List.Elements.{All-same}
use Rattle.bb_verify_effect.specs.proving.Packed.{Lies, frame_in}
use Rattle.bb_verify_effect.proofs.PackedLemmas.{lie_in_more, shows_one_more}
use Rattle.bb_verify_effect.proofs.packed_frames.PackedFrames.push.Goals as goal

pub returns-clause-ok : goal.returns-clause-ok
returns-clause-ok c =
    let span = c.in_ok-span.span in
    let made : c.push_reserved.new.self.items ≡ c.self.inside.spans.items ++ span ∷ [] = c.push_reserved.ensures.items ∙ ap (λ l. l ++ span ∷ []) c.reserve.ensures.items in
    ap (map (frame_in c.put_kinds.new.kinds.items)) made
    ∙ (shows_one_more c.self.inside.kinds.items c.put_kinds.new.kinds.items c.self.inside.spans.items span c.args.frame.now c.in_ok-span.ensures.ok c.self.invariant.0 c.in_ok-span.ensures.frame
    ∙ ap (λ l. l ++ c.args.frame.now ∷ []) c.self.view_is)

pub invariant_of-self-2 : goal.invariant_of-self-2
invariant_of-self-2 c =
    let span = c.in_ok-span.span in
    let new = c.put_kinds.new.kinds.items in
    let made : c.push_reserved.new.self.items ≡ c.self.inside.spans.items ++ span ∷ [] = c.push_reserved.ensures.items ∙ ap (λ l. l ++ span ∷ []) c.reserve.ensures.items in (
      All-same (Lies (length new)) c.push_reserved.new.self.items (c.self.inside.spans.items ++ span ∷ []) made
          (lie_in_more c.self.inside.kinds.items new c.self.inside.spans.items span c.in_ok-span.ensures.ok c.self.invariant.0 c.in_ok-span.ensures.lies),
      c.in_ok-span.ensures.lies,
    )
