use Rattle.std.proofs.Common.{◌≡◌, ◌∙◌, ap, subst, List, length, replicate, None}
use Rattle.bb_code.specs.declared.frame.FrameEntry.{FrameEntry}
use Rattle.bb_code.specs.declared.op.Op.{Op}
use Rattle.bb_verify.specs.Places.{declared_frames, with_frames}
use Rattle.bb_verify.specs.proving.Numbered.{numbered_frames}
use Rattle.bb_verify.proofs.NumberedLemmas.{none_numbered}
use Rattle.bb_verify.proofs.places.declared_frames.Goals as goal

pub returns : goal.returns
unfolding declared_frames
returns c =
    let fs = c.args.code.now.frames in
    let first = c.in_ok-all.all.items in
    let put : numbered_frames fs c.put_frames.new.all.items ≡ with_frames (numbered_frames fs first) fs =
    subst (λ (l : List FrameEntry). numbered_frames l c.put_frames.new.all.items ≡ with_frames (numbered_frames l first) l) c.frames.ensures.value c.put_frames.ensures in
    let none : numbered_frames fs first ≡ replicate (length c.args.code.now.ops) None =
    ap (numbered_frames fs) c.in_ok-all.ensures ∙ (ap (λ (ops : List Op). numbered_frames fs (replicate (length ops) None)) c.ops.ensures.value ∙ none_numbered fs (length c.args.code.now.ops)) in
    put ∙ ap (λ all. with_frames all fs) none
