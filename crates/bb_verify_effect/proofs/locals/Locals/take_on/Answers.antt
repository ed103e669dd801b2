use Rattle.std.proofs.Common.{ap, ◌∙◌, take, drop, length}
use Rattle.std.proofs.Math.Seq.{take-append_seam}
use Rattle.bb_verify_effect.proofs.locals.Locals.take_on.Goals as goal

pub returns : goal.returns
returns c =
    ap (take (length c.args.declared.now)) c.put_front.ensures.value
    ∙ take-append_seam c.args.declared.now (drop (length c.args.declared.now) c.self.inside.kinds)
