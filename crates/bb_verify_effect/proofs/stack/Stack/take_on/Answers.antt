use Rattle.std.proofs.Common.{ap, ◌∙◌, take, drop, length, reverse}
use Rattle.std.proofs.Math.Seq.{take-append_seam}
use Rattle.bb_verify_effect.proofs.stack.Stack.take_on.Goals as goal

pub returns : goal.returns
returns c =
    ap (λ ks. reverse (take (length c.args.entries.now) ks)) c.put_front.ensures.value
    ∙ ap reverse (take-append_seam c.args.entries.now (drop (length c.args.entries.now) c.self.inside.kinds))
