-- What calls leave of an emitter, one after another.
use Rattle.std.proofs.Common.{◌∙◌}
use Rattle.bb_compile.specs.declared.emitter.Emitter.{Emitter}
use Rattle.bb_compile.specs.proving.Laying.{Same}

pub same_on : (before between after : Emitter) → Same before between → Same between after → Same before after
same_on before between after first then = (then.0 ∙ first.0, then.1 ∙ first.1)
