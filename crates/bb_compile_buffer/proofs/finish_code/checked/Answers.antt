use Rattle.std.proofs.Common.{◌∙◌}
use Rattle.bb_compile_buffer.proofs.WithinLemmas.{checked_is}
use Rattle.bb_compile_buffer.proofs.finish_code.checked.Goals as goal

pub returns : goal.returns
returns c = c.ok_or.ensures.value ∙ checked_is c.args.place c.args.parts c.new.result c.new.ensures.some c.new.ensures.value
