use Rattle.bb_main_input.proofs.InputLemmas.{is_long, is_text, is_no_text}
use Rattle.std.proofs.Common.{arith}
use Rattle.bb_main_input.proofs.sections.Sections.of_bytes.Goals as goal

pub returns-then-bytes-gt-INPUT_LIMIT : goal.returns-then-bytes-gt-INPUT_LIMIT
returns-then-bytes-gt-INPUT_LIMIT c = is_long c.args.bytes.now (omega arith)

pub returns-in-Ok : goal.returns-in-Ok
returns-in-Ok c = is_text c.args.bytes.now c.in-Ok.text.now _ (omega arith) c.in-Ok.ensures.cases.0 c.in-Ok.ensures.cases.1 c.of.ensures

pub returns-in-Err : goal.returns-in-Err
returns-in-Err c = is_no_text c.args.bytes.now (omega arith) c.in-Err.ensures.cases.0
