use Rattle.std.proofs.Common.{map, refl}
use Rattle.bb_main.specs.declared.serving.TheConstants.{MEMORY}
use Rattle.bb_main.proofs.ServeLemmas.{serves-long, serves-nothing}
use Rattle.bb_main.proofs.serving.serve_with.Goals as goal

pub returns-in-Err-Limit-clause-answer : goal.returns-in-Err-Limit-clause-answer
returns-in-Err-Limit-clause-answer g c =
    let read = rw (c.in-Err-Limit.is, c.in-Err-Limit.field-0-is) at c.read_input.ensures.read in
    let delivers = rw c.line.ensures at c.refuse_input-in-Err-Limit.ensures.answer in
    rw (c.read_input.ensures.failed, c.in-Err-Limit.is, c.in-Err-Limit.field-0-is) (serves-long (map g.N.NativeSource.meaning c.args.natives.items) c.args.options.mode c.args.options.limit c.args.options.floor (g.R.In.remaining c.args.reader.now) (g.R.In.remaining c.read_input.new.reader) (g.O.Out.taken c.args.writer.now) (g.O.Out.taken c.refuse_input-in-Err-Limit.new.writer) c.refuse_input-in-Err-Limit.result.status
    read.0 read.1 read.2 delivers)

pub returns-in-Err-Limit-clause-too_long : goal.returns-in-Err-Limit-clause-too_long
returns-in-Err-Limit-clause-too_long g c = λ _. rw c.line.ensures at c.refuse_input-in-Err-Limit.ensures.answer

pub returns-in-Err-Memory-clause-answer : goal.returns-in-Err-Memory-clause-answer
returns-in-Err-Memory-clause-answer g c =
    rw (c.read_input.ensures.failed, c.in-Err-Memory.is, c.in-Err-Memory.field-0-is, c.quiet.ensures.status) (serves-nothing (map g.N.NativeSource.meaning c.args.natives.items) c.args.options.mode c.args.options.limit c.args.options.floor (g.R.In.remaining c.args.reader.now) (g.O.Out.taken c.args.writer.now) MEMORY refl)
