use Rattle.std.proofs.Common.{rules, sym, ◌∙◌, length}
use Rattle.bb_c.proofs.ServedLemmas.{cut_served, is_longer}
use Rattle.bb_c.specs.Served.{mode_of}
use Rattle.bb_c.proofs.serving.bb_serve.Goals as goal

pub returns-then-written-answer-clause-served : goal.returns-then-written-answer-clause-served
returns-then-written-answer-clause-served c =
    cut_served (mode_of c.args.mode) c.in-Some.mode c.args.limit c.args.floor _ c.args.input.now c.in-Ok.room.bytes.items c.serve-status.new.writer.bytes.items
    c.hand_out.new.output c.serve-status.result c.hand_out.result (sym c.in-Some.is ∙ c.mode_of.ensures) c.no_natives.ensures c.in-Ok.ensures.empty
    (search rules) (search rules)

pub returns-then-written-answer-clause-longer : goal.returns-then-written-answer-clause-longer
returns-then-written-answer-clause-longer c = λ _.
    is_longer (mode_of c.args.mode) c.in-Some.mode c.args.limit c.args.floor _ c.args.input.now c.in-Ok.room.bytes.items c.serve-status.new.writer.bytes.items
    c.serve-status.result (length c.hand_out.new.output) (sym c.in-Some.is ∙ c.mode_of.ensures) c.no_natives.ensures c.in-Ok.ensures.empty
    (search rules) (search rules)
