use Rattle.bb_trace.proofs.line.add_refused.Goals as goal

pub returns : goal.returns
returns c = rw (← c.number-number.ensures) c.add_refused_number.ensures
