-- One piece is written, or a front of it.
use Rattle.bb_main.proofs.ServeLemmas.{wrote_front, wrote_whole}
use Rattle.bb_main.proofs.words.write_text.Goals as goal

pub returns-then-put_all-clause-answer : goal.returns-then-put_all-clause-answer
returns-then-put_all-clause-answer g c =
    let whole = rw (c.if-put_all.true, c.as_bytes.ensures.value) at c.put_all.ensures.ok in
    wrote_whole c.args.text.now c.args.status (g.O.Out.taken c.args.writer.now) (g.O.Out.taken c.put_all.new.out) whole

pub returns-else-put_all-clause-answer : goal.returns-else-put_all-clause-answer
returns-else-put_all-clause-answer g c =
    let front = rw (c.if-put_all.false, c.as_bytes.ensures.value) at c.put_all.ensures.front in
    wrote_front c.args.text.now c.args.status front.0 (g.O.Out.taken c.args.writer.now) (g.O.Out.taken c.put_all.new.out) front.1
