use Rattle.std.proofs.Common.{inr, refl}
use Rattle.bb_main.proofs.ServeLemmas.{failed_in_line, failed_at_end}
use Rattle.bb_main.proofs.refusing.write_line.Goals as goal
use Rattle.bb_main.proofs.refusing.write_line.Goals.{else-put_all-via-then-put_all+else-put_all-2, else-put_all-via-else-put_all}

pub returns-else-put_all-clause-answer : goal.returns-else-put_all-clause-answer
returns-else-put_all-clause-answer g c =
    elim c.else-put_all.branch [
      | else-put_all-via-then-put_all+else-put_all-2 w ↦
          let line = rw (w.if-put_all.true, c.as_bytes.ensures.value) at c.put_all.ensures.ok in
          let last = rw w.if-put_all-2.false at w.put_all-then-put_all.ensures.front in
          rw w.writer-is (inr (refl, failed_at_end c.args.line.now (g.O.Out.taken c.args.writer.now) (g.O.Out.taken c.put_all.new.out) (g.O.Out.taken w.put_all-then-put_all.new.out) last.0 line last.1))
      | else-put_all-via-else-put_all w ↦
          let front = rw (w.if-put_all.false, c.as_bytes.ensures.value) at c.put_all.ensures.front in
          rw w.writer-is (inr (refl, failed_in_line c.args.line.now (g.O.Out.taken c.args.writer.now) (g.O.Out.taken c.put_all.new.out) front.0 front.1))
    ]
