use Rattle.std.proofs.Common.{◌≡◌, ◌++◌, take}
use Rattle.bb_trace.specs.TraceText.{segment_text}
use Rattle.bb_trace.proofs.page.add_notes.Given as goal

abbrev pub invariant-loop-note : goal.invariant-loop-note
invariant-loop-note l = l.text.items ≡ l.fn.text.items ++ segment_text l.plan (take l.note-index l.notes)
