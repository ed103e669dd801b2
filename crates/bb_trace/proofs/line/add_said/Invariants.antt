use Rattle.std.proofs.Common.{◌≡◌, ◌++◌, take, string_bytes}
use Rattle.bb_board.specs.declared.note.Note.TheVariants.{Said}
use Rattle.bb_trace.specs.TraceText.{board_note_text}
use Rattle.bb_trace.proofs.line.add_said.Given as goal

abbrev pub invariant-loop-value : goal.invariant-loop-value
invariant-loop-value l = string_bytes l.text ≡ string_bytes l.fn.text ++ board_note_text l.schema (Said (take l.value-index l.values))
