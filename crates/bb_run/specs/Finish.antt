-- The end of a run, by the finish that is returned.
use Rattle.std.specs.Prelude.{ℕ, Bool, true, false, List, take, Option, Some, None, ⊤}
use Rattle.std.specs.Io.KnownBytes.{Appends}
use Rattle.bb_trace.specs.End.{End}
use Rattle.bb_trace.specs.End as ends
use Rattle.bb_run.specs.declared.finish.Finish.{Finish}
use Rattle.bb_run.specs.declared.finish.Finish.TheVariants as finishes
use Rattle.bb_run_plan.specs.Plan.{Plan}
use Rattle.bb_run.specs.Emission.{Stretch}
use Rattle.bb_trace.specs.TraceText.{trace_text}

-- the end of the machine's run, if the run was not cut short
abbrev pub end_of : Finish → Option End
end_of finishes.Quiescence = Some ends.Quiescence
end_of finishes.Limit = Some ends.Limit
end_of finishes.Full = Some ends.Full
end_of finishes.Memory = None
end_of finishes.Write = None

-- the output failed
abbrev pub is_write : Finish → Bool
is_write finishes.Quiescence = false
is_write finishes.Limit = false
is_write finishes.Full = false
is_write finishes.Memory = false
is_write finishes.Write = true

-- what was written of a run that was cut short: the first segments, or, if the output failed, a prefix of the text
abbrev pub WritesFront : Plan → Stretch → Finish → (old new : Option (List ℕ)) → Type 0
WritesFront plan run finishes.Quiescence old new = ⊤
WritesFront plan run finishes.Limit old new = ⊤
WritesFront plan run finishes.Full old new = ⊤
WritesFront plan run finishes.Memory old new =
    (count : ℕ) × Appends old new (trace_text plan (take count run.emitted))
WritesFront plan run finishes.Write old new =
    (count : ℕ) × Appends old new (take count (trace_text plan run.emitted))
