-- What the program writes for an input, and its exit status.
use Rattle.std.specs.Prelude.{◌≡◌, ◌⊎◌, ℕ, ℤ, string_bytes, List, [], ◌∷◌, ◌++◌, map, take, Option, IfSome, Result, Ok, Err}
use Rattle.std.specs.Prelude.{if◌then◌else◌}
use Rattle.std.specs.List.{flat_map}
use Rattle.std.specs.Option.{option_map_or}
use Rattle.std.specs.Io.KnownBytes.{Appends}
use Rattle.bb_main_options.specs.declared.choice.Mode.{Mode}
use Rattle.bb_main_options.specs.declared.choice.Mode.TheVariants.{Run, Check, Compile, Units}
use Rattle.bb_main_options.specs.declared.fault.OptionsFault.{OptionsFault}
use Rattle.bb_main_options.specs.declared.fault.OptionsFault.TheVariants.{Help, Words, Memory}
use Rattle.bb_shell.specs.Check.{sources_in}
use Rattle.bb_shell.specs.CheckText.{check_text}
use Rattle.bb_shell.specs.Compile.{bundle_in}
use Rattle.bb_shell.specs.declared.written.Done.{Done}
use Rattle.bb_shell.specs.declared.written.Done.TheVariants.{Written, Write}
use Rattle.bb_shell.specs.End.{End}
use Rattle.bb_shell.specs.End as ends
use Rattle.bb_shell.specs.Finishes.{Finish}
use Rattle.bb_shell.specs.InputFault.{InputFault}
use Rattle.bb_shell.specs.Finish.{end_of, is_write}
use Rattle.bb_shell.specs.Fitting.{native_names}
use Rattle.bb_shell.specs.Native.{Native}
use Rattle.bb_shell.specs.Meaning.{Meaning, meaning}
use Rattle.bb_shell.specs.Refusals.{refusal_text}
use Rattle.bb_shell.specs.Run.{run}
use Rattle.bb_shell.specs.BundleText.{bundle_text}
use Rattle.bb_shell.specs.Code.{Code}
use Rattle.bb_shell.specs.Source.{Source}
use Rattle.bb_shell.specs.SourceDraft.{SourceDraft}
use Rattle.bb_shell.specs.TraceText.{segment_text}
use Rattle.bb_shell.specs.Left.{left_text}
use Rattle.bb_main_input.specs.declared.section_fault.SectionFault.{SectionFault}
use Rattle.bb_main_input.specs.declared.section_fault.SectionFault.TheVariants as faults
use Rattle.bb_main.specs.declared.serving.TheConstants.{MEMORY, REFUSED, WRITE}
use Rattle.bb_main_input.specs.Input.{input_of}
use Rattle.bb_main_input.specs.Refusals.{read_line, section_line}
use Rattle.bb_main_input.specs.Sections.{Texts}

-- everything that is written, in pieces of which each is written whole, and the status
pub record Answer : Type 0 where
  pub pieces : List (List ℕ)
  pub status : ℕ

abbrev pub text_of : List (List ℕ) → List ℕ
text_of pieces = flat_map (λ piece. piece) pieces

-- the status of a run's end; no run of an input is stuck or has a native due at its end
abbrev pub end_status : End → ℕ
end_status ends.Quiescence = 0
end_status ends.Limit = 3
end_status ends.Full = 4
end_status (ends.Due a) = 0
end_status (ends.Stuck reason) = 0

-- the status of a finish: the status of its end or, if it has none, of running out of memory or of a failed write
abbrev pub status_of : Finish → ℕ
status_of finish = option_map_or end_status (end_of finish) (if is_write finish then WRITE else MEMORY)

-- the status of a text, by how far it was written
abbrev pub done_status : Done → ℕ
done_status Written = 0
done_status Write = WRITE

-- the answer to words that choose no options: their text
abbrev pub fault_answer : OptionsFault → Answer
fault_answer (Help text) = record { pieces = string_bytes text ∷ []; status = 0 }
fault_answer (Words text) = record { pieces = string_bytes text ∷ []; status = REFUSED }
fault_answer Memory = record { pieces = []; status = MEMORY }

-- the answer to a run: its trace, and the status of its end, which every run has
abbrev pub answer_to_run : List Native → (limit : ℕ) → Meaning → Answer
answer_to_run natives limit m =
    let r = run m.plan m.board natives limit in
    record { pieces = map (segment_text m.plan) r.emitted; status = option_map_or end_status r.end 0 }

-- a line, ended by a line feed
abbrev pub line_of : List ℕ → (status : ℕ) → Answer
line_of line status = record { pieces = (line ++ 10 ∷ []) ∷ []; status = status }

-- the answer to a refused input: its line
abbrev pub refusal : List ℕ → Answer
refusal line = line_of line REFUSED

-- the answer to what the sections mean: the trace of its run, or a refusal
abbrev pub answer_to_meaning : List Native → (limit : ℕ) → Result Meaning InputFault → Answer
answer_to_meaning natives limit (Ok m) = answer_to_run natives limit m
answer_to_meaning natives limit (Err fault) = refusal (refusal_text fault)

-- the answer to a run for the units it leaves: their document in a line, and the status of the run's end
abbrev pub answer_to_left : List Native → (limit : ℕ) → Meaning → Answer
answer_to_left natives limit m =
    line_of (left_text natives limit m) (option_map_or end_status (run m.plan m.board natives limit).end 0)

-- the answer to what the sections mean: the units its run leaves, or a refusal
abbrev pub answer_to_units : List Native → (limit : ℕ) → Result Meaning InputFault → Answer
answer_to_units natives limit (Ok m) = answer_to_left natives limit m
answer_to_units natives limit (Err fault) = refusal (refusal_text fault)

-- the answer to a check: the lines on all sources, or a refusal
abbrev pub answer_to_check : Result (List Source) InputFault → Answer
answer_to_check (Ok sources) = record { pieces = check_text sources ∷ []; status = 0 }
answer_to_check (Err fault) = refusal (refusal_text fault)

-- the answer to compiling an input: the bundle of its sources that are text, or a refusal
abbrev pub answer_to_compile : Result (List (SourceDraft Code)) InputFault → Answer
answer_to_compile (Ok compiled) = record { pieces = bundle_text compiled ∷ []; status = 0 }
answer_to_compile (Err fault) = refusal (refusal_text fault)

-- the answer to the texts of the sections in a mode, with the natives that were handed in
abbrev pub answer_in : List Native → Mode → (limit : ℕ) → (floor : ℤ) → (schema units sources bundle : List ℕ) → Answer
answer_in natives Run limit floor schema units sources bundle =
    answer_to_meaning natives limit (meaning (native_names natives) schema units sources bundle floor)
answer_in natives Check limit floor schema units sources bundle =
    answer_to_check (sources_in (native_names natives) schema sources bundle)
answer_in natives Compile limit floor schema units sources bundle = answer_to_compile (bundle_in schema sources)
answer_in natives Units limit floor schema units sources bundle =
    answer_to_units natives limit (meaning (native_names natives) schema units sources bundle floor)

-- the answer to the sections, or the refusal of an input that has none
abbrev pub answer_to_sections : List Native → Mode → (limit : ℕ) → (floor : ℤ) → Result Texts SectionFault → Answer
answer_to_sections natives mode limit floor (Ok t) =
    answer_in natives mode limit floor t.schema t.units t.sources t.bundle
answer_to_sections natives mode limit floor (Err fault) = refusal (section_line fault)

-- the answer to the bytes of an input
unfoldable pub answer : List Native → (bytes : List ℕ) → Mode → (limit : ℕ) → (floor : ℤ) → Answer
answer natives bytes mode limit floor = answer_to_sections natives mode limit floor (input_of bytes)

-- the answer if the reader fails, regardless of its bytes
abbrev pub read_refusal : Answer
read_refusal = refusal read_line

-- the answer if there are too many bytes, regardless of what they are
abbrev pub limit_refusal : Answer
limit_refusal = refusal (section_line faults.Limit)

-- the output took exactly the answer's text, and the status is the answer's; or it failed, and took a prefix
abbrev pub Delivers : Answer → (taken given : Option (List ℕ)) → (status : ℕ) → Type 0
Delivers a taken given status =
    ((status ≡ a.status) × Appends taken given (text_of a.pieces))
    ⊎ ((status ≡ WRITE) × ((count : ℕ) × Appends taken given (take count (text_of a.pieces))))

-- memory ran out, and the output took the first pieces of the answer, or none; of a refusal it took none
abbrev pub CutShort : Answer → (taken given : Option (List ℕ)) → (status : ℕ) → Type 0
CutShort a taken given status =
    (status ≡ MEMORY)
    × ((count : ℕ) × (a.status ≡ REFUSED → count ≡ 0) × Appends taken given (text_of (take count a.pieces)))

-- the answer to some bytes is delivered, or cut short; they are all bytes of the reader, if those are known
abbrev pub Serves : List Native → Mode → (limit : ℕ) → (floor : ℤ) → (read taken given : Option (List ℕ)) → (status : ℕ) → Type 0
Serves natives mode limit floor read taken given status =
    (bytes : List ℕ) × IfSome read (λ xs. bytes ≡ xs)
    × (Delivers (answer natives bytes mode limit floor) taken given status
    ⊎ CutShort (answer natives bytes mode limit floor) taken given status)
