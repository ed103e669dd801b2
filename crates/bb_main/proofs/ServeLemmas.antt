-- The answer to an input: by its sections, to one that is too long, and to one whose run was cut short.
use Rattle.std.proofs.Common.{◌≡◌, ◌⊎◌, ◌<◌, ◌≤◌, ◌+◌, ◌++◌, inl, inr, ℕ, ℤ, List, [], ◌∷◌, length, length-append, map, take, Option, None, Some, IfSome, Result, Ok, Err, refl, sym, subst, ap, ◌∙◌, arith, append-nil}
use Rattle.std.specs.List.{flat_map}
use Rattle.std.proofs.lemmas.Bool.{cases_lt}
use Rattle.std.proofs.lemmas.List.Concat.{flat_map-cons}
use Rattle.std.proofs.lemmas.List.{take-map, take-append-le, take_all}
use Rattle.std.proofs.Math.Seq.{take-append-add, take-length}
use Rattle.std.specs.Io.KnownBytes.{Appends, Consumes}
use Rattle.std.proofs.KnownBytes.{Appends-nil, Appends-trans}
use Rattle.std.specs.Option.{option_map_or}
use Rattle.std.specs.Prelude.{◌==◌, false, IsOkAnd}
use Rattle.bb_main_options.specs.declared.choice.Mode.{Mode}
use Rattle.bb_shell.specs.Check.{WritesCheck}
use Rattle.bb_shell.specs.CheckText.{check_text}
use Rattle.bb_shell.specs.Compile.{WritesBundle}
use Rattle.bb_shell.specs.declared.written.Done.{Done}
use Rattle.bb_shell.specs.declared.written.Done.TheVariants.{Written, Write}
use Rattle.bb_shell.specs.End.{End}
use Rattle.bb_shell.specs.End as ends
use Rattle.bb_shell.specs.Finishes.{Finish}
use Rattle.bb_shell.specs.Finishes.TheVariants as finishes
use Rattle.bb_shell.specs.InputFault.{InputFault}
use Rattle.bb_shell.specs.InputFault.TheVariants.{Memory as out_of_memory}
use Rattle.bb_shell.specs.Finish.{WritesFront, end_of}
use Rattle.bb_shell.specs.Native.{Native}
use Rattle.bb_shell.specs.Meaning.{Meaning}
use Rattle.bb_shell.specs.Refusals.{refusal_text}
use Rattle.bb_shell.specs.Run.{run}
use Rattle.bb_shell.specs.BundleText.{bundle_text}
use Rattle.bb_shell.specs.Code.{Code}
use Rattle.bb_shell.specs.Source.{Source}
use Rattle.bb_shell.specs.SourceDraft.{SourceDraft}
use Rattle.bb_shell.specs.TraceText.{segment_text, trace_text}
use Rattle.bb_shell.specs.Left.{EndsBy, left_text}
use Rattle.bb_main_input.specs.declared.read.TheConstants.{INPUT_LIMIT}
use Rattle.bb_main.specs.declared.serving.TheConstants.{MEMORY, REFUSED, WRITE}
use Rattle.bb_main_input.specs.declared.section_fault.SectionFault.{SectionFault}
use Rattle.bb_main_input.specs.declared.section_fault.SectionFault.TheVariants.{Limit}
use Rattle.bb_main_input.specs.Input.{input_of}
use Rattle.bb_main_input.specs.Sections.{Texts}
use Rattle.bb_main.specs.Serve.{Answer, CutShort, Delivers, Serves, answer, answer_to_check, answer_to_compile, answer_to_meaning, answer_to_run, answer_to_sections, answer_to_units, done_status, end_status, limit_refusal, line_of, refusal, status_of, text_of}
use Rattle.bb_main_input.proofs.Laws.{is_long}

pub answer-from : (natives : List Native) (bytes : List ℕ) (mode : Mode) (limit : ℕ) (floor : ℤ) (cut : Result Texts SectionFault) (P : Answer → Type 0) → cut ≡ input_of bytes → P (answer_to_sections natives mode limit floor cut) → P (answer natives bytes mode limit floor)
unfolding answer
answer-from natives bytes mode limit floor cut P is holds = subst (λ (c : Result Texts SectionFault). P (answer_to_sections natives mode limit floor c)) is holds

answer-long : (natives : List Native) (bytes : List ℕ) (mode : Mode) (limit : ℕ) (floor : ℤ) (taken given : Option (List ℕ)) (status : ℕ) → INPUT_LIMIT < length bytes → Delivers limit_refusal taken given status → Delivers (answer natives bytes mode limit floor) taken given status
answer-long natives bytes mode limit floor taken given status long delivers = answer-from natives bytes mode limit floor (Err Limit) (λ a. Delivers a taken given status) (is_long bytes long) delivers

-- a reader that gave too many bytes has too many
pub serves-long : (natives : List Native) (mode : Mode) (limit : ℕ) (floor : ℤ) (read left taken given : Option (List ℕ)) (status : ℕ) (bytes : List ℕ) → Consumes read left bytes → length bytes ≡ INPUT_LIMIT + 1 → Delivers limit_refusal taken given status → Serves natives mode limit floor read taken given status
serves-long natives mode limit floor None left taken given status bytes p long delivers = (bytes, tt, inl (answer-long natives bytes mode limit floor taken given status (omega arith) delivers))
serves-long natives mode limit floor (Some xs) None taken given status bytes p long delivers = absurd p
serves-long natives mode limit floor (Some xs) (Some ys) taken given status bytes p long delivers =
    (xs, refl, inl (answer-long natives xs mode limit floor taken given status (omega (arith, length-append bytes ys, ap length p)) delivers))

-- where memory ran out before anything was written
pub cut-nothing : (a : Answer) (taken : Option (List ℕ)) (status : ℕ) → status ≡ MEMORY → CutShort a taken taken status
cut-nothing a taken status is = (is, (0, (λ _. refl), Appends-nil taken))

pub serves-nothing : (natives : List Native) (mode : Mode) (limit : ℕ) (floor : ℤ) (read taken : Option (List ℕ)) (status : ℕ) → status ≡ MEMORY → Serves natives mode limit floor read taken taken status
serves-nothing natives mode limit floor None taken status is = ([], tt, inr (cut-nothing (answer natives [] mode limit floor) taken status is))
serves-nothing natives mode limit floor (Some xs) taken status is = (xs, refl, inr (cut-nothing (answer natives xs mode limit floor) taken status is))

-- the text of pieces
pub text_of-map : {X : Type 0} (f : X → List ℕ) (xs : List X) → text_of (map f xs) ≡ flat_map f xs
text_of-map f [] = refl
text_of-map f (x ∷ xs) = flat_map-cons (λ piece. piece) (f x) (map f xs) ∙ (ap (λ t. f x ++ t) (text_of-map f xs) ∙ sym (flat_map-cons f x xs))

pub text_of-one : (piece : List ℕ) → text_of (piece ∷ []) ≡ piece
text_of-one piece = flat_map-cons (λ p. p) piece [] ∙ append-nil piece

-- no run has the status of a refusal
run-not-refused : (end : Option End) (k : ℕ) → option_map_or end_status end 0 ≡ REFUSED → k ≡ 0
run-not-refused None k is = let no : 0 ≡ 2 = is in omega (arith, no)
run-not-refused (Some ends.Quiescence) k is = let no : 0 ≡ 2 = is in omega (arith, no)
run-not-refused (Some ends.Limit) k is = let no : 3 ≡ 2 = is in omega (arith, no)
run-not-refused (Some ends.Full) k is = let no : 4 ≡ 2 = is in omega (arith, no)
run-not-refused (Some (ends.Due a)) k is = let no : 0 ≡ 2 = is in omega (arith, no)
run-not-refused (Some (ends.Stuck reason)) k is = let no : 0 ≡ 2 = is in omega (arith, no)

-- a run's answer, by how the run came out
pub served_run : (natives : List Native) (limit : ℕ) (m : Meaning) (f : Finish) (status : ℕ) (old new : Option (List ℕ)) → status ≡ status_of f
    → IfSome (end_of f) (λ end. (run m.plan m.board natives limit).end ≡ Some end)
    → IfSome (end_of f) (λ _. Appends old new (trace_text m.plan (run m.plan m.board natives limit).emitted))
    → WritesFront m.plan (run m.plan m.board natives limit) f old new
    → Delivers (answer_to_run natives limit m) old new status ⊎ CutShort (answer_to_run natives limit m) old new status
served_run natives limit m f status old new = by f
  where
    whole : trace_text m.plan (run m.plan m.board natives limit).emitted ≡ text_of (answer_to_run natives limit m).pieces
    whole = sym (text_of-map (segment_text m.plan) (run m.plan m.board natives limit).emitted)

    all : Appends old new (trace_text m.plan (run m.plan m.board natives limit).emitted) → Appends old new (text_of (answer_to_run natives limit m).pieces)
    all p = subst (Appends old new) whole p

    by : (f : Finish) → status ≡ status_of f
        → IfSome (end_of f) (λ end. (run m.plan m.board natives limit).end ≡ Some end)
        → IfSome (end_of f) (λ _. Appends old new (trace_text m.plan (run m.plan m.board natives limit).emitted))
        → WritesFront m.plan (run m.plan m.board natives limit) f old new
        → Delivers (answer_to_run natives limit m) old new status ⊎ CutShort (answer_to_run natives limit m) old new status
    by finishes.Quiescence is ends wrote front = inl (inl (rw ends is, all wrote))
    by finishes.Limit is ends wrote front = inl (inl (rw ends is, all wrote))
    by finishes.Full is ends wrote front = inl (inl (rw ends is, all wrote))
    by finishes.Memory is ends wrote front =
        inr (is, (front.0, run-not-refused (run m.plan m.board natives limit).end front.0, subst (Appends old new) (sym (text_of-map (segment_text m.plan) (take front.0 (run m.plan m.board natives limit).emitted)) ∙ ap text_of (sym (take-map (segment_text m.plan) front.0 (run m.plan m.board natives limit).emitted))) front.1))
    by finishes.Write is ends wrote front = inl (inr (is, (front.0, subst (λ t. Appends old new (take front.0 t)) whole front.1)))

same_meaning : (given : Result Meaning InputFault) (m n : Meaning) → given ≡ Ok m → given ≡ Ok n → n ≡ m
same_meaning given m n p q = let e : ◌≡◌ {A = Result Meaning InputFault} (Ok n) (Ok m) = sym q ∙ p in cc

-- the answer to what sections mean, by what a run of them is known to have told
pub served_meaning : (natives : List Native) (limit : ℕ) (given : Result Meaning InputFault) (f : Finish) (status : ℕ) (old new : Option (List ℕ)) → status ≡ status_of f
    → (m : Meaning) × (given ≡ Ok m) × IfSome (end_of f) (λ end. (run m.plan m.board natives limit).end ≡ Some end)
    → (m : Meaning) × (given ≡ Ok m) × IfSome (end_of f) (λ _. Appends old new (trace_text m.plan (run m.plan m.board natives limit).emitted))
    → (m : Meaning) × (given ≡ Ok m) × WritesFront m.plan (run m.plan m.board natives limit) f old new
    → Delivers (answer_to_meaning natives limit given) old new status ⊎ CutShort (answer_to_meaning natives limit given) old new status
served_meaning natives limit given f status old new is ends wrote front =
    let m = ends.0 in
    let text = subst (λ (n : Meaning). IfSome (end_of f) (λ _. Appends old new (trace_text n.plan (run n.plan n.board natives limit).emitted))) (same_meaning given m wrote.0 ends.1 wrote.1) wrote.2 in
    let first = subst (λ (n : Meaning). WritesFront n.plan (run n.plan n.board natives limit) f old new) (same_meaning given m front.0 ends.1 front.1) front.2 in
    subst (λ (r : Result Meaning InputFault). Delivers (answer_to_meaning natives limit r) old new status ⊎ CutShort (answer_to_meaning natives limit r) old new status) (sym ends.1) (served_run natives limit m f status old new is ends.2 text first)

-- an answer of one piece was written, or a front of it
pub wrote_whole : (text : List ℕ) (status : ℕ) (old new : Option (List ℕ)) → Appends old new text → Delivers (record { pieces = text ∷ []; status = status }) old new status
wrote_whole text status old new wrote = inl (refl, subst (Appends old new) (sym (text_of-one text)) wrote)

pub wrote_front : (text : List ℕ) (status count : ℕ) (old new : Option (List ℕ)) → Appends old new (take count text) → Delivers (record { pieces = text ∷ []; status = status }) old new WRITE
wrote_front text status count old new wrote = inr (refl, (count, subst (λ t. Appends old new (take count t)) (sym (text_of-one text)) wrote))

-- the answer to a check, by what of its lines is known to have been written
pub served_check : (given : Result (List Source) InputFault) (done : Done) (status : ℕ) (old new : Option (List ℕ)) → status ≡ done_status done
    → WritesCheck given done old new → Delivers (answer_to_check given) old new status ⊎ CutShort (answer_to_check given) old new status
served_check (Err fault) done status old new is wrote = absurd wrote
served_check (Ok sources) Written status old new is wrote = rw is (inl (wrote_whole (check_text sources) 0 old new wrote))
served_check (Ok sources) Write status old new is wrote = rw is (inl (wrote_front (check_text sources) 0 wrote.0 old new wrote.1))

-- the answer to an input that is compiled, by what of its bundle is known to have been written
pub served_compile : (given : Result (List (SourceDraft Code)) InputFault) (done : Done) (status : ℕ) (old new : Option (List ℕ)) → status ≡ done_status done
    → WritesBundle given done old new → Delivers (answer_to_compile given) old new status ⊎ CutShort (answer_to_compile given) old new status
served_compile (Err fault) done status old new is wrote = absurd wrote
served_compile (Ok compiled) Written status old new is wrote = rw is (inl (wrote_whole (bundle_text compiled) 0 old new wrote))
served_compile (Ok compiled) Write status old new is wrote = rw is (inl (wrote_front (bundle_text compiled) 0 wrote.0 old new wrote.1))

-- the status of a run that was not cut short is that of its end, and no failure of the output
left_status : (natives : List Native) (limit : ℕ) (m : Meaning) (f : Finish) → EndsBy natives limit m f → status_of f ≡ option_map_or end_status (run m.plan m.board natives limit).end 0
left_status natives limit m finishes.Quiescence ends = rw ends refl
left_status natives limit m finishes.Limit ends = rw ends refl
left_status natives limit m finishes.Full ends = rw ends refl
left_status natives limit m finishes.Memory ends = absurd ends
left_status natives limit m finishes.Write ends = absurd ends

no_write : (natives : List Native) (limit : ℕ) (m : Meaning) (f : Finish) → EndsBy natives limit m f → (status_of f == WRITE) ≡ false
no_write natives limit m finishes.Quiescence ends = refl
no_write natives limit m finishes.Limit ends = refl
no_write natives limit m finishes.Full ends = refl
no_write natives limit m finishes.Memory ends = absurd ends
no_write natives limit m finishes.Write ends = absurd ends

pub left_no_write : (natives : List Native) (limit : ℕ) (given : Result Meaning InputFault) (f : Finish) → IsOkAnd given (λ m. EndsBy natives limit m f) → (status_of f == WRITE) ≡ false
left_no_write natives limit (Err fault) f ends = absurd ends
left_no_write natives limit (Ok m) f ends = no_write natives limit m f ends

-- the answer to an input that is run for its units, by what of their document is known to have been written
pub served_units : (natives : List Native) (limit : ℕ) (given : Result Meaning InputFault) (f : Finish) (document : List ℕ) (status : ℕ) (old new : Option (List ℕ))
    → IsOkAnd given (λ m. EndsBy natives limit m f) → IsOkAnd given (λ m. document ≡ left_text natives limit m)
    → Delivers (line_of document (status_of f)) old new status → Delivers (answer_to_units natives limit given) old new status ⊎ CutShort (answer_to_units natives limit given) old new status
served_units natives limit (Err fault) f document status old new ends is wrote = absurd ends
served_units natives limit (Ok m) f document status old new ends is wrote =
    inl (subst (λ a. Delivers a old new status) (ap (λ t. line_of t (status_of f)) is ∙ ap (line_of (left_text natives limit m)) (left_status natives limit m f ends)) wrote)

-- a refused input, by its fault, where memory did not run out
pub served_refusal : (natives : List Native) (limit : ℕ) (given : Result Meaning InputFault) (fault : InputFault) (status : ℕ) (old new : Option (List ℕ))
    → (fault ≡ out_of_memory → ⊥) → (fault ≡ out_of_memory) ⊎ (given ≡ Err fault) → Delivers (refusal (refusal_text fault)) old new status ⊎ CutShort (refusal (refusal_text fault)) old new status
    → Delivers (answer_to_units natives limit given) old new status ⊎ CutShort (answer_to_units natives limit given) old new status
served_refusal natives limit given fault status old new other (inl is) answers = absurd (other is)
served_refusal natives limit given fault status old new other (inr is) answers =
    subst (λ (r : Result Meaning InputFault). Delivers (answer_to_units natives limit r) old new status ⊎ CutShort (answer_to_units natives limit r) old new status) (sym is) answers

pub front_within : (count : ℕ) (line more : List ℕ) → (n : ℕ) × (take count line ≡ take n (line ++ more))
front_within count line more = by (cases_lt (length line) count)
  where
    by : (length line < count) ⊎ (count ≤ length line) → (n : ℕ) × (take count line ≡ take n (line ++ more))
    by (inr le) = (count, sym (take-append-le count line more le))
    by (inl lt) = (length line, take_all count line (omega arith) ∙ sym (take-append-le (length line) line more (omega arith) ∙ take-length line))

-- the output failed in the line
pub failed_in_line : (line : List ℕ) (old new : Option (List ℕ)) (count : ℕ) → Appends old new (take count line) → (n : ℕ) × Appends old new (take n (text_of ((line ++ 10 ∷ []) ∷ [])))
failed_in_line line old new count a =
    let f = front_within count line (10 ∷ []) in
    (f.0, subst (Appends old new) (f.1 ∙ ap (take f.0) (sym (text_of-one (line ++ 10 ∷ [])))) a)

-- the output failed at its end
pub failed_at_end : (line : List ℕ) (old mid new : Option (List ℕ)) (count : ℕ) → Appends old mid line → Appends mid new (take count (10 ∷ [])) → (n : ℕ) × Appends old new (take n (text_of ((line ++ 10 ∷ []) ∷ [])))
failed_at_end line old mid new count a b =
    (length line + count, subst (Appends old new) (sym (take-append-add line (10 ∷ []) count) ∙ ap (take (length line + count)) (sym (text_of-one (line ++ 10 ∷ [])))) (Appends-trans old mid new line (take count (10 ∷ [])) a b))
