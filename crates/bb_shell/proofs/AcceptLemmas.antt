-- A source whose classes are looked up, and whose codes are then accepted.
use Rattle.std.proofs.Common.{◌≡◌, ◌⊎◌, inl, inr, List, ℕ, Result, Ok, Err, sym, ap, subst}
use Rattle.bb_basis.specs.Results.{◌>>=◌, Gives, map_err}
use Rattle.bb_schema.specs.Schema.{Schema}
use Rattle.bb_code.specs.Code.{Code}
use Rattle.bb_verify.specs.Accepted.{Checked}
use Rattle.bb_bundle.specs.declared.draft.SourceDraft.{SourceDraft}
use Rattle.bb_rules.specs.declared.resolve.Classes.{Classes}
use Rattle.bb_rules.specs.Source.{classes_of}
use Rattle.bb_shell.specs.declared.accepting.CodeFault.{CodeFault}
use Rattle.bb_shell.specs.declared.accepting.CodeFault.TheVariants as faults
use Rattle.bb_refusal.specs.declared.input_fault.InputFault.{InputFault}
use Rattle.bb_refusal.specs.declared.input_fault.InputFault.TheVariants as inputs
use Rattle.bb_shell.specs.Accepting.{accepted_draft, accepted_source, in_source}

-- what comes of a source once its classes are found
abbrev after_classes : Schema → SourceDraft Code → Result Classes InputFault → Result (SourceDraft Checked) InputFault
after_classes s draft classes = classes >>= λ found. map_err (in_source draft.header.name) (accepted_draft s found draft)

-- where the classes of a source are not found, it is refused
pub classes_fail : (s : Schema) (draft : SourceDraft Code) (e : InputFault) → (e ≡ inputs.Memory) ⊎ (map_err (inputs.Rule draft.header.name) (classes_of s draft) ≡ Err e) → (e ≡ inputs.Memory) ⊎ (accepted_source s draft ≡ Err e)
classes_fail s draft e (inl memory) = inl memory
classes_fail s draft e (inr failed) = inr (ap (after_classes s draft) failed)

told_by : (name : List ℕ) (r given : Result (SourceDraft Checked) CodeFault) → Gives faults.Memory (λ d. d) r given → Gives inputs.Memory (λ d. d) (map_err (in_source name) r) (map_err (in_source name) given)
told_by name (Ok d) given is = ap (map_err (in_source name)) is
told_by name (Err e) given (inl memory) = inl (ap (in_source name) memory)
told_by name (Err e) given (inr failed) = inr (ap (map_err (in_source name)) failed)

-- where the classes are found, the source has what came of the codes
pub codes_told : (s : Schema) (draft : SourceDraft Code) (name : List ℕ) (classes : Classes) (r : Result (SourceDraft Checked) CodeFault) (told : Result (SourceDraft Checked) InputFault) → name ≡ draft.header.name → map_err (inputs.Rule draft.header.name) (classes_of s draft) ≡ Ok classes
    → Gives faults.Memory (λ d. d) r (accepted_draft s classes draft) → told ≡ map_err (in_source name) r → Gives inputs.Memory (λ d. d) told (accepted_source s draft)
codes_told s draft name classes r told same found gives is =
    subst (λ x. Gives inputs.Memory (λ d. d) x (accepted_source s draft)) (sym is)
    (subst (λ g. Gives inputs.Memory (λ d. d) (map_err (in_source name) r) g) (sym (ap (after_classes s draft) found))
    (subst (λ n. Gives inputs.Memory (λ d. d) (map_err (in_source name) r) (map_err (in_source n) (accepted_draft s classes draft))) same (told_by name r (accepted_draft s classes draft) gives)))
