-- Bytes that are a text, and bytes that are none.
use Rattle.std.proofs.lemmas.Bool.{lt-ltb, le-ltb}
use Rattle.std.proofs.Common.{◌≡◌, ◌<◌, ◌≤◌, length, true, false, List, ℕ, Result, Err, refl, sym, ap, ◌∙◌}
use Rattle.std.specs.Prelude.{if◌then◌else◌}
use Rattle.std.specs.Str.{IsUtf8, is_utf8}
use Rattle.std.proofs.lemmas.Str.{IsUtf8-from_is_utf8, is_utf8-from_IsUtf8}
use Rattle.bb_main_input.specs.declared.read.TheConstants.{INPUT_LIMIT}
use Rattle.bb_main_input.specs.declared.section_fault.SectionFault.{SectionFault}
use Rattle.bb_main_input.specs.declared.section_fault.SectionFault.TheVariants.{Limit, Utf8}
use Rattle.bb_main_input.specs.Sections.{Texts, sections_of}
use Rattle.bb_main_input.specs.Input.{input_of}

within : (bytes : List ℕ) → length bytes ≤ INPUT_LIMIT → input_of bytes ≡ (if is_utf8 bytes then sections_of bytes else Err Utf8)
unfolding input_of
within bytes small = ap (λ b. if b then Err Limit else if is_utf8 bytes then sections_of bytes else Err Utf8) (le-ltb INPUT_LIMIT (length bytes) small)

pub is_long : (bytes : List ℕ) → INPUT_LIMIT < length bytes → Err Limit ≡ input_of bytes
unfolding input_of
is_long bytes long = sym (ap (λ b. if b then Err Limit else if is_utf8 bytes then sections_of bytes else Err Utf8) (lt-ltb INPUT_LIMIT (length bytes) long))

pub is_text : (bytes text : List ℕ) (got : Result Texts SectionFault) → length bytes ≤ INPUT_LIMIT → text ≡ bytes → IsUtf8 bytes → got ≡ sections_of text → got ≡ input_of bytes
is_text bytes text got small same utf8 is = is ∙ (ap sections_of same ∙ sym (within bytes small ∙ ap (λ b. if b then sections_of bytes else Err Utf8) (is_utf8-from_IsUtf8 bytes utf8)))

not_utf8 : (bytes : List ℕ) → ¬ (IsUtf8 bytes) → is_utf8 bytes ≡ false
not_utf8 bytes lacks = elim (is_utf8 bytes) as (λ b. (b ≡ true → IsUtf8 bytes) → b ≡ false) [ true ↦ λ is. absurd (lacks (is refl)) | false ↦ λ _. refl ] (IsUtf8-from_is_utf8 bytes)

pub is_no_text : (bytes : List ℕ) → length bytes ≤ INPUT_LIMIT → ¬ (IsUtf8 bytes) → Err Utf8 ≡ input_of bytes
is_no_text bytes small lacks = sym (within bytes small ∙ ap (λ b. if b then sections_of bytes else Err Utf8) (not_utf8 bytes lacks))
