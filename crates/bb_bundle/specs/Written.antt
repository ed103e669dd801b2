-- The text of sources: a line for each part and each clause, the parts in order.
use Rattle.std.specs.Prelude.{ℕ, List, [], ◌∷◌, ◌++◌, map, Option, Some, None, codes}
use Rattle.std.specs.List.{flat_map, join_with_byte}
use Rattle.std.specs.Fmt.{signed_decimal}
use Rattle.hex.specs.Hex.{encode_lower}
use Rattle.bb_code.specs.Code.{Code}
use Rattle.bb_code.specs.Spelling.{spelling}
use Rattle.bb_bundle.specs.declared.draft.ActDraft.{ActDraft}
use Rattle.bb_bundle.specs.declared.draft.ActDraft.TheVariants.{Do, Native}
use Rattle.bb_lang_tree.specs.declared.source_text.ChangeText.{ChangeText}
use Rattle.bb_lang_tree.specs.declared.source_text.ChangeText.TheVariants.{Create, Delete, Update, Link, Unlink}
use Rattle.bb_lang_tree.specs.declared.source_text.ChangeText.TheVariants.{Enter, Leave}
use Rattle.bb_lang_tree.specs.declared.source_text.ClauseText.{ClauseText}
use Rattle.bb_lang_tree.specs.declared.source_text.ClauseText.TheVariants.{Change, Quiescence}
use Rattle.bb_bundle.specs.declared.draft.Header.{Header}
use Rattle.bb_bundle.specs.declared.draft.ReactionDraft.{ReactionDraft}
use Rattle.bb_bundle.specs.declared.draft.SourceDraft.{SourceDraft}

-- the words of a line, four at most
abbrev pub Words : Type 0
Words = List (List ℕ)

-- a line: its words, separated by spaces, and a line feed
abbrev pub line_text : Words → List ℕ
line_text ws = join_with_byte 32 ws ++ 10 ∷ []

-- a class and one of its slots, with a dot between
abbrev pub dotted : (class slot : List ℕ) → List ℕ
dotted class slot = class ++ codes "." ++ slot

-- a change of units of a class
abbrev pub change_words : ChangeText → (class : List ℕ) → Words
change_words Create class = codes "create" ∷ class ∷ []
change_words Delete class = codes "delete" ∷ class ∷ []
change_words (Update slot) class = codes "update" ∷ dotted class slot ∷ []
change_words (Link slot) class = codes "link" ∷ dotted class slot ∷ []
change_words (Unlink slot) class = codes "unlink" ∷ dotted class slot ∷ []
change_words (Enter space) class = codes "enter" ∷ class ∷ space ∷ []
change_words (Leave space) class = codes "leave" ∷ class ∷ space ∷ []

-- a clause
abbrev pub clause_words : ClauseText → Words
clause_words (Change kind class) = codes "when" ∷ change_words kind class
clause_words Quiescence = codes "when" ∷ codes "quiescence" ∷ []

-- a code: the hex digits of its bytes, letters in lower case
abbrev pub code_digits : Code → List ℕ
code_digits code = encode_lower (spelling code)

-- a part that consists of a code only, if it is present
abbrev pub code_lines : (keyword : List ℕ) → Option Code → List Words
code_lines keyword None = []
code_lines keyword (Some code) = (keyword ∷ code_digits code ∷ []) ∷ []

-- a reaction with its clauses, if it is present
abbrev pub reaction_lines : (keyword : List ℕ) → Option (ReactionDraft Code) → List Words
reaction_lines keyword None = []
reaction_lines keyword (Some reaction) =
    (keyword ∷ reaction.class ∷ code_digits reaction.code ∷ []) ∷ map clause_words reaction.clauses

-- the act
abbrev pub act_words : ActDraft Code → Words
act_words (Do code) = codes "do" ∷ code_digits code ∷ []
act_words Native = codes "native" ∷ []

-- the first line of a source
abbrev pub header_words : Header → Words
header_words h = codes "source" ∷ h.name ∷ h.class ∷ signed_decimal h.rate ∷ []

-- the lines of a source
abbrev pub source_lines : SourceDraft Code → List Words
source_lines s =
    (header_words s.header ∷ []) ++ (map clause_words s.header.triggers
    ++ (code_lines (codes "require") s.parts.require ++ (reaction_lines (codes "obviate") s.parts.obviate
    ++ (reaction_lines (codes "retrigger") s.parts.retrigger
    ++ (code_lines (codes "revalidate") s.parts.revalidate ++ act_words s.act ∷ [])))))

-- the text of lines
unfoldable pub text_of : List Words → List ℕ
text_of lines = flat_map line_text lines

-- the text of sources
unfoldable pub bundle_text : List (SourceDraft Code) → List ℕ
bundle_text sources = flat_map (λ s. text_of (source_lines s)) sources
