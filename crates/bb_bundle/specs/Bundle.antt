-- The sources of a bundle, or its first fault: the parser's state after each line, from the top.
use Rattle.std.specs.Prelude.{ℕ, ◌+◌, ◌==◌, List, [], ◌∷◌, ◌++◌, length, Option, Some, None, Result, Ok, Err}
use Rattle.std.specs.Prelude.{if◌then◌else◌}
use Rattle.std.specs.Str.Lines.{lines}
use Rattle.hex.specs.Hex.{decode_of}
use Rattle.bb_basis.specs.Results.{◌>>=◌, ok_or, map_err, try_fold}
use Rattle.bb_code.specs.Code.{Code}
use Rattle.bb_code.specs.Reading.{code_of}
use Rattle.bb_bundle.specs.declared.keyword.Keyword.{Keyword}
use Rattle.bb_bundle.specs.declared.keyword.Keyword.TheVariants as keywords
use Rattle.bb_bundle.specs.declared.partial.PartialSource.{PartialSource}
use Rattle.bb_bundle.specs.declared.draft.ActDraft.{ActDraft}
use Rattle.bb_bundle.specs.declared.draft.ActDraft.TheVariants.{Do, Native}
use Rattle.bb_bundle.specs.declared.draft.ReactionDraft.{ReactionDraft}
use Rattle.bb_bundle.specs.declared.draft.SourceDraft.{SourceDraft}
use Rattle.bb_bundle.specs.declared.fault.BundleFault.{BundleFault}
use Rattle.bb_bundle.specs.declared.fault.BundleFault.TheVariants.{Line, Hex, Code as NoCode}
use Rattle.bb_bundle.specs.Spelled.{if_spelled}
use Rattle.bb_bundle.specs.Clauses.{clause_of}
use Rattle.bb_bundle.specs.Keywords.{keyword_of}
use Rattle.bb_bundle.specs.Line.{words_of, header_of, digits_of, class_and_digits_of}
use Rattle.bb_bundle.specs.Drafts.{no_parts, with_require, with_obviate, with_retrigger, with_revalidate}
use Rattle.bb_bundle.specs.Partial.{may_come, with_act, with_clause, with_parts}

-- the state of the parser
pub record Parser : Type 0 where
  -- the number of lines
  pub lines : ℕ
  -- the complete sources
  pub sources : List (SourceDraft Code)
  -- the source whose act is still to come
  pub partial : Option PartialSource

-- the state before the first line
abbrev pub new_parser : Parser
new_parser = record { lines = 0; sources = []; partial = None }

-- the state with a source whose act is still to come
abbrev pub with_source : Parser → PartialSource → Parser
with_source p source = record { lines = p.lines; sources = p.sources; partial = Some source }

-- the state after a source was completed by its act; a fault if no bundle can spell it
unfoldable pub with_whole : Parser → PartialSource → ActDraft Code → Result Parser BundleFault
with_whole p source act = do
  whole ← ok_or (if_spelled (with_act source act)) (Line p.lines)
  Ok (record { lines = p.lines; sources = p.sources ++ whole ∷ []; partial = p.partial })

-- the code that the hex digits of a line spell
unfoldable pub code_in : ℕ → List ℕ → Result Code BundleFault
code_in line digits = do
  bytes ← map_err (λ _. Hex line) (decode_of digits)
  map_err (λ fault. NoCode line fault) (code_of bytes)

-- `HEX`: the code
unfoldable pub code_of_words : ℕ → List (List ℕ) → Result Code BundleFault
code_of_words line ws = do
  digits ← ok_or (digits_of ws) (Line line)
  code_in line digits

-- `CLASS HEX`: a reaction whose clauses are still to come
unfoldable pub reaction_of_words : ℕ → List (List ℕ) → Result (ReactionDraft Code) BundleFault
reaction_of_words line ws = do
  parts ← ok_or (class_and_digits_of ws) (Line line)
  code ← code_in line parts.1
  Ok (record { class = parts.0; clauses = []; code = code })

-- after the first line of a source
unfoldable pub after_first : Parser → List (List ℕ) → Result Parser BundleFault
after_first p ws = do
  header ← ok_or (header_of ws) (Line p.lines)
  Ok (with_source p (record { header = header; parts = no_parts }))

-- after a clause
unfoldable pub after_when : Parser → PartialSource → List (List ℕ) → Result Parser BundleFault
after_when p source ws = do
  clause ← ok_or (clause_of ws) (Line p.lines)
  Ok (with_source p (with_clause source clause))

-- after the code that says whether an activation is made
unfoldable pub after_require : Parser → PartialSource → List (List ℕ) → Result Parser BundleFault
after_require p source ws = do
  code ← code_of_words p.lines ws
  Ok (with_source p (with_parts source (with_require source.parts (Some code))))

-- after the beginning of the reaction that ends activations
unfoldable pub after_obviate : Parser → PartialSource → List (List ℕ) → Result Parser BundleFault
after_obviate p source ws = do
  reaction ← reaction_of_words p.lines ws
  Ok (with_source p (with_parts source (with_obviate source.parts (Some reaction))))

-- after the beginning of the reaction that rates activations again
unfoldable pub after_retrigger : Parser → PartialSource → List (List ℕ) → Result Parser BundleFault
after_retrigger p source ws = do
  reaction ← reaction_of_words p.lines ws
  Ok (with_source p (with_parts source (with_retrigger source.parts (Some reaction))))

-- after the code that says whether an activation may still act
unfoldable pub after_revalidate : Parser → PartialSource → List (List ℕ) → Result Parser BundleFault
after_revalidate p source ws = do
  code ← code_of_words p.lines ws
  Ok (with_source p (with_parts source (with_revalidate source.parts (Some code))))

-- after a code as the act
unfoldable pub after_do : Parser → PartialSource → List (List ℕ) → Result Parser BundleFault
after_do p source ws = do
  code ← code_of_words p.lines ws
  with_whole p source (Do code)

-- after a native as the act
unfoldable pub after_native : Parser → PartialSource → List (List ℕ) → Result Parser BundleFault
after_native p source ws = if length ws == 0 then with_whole p source Native else Err (Line p.lines)

-- after a line whose keyword may come next: a clause, a part or an act
unfoldable pub after_keyword : Parser → PartialSource → Keyword → List (List ℕ) → Result Parser BundleFault
after_keyword p source keywords.When ws = after_when p source ws
after_keyword p source keywords.Require ws = after_require p source ws
after_keyword p source keywords.Obviate ws = after_obviate p source ws
after_keyword p source keywords.Retrigger ws = after_retrigger p source ws
after_keyword p source keywords.Revalidate ws = after_revalidate p source ws
after_keyword p source keywords.Do ws = after_do p source ws
after_keyword p source keywords.Native ws = after_native p source ws

-- after a line of a source that is not its first: the keyword says what it is, and must come in order
unfoldable pub after_further : Parser → PartialSource → List (List ℕ) → Result Parser BundleFault
after_further p source [] = Err (Line p.lines)
after_further p source (word ∷ ws) = do
  keyword ← ok_or (keyword_of word) (Line p.lines)
  if may_come source keyword then after_keyword p source keyword ws else Err (Line p.lines)

-- after a line that is not empty; the incomplete source, if there is one, is given apart from the state
abbrev pub after_words : Parser → Option PartialSource → List (List ℕ) → Result Parser BundleFault
after_words p None ws = after_first p ws
after_words p (Some source) ws = after_further p source ws

-- after a line; empty lines are ignored
unfoldable pub after_line : Parser → List ℕ → Result Parser BundleFault
after_line p line =
    if length line == 0 then Ok (record { lines = p.lines + 1; sources = p.sources; partial = p.partial })
    else after_words (record { lines = p.lines + 1; sources = p.sources; partial = None }) p.partial (words_of line)

-- the complete sources, if no source is incomplete
abbrev pub all_whole : ℕ → List (SourceDraft Code) → Option PartialSource → Result (List (SourceDraft Code)) BundleFault
all_whole line sources None = Ok sources
all_whole line sources (Some source) = Err (Line line)

-- at the end of the text; a fault there has the number of the line after the last
abbrev pub at_end : Parser → Result (List (SourceDraft Code)) BundleFault
at_end p = all_whole (p.lines + 1) p.sources p.partial

-- the sources of a bundle
unfoldable pub sources_of : List ℕ → Result (List (SourceDraft Code)) BundleFault
sources_of text = try_fold after_line new_parser (lines text) >>= at_end
