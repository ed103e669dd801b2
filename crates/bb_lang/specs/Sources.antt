-- Sources: one definition for each production, and the sources of a text.
use Rattle.std.specs.Prelude.{ℕ, ℤ, nat_le, List, [], ◌∷◌, ◌++◌, length, Option, Some, None, Result, Ok, Err, codes, if◌then◌else◌}
use Rattle.std.specs.List.{list_any}
use Rattle.std.specs.Str.{bytes_eq}
use Rattle.bb_basis.specs.Results.{◌>>=◌}
use Rattle.bb_lang_tree.specs.declared.fault.LangFault.{LangFault}
use Rattle.bb_lang_tree.specs.declared.fault.LangFault.TheVariants.{Token, Twice, Limit}
use Rattle.bb_lang_tree.specs.declared.source_text.ActText.{ActText}
use Rattle.bb_lang_tree.specs.declared.source_text.ActText.TheVariants.{Do, Native}
use Rattle.bb_lang_tree.specs.declared.source_text.ChangeText.{ChangeText}
use Rattle.bb_lang_tree.specs.declared.source_text.ChangeText.TheVariants.{Create, Delete, Update, Link, Unlink, Enter, Leave}
use Rattle.bb_lang_tree.specs.declared.source_text.ClauseText.{ClauseText}
use Rattle.bb_lang_tree.specs.declared.source_text.ClauseText.TheVariants.{Change, Quiescence}
use Rattle.bb_lang_tree.specs.declared.source_text.HeaderText.{HeaderText}
use Rattle.bb_lang_tree.specs.declared.source_text.PartText.{PartText}
use Rattle.bb_lang_tree.specs.declared.source_text.PartTexts.{PartTexts}
use Rattle.bb_lang_tree.specs.declared.source_text.ReactionText.{ReactionText}
use Rattle.bb_lang_tree.specs.declared.source_text.SourceText.{SourceText}
use Rattle.bb_lang.specs.declared.sources.TheConstants.{BLOCK_NESTING, SOURCE_LIMIT}
use Rattle.bb_lang_tree.specs.State.{State, Reader, before, next, at, skip}
use Rattle.bb_lang_tree.specs.Tokens.{is_end}
use Rattle.bb_lang_tree.specs.Words.{name_at, name, member}
use Rattle.bb_lang_tree.specs.Literals.{int}
use Rattle.bb_lang.specs.declared.clauses.ClassSlot.{ClassSlot}
use Rattle.bb_lang.specs.declared.clauses.ClassSpace.{ClassSpace}
use Rattle.bb_lang.specs.Repeats.{as_many}
use Rattle.bb_lang.specs.Statements.{block}

-- ---- clauses

-- ( "create" | "delete" ) NAME, from the word on
unfoldable pub unit_event : ChangeText → Reader ClauseText
unit_event kind s = do
  t ← next s
  (class, u) ← name t
  Ok (Change kind class, u)

-- NAME "." NAME, after a word
unfoldable pub slot_event : Reader ClassSlot
slot_event s = do
  t ← next s
  (class, u) ← name t
  v ← skip (codes ".") u
  (slot, w) ← member v
  Ok (record { class = class; slot = slot }, w)

-- NAME NAME, after a word
unfoldable pub space_event : Reader ClassSpace
space_event s = do
  t ← next s
  (class, u) ← name t
  (space, v) ← name u
  Ok (record { class = class; space = space }, v)

-- ( "update" | "link" | "unlink" ) NAME "." NAME | ( "enter" | "leave" ) NAME NAME
unfoldable pub change_event : Reader ClauseText
change_event s =
    if at (codes "update") s then (do
      (of, t) ← slot_event s
      Ok (Change (Update of.slot) of.class, t))
    else if at (codes "link") s then (do
      (of, t) ← slot_event s
      Ok (Change (Link of.slot) of.class, t))
    else if at (codes "unlink") s then (do
      (of, t) ← slot_event s
      Ok (Change (Unlink of.slot) of.class, t))
    else if at (codes "enter") s then (do
      (of, t) ← space_event s
      Ok (Change (Enter of.space) of.class, t))
    else if at (codes "leave") s then (do
      (of, t) ← space_event s
      Ok (Change (Leave of.space) of.class, t))
    else Err (Token s.place)

-- event
unfoldable pub event : Reader ClauseText
event s =
    if at (codes "create") s then unit_event Create s
    else if at (codes "delete") s then unit_event Delete s
    else if at (codes "quiescence") s then (do
      t ← next s
      Ok (Quiescence, t))
    else change_event s

-- when = "when" event ";"
unfoldable pub clause : Reader ClauseText
clause s = do
  t ← skip (codes "when") s
  (e, u) ← event t
  v ← skip (codes ";") u
  Ok (e, v)

-- another clause, if one follows
unfoldable pub next_clause : Reader (Option ClauseText)
next_clause s =
    if at (codes "when") s
    then (do
      (one, t) ← clause s
      Ok (Some one, t))
    else Ok (None, s)

-- when { when }
unfoldable pub clauses : Reader (List ClauseText)
clauses s = do
  (first, t) ← clause s
  (others, u) ← as_many next_clause t
  Ok (first ∷ others, u)

-- ---- parts

-- a word and a block
unfoldable pub part : Reader PartText
part s = do
  t ← next s
  (b, u) ← block BLOCK_NESTING t
  Ok (record { place = s.place; block = b }, u)

-- [ word block ]
unfoldable pub part_if : (word : List ℕ) → Reader (Option PartText)
part_if word s =
    if at word s
    then (do
      (p, t) ← part s
      Ok (Some p, t))
    else Ok (None, s)

-- a word, "on" NAME when { when } block
unfoldable pub reaction : Reader ReactionText
reaction s = do
  t ← next s
  u ← skip (codes "on") t
  (class, v) ← name u
  (cs, w) ← clauses v
  (b, x) ← block BLOCK_NESTING w
  Ok (record { place = s.place; on = t.place; class = class; clauses = cs; block = b }, x)

-- [ word "on" NAME when { when } block ]
unfoldable pub reaction_if : (word : List ℕ) → Reader (Option ReactionText)
reaction_if word s =
    if at word s
    then (do
      (r, t) ← reaction s
      Ok (Some r, t))
    else Ok (None, s)

-- the parts in their order
unfoldable pub parts : Reader PartTexts
parts s = do
  (require, t) ← part_if (codes "require") s
  (obviate, u) ← reaction_if (codes "obviate") t
  (retrigger, v) ← reaction_if (codes "retrigger") u
  (revalidate, w) ← part_if (codes "revalidate") v
  Ok (record { require = require; obviate = obviate; retrigger = retrigger; revalidate = revalidate }, w)

-- "do" block | "native" ";"
unfoldable pub act : Reader ActText
act s =
    if at (codes "do") s
    then (do
      (p, t) ← part s
      Ok (Do p, t))
    else (do
      t ← skip (codes "native") s
      u ← skip (codes ";") t
      Ok (Native, u))

-- ---- sources

-- "source", which may occur at most `SOURCE_LIMIT` times
unfoldable pub source_word : State → Result State LangFault
source_word s =
    if at (codes "source") s
    then (if nat_le SOURCE_LIMIT (length s.sources) then Err (Limit s.place) else next s)
    else Err (Token s.place)

-- NAME, which no earlier source has
unfoldable pub source_name : Reader (List ℕ)
source_name s = do
  word ← name_at s
  t ← if list_any (bytes_eq word) s.sources then Err (Twice s.place)
      else next (record s { sources = s.sources ++ word ∷ [] })
  Ok (word, t)

-- "source" NAME "on" NAME
unfoldable pub header : Reader HeaderText
header s = do
  t ← source_word s
  (word, u) ← source_name t
  v ← skip (codes "on") u
  (class, w) ← name v
  Ok (record { name = word; on = u.place; class = class }, w)

-- "rate" int ";"
unfoldable pub rating : Reader ℤ
rating s = do
  t ← skip (codes "rate") s
  (n, u) ← int t
  v ← skip (codes ";") u
  Ok (n, v)

-- "source" NAME "on" NAME "{" when { when } "rate" int ";" parts act "}"
unfoldable pub source : Reader SourceText
source s = do
  (h, t) ← header s
  u ← skip (codes "{") t
  (cs, v) ← clauses u
  (n, w) ← rating v
  (ps, x) ← parts w
  (a, y) ← act x
  z ← skip (codes "}") y
  Ok (record { header = h; clauses = cs; rate = n; parts = ps; act = a }, z)

-- another source, unless the text ends here
unfoldable pub next_source : Reader (Option SourceText)
next_source s =
    if is_end s.kind then Ok (None, s)
    else (do
      (one, t) ← source s
      Ok (Some one, t))

-- file = { source }
unfoldable pub sources_of : List ℕ → Result (List SourceText) LangFault
sources_of text = do
  s ← next (before text)
  (all, t) ← as_many next_source s
  Ok all
