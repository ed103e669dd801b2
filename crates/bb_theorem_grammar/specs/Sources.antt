-- The grammar of clauses, parts and sources, and of the text of sources.
use Rattle.std.specs.Prelude.{◌≡◌, ◌<◌, ℕ, ℤ, true, false, List, [], ◌∷◌, ◌++◌, length, Option, codes}
use Rattle.std.specs.List.{list_any}
use Rattle.std.specs.Str.{bytes_eq}
use Rattle.bb_basis.specs.Names.{is_name}
use Rattle.bb_lang_tree.specs.declared.source_text.ActText.{ActText}
use Rattle.bb_lang_tree.specs.declared.source_text.ActText.TheVariants.{Do, Native}
use Rattle.bb_lang_tree.specs.declared.source_text.ChangeText.TheVariants.{Create, Delete, Update, Link, Unlink, Enter, Leave}
use Rattle.bb_lang_tree.specs.declared.source_text.ClauseText.{ClauseText}
use Rattle.bb_lang_tree.specs.declared.source_text.ClauseText.TheVariants.{Change, Quiescence}
use Rattle.bb_lang_tree.specs.declared.source_text.PartText.{PartText}
use Rattle.bb_lang_tree.specs.declared.source_text.PartTexts.{PartTexts}
use Rattle.bb_lang_tree.specs.declared.source_text.ReactionText.{ReactionText}
use Rattle.bb_lang_tree.specs.declared.source_text.SourceText.{SourceText}
use Rattle.bb_lang_tree.specs.Blocks.{BlockTree}
use Rattle.bb_lang.specs.declared.sources.TheConstants.{SOURCE_LIMIT}
use Rattle.bb_lang_tree.specs.declared.scan.TokenKind.TheVariants as kinds
use Rattle.bb_lang_tree.specs.declared.place.Place.{Place}
use Rattle.bb_lang_tree.specs.State.{State, before}
use Rattle.bb_lang_tree.specs.Words.{is_reserved}
use Rattle.bb_theorem_grammar.specs.Tokens.{Next, Takes}
use Rattle.bb_theorem_grammar.specs.Words.{IsName, IsMember, IsInt}
use Rattle.bb_theorem_grammar.specs.Repeats.{IsOptional, AreMany}
use Rattle.bb_theorem_grammar.specs.Expressions.{Opens}
use Rattle.bb_theorem_grammar.specs.Statements.{IsBlock}

-- ---- clauses

-- NAME "." NAME
pub data IsClassSlot (class x : List ℕ) (s v : State) : Type 0 where
  class_slot : {t u : State} → IsName class s t → Takes (codes ".") t u → IsMember x u v → IsClassSlot class x s v

-- event
pub data IsEvent : ClauseText → State → State → Type 0 where
  -- ( "create" | "delete" ) NAME
  create : {class : List ℕ} {s t u : State}
      → Takes (codes "create") s t → IsName class t u → IsEvent (Change Create class) s u
  delete : {class : List ℕ} {s t u : State}
      → Takes (codes "delete") s t → IsName class t u → IsEvent (Change Delete class) s u
  -- ( "update" | "link" | "unlink" ) NAME "." NAME
  update : {class x : List ℕ} {s t u : State}
      → Takes (codes "update") s t → IsClassSlot class x t u → IsEvent (Change (Update x) class) s u
  link : {class x : List ℕ} {s t u : State}
      → Takes (codes "link") s t → IsClassSlot class x t u → IsEvent (Change (Link x) class) s u
  unlink : {class x : List ℕ} {s t u : State}
      → Takes (codes "unlink") s t → IsClassSlot class x t u → IsEvent (Change (Unlink x) class) s u
  -- ( "enter" | "leave" ) NAME NAME
  enter : {class space : List ℕ} {s t u v : State}
      → Takes (codes "enter") s t → IsName class t u → IsName space u v → IsEvent (Change (Enter space) class) s v
  leave : {class space : List ℕ} {s t u v : State}
      → Takes (codes "leave") s t → IsName class t u → IsName space u v → IsEvent (Change (Leave space) class) s v
  -- "quiescence"
  quiescence : {s t : State} → Takes (codes "quiescence") s t → IsEvent Quiescence s t

-- when = "when" event ";"
pub data IsClause (x : ClauseText) (s v : State) : Type 0 where
  clause : {t u : State} → Takes (codes "when") s t → IsEvent x t u → Takes (codes ";") u v → IsClause x s v

-- when { when }
pub data AreClauses : List ClauseText → State → State → Type 0 where
  clauses : {x : ClauseText} {xs : List ClauseText} {s t u : State}
      → IsClause x s t → AreMany IsClause xs t u → AreClauses (x ∷ xs) s u

-- ---- parts, in the bracket of their source

-- a word and a block
pub data IsPart (word : List ℕ) : PartText → State → State → Type 0 where
  part : {b : BlockTree} {s t u : State}
      → Takes word s t → IsBlock 1 b t u → IsPart word (record { place = s.place; block = b }) s u

-- a word, "on" NAME when { when } block
pub data IsReaction (word : List ℕ) : ReactionText → State → State → Type 0 where
  reaction : {class : List ℕ} {cs : List ClauseText} {b : BlockTree} {s t u v w x : State}
      → Takes word s t → Takes (codes "on") t u → IsName class u v → AreClauses cs v w → IsBlock 1 b w x
      → IsReaction word (record { place = s.place; on = t.place; class = class; clauses = cs; block = b }) s x

-- [ "require" block ] [ "obviate" "on" NAME when { when } block ] [ "retrigger" "on" NAME when { when } block ]
-- [ "revalidate" block ]
pub data AreParts : PartTexts → State → State → Type 0 where
  parts : {a d : Option PartText} {b c : Option ReactionText} {s t u v w : State}
      → IsOptional (IsPart (codes "require")) a s t → IsOptional (IsReaction (codes "obviate")) b t u
      → IsOptional (IsReaction (codes "retrigger")) c u v → IsOptional (IsPart (codes "revalidate")) d v w
      → AreParts (record { require = a; obviate = b; retrigger = c; revalidate = d }) s w

-- "do" block | "native" ";"
pub data IsAct : ActText → State → State → Type 0 where
  acts : {p : PartText} {s t : State} → IsPart (codes "do") p s t → IsAct (Do p) s t
  native : {s t u : State} → Takes (codes "native") s t → Takes (codes ";") t u → IsAct Native s u

-- ---- sources

-- the state with the name of another source
abbrev pub with_source : List ℕ → State → State
with_source word s = record s { sources = s.sources ++ word ∷ [] }

-- NAME of a source, which no earlier source has
pub record NamesSource (word : List ℕ) (s t : State) : Type 0 where
  pub kind : s.kind ≡ kinds.Word
  pub is : s.token ≡ word
  pub is_name : is_name word ≡ true
  pub free : is_reserved word ≡ false
  pub new : list_any (bytes_eq word) s.sources ≡ false
  pub next : Next (with_source word s) t

-- "rate" int ";"
pub data IsRating (i : ℤ) (s v : State) : Type 0 where
  rating : {t u : State} → Takes (codes "rate") s t → IsInt i t u → Takes (codes ";") u v → IsRating i s v

-- "source" NAME "on" NAME, with the place of "on"; there may be at most `SOURCE_LIMIT`
pub data IsHeader (name class : List ℕ) (on : Place) (s w : State) : Type 0 where
  header : {t u v : State}
      → length s.sources < SOURCE_LIMIT → Takes (codes "source") s t → NamesSource name t u → u.place ≡ on
      → Takes (codes "on") u v → IsName class v w → IsHeader name class on s w

-- "source" NAME "on" NAME "{" when { when } "rate" int ";" parts act "}"
pub data IsSource : SourceText → State → State → Type 0 where
  source : {name class : List ℕ} {on : Place} {cs : List ClauseText} {i : ℤ} {ps : PartTexts} {a : ActText}
      {s t u v w x y z : State}
      → IsHeader name class on s t → Opens 0 (codes "{") t u → AreClauses cs u v → IsRating i v w → AreParts ps w x
      → IsAct a x y → Takes (codes "}") y z
      → IsSource (record {
        header = record { name = name; on = on; class = class };
        clauses = cs;
        rate = i;
        parts = ps;
        act = a;
      }) s z

-- file = { source }: the text has these sources, and only blanks and comments are left after them
pub record IsFile (text : List ℕ) (trees : List SourceText) : Type 0 where
  -- at the first token, and after the last source
  pub first : State
  pub last : State
  pub begins : Next (before text) first
  pub sources : AreMany IsSource trees first last
  pub ends : last.token ++ last.rest ≡ []
