-- The words that begin the lines of a source after its first.
use Rattle.std.specs.Prelude.{ℕ, List, Option, Some, None, codes, if◌then◌else◌}
use Rattle.std.specs.Str.{bytes_eq}
use Rattle.bb_bundle.specs.declared.keyword.Keyword.{Keyword}
use Rattle.bb_bundle.specs.declared.keyword.Keyword.TheVariants.{When, Require, Obviate, Retrigger, Revalidate, Do}
use Rattle.bb_bundle.specs.declared.keyword.Keyword.TheVariants.{Native}

-- the keyword that a word spells
unfoldable pub keyword_of : List ℕ → Option Keyword
keyword_of word =
    if bytes_eq word (codes "when") then Some When
    else if bytes_eq word (codes "require") then Some Require
    else if bytes_eq word (codes "obviate") then Some Obviate
    else if bytes_eq word (codes "retrigger") then Some Retrigger
    else if bytes_eq word (codes "revalidate") then Some Revalidate
    else if bytes_eq word (codes "do") then Some Do
    else if bytes_eq word (codes "native") then Some Native
    else None
