-- The invariant of the names in scope.
use Rattle.std.specs.Prelude.{◌≡◌, ℕ, false, List, [], ◌∷◌, String}
use Rattle.std.specs.List.{list_any}
use Rattle.std.specs.Str.{bytes_eq}
use Rattle.std.specs.BTreeSet.{BTreeSet, contains_text}

-- no name occurs again after itself
abbrev pub AreDistinct : List (List ℕ) → Type 0
AreDistinct [] = Unit {0}
AreDistinct (name ∷ names) = (list_any (bytes_eq name) names ≡ false) × AreDistinct names

pub record IsScope {Y : Type 0} (names : List (List ℕ)) (found : BTreeSet (String Y)) : Type 0 where
  -- a name is found if and only if it is one of the names
  pub same : (name : List ℕ) → contains_text found name ≡ list_any (bytes_eq name) names
  pub distinct : AreDistinct names
