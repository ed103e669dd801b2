-- Lists of names in a schema.
use Rattle.std.specs.Prelude.{ℕ, ◌≤◌, List, length, All, IsTrue}
use Rattle.std.specs.List.{IsDistinct}
use Rattle.std.specs.Str.{bytes_eq}
use Rattle.bb_basis.specs.Names.{is_name}

-- at most limit names, none twice
pub record AreNames (limit : ℕ) (texts : List (List ℕ)) : Type 0 where
  pub few : length texts ≤ limit
  pub names : All (λ t. IsTrue (is_name t)) texts
  pub distinct : IsDistinct bytes_eq texts
