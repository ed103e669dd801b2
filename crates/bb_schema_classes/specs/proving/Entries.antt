-- Indexes of texts: for each name, the place of the first text that equals it.
use Rattle.std.specs.Prelude.{◌≡◌, ℕ, List, map, position, Option}
use Rattle.std.specs.BTreeMap.{BTreeMap, get_by}
use Rattle.std.specs.Cmp.Lexicographic.{slice_cmp}
use Rattle.std.specs.Ordering.{nat_cmp}
use Rattle.std.specs.Str.{bytes_eq}
use Rattle.bb_schema_form.specs.Document.{ClassDeclaration}
use denote.Ref.{Bor}

-- the place of a name in the index
abbrev pub indexed_place : BTreeMap (Bor (List ℕ)) ℕ → List ℕ → Option ℕ
indexed_place places name = get_by (λ k. slice_cmp nat_cmp name k.now) places

pub record IsIndex (places : BTreeMap (Bor (List ℕ)) ℕ) (texts : List (List ℕ)) : Type 0 where
  -- the place of a name is the place of the first text that equals it
  pub first : (name : List ℕ) → indexed_place places name ≡ position (bytes_eq name) texts

-- the indexes of the slots and links that a class declares
pub record IsClassIndex (slot_places link_places : BTreeMap (Bor (List ℕ)) ℕ) (class : ClassDeclaration) : Type 0 where
  pub slots : IsIndex slot_places (map (λ s. s.name) class.slots)
  pub links : IsIndex link_places (map (λ l. l.name) class.links)
