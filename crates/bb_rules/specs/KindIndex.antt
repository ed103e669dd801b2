-- Sets of numbers for each kind of change.
use Rattle.std.specs.Prelude.{◌==◌, ℕ, Bool, List, [], ◌∷◌, ◌++◌, if◌then◌else◌}
use Rattle.std.specs.List.{list_any}
use Rattle.std.specs.Option.{option_map_or}
use Rattle.std.specs.Ordering.{nat_cmp}
use Rattle.std.specs.BTreeMap.{BTreeMap, get}
use Rattle.bb_board.specs.declared.event.ChangeKind.{ChangeKind}
use Rattle.bb_board.specs.declared.event.ChangeKind.TheVariants.{Create, Delete, Update, Link, Unlink, Enter, Leave}
use Rattle.bb_rules.specs.declared.kind_index.KindIndex.{KindIndex}

-- the number is in the list
abbrev pub has : List ℕ → ℕ → Bool
has ns n = list_any (λ d. d == n) ns

-- the numbers with another appended, unless they contain it
abbrev pub put : List ℕ → ℕ → List ℕ
put ns n = if has ns n then ns else ns ++ n ∷ []

-- the numbers with another appended, if it is to be added and they do not contain it
abbrev pub put_if : Bool → List ℕ → ℕ → List ℕ
put_if added ns n = if added then put ns n else ns

-- the numbers for a slot or space
abbrev pub ids_at : BTreeMap ℕ (List ℕ) → ℕ → List ℕ
ids_at sets n = option_map_or (λ set. set) (get nat_cmp sets n) []

-- the numbers for a kind of change
abbrev pub ids_for : KindIndex → ChangeKind → List ℕ
ids_for i Create = i.created
ids_for i Delete = i.deleted
ids_for i (Update slot) = ids_at i.updated.sets slot
ids_for i (Link slot) = ids_at i.linked.sets slot
ids_for i (Unlink slot) = ids_at i.unlinked.sets slot
ids_for i (Enter space) = ids_at i.entered.sets space
ids_for i (Leave space) = ids_at i.left.sets space
