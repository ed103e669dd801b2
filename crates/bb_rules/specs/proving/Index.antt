-- How the code finds the clauses that name an event. No public contract cites it.
use Rattle.std.specs.Prelude.{◌≡◌, ◌==◌, ◌&&◌, ℕ, Bool, true, false, List}
use Rattle.std.specs.List.{list_any}
use Rattle.bb_board.specs.declared.event.ChangeKind.{ChangeKind}
use Rattle.bb_rules.specs.declared.clause.Clause.{Clause}
use Rattle.bb_rules.specs.declared.clause.Clause.TheVariants as clauses
use Rattle.bb_rules.specs.declared.kind_index.KindIndex.{KindIndex}
use Rattle.bb_rules.specs.KindIndex.{has, ids_for}
use Rattle.bb_rules.specs.Match.{is_same_kind}

-- a class is among those for a kind of change
abbrev pub names_class : KindIndex → ChangeKind → ℕ → Bool
names_class i kind c = has (ids_for i kind) c

-- a clause names this kind of change and this class
abbrev pub is_about : ChangeKind → ℕ → Clause → Bool
is_about kind c (clauses.Change of class) = is_same_kind of kind && class == c
is_about kind c clauses.Quiescence = false

-- a clause names quiescence
abbrev pub is_quiescence : Clause → Bool
is_quiescence (clauses.Change of class) = false
is_quiescence clauses.Quiescence = true

-- the index has exactly the kinds and classes that the clauses name
pub record IsIndex (list : List Clause) (index : KindIndex) (quiescence : Bool) : Type 0 where
  pub kinds : (kind : ChangeKind) (c : ℕ) → names_class index kind c ≡ list_any (is_about kind c) list
  pub quiet : quiescence ≡ list_any is_quiescence list
