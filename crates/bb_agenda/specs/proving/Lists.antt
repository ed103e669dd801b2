-- Ordered sets of numbers, each under a unit and a source. No public clause cites it.
use Rattle.std.specs.Prelude.{◌≡◌, ◌+◌, ℕ, Bool, true, false, ◌==◌, List, map, if◌then◌else◌}
use Rattle.std.specs.List.{list_any}
use Rattle.std.specs.declared.cmp.Ordering.{Ordering}
use Rattle.std.specs.declared.ops.Bound.TheVariants.{Included, Excluded}
use Rattle.std.specs.Ordering.{ordering_then, nat_cmp, is_eq}
use Rattle.std.specs.BTreeSet.{BTreeSet, contains, keys_between}
use Rattle.bb_agenda.specs.declared.focusing.activation.Activation.{Activation}
use Rattle.bb_agenda.specs.declared.lists.Lists.{Lists}
use Rattle.bb_agenda.specs.Fits.{RisesBy}
use Rattle.bb_agenda.specs.proving.Places.{Place, number_at}

-- the numbers ascend
abbrev pub Rising : List ℕ → Type 0
Rising numbers = RisesBy (λ n. n) numbers

-- whether a number is in a list
abbrev pub is_in : List ℕ → ℕ → Bool
is_in numbers number = list_any (λ n. n == number) numbers

-- the order of places
abbrev pub place_cmp : Place → Place → Ordering
place_cmp p q = ordering_then (ordering_then (nat_cmp p.0.0 q.0.0) (nat_cmp p.0.1 q.0.1)) (nat_cmp p.1 q.1)

abbrev pub same_place : Place → Place → Bool
same_place p q = is_eq (place_cmp p q)

-- the place is in the set
abbrev pub is_listed : BTreeSet Place → Place → Bool
is_listed set p = contains place_cmp set p

-- is_listed after a place is added
abbrev pub listed_more : BTreeSet Place → Place → Place → Bool
listed_more set place p = if same_place place p then true else is_listed set p

-- is_listed after a place is removed
abbrev pub listed_less : BTreeSet Place → Place → Place → Bool
listed_less set place p = if same_place place p then false else is_listed set p

-- the numbers of a set under a unit and a source, in order
abbrev pub numbers_under : BTreeSet Place → (unit source : ℕ) → List ℕ
numbers_under set unit source =
    map number_at (keys_between place_cmp (Included ((unit, source), 0)) (Excluded ((unit, source + 1), 0)) set)

-- ---- the sets of activations, by source, and by unit and source

-- where an activation is in the set by source
abbrev pub at_source : Activation → Place
at_source a = ((0, a.source), a.number)

-- where it is in the set by unit and source
abbrev pub at_unit : Activation → Place
at_unit a = ((a.unit, a.source), a.number)

-- an activation was added to both sets
pub record HasMore (old : Lists) (a : Activation) (new : Lists) : Type 0 where
  pub sources : (p : Place) → is_listed new.by_source p ≡ listed_more old.by_source (at_source a) p
  pub units : (p : Place) → is_listed new.by_unit p ≡ listed_more old.by_unit (at_unit a) p

-- an activation was removed from both sets
pub record HasLess (old : Lists) (a : Activation) (new : Lists) : Type 0 where
  pub sources : (p : Place) → is_listed new.by_source p ≡ listed_less old.by_source (at_source a) p
  pub units : (p : Place) → is_listed new.by_unit p ≡ listed_less old.by_unit (at_unit a) p

-- an activation is in neither set if it was in neither, and the others are as before
pub record IsBack (old : Lists) (a : Activation) (new : Lists) : Type 0 where
  pub sources : (p : Place) → (same_place (at_source a) p ≡ true → is_listed old.by_source p ≡ false)
      → is_listed new.by_source p ≡ is_listed old.by_source p
  pub units : (p : Place) → is_listed new.by_unit p ≡ is_listed old.by_unit p
