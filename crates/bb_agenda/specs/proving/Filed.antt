-- How pending activations are found by number, source and unit. No public clause cites it.
use Rattle.std.specs.Prelude.{◌≡◌, ℕ, false, List, find}
use Rattle.std.specs.List.{AllByRecursion}
use Rattle.std.specs.Map.{values_of}
use Rattle.std.specs.Option.{option_map_or}
use Rattle.std.specs.BTreeSet.{BTreeSet}
use Rattle.bb_agenda.specs.declared.focusing.activation.Activation.{Activation}
use Rattle.bb_agenda.specs.declared.lists.Lists.{Lists}
use Rattle.bb_agenda.specs.Agenda.{number_of, has_number}
use Rattle.bb_agenda.specs.Fits.{RisesBy}
use Rattle.bb_agenda.specs.declared.rank.Rank.{Rank}
use Rattle.bb_agenda.specs.proving.Places.{Place, number_at}
use Rattle.bb_agenda.specs.proving.Lists.{same_place, is_listed, at_source, at_unit}
use Rattle.bb_agenda.specs.proving.Ranks.{AreRanked}

-- the set has the place of each activation, and no others
abbrev pub AreListed : (Activation → Place) → List Activation → BTreeSet Place → Type 0
AreListed at activations set =
    (p : Place) → is_listed set p ≡ option_map_or (λ a. same_place (at a) p) (find (has_number (number_at p)) activations) false

pub record AreFiled (activations : List Activation) (lists : Lists) : Type 0 where
  -- the numbers of the activations ascend
  pub rising : RisesBy number_of activations
  pub by_source : AreListed at_source activations lists.by_source
  pub by_unit : AreListed at_unit activations lists.by_unit

-- each activation is stored under its number
abbrev pub AreKeyed : List (ℕ × Activation) → Type 0
AreKeyed entries = AllByRecursion (λ e. e.0 ≡ e.1.number) entries

pub record AreWaiting (entries : List (ℕ × Activation)) (lists : Lists) (orders : List (BTreeSet Rank)) :
    Type 0 where
  pub keyed : AreKeyed entries
  pub filed : AreFiled (values_of entries) lists
  pub ranked : AreRanked (values_of entries) orders
