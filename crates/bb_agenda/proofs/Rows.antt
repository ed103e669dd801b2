-- Worked choices, computed on the definitions.
use Rattle.std.proofs.Common.{◌≡◌, ℕ, ℤ, pos, ◌+ℤ◌, Bool, true, false, List, [], ◌∷◌, filter, Some, None, codes, refl, ap}
use Rattle.std.specs.FinMap as fin
use Rattle.std.specs.Ordering.{nat_cmp}
use Rattle.std.specs.Map.{keys_of, values_of}
use Rattle.std.specs.List.Sorted.{IsStrictlySortedBy}
use Rattle.bb_schema.specs.Schema.{Schema}
use Rattle.bb_agenda.specs.declared.focusing.activation.Activation.{Activation}
use Rattle.bb_agenda.specs.declared.focusing.focus.Focus.{Focus}
use Rattle.bb_agenda.specs.declared.focusing.setting.RatedSource.{RatedSource}
use Rattle.bb_agenda.specs.focusing.Foci.{Foci}
use Rattle.bb_agenda.specs.focusing.Matching.{is_source, is_ancestor, is_area, matches}
use Rattle.bb_agenda.specs.focusing.Rating.{total_weight, rating}
use Rattle.bb_agenda.proofs.focusing_lemmas.Laws.{values_are}
use Rattle.bb_agenda.specs.Agenda.{Agenda, no_activations, pending_of}
use Rattle.bb_agenda.specs.Changes.{with_activation, with_focus}
use Rattle.bb_agenda.specs.Chosen.{chosen}

schema : Schema
schema = record {
  label_sets = [];
  classes = record { name = codes "focus"; parent = None; slots = [] } ∷ record { name = codes "note"; parent = None; slots = [] } ∷ [];
  slots = [];
  spaces = [];
}

-- the foci of some entries
foci_of : List (ℕ × Focus) → Foci
foci_of entries = fin.from_entries entries

-- the rating by foci that are listed
weighs : List RatedSource → List Focus → Activation → ℤ
weighs sources foci a = a.base +ℤ total_weight (filter (matches schema sources a) foci)

module _ (sources : List RatedSource) (es : List (ℕ × Focus)) (sorted : IsStrictlySortedBy nat_cmp (keys_of es)) where
  weighed : (a : Activation) → rating schema sources (foci_of es) a ≡ weighs sources (values_of es) a
  unfolding rating weighs foci_of
  weighed a = ap (λ (foci : List Focus). weighs sources foci a) (values_are es sorted)

  -- what is chosen of them
  picked : (floor : ℤ) (pending : List Activation) → chosen (rating schema sources (foci_of es)) floor pending ≡ chosen (weighs sources (values_of es)) floor pending
  picked floor pending = ap (λ (rate : Activation → ℤ). chosen rate floor pending) (λ i a. weighed a i)

notes : List RatedSource
notes = record { name = codes "hail"; class = 1 } ∷ record { name = codes "echo"; class = 1 } ∷ []

first : Activation
first = record { number = 1; source = 0; unit = 1; base = pos 100 }

second : Activation
second = record { number = 2; source = 1; unit = 1; base = pos 100 }

-- an agenda on which both activations are pending
both : Agenda
both = with_activation (with_activation (no_activations (record { schema = schema; sources = notes })) 0 1 (pos 100)) 1 1 (pos 100)

on_echo : ℤ → Bool → Focus
on_echo weight active = record { source = codes "echo"; area = []; weight = weight; active = active }

waiting : (weight : ℤ) (active : Bool) → pending_of (with_focus both 9 (on_echo weight active)) ≡ first ∷ second ∷ []
unfolding both first second
waiting weight active = refl

-- an active one makes the second be chosen
raised_choice : chosen (rating schema notes (foci_of ((9, on_echo (pos 30) true) ∷ []))) (pos 0) (first ∷ second ∷ []) ≡ Some second
unfolding weighs matches is_source is_area is_ancestor IsStrictlySortedBy schema notes first second on_echo
raised_choice = picked notes ((9, on_echo (pos 30) true) ∷ []) (tt, tt) (pos 0) (first ∷ second ∷ [])

-- one that is not active changes nothing
idle_choice : chosen (rating schema notes (foci_of ((9, on_echo (pos 30) false) ∷ []))) (pos 0) (first ∷ second ∷ []) ≡ Some first
unfolding weighs matches is_source is_area is_ancestor IsStrictlySortedBy schema notes first second on_echo
idle_choice = picked notes ((9, on_echo (pos 30) false) ∷ []) (tt, tt) (pos 0) (first ∷ second ∷ [])
