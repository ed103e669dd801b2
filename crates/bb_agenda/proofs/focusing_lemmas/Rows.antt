-- Worked ratings, computed on the definitions.
use Rattle.std.proofs.Common.{◌≡◌, ℕ, ℤ, pos, negsuc, ◌+ℤ◌, Bool, true, List, [], ◌∷◌, filter, None, codes, refl, ap}
use Rattle.std.specs.Ordering.{nat_cmp}
use Rattle.std.specs.Map.{keys_of, values_of}
use Rattle.std.specs.List.Sorted.{IsStrictlySortedBy}
use Rattle.bb_schema.specs.Schema.{Schema}
use Rattle.bb_agenda.specs.declared.focusing.activation.Activation.{Activation}
use Rattle.bb_agenda.specs.declared.focusing.focus.Focus.{Focus}
use Rattle.bb_agenda.specs.declared.focusing.setting.RatedSource.{RatedSource}
use Rattle.bb_agenda.specs.focusing.Matching.{is_source, is_ancestor, is_area, matches}
use Rattle.bb_agenda.specs.focusing.Rating.{total_weight, rating}
use Rattle.bb_agenda.specs.focusing.proving.Entries.{foci_of}
use Rattle.bb_basis.proofs.EntryLemmas.{values_are}

schema : Schema
schema = record {
  label_sets = [];
  classes = record { name = codes "focus"; parent = None; slots = [] } ∷ record { name = codes "note"; parent = None; slots = [] } ∷ [];
  slots = [];
  spaces = [];
}

-- the rating by foci that are listed
weighs : List RatedSource → List Focus → Activation → ℤ
weighs sources foci a = a.base +ℤ total_weight (filter (matches schema sources a) foci)

weighed : (sources : List RatedSource) (es : List (ℕ × Focus)) → IsStrictlySortedBy nat_cmp (keys_of es) → (a : Activation)
    → rating schema sources (foci_of es) a ≡ weighs sources (values_of es) a
unfolding rating weighs
weighed sources es sorted a = ap (λ (foci : List Focus). weighs sources foci a) (values_are es sorted)

-- ---- foci on a source

notes : List RatedSource
notes = record { name = codes "hail"; class = 1 } ∷ record { name = codes "echo"; class = 1 } ∷ []

first : Activation
first = record { number = 1; source = 0; unit = 1; base = pos 100 }

second : Activation
second = record { number = 2; source = 1; unit = 1; base = pos 100 }

on_echo : ℤ → Bool → Focus
on_echo weight active = record { source = codes "echo"; area = []; weight = weight; active = active }

-- an active one counts for activations of this source
raised : rating schema notes (foci_of ((9, on_echo (pos 30) true) ∷ [])) second ≡ pos 130
unfolding weighs matches is_source is_area is_ancestor IsStrictlySortedBy schema notes second on_echo
raised = weighed notes ((9, on_echo (pos 30) true) ∷ []) (tt, tt) second

-- no sum is too large
two_at_most : rating schema notes (foci_of ((9, on_echo (pos 9223372036854775807) true) ∷ (10, on_echo (pos 9223372036854775807) true) ∷ [])) second ≡ pos 18446744073709551714
unfolding weighs matches is_source is_area is_ancestor IsStrictlySortedBy schema notes second on_echo
two_at_most = weighed notes ((9, on_echo (pos 9223372036854775807) true) ∷ (10, on_echo (pos 9223372036854775807) true) ∷ []) ((refl, tt), (tt, tt)) second

-- ---- a place without a source

in_area : List ℕ → Focus
in_area area = record { source = []; area = area; weight = negsuc 2; active = true }

-- only a focus with two empty texts matches there
nowhere_all : rating schema [] (foci_of ((7, in_area []) ∷ [])) first ≡ pos 97
unfolding weighs matches IsStrictlySortedBy schema first in_area
nowhere_all = weighed [] ((7, in_area []) ∷ []) (tt, tt) first

nowhere_named : rating schema [] (foci_of ((7, in_area (codes "note")) ∷ [])) first ≡ pos 100
unfolding weighs matches is_area IsStrictlySortedBy schema first in_area
nowhere_named = weighed [] ((7, in_area (codes "note")) ∷ []) (tt, tt) first
