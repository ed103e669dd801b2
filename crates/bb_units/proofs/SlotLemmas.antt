-- Values in the slots of a block: what a slot has, and what is left once it is set.
use Rattle.std.proofs.Common.{◌≡◌, ℕ, suc, ◌+◌, Bool, true, false, cond, List, [], ◌∷◌, Some, None, refl, sym, ap, ◌∙◌, arith}
use Rattle.std.specs.Prelude.{◌==◌, slice_get, slice_set}
use Rattle.std.specs.List.{position_from}
use Rattle.std.specs.Map.{values_of}
use Rattle.std.proofs.lemmas.Iterator.Adapters.{position_from-zero}
use Rattle.bb_schema_classes.specs.declared.value.Value.{Value}
use Rattle.bb_units.specs.Values.{value_at, with_value, place_of, in_slots}

abbrev pub Entries : Type 0
Entries = List (ℕ × Value)

-- the slots of a block at their defaults
pub in_own_slots : (es : Entries) → in_slots es (values_of es) ≡ es
in_own_slots [] = refl
in_own_slots (e ∷ es) = ap (λ (fs : Entries). e ∷ fs) (in_own_slots es)

module _ (slot : ℕ) where
  -- the place is that of the slot, whatever the values are
  pub record IsPlace (es : Entries) (i : ℕ) : Type 0 where
    pub found : (vs : List Value) → value_at (in_slots es vs) slot ≡ slice_get vs i
    pub writes : (vs : List Value) (w : Value) → with_value (in_slots es vs) slot w ≡ in_slots es (slice_set vs i w)

  abbrev pub IsNowhere : Entries → Type 0
  IsNowhere es =
      (vs : List Value) → (value_at (in_slots es vs) slot ≡ None) × ((w : Value) → with_value (in_slots es vs) slot w ≡ in_slots es vs)

  abbrev passes : ℕ × Value → Bool
  passes e = e.0 == slot

  module _ (e : ℕ × Value) (es : Entries) where
    head_found : passes e ≡ true → (vs : List Value) → value_at (in_slots (e ∷ es) vs) slot ≡ slice_get vs 0
    head_found h [] = refl
    head_found h (v ∷ vs) = rw h refl

    head_writes : passes e ≡ true → (vs : List Value) (w : Value) → with_value (in_slots (e ∷ es) vs) slot w ≡ in_slots (e ∷ es) (slice_set vs 0 w)
    head_writes h [] w = refl
    head_writes h (v ∷ vs) w = rw h refl

    next_found : (k : ℕ) → passes e ≡ false → IsPlace es k → (vs : List Value) → value_at (in_slots (e ∷ es) vs) slot ≡ slice_get vs (suc k)
    next_found k h there [] = refl
    next_found k h there (v ∷ vs) = rw h (there.found vs)

    next_writes : (k : ℕ) → passes e ≡ false → IsPlace es k → (vs : List Value) (w : Value) → with_value (in_slots (e ∷ es) vs) slot w ≡ in_slots (e ∷ es) (slice_set vs (suc k) w)
    next_writes k h there [] w = refl
    next_writes k h there (v ∷ vs) w = rw h (ap (λ (fs : Entries). (e.0, v) ∷ fs) (there.writes vs w))

    found_next : (n i : ℕ) (b : Bool) → passes e ≡ b → (position_from passes (n + 1) es ≡ Some i → (k : ℕ) × (i ≡ n + 1 + k) × IsPlace es k)
        → cond b (Some n) (position_from passes (n + 1) es) ≡ Some i → (k : ℕ) × (i ≡ n + k) × IsPlace (e ∷ es) k
    found_next n i true h later is =
        (0, let same : n ≡ i = cc in omega (arith, same), record { found = head_found h; writes = head_writes h })
    found_next n i false h later is =
        let p = later is in
        (suc p.0, omega (arith, p.1), record { found = next_found p.0 h p.2; writes = next_writes p.0 h p.2 })

    none_here : passes e ≡ false → IsNowhere es → IsNowhere (e ∷ es)
    none_here h later [] = (refl, λ w. refl)
    none_here h later (v ∷ vs) = (rw h (later vs).0, λ w. rw h (ap (λ (fs : Entries). (e.0, v) ∷ fs) ((later vs).1 w)))

    none_next : (n : ℕ) (b : Bool) → passes e ≡ b → (position_from passes (n + 1) es ≡ None → IsNowhere es) → cond b (Some n) (position_from passes (n + 1) es) ≡ None → IsNowhere (e ∷ es)
    none_next n true h later is = absurd cc
    none_next n false h later is = none_here h (later is)

  found_from : (n i : ℕ) (es : Entries) → position_from passes n es ≡ Some i → (k : ℕ) × (i ≡ n + k) × IsPlace es k
  found_from n i [] is = absurd cc
  found_from n i (e ∷ es) is = found_next e es n i (passes e) refl (λ h. found_from (n + 1) i es h) is

  pub is_place : (i : ℕ) (es : Entries) → place_of slot es ≡ Some i → IsPlace es i
  is_place i es is =
      let p = found_from 0 i es (sym (position_from-zero passes es) ∙ is) in
      let same : i ≡ p.0 = omega (arith, p.1) in
      rw same p.2

  none_from : (n : ℕ) (es : Entries) → position_from passes n es ≡ None → IsNowhere es
  none_from n [] is = λ vs. (refl, λ w. refl)
  none_from n (e ∷ es) is = none_next e es n (passes e) refl (λ h. none_from (n + 1) es h) is

  pub is_nowhere : (es : Entries) → place_of slot es ≡ None → IsNowhere es
  is_nowhere es is = none_from 0 es (sym (position_from-zero passes es) ∙ is)
