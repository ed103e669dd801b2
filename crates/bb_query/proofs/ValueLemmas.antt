-- The values on the dimensions of a space, one dimension after another, by the slots that the dimensions read.
use Rattle.std.proofs.Common.{◌≡◌, ℕ, zero, suc, ◌+◌, ◌<◌, List, [], ◌∷◌, ◌++◌, length, drop, Option, Some, None, refl, sym, ap, ◌∙◌, arith, append_assoc}
use Rattle.std.specs.Prelude.{slice_get, option_and_then}
use Rattle.std.specs.List.{cons_option}
use Rattle.std.proofs.lemmas.Option.{get_or_from_slice_get}
use Rattle.bb_basis.proofs.IntoMapLemmas.{next_one}
use Rattle.bb_schema.specs.declared.space.Dim.{Dim}
use Rattle.bb_schema.specs.Schema.{Schema, slot_named, dims_of}
use Rattle.bb_schema.specs.Readings.{slot_read}
use Rattle.bb_units.specs.Units.{Units, value_of}
use Rattle.bb_pattern.specs.declared.value.DimValue.{DimValue}
use Rattle.bb_pattern.specs.Values.{dim_value_of}
use Rattle.bb_query.specs.PresentValues.{values_on}

there : {X : Type 0} (xs : List X) (i : ℕ) → i < length xs → (x : X) × (slice_get xs i ≡ Some x)
there [] i lt = absurd (omega (arith, lt))
there (x ∷ xs) zero lt = (x, refl)
there (x ∷ xs) (suc i) lt = there xs i (omega (arith, lt))

module _ (s : Schema) (u : Units) (n class space : ℕ) where
  abbrev dims : List Dim
  dims = dims_of s space

  next : (front : List DimValue) (i : ℕ) (slot : Option ℕ) (value : Option DimValue) (total : List DimValue) → i < length dims → slot ≡ slot_read s class space i
      → value ≡ option_and_then (λ t. option_and_then dim_value_of (value_of u n t)) slot → front ++ values_on s u n class (drop i dims) ≡ total
      → front ++ cons_option value (values_on s u n class (drop (i + 1) dims)) ≡ total
  next front i slot value total lt read is so_far =
      let d = there dims i lt in
      let drops = next_one dims i d.0 lt (sym (get_or_from_slice_get dims i d.0 d.0 d.1)) in
      let by_name = is ∙ ap (option_and_then (λ t. option_and_then dim_value_of (value_of u n t))) (read ∙ ap (option_and_then (λ (e : Dim). slot_named s class e.name)) d.1) in
      ap (λ (o : Option DimValue). front ++ cons_option o (values_on s u n class (drop (i + 1) dims))) by_name
      ∙ (sym (ap (λ (ds : List Dim). front ++ values_on s u n class ds) drops) ∙ so_far)

  -- a dimension without a value is passed over
  pub passed_dim : (front : List DimValue) (i : ℕ) (slot : Option ℕ) (value : Option DimValue) (total : List DimValue) → i < length dims → slot ≡ slot_read s class space i
      → value ≡ option_and_then (λ t. option_and_then dim_value_of (value_of u n t)) slot → value ≡ None → front ++ values_on s u n class (drop i dims) ≡ total
      → front ++ values_on s u n class (drop (i + 1) dims) ≡ total
  passed_dim front i slot value total lt read is none so_far =
      sym (ap (λ (o : Option DimValue). front ++ cons_option o (values_on s u n class (drop (i + 1) dims))) none) ∙ next front i slot value total lt read is so_far

  -- and the value of another is put on
  pub told_dim : (front new : List DimValue) (i : ℕ) (slot : Option ℕ) (value : Option DimValue) (v : DimValue) (total : List DimValue) → i < length dims → slot ≡ slot_read s class space i
      → value ≡ option_and_then (λ t. option_and_then dim_value_of (value_of u n t)) slot → value ≡ Some v → new ≡ front ++ v ∷ [] → front ++ values_on s u n class (drop i dims) ≡ total
      → new ++ values_on s u n class (drop (i + 1) dims) ≡ total
  told_dim front new i slot value v total lt read is some pushed so_far =
      let rest = values_on s u n class (drop (i + 1) dims) in
      ap (λ (vs : List DimValue). vs ++ rest) pushed
      ∙ (append_assoc front (v ∷ []) rest
      ∙ (sym (ap (λ (o : Option DimValue). front ++ cons_option o rest) some) ∙ next front i slot value total lt read is so_far))
