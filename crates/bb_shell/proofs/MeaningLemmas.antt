-- What an input means, after each of its steps.
use Rattle.std.proofs.Common.{◌≡◌, ℕ, ℤ, ◌⊎◌, inl, inr, List, Result, Ok, Err, refl, ap, subst, ◌∙◌}
use Rattle.bb_basis.specs.Results.{◌>>=◌, map_err}
use Rattle.bb_schema.specs.Schema.{Schema}
use Rattle.bb_schema.specs.Reading.{schema_of}
use Rattle.bb_refusal.specs.declared.input_fault.InputFault.{InputFault}
use Rattle.bb_refusal.specs.declared.input_fault.InputFault.TheVariants as inputs
use Rattle.bb_run.specs.Board.{Board, new_board}
use Rattle.bb_run.specs.Load.{loaded}
use Rattle.bb_shell.specs.Meaning.{Meaning, meaning}
use Rattle.bb_rules.specs.Parts.{Source}
use Rattle.bb_shell.specs.Sources.{given}

module _ (natives : List (List ℕ)) where
  abbrev of_sources : Schema → Board → ℤ → List Source → Result Meaning InputFault
  of_sources s made floor sources = Ok (record { plan = record { schema = s; sources = sources; floor = floor }; board = made })

  abbrev of_loaded : Schema → (texts bundle : List ℕ) → ℤ → Board → Result Meaning InputFault
  of_loaded s texts bundle floor made = given natives s texts bundle >>= of_sources s made floor

  abbrev of_schema : (units texts bundle : List ℕ) → ℤ → Schema → Result Meaning InputFault
  of_schema units texts bundle floor s = map_err inputs.Units (loaded (new_board s) units) >>= of_loaded s texts bundle floor

  fails : {A : Type 0} (e : InputFault) (step : Result A InputFault) (f : A → Result Meaning InputFault) (total : Result Meaning InputFault) → total ≡ (step >>= f) → (e ≡ inputs.Memory) ⊎ (step ≡ Err e) → (e ≡ inputs.Memory) ⊎ (total ≡ Err e)
  fails e step f total is (inl memory) = inl memory
  fails e step f total is (inr failed) = inr (is ∙ ap (λ r. r >>= f) failed)

  stepped : {A : Type 0} (step : Result A InputFault) (f : A → Result Meaning InputFault) (total : Result Meaning InputFault) (x : A) → total ≡ (step >>= f) → step ≡ Ok x → total ≡ f x
  stepped step f total x is ok = is ∙ ap (λ r. r >>= f) ok

  meaning_by_schema : (schema units texts bundle : List ℕ) (floor : ℤ) → meaning natives schema units texts bundle floor ≡ (map_err inputs.Schema (schema_of schema) >>= of_schema units texts bundle floor)
  unfolding meaning
  meaning_by_schema schema units texts bundle floor = refl

  pub schema_fails : (schema units texts bundle : List ℕ) (floor : ℤ) (e : InputFault) → (e ≡ inputs.Memory) ⊎ (map_err inputs.Schema (schema_of schema) ≡ Err e) → (e ≡ inputs.Memory) ⊎ (meaning natives schema units texts bundle floor ≡ Err e)
  schema_fails schema units texts bundle floor e failed = fails e (map_err inputs.Schema (schema_of schema)) (of_schema units texts bundle floor) (meaning natives schema units texts bundle floor) (meaning_by_schema schema units texts bundle floor) failed

  pub after_schema : (schema units texts bundle : List ℕ) (floor : ℤ) (s : Schema) → map_err inputs.Schema (schema_of schema) ≡ Ok s → meaning natives schema units texts bundle floor ≡ of_schema units texts bundle floor s
  after_schema schema units texts bundle floor s ok = stepped (map_err inputs.Schema (schema_of schema)) (of_schema units texts bundle floor) (meaning natives schema units texts bundle floor) s (meaning_by_schema schema units texts bundle floor) ok

  pub units_fail : (schema units texts bundle : List ℕ) (floor : ℤ) (s : Schema) (e : InputFault) → map_err inputs.Schema (schema_of schema) ≡ Ok s → (e ≡ inputs.Memory) ⊎ (map_err inputs.Units (loaded (new_board s) units) ≡ Err e) → (e ≡ inputs.Memory) ⊎ (meaning natives schema units texts bundle floor ≡ Err e)
  units_fail schema units texts bundle floor s e ok failed = fails e (map_err inputs.Units (loaded (new_board s) units)) (of_loaded s texts bundle floor) (meaning natives schema units texts bundle floor) (after_schema schema units texts bundle floor s ok) failed

  pub after_units : (schema units texts bundle : List ℕ) (floor : ℤ) (s : Schema) (made : Board) → map_err inputs.Schema (schema_of schema) ≡ Ok s → map_err inputs.Units (loaded (new_board s) units) ≡ Ok made → meaning natives schema units texts bundle floor ≡ of_loaded s texts bundle floor made
  after_units schema units texts bundle floor s made ok loaded' = stepped (map_err inputs.Units (loaded (new_board s) units)) (of_loaded s texts bundle floor) (meaning natives schema units texts bundle floor) made (after_schema schema units texts bundle floor s ok) loaded'

  pub sources_fail : (schema units texts bundle : List ℕ) (floor : ℤ) (s : Schema) (made : Board) (e : InputFault) (held : Schema) → held ≡ s → map_err inputs.Schema (schema_of schema) ≡ Ok s → map_err inputs.Units (loaded (new_board s) units) ≡ Ok made → (e ≡ inputs.Memory) ⊎ (given natives held texts bundle ≡ Err e) → (e ≡ inputs.Memory) ⊎ (meaning natives schema units texts bundle floor ≡ Err e)
  sources_fail schema units texts bundle floor s made e held same ok loaded' failed =
      fails e (given natives s texts bundle) (of_sources s made floor) (meaning natives schema units texts bundle floor) (after_units schema units texts bundle floor s made ok loaded')
      (subst (λ (t : Schema). (e ≡ inputs.Memory) ⊎ (given natives t texts bundle ≡ Err e)) same failed)

  pub means : (schema units texts bundle : List ℕ) (floor : ℤ) (s : Schema) (made : Board) (sources : List Source) (held : Schema) → held ≡ s → map_err inputs.Schema (schema_of schema) ≡ Ok s → map_err inputs.Units (loaded (new_board s) units) ≡ Ok made → given natives held texts bundle ≡ Ok sources
      → meaning natives schema units texts bundle floor ≡ Ok (record { plan = record { schema = s; sources = sources; floor = floor }; board = made })
  means schema units texts bundle floor s made sources held same ok loaded' fit =
      stepped (given natives s texts bundle) (of_sources s made floor) (meaning natives schema units texts bundle floor) sources (after_units schema units texts bundle floor s made ok loaded')
      (subst (λ (t : Schema). given natives t texts bundle ≡ Ok sources) same fit)
