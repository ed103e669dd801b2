-- The test of an entry says exactly that its units fit the part.
use Rattle.std.proofs.Common.{◌≡◌, ◌↔◌, ℕ, Bool, true, false, List, [], ◌∷◌, Option, Some, None, refl, sym, subst}
use Rattle.std.specs.Prelude.{◌&&◌, IsTrue}
use Rattle.std.specs.List.{AllZip}
use Rattle.std.proofs.lemmas.Bool.{and_parts}
use Rattle.bb_schema.specs.Schema.{Schema}
use Rattle.bb_board.specs.May.{was}
use Rattle.bb_board.specs.State.{World}
use Rattle.bb_code.specs.declared.frame.Kind.TheVariants.{Old}
use Rattle.bb_machine.specs.declared.outcome.Entry.{Entry}
use Rattle.bb_machine.specs.Machine.{units_of}
use Rattle.bb_machine.specs.declared.value.Value.{Value}
use Rattle.bb_machine.specs.declared.value.Value.TheVariants as values
use Rattle.bb_theorem_machine.specs.Kinds.{HasKind, WasOf}
use Rattle.bb_theorem_machine.specs.NeverWrong.{EntryFits}
use Rattle.bb_verify.specs.PartType.{Part}
use Rattle.bb_verify.specs.PartType.TheVariants.{Require, Obviate, Retrigger, Revalidate, Do}
use Rattle.bb_cases_parts.specs.machines.Entries.{entry_fits, fits_alone, fits_event}

module _ (s : Schema) (w : World) where
  -- a unit has the kind of what was of a class exactly where it was of that class
  was_so : (class n : ℕ) → HasKind s w (Old class) (values.Unit n) → was s w n class ≡ true
  was_so class n (m, same, is) = let eq : n ≡ m = cc in subst (λ (k : ℕ). was s w k class ≡ true) (sym eq) is

  and_both : (x y : Bool) → x ≡ true → y ≡ true → (x && y) ≡ true
  and_both x y p q = rw (p, q) refl

  alone : (class it : ℕ) (ev : Option ℕ) → fits_alone s w class (record { it = it; ev = ev }) ≡ true ↔ EntryFits s w (Do class) (record { it = it; ev = ev })
  alone class it None = (λ is. ((it, refl, is), tt), λ fits. was_so class it fits.0)
  alone class it (Some ev) = (λ is. absurd cc, λ fits. elim fits.1 [ ])

  event : (class of it : ℕ) (ev : Option ℕ) → fits_event s w class of (record { it = it; ev = ev }) ≡ true ↔ EntryFits s w (Obviate class of) (record { it = it; ev = ev })
  event class of it None = (λ is. absurd cc, λ fits. elim fits.1 [ ])
  event class of it (Some ev) = (
    λ is. (let p = and_parts (was s w it class) (was s w ev of) is in ((it, refl, p.0), ((ev, refl, p.1), tt))),
    λ fits. and_both (was s w it class) (was s w ev of) (was_so class it fits.0) (was_so of ev fits.1.0),
  )

  pub entry_fits_is : (part : Part) (entry : Entry) → IsTrue (entry_fits s w part entry) ↔ EntryFits s w part entry
  entry_fits_is (Require class) entry = alone class entry.it entry.ev
  entry_fits_is (Obviate class of) entry = event class of entry.it entry.ev
  entry_fits_is (Retrigger class of) entry = event class of entry.it entry.ev
  entry_fits_is (Revalidate class) entry = alone class entry.it entry.ev
  entry_fits_is (Do class) entry = alone class entry.it entry.ev
