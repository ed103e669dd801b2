-- What the tables of an accepted code say of an op.
use Rattle.std.proofs.Common.{◌≡◌, ℕ, ◌<◌, Bool, true, false, List, Option, Some, None, Result, Ok, Err, refl, arith, cond}
use Rattle.std.specs.Prelude.{nat_le, nat_lt, is_some}
use Rattle.std.proofs.lemmas.Bool.Decides.{nat_tests}
use Rattle.bb_basis.proofs.NumberLemmas.{nat_lt_true}
use Rattle.bb_schema.specs.Schema.{Schema, name_of_label}
use Rattle.bb_code.specs.declared.flaw.Flaw.{Flaw}
use Rattle.bb_code.specs.declared.flaw.Flaw.TheVariants as flaws
use Rattle.bb_verify.specs.Tables.{entry, known_label}

-- ---- tables

ok_test : (b : Bool) (flaw : Flaw) → (let r : Result (Unit {0}) Flaw = cond b (Ok tt) (Err flaw) in r) ≡ Ok tt → b ≡ true
ok_test true flaw h = refl
ok_test false flaw h = absurd cc

pub entry_below : (count n : ℕ) → entry count n ≡ Ok tt → n < count
entry_below count n h = nat_lt_true n count (ok_test (nat_lt n count) flaws.Table h)

label_by : (name : Option (List ℕ)) → (let r : Result (Unit {0}) Flaw = elim name [ None ↦ Err flaws.Table | Some text ↦ Ok tt ] in r) ≡ Ok tt → is_some name ≡ true
label_by None h = absurd cc
label_by (Some text) h = refl

pub label_there : (s : Schema) (set label : ℕ) → known_label s set label ≡ Ok tt → is_some (name_of_label s set label) ≡ true
label_there s set label h = label_by (name_of_label s set label) h

pub not_above : (long count n : ℕ) → long ≡ count → n < count → nat_le long n ≡ false
not_above long count n same lt = grind (arith, nat_tests)
