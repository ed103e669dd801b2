-- All couples, where one is changed, or all are.
use Rattle.std.proofs.Common.{◌≡◌, ℕ, Some, Result, Ok, Err, refl, sym, subst, arith}
use Rattle.std.specs.Prelude.{slice_get, slice_set, OnOk, OnErr}
use Rattle.std.proofs.Math.ListN.{length-set}
use Rattle.std.proofs.lemmas.List.{length-map}
use Rattle.std.proofs.lemmas.List.Elements.{All-set, All-map, All-weaker}
use Rattle.bb_links.specs.Couples.{Couple, Couples, changed, forgotten, after_forget}
use Rattle.bb_links.specs.Fits.{FitsCouple, Fits}
use Rattle.bb_links.proofs.FitLemmas.{forgotten_fits}

-- one couple is changed
pub changed_at : (change : Couple → Couple) (c : Couples) (i : ℕ) (k : Couple) → slice_get c.couples i ≡ Some k → changed change c i ≡ record { couples = slice_set c.couples i (change k); ends = c.ends }
changed_at change c i k is = rw is refl

pub set_fits : (c : Couples) (i : ℕ) (k : Couple) → Fits c → FitsCouple k → Fits (record { couples = slice_set c.couples i k; ends = c.ends })
set_fits c i k fits one = record {
  couples = All-set FitsCouple c.couples i k one fits.couples;
  ends = λ slot e is. omega (arith, fits.ends slot e is, length-set c.couples i k);
}

-- what a call that may fail leaves is one of two
pub one_of_two : {T E X : Type 0} (P : X → Type 0) (r : Result T E) (new good old : X) → OnOk r (new ≡ good) → OnErr r (new ≡ old) → P good → P old → P new
one_of_two P (Ok t) new good old ok err at_good at_old = subst P (sym ok) at_good
one_of_two P (Err e) new good old ok err at_good at_old = subst P (sym err) at_old

pub forget_fits : (c : Couples) (n : ℕ) → Fits c → Fits (after_forget c n)
forget_fits c n fits = record {
  couples = All-map FitsCouple (forgotten n) c.couples (All-weaker FitsCouple (λ k. FitsCouple (forgotten n k)) (λ k one. forgotten_fits k one n) c.couples fits.couples);
  ends = λ slot e is. omega (arith, fits.ends slot e is, length-map c.couples (forgotten n));
}
