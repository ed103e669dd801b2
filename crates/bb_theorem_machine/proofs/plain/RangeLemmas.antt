-- What ops make of numbers of 64 bits is of 64 bits.
use Rattle.std.proofs.Common.{◌≡◌, ℕ, ℤ, pos, negsuc, ◌-◌, ◌<◌, ◌^◌, ◌&&◌, min, Bool, true, false, cond, FitsSigned, refl, arith}
use Rattle.std.specs.Prelude.{int_lt, int_le, nat_le}
use Rattle.std.specs.Int.{w64, saturate_signed, int_min, int_max}
use Rattle.std.proofs.lemmas.Bool.{and_parts, lt-ltb}
use Rattle.std.proofs.lemmas.Bool.Decides.{nat_tests}
use Rattle.std.proofs.lemmas.Int.{ints, quot_fits}
use Rattle.std.proofs.lemmas.Nat.{mod_below}
use Rattle.bb_schema_classes.specs.Numbers.{is_i64}
use Rattle.bb_schema_classes.proofs.Laws.{fits_i64, i64_fits}
use Rattle.bb_code.specs.declared.op.Bound.{Bound}
use Rattle.bb_code.specs.declared.op.Bound.TheVariants.{Low, High}
use Rattle.bb_code.specs.declared.op.Calculation.{Calculation}
use Rattle.bb_code.specs.declared.op.Calculation.TheVariants.{Add, Sub, Mul, Min, Max}
use Rattle.bb_code.specs.Code.{IsDivisor}
use Rattle.bb_code.specs.declared.op.Division.{Division}
use Rattle.bb_code.specs.declared.op.Division.TheVariants.{DivBy, ModBy}
use Rattle.bb_verify.specs.declared.checked.TheConstants.{FOUND_LIMIT}
use Rattle.bb_machine.specs.Arithmetic.{calculated, divided, bound_of}

-- ---- of two numbers

nearest : (n : ℕ) → min n (2 ^ 63 - 1) < 2 ^ 63
nearest n = omega arith

saturated : (z : ℤ) → FitsSigned w64 (saturate_signed w64 z)
saturated (pos n) = record { sfits = nearest n }
saturated (negsuc n) = record { sfits = nearest n }

one_of : (P : ℤ → Type 0) (b : Bool) (x y : ℤ) → P x → P y → P (cond b x y)
one_of P true x y one other = one
one_of P false x y one other = other

calculated_fits : (c : Calculation) (a b : ℤ) → FitsSigned w64 a → FitsSigned w64 b → FitsSigned w64 (calculated c a b)
calculated_fits Add a b one other = saturated _
calculated_fits Sub a b one other = saturated _
calculated_fits Mul a b one other = saturated _
calculated_fits Min a b one other = one_of (FitsSigned w64) (int_lt b a) b a other one
calculated_fits Max a b one other = one_of (FitsSigned w64) (int_lt b a) a b one other

pub calculated_i64 : (c : Calculation) (a b : ℤ) → is_i64 a ≡ true → is_i64 b ≡ true → is_i64 (calculated c a b) ≡ true
calculated_i64 c a b one other = fits_i64 (calculated c a b) (calculated_fits c a b (i64_fits a one) (i64_fits b other))

-- ---- by a divisor

below_rest : (n r : ℕ) → n < 2 ^ 63 → n - 1 - r < 2 ^ 63
below_rest n r lt = omega (arith, lt)

divided_fits : (d : Division) (a n : ℤ) → IsDivisor n → FitsSigned w64 a → FitsSigned w64 (divided d a n)
divided_fits d a (negsuc n) divisor fits = absurd (omega (arith, ints, divisor.positive))
divided_fits DivBy (pos a) (pos n) divisor fits = quot_fits w64 (pos a) (pos n) fits (omega (arith, ints, divisor.positive))
divided_fits DivBy (negsuc a) (pos n) divisor fits =
    let less = quot_fits w64 (pos a) (pos n) (record { sfits = fits.sfits }) (omega (arith, ints, divisor.positive)) in
    record { sfits = less.sfits }
divided_fits ModBy (pos a) (pos n) divisor fits =
    let less = mod_below a n (omega (arith, ints, divisor.positive)) in
    record { sfits = omega (arith, less, divisor.fits.sfits) }
divided_fits ModBy (negsuc a) (pos n) divisor fits = record { sfits = below_rest n _ divisor.fits.sfits }

pub divided_i64 : (d : Division) (a n : ℤ) → IsDivisor n → is_i64 a ≡ true → is_i64 (divided d a n) ≡ true
divided_i64 d a n divisor is = fits_i64 (divided d a n) (divided_fits d a n divisor (i64_fits a is))

-- ---- intervals

abbrev IsInterval : ℤ → ℤ → Type 0
IsInterval low high = (is_i64 low && is_i64 high && int_le low high) ≡ true

three : (a b c : Bool) → a ≡ true → b ≡ true → c ≡ true → (a && b && c) ≡ true
three a b c p q r = rw (p, q, r) refl

pub ordered_i64 : (a b : ℤ) → is_i64 a ≡ true → is_i64 b ≡ true → int_le (int_min a b) (int_max a b) ≡ true → IsInterval (int_min a b) (int_max a b)
ordered_i64 a b one other order =
    three (is_i64 (int_min a b)) (is_i64 (int_max a b)) (int_le (int_min a b) (int_max a b))
    (calculated_i64 Min a b one other) (calculated_i64 Max a b one other) order

pub bound_i64 : (e : Bound) (low high : ℤ) → IsInterval low high → is_i64 (bound_of e (low, high)) ≡ true
bound_i64 Low low high is = (and_parts (is_i64 low) (is_i64 high) (and_parts (is_i64 low && is_i64 high) (int_le low high) is).0).0
bound_i64 High low high is = (and_parts (is_i64 low) (is_i64 high) (and_parts (is_i64 low && is_i64 high) (int_le low high) is).0).1

-- ---- the size of a sequence

size_below : (n : ℕ) → nat_le n FOUND_LIMIT ≡ true → n < 2 ^ 63
size_below n few = grind (arith, nat_tests)

pub found_i64 : (n : ℕ) → nat_le n FOUND_LIMIT ≡ true → is_i64 (pos n) ≡ true
found_i64 n few = lt-ltb n (2 ^ 63) (size_below n few)
