-- A number fits 64 bits exactly where the test says so.
use Rattle.std.proofs.Common.{◌≡◌, ℤ, pos, negsuc, ◌^◌, true, FitsSigned}
use Rattle.std.specs.Int.{w64}
use Rattle.std.proofs.lemmas.Bool.{lt-ltb, ltb-true}
use Rattle.bb_schema_form.specs.Numbers.{is_i64}

pub fits_i64 : (z : ℤ) → FitsSigned w64 z → is_i64 z ≡ true
fits_i64 (pos n) fits = lt-ltb n (2 ^ 63) fits.sfits
fits_i64 (negsuc n) fits = lt-ltb n (2 ^ 63) fits.sfits

pub i64_fits : (z : ℤ) → is_i64 z ≡ true → FitsSigned w64 z
i64_fits (pos n) is = record { sfits = ltb-true n (2 ^ 63) is }
i64_fits (negsuc n) is = record { sfits = ltb-true n (2 ^ 63) is }
