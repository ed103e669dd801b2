-- The numbers that the typed getters of clap read.
use Rattle.std.proofs.Common.{◌≡◌, ◌∙◌, ℕ, ℤ, Bool, true, false, Option, Some, None, Result, refl, sym, ap, cond, arith, pos, negsuc}
use Rattle.std.specs.Prelude.{option_and_then, unwrap_or, FitsSigned, ◌≤ℤ◌}
use Rattle.std.specs.Int.{w64}
use Rattle.std.specs.Str.Parse.{ExplainsSignedError, ExplainsUnsignedError, HasSignedDigitsIfOk, HasUnsignedDigitsIfOk, ParsesSigned, ParsesUnsigned, digits_value, signed_digits_value, without_leading_plus}
use Rattle.std.specs.declared.num.ParseIntError.{ParseIntError}
use Rattle.std.proofs.lemmas.Int.{ints}
use Rattle.clap.specs.Matches.{ReadsOne}
use Rattle.clap.specs.Values.{IsSignedIn, IsUnsignedIn}
use Rattle.clap.specs.ValueTests.{is_signed_in, is_unsigned_in}
use Rattle.clap.specs.Walk.{Text}
use Rattle.clap.specs.declared.builder.value_parser.ValueParser.TheVariants as vp
use Rattle.clap.proofs.ValueTestLemmas.{Accepts-accepts, accepts-Accepts}
use Rattle.bb_main_options.specs.declared.choice.TheConstants.{FLOOR}
use Rattle.bb_main_options.specs.CommandLine.{floor_of, least_floor, limit_of, most_floor, most_limit}

-- a text that passes, or does not
limit_passes : (t : Text) → IsUnsignedIn 0 most_limit t → limit_of t ≡ Some (digits_value 10 (without_leading_plus t))
limit_passes t passes = ap (λ b. cond b (Some (digits_value 10 (without_leading_plus t))) None) (Accepts-accepts false (vp.Unsigned 0 most_limit) t passes)

floor_passes : (t : Text) → IsSignedIn least_floor most_floor t → floor_of t ≡ Some (signed_digits_value 10 t)
floor_passes t passes = ap (λ b. cond b (Some (signed_digits_value 10 t)) None) (Accepts-accepts false (vp.Signed least_floor most_floor) t passes)

-- what has 64 bits lies between the least and the most
fits_above : (z : ℤ) → FitsSigned w64 z → least_floor ≤ℤ z
fits_above (pos n) h = omega (arith, ints)
fits_above (negsuc n) h = omega (arith, ints, h.sfits)

fits_below : (z : ℤ) → FitsSigned w64 z → z ≤ℤ most_floor
fits_below (pos n) h = omega (arith, ints, h.sfits)
fits_below (negsuc n) h = omega (arith, ints)

-- what `from_str` gives of a text
abbrev pub u32_gives : Text → Result ℕ ParseIntError → Type 0
u32_gives t r = ParsesUnsigned 32 10 t r × ExplainsUnsignedError 10 t r × HasUnsignedDigitsIfOk t r

abbrev pub i64_gives : Text → Result ℤ ParseIntError → Type 0
i64_gives t r = ParsesSigned w64 10 t r × ExplainsSignedError 10 t r × HasSignedDigitsIfOk t r

limit_of_text : (t : Text) (read : Option ℕ) → ReadsOne u32_gives t read → read ≡ limit_of t
limit_of_text t (Some v) h =
    ap Some h.0.1 ∙ sym (limit_passes t (h.0.0.0, omega (arith, h.0.0.1), omega arith, omega (arith, h.0.0.1)))
limit_of_text t None h = go (is_unsigned_in 0 most_limit t) refl
  where
    go : (b : Bool) → is_unsigned_in 0 most_limit t ≡ b → None ≡ limit_of t
    go true e =
        let passes = accepts-Accepts false (vp.Unsigned 0 most_limit) t e in
        absurd (h.1.0 (passes.0, omega (arith, passes.3)))
    go false e = rw e refl

pub limit_read : (text : Option Text) (read : Option ℕ) → (text ≡ None → read ≡ None)
    → ((t : Text) → text ≡ Some t → ReadsOne u32_gives t read) → read ≡ option_and_then limit_of text
limit_read None read none some = none refl
limit_read (Some t) read none some = limit_of_text t read (some t refl)

floor_of_text : (t : Text) (read : Option ℤ) → ReadsOne i64_gives t read → read ≡ floor_of t
floor_of_text t (Some v) h =
    ap Some h.0.1 ∙ sym (floor_passes t (h.0.0.0, h.0.0.1, fits_above _ h.0.0.1, fits_below _ h.0.0.1))
floor_of_text t None h = go (is_signed_in least_floor most_floor t) refl
  where
    go : (b : Bool) → is_signed_in least_floor most_floor t ≡ b → None ≡ floor_of t
    go true e =
        let passes = accepts-Accepts false (vp.Signed least_floor most_floor) t e in
        absurd (h.1.0 (passes.0, passes.1))
    go false e = rw e refl

pub floor_read : (text : Option Text) (read : Option ℤ) → (text ≡ None → read ≡ None)
    → ((t : Text) → text ≡ Some t → ReadsOne i64_gives t read) → read ≡ option_and_then floor_of text
floor_read None read none some = none refl
floor_read (Some t) read none some = floor_of_text t read (some t refl)

-- a floor has 64 bits
pub floor_fits : (text : Option Text) → FitsSigned w64 (unwrap_or (option_and_then floor_of text) FLOOR)
floor_fits None = record { sfits = omega arith }
floor_fits (Some t) = go (is_signed_in least_floor most_floor t) refl
  where
    go : (b : Bool) → is_signed_in least_floor most_floor t ≡ b → FitsSigned w64 (unwrap_or (floor_of t) FLOOR)
    go true e =
        let passes = accepts-Accepts false (vp.Signed least_floor most_floor) t e in
        rw e passes.1
    go false e = rw e (record { sfits = omega arith })
