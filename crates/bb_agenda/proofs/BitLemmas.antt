-- What setting a bit does to a word, and to a set of numbers.
use Rattle.std.proofs.Common.{◌≡◌, ◌==◌, ◌<◌, ℕ, true, cond, ◌*◌, ◌%◌, ◌^◌, max, sym, ap, ◌∙◌, arith, inl, inr, ◌⊎◌, bit_or, eq-eqb, ne_eqb}
use Rattle.std.specs.Int.{bit_at}
use Rattle.std.proofs.lemmas.Bool.{cases_eq}
use Rattle.std.proofs.lemmas.Nat.{one_shl}
use Rattle.std.proofs.lemmas.Nat.Bits.{bit_at_or, bit_at-lt, bit_at-pow_same, bit_at-pow_other}
use Rattle.bb_agenda.specs.proving.Numbers.{has_bit}

pub has_bit_or : (word bit i : ℕ) → bit < 64 → has_bit (bit_or word ((1 * 2 ^ bit) % 2 ^ 64)) i ≡ cond (i == bit) true (has_bit word i)
has_bit_or word bit i lt = ap (λ m. has_bit (bit_or word m) i) (one_shl bit 64 lt) ∙ ap (λ b. b == 1) (bit_at_or word (2 ^ bit) i) ∙ by (cases_eq i bit)
  where
    by : (i ≡ bit) ⊎ (i ≡ bit → ⊥) → (max (bit_at word i) (bit_at (2 ^ bit) i) == 1) ≡ cond (i == bit) true (has_bit word i)
    by (inl same) =
        let set : bit_at (2 ^ bit) i ≡ 1 = ap (bit_at (2 ^ bit)) same ∙ bit_at-pow_same bit in
        eq-eqb (max (bit_at word i) (bit_at (2 ^ bit) i)) 1 (omega (arith, set, bit_at-lt word i)) ∙ sym (ap (λ b. cond b true (has_bit word i)) (eq-eqb i bit same))
    by (inr apart) =
        ap (λ m. m == 1) (let clear = bit_at-pow_other bit i apart in omega (arith, clear)) ∙ sym (ap (λ b. cond b true (has_bit word i)) (ne_eqb i bit apart))
