-- What an opening bracket gives, by how many more may be opened.
use Rattle.std.proofs.Common.{◌≡◌, ℕ, zero, suc, ◌-◌, true, List, Ok, Err, refl, ap, ◌∙◌, arith}
use Rattle.bb_basis.specs.Results.{◌>>=◌, ok_or}
use Rattle.bb_lang_tree.specs.declared.fault.LangFault.TheVariants.{Token, Nesting}
use Rattle.bb_lang_tree.specs.State.{State, next, at}
use Rattle.bb_lang.specs.Expressions.{opened, inside, inner_of}
use Rattle.bb_lang.proofs.TestLemmas.{yes}

at_bracket : (bracket : List ℕ) (nesting : ℕ) (s : State) → at bracket s ≡ true → opened bracket (inside nesting) s ≡ (ok_or (inside nesting) (Nesting s.place) >>= λ inner. next s >>= λ t. Ok (inner, t))
unfolding opened
at_bracket bracket nesting s here = ap (λ r. r >>= λ inner. next s >>= λ t. Ok (inner, t)) (yes (at bracket s) (ok_or (inside nesting) (Nesting s.place)) (Err (Token s.place)) here)

pub opens_none : (bracket : List ℕ) (nesting : ℕ) (s : State) → at bracket s ≡ true → nesting ≡ 0 → opened bracket (inside nesting) s ≡ Err (Nesting s.place)
unfolding inside
opens_none bracket zero s here none = at_bracket bracket 0 s here
opens_none bracket (suc n) s here none = absurd (omega arith)

pub opens_one : (bracket : List ℕ) (nesting : ℕ) (s : State) → at bracket s ≡ true → (nesting ≡ 0 → ⊥) → opened bracket (inside nesting) s ≡ (next s >>= λ t. Ok (inner_of (nesting - 1), t))
unfolding inside
opens_one bracket zero s here some = absurd (some refl)
opens_one bracket (suc n) s here some =
    let less : n ≡ suc n - 1 = omega arith in
    at_bracket bracket (suc n) s here ∙ ap (λ m. next s >>= λ t. Ok (inner_of m, t)) less
