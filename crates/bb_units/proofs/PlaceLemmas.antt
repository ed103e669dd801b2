-- The place of the first entry whose key passes a test, and what stands there.
use Rattle.std.proofs.Common.{◌≡◌, ℕ, suc, ◌+◌, ◌<◌, Bool, true, false, cond, List, [], ◌∷◌, length, get_or, set, Some, None, refl, sym, ap, ◌∙◌, arith}
use Rattle.std.specs.List.{position, position_from}
use Rattle.std.specs.Map.{lookup, set_value}
use Rattle.std.proofs.lemmas.Iterator.Adapters.{position_from-zero}

-- at this place of the list is the value of the first entry that passes
pub record IsPlace {K X : Type 0} (test : K → Bool) (es : List (K × X)) (d : K × X) (i : ℕ) : Type 0 where
  pub within : i < length es
  pub found : lookup test es ≡ Some (get_or es i d).1
  pub writes : (w : X) → set_value test es w ≡ set es i ((get_or es i d).0, w)

module _ {K X : Type 0} (test : K → Bool) (d : K × X) where
  abbrev passes : K × X → Bool
  passes e = test e.0

  at_head : (e : K × X) (es : List (K × X)) → test e.0 ≡ true → IsPlace test (e ∷ es) d 0
  at_head e es h = record {
    within = omega arith;
    found = rw h refl;
    writes = λ w. rw h refl;
  }

  further : (e : K × X) (es : List (K × X)) (k : ℕ) → test e.0 ≡ false → IsPlace test es d k → IsPlace test (e ∷ es) d (suc k)
  further e es k h there = record {
    within = omega (arith, there.within);
    found = rw h there.found;
    writes = λ w. rw h (ap (λ fs. e ∷ fs) (there.writes w));
  }

  further_from : (n i : ℕ) (e : K × X) (es : List (K × X)) (b : Bool) → test e.0 ≡ b → (position_from passes (n + 1) es ≡ Some i → (k : ℕ) × (i ≡ n + 1 + k) × IsPlace test es d k)
      → cond b (Some n) (position_from passes (n + 1) es) ≡ Some i → (k : ℕ) × (i ≡ n + k) × IsPlace test (e ∷ es) d k
  further_from n i e es true h later is = (0, let same : n ≡ i = cc in omega (arith, same), at_head e es h)
  further_from n i e es false h later is = let p = later is in (suc p.0, omega (arith, p.1), further e es p.0 h p.2)

  found_from : (n i : ℕ) (es : List (K × X)) → position_from passes n es ≡ Some i → (k : ℕ) × (i ≡ n + k) × IsPlace test es d k
  found_from n i [] is = absurd cc
  found_from n i (e ∷ es) is = further_from n i e es (test e.0) refl (λ h. found_from (n + 1) i es h) is

  pub is_place : (i : ℕ) (es : List (K × X)) → position passes es ≡ Some i → IsPlace test es d i
  is_place i es is =
      let p = found_from 0 i es (sym (position_from-zero passes es) ∙ is) in
      let same : i ≡ p.0 = omega (arith, p.1) in
      rw same p.2

module _ {K X : Type 0} (test : K → Bool) where
  abbrev IsNowhere : List (K × X) → Type 0
  IsNowhere es = (lookup test es ≡ None) × ((w : X) → set_value test es w ≡ es)

  none_further : (n : ℕ) (e : K × X) (es : List (K × X)) (b : Bool) → test e.0 ≡ b → (position_from (λ e. test e.0) (n + 1) es ≡ None → IsNowhere es) → cond b (Some n) (position_from (λ e. test e.0) (n + 1) es) ≡ None → IsNowhere (e ∷ es)
  none_further n e es true h later is = absurd cc
  none_further n e es false h later is = let p = later is in (rw h p.0, λ w. rw h (ap (λ fs. e ∷ fs) (p.1 w)))

  none_from : (n : ℕ) (es : List (K × X)) → position_from (λ e. test e.0) n es ≡ None → IsNowhere es
  none_from n [] is = (refl, λ w. refl)
  none_from n (e ∷ es) is = none_further n e es (test e.0) refl (λ h. none_from (n + 1) es h) is

  pub is_nowhere : (es : List (K × X)) → position (λ e. test e.0) es ≡ None → (lookup test es ≡ None) × ((w : X) → set_value test es w ≡ es)
  is_nowhere es is = none_from 0 es (sym (position_from-zero (λ e. test e.0) es) ∙ is)
