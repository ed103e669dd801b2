-- An answer of the compiler against the faults of the judgement, one step after another.
use Rattle.std.proofs.Common.{◌≡◌, ◌⊎◌, inl, inr, List, [], ◌∷◌, ◌++◌, Option, Some, None, Result, Ok, Err, refl, subst, sym}
use Rattle.bb_basis.specs.Results.{◌>>=◌}
use Rattle.bb_compile_scope.specs.Place.{Place}
use Rattle.bb_compile_scope.specs.Faults.{lowest}
use Rattle.bb_compile_scope.specs.declared.fault.CompileFault.{CompileFault}
use Rattle.bb_compile_scope.specs.declared.fault.CompileFault.TheVariants.{At}
use Rattle.bb_compile_scope.specs.declared.fault.TextFlaw.{TextFlaw}
use Rattle.bb_compile_scope.specs.declared.fault.TextFlaw.TheVariants.{Limit}
use Rattle.bb_compile_buffer.specs.declared.buffer.Buffer.{Buffer}
use Rattle.bb_compile_buffer.specs.Buffers.{refused_at, settled}
use Rattle.bb_theorem_grammar.specs.judged.Flaws.{least, fault_if}
use Rattle.bb_theorem_grammar.specs.judged.Judgement.{IsFirst}
use Rattle.bb_theorem_grammar.proofs.judged_lemmas.scopes.HoldLemmas.{Holds}

-- what is made has no fault, and P holds of it; what is not is refused for the first fault, or as its code is too large
abbrev pub Agrees : {X : Type 0} → Place → List CompileFault → (P : X → Type 0) → Result X CompileFault → Type 0
Agrees place faults P (Ok x) = (faults ≡ []) × P x
Agrees place faults P (Err fault) = IsFirst fault faults ⊎ (fault ≡ At Limit place)

pub first_on : (fault : CompileFault) (xs ys : List CompileFault) → IsFirst fault xs → IsFirst fault (xs ++ ys)
first_on fault [] ys h = absurd h
first_on fault (x ∷ xs) ys h = h

either_on : (place : Place) (fault : CompileFault) (xs ys : List CompileFault) → IsFirst fault xs ⊎ (fault ≡ At Limit place) → IsFirst fault (xs ++ ys) ⊎ (fault ≡ At Limit place)
either_on place fault xs ys (inl h) = inl (first_on fault xs ys h)
either_on place fault xs ys (inr h) = inr h

pub agrees_then : {X Z : Type 0} (place : Place) (xs ys : List CompileFault) (P : X → Type 0) (Q : Z → Type 0) (r : Result X CompileFault) (f : X → Result Z CompileFault)
    → Agrees place xs P r → ((x : X) → P x → Agrees place ys Q (f x)) → Agrees place (xs ++ ys) Q (r >>= f)
agrees_then place xs ys P Q (Err fault) f h next = either_on place fault xs ys h
agrees_then place xs ys P Q (Ok x) f h next = subst (λ l. Agrees place (l ++ ys) Q (f x)) (sym h.0) (next x h.1)

-- the second finds nothing
pub agrees_last : {X Z : Type 0} (place : Place) (xs : List CompileFault) (P : X → Type 0) (Q : Z → Type 0) (r : Result X CompileFault) (f : X → Result Z CompileFault)
    → Agrees place xs P r → ((x : X) → P x → Agrees place [] Q (f x)) → Agrees place xs Q (r >>= f)
agrees_last place xs P Q (Err fault) f h next = h
agrees_last place xs P Q (Ok x) f h next = subst (λ l. Agrees place l Q (f x)) (sym h.0) (next x h.1)

-- the first notes what the second finds
pub holds_agrees : {X Z : Type 0} (place : Place) (ys : List CompileFault) (P : X → Type 0) (Q : Z → Type 0) (r : Result X CompileFault) (f : X → Result Z CompileFault)
    → Holds P place r → ((x : X) → P x → Agrees place ys Q (f x)) → Agrees place ys Q (r >>= f)
holds_agrees place ys P Q (Err fault) f h next = inr h
holds_agrees place ys P Q (Ok x) f h next = next x h

pub holds_clean : {X : Type 0} (place : Place) (P Q : X → Type 0) (r : Result X CompileFault) → ((x : X) → P x → Q x) → Holds P place r → Agrees place [] Q r
holds_clean place P Q (Err fault) f h = inr h
holds_clean place P Q (Ok x) f h = (refl, f x h)

pub agrees_map : {X : Type 0} (place : Place) (xs : List CompileFault) (P Q : X → Type 0) (r : Result X CompileFault) → ((x : X) → P x → Q x) → Agrees place xs P r → Agrees place xs Q r
agrees_map place xs P Q (Err fault) f h = h
agrees_map place xs P Q (Ok x) f h = (h.0, f x h.1)

-- a statement with a flaw is refused for it
pub settle : {X : Type 0} (place at : Place) (flaw : Option TextFlaw) (t : Buffer) (Q : X → Type 0) (next : Result X CompileFault) → t.flaw ≡ flaw → (flaw ≡ None → Agrees place [] Q next) → Agrees place (fault_if at flaw) Q (settled at t >>= λ right. next)
settle {X} place at flaw t Q next is clean = subst (λ o. Agrees place (fault_if at flaw) Q (refused_at at o >>= λ right. next)) (sym is) (by_flaw flaw clean)
  where
    by_flaw : (o : Option TextFlaw) → (o ≡ None → Agrees place [] Q next) → Agrees place (fault_if at o) Q (refused_at at o >>= λ right. next)
    by_flaw None rest = rest refl
    by_flaw (Some f) rest = inl refl

-- ---- where nothing is noted

pub least_some : (flaw : TextFlaw) (xs : List TextFlaw) → least (Some flaw) xs ≡ None → ⊥
unfolding least
least_some flaw [] h = absurd cc
least_some flaw (x ∷ xs) h = least_some (lowest (Some flaw) x) xs h

pub least_was : (seen : Option TextFlaw) (xs : List TextFlaw) → least seen xs ≡ None → seen ≡ None
least_was None xs h = refl
least_was (Some flaw) xs h = absurd (least_some flaw xs h)

pub least_one : (seen : Option TextFlaw) (flaw : TextFlaw) → least seen (flaw ∷ []) ≡ None → ⊥
unfolding least
least_one seen flaw h = absurd cc
