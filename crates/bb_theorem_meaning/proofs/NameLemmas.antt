-- The locals hold the values of the names.
use Rattle.std.proofs.Common.{◌≡◌, ℕ, Bool, true, false, cond, List, [], ◌∷◌, Option, Some, Ok, refl, subst, sym, ap, ◌∙◌}
use Rattle.std.specs.Prelude.{slice_get, find, option_map}
use Rattle.std.specs.Str.{bytes_eq}
use Rattle.bb_basis.specs.Results.{ok_or}
use Rattle.bb_code.specs.declared.frame.Kind.{Kind}
use Rattle.bb_compile_scope.specs.LocalKinds.{is_free, kind_at}
use Rattle.bb_compile_scope.specs.declared.scope.NamedLocal.{NamedLocal}
use Rattle.bb_machine.specs.declared.value.Value.{Value}
use Rattle.bb_theorem_meaning.specs.Meaning.{Meaning, Name, meaningless, named}

-- each name in scope has a local that holds its value
abbrev pub AreHeld : List (Option Value) → List NamedLocal → List Name → Type 0
AreHeld locals [] [] = Unit {0}
AreHeld locals (n ∷ ns) (m ∷ ms) = (n.name ≡ m.name) × (slice_get locals n.local ≡ Some (Some m.value)) × AreHeld locals ns ms
AreHeld locals _ _ = ⊥

-- the local of a name, among those in scope
abbrev pub local_among : List ℕ → List NamedLocal → Option ℕ
local_among name ns = option_map (λ n. n.local) (find (λ n. bytes_eq n.name name) ns)

-- what the locals of the names hold is known
abbrev pub AreTaken : List Kind → List NamedLocal → Type 0
AreTaken kinds [] = Unit {0}
AreTaken kinds (n ∷ ns) = (is_free (kind_at kinds n.local) ≡ false) × AreTaken kinds ns

module _ (locals : List (Option Value)) (name : List ℕ) (local : ℕ) where
  abbrev Found : Option Name → Type 0
  Found o = (v : Value) × ((let r : Meaning Value = ok_or (option_map (λ m. m.value) o) meaningless in r) ≡ Ok v) × (slice_get locals local ≡ Some (Some v))

  found_by : (b : Bool) (n : NamedLocal) (m : Name) (o : Option NamedLocal) (p : Option Name) → slice_get locals n.local ≡ Some (Some m.value)
      → (option_map (λ n. n.local) o ≡ Some local → Found p) → option_map (λ n. n.local) (cond b (Some n) o) ≡ Some local → Found (cond b (Some m) p)
  found_by true n m o p held more h = let e : n.local ≡ local = cc in (m.value, refl, ap (slice_get locals) (sym e) ∙ held)
  found_by false n m o p held more h = more h

  pub value_named : (ns : List NamedLocal) (ms : List Name) → AreHeld locals ns ms → local_among name ns ≡ Some local
      → (v : Value) × (named name ms ≡ Ok v) × (slice_get locals local ≡ Some (Some v))
  value_named [] ms held h = absurd cc
  value_named (n ∷ ns) [] held h = absurd held
  value_named (n ∷ ns) (m ∷ ms) held h =
      subst (λ b. Found (cond b (Some m) (find (λ m. bytes_eq m.name name) ms))) (ap (λ t. bytes_eq t name) held.0)
      (found_by (bytes_eq n.name name) n m (find (λ n. bytes_eq n.name name) ns) (find (λ m. bytes_eq m.name name) ms) held.1 (value_named ns ms held.2) h)

module _ (kinds : List Kind) (name : List ℕ) (local : ℕ) where
  taken_by : (b : Bool) (n : NamedLocal) (o : Option NamedLocal) → is_free (kind_at kinds n.local) ≡ false
      → (option_map (λ n. n.local) o ≡ Some local → is_free (kind_at kinds local) ≡ false) → option_map (λ n. n.local) (cond b (Some n) o) ≡ Some local → is_free (kind_at kinds local) ≡ false
  taken_by true n o taken more h = let e : n.local ≡ local = cc in ap (λ l. is_free (kind_at kinds l)) (sym e) ∙ taken
  taken_by false n o taken more h = more h

  pub name_taken : (ns : List NamedLocal) → AreTaken kinds ns → local_among name ns ≡ Some local → is_free (kind_at kinds local) ≡ false
  name_taken [] taken h = absurd cc
  name_taken (n ∷ ns) taken h = taken_by (bytes_eq n.name name) n (find (λ n. bytes_eq n.name name) ns) taken.0 (name_taken ns taken.1) h
