-- Names and locals, where one is declared or gets another value.
use Rattle.std.proofs.Common.{◌≡◌, ℕ, zero, suc, ◌<◌, Bool, true, false, cond, List, [], ◌∷◌, ◌++◌, length, map, Option, Some, refl, subst, sym, ap, ◌∙◌}
use Rattle.std.specs.Prelude.{slice_get, set, find, option_map, unwrap_or}
use Rattle.std.specs.Str.{bytes_eq}
use Rattle.bb_basis.proofs.ListLemmas.{slice_get-set}
use Rattle.bb_code.specs.declared.frame.Kind.{Kind}
use Rattle.bb_code.specs.declared.frame.Kind.TheVariants as kinds
use Rattle.bb_schema.specs.Ownership.{strikes}
use Rattle.bb_verify_effect.specs.Kinds.{struck}
use Rattle.bb_schema.specs.Schema.{Schema}
use Rattle.bb_compile_scope.specs.LocalKinds.{is_free, kind_at}
use Rattle.bb_compile_scope.specs.declared.scope.NamedLocal.{NamedLocal}
use Rattle.bb_machine.specs.declared.value.Value.{Value}
use Rattle.bb_theorem_accepted.proofs.Laws.{Apart, Sole}
use Rattle.bb_theorem_meaning.specs.Meaning.{Name, with_name, assigned}
use Rattle.bb_theorem_meaning.proofs.NameLemmas.{AreHeld, AreTaken, local_among}

-- ---- lists in which one element is set

pub set_apart : {A : Type 0} (xs : List A) (i j : ℕ) (x : A) → (i ≡ j → ⊥) → slice_get (set xs i x) j ≡ slice_get xs j
set_apart [] i j x apart = refl
set_apart (y ∷ ys) zero zero x apart = absurd (apart refl)
set_apart (y ∷ ys) zero (suc j) x apart = refl
set_apart (y ∷ ys) (suc i) zero x apart = refl
set_apart (y ∷ ys) (suc i) (suc j) x apart = set_apart ys i j x (λ e. apart (ap suc e))

-- ---- what is known of the locals of names

-- no name has this local
abbrev pub AreOthers : ℕ → List NamedLocal → Type 0
AreOthers local [] = Unit {0}
AreOthers local (n ∷ ns) = (n.local ≡ local → ⊥) × AreOthers local ns

-- each name has a local of its own
abbrev pub AreApart : List NamedLocal → Type 0
AreApart [] = Unit {0}
AreApart (n ∷ ns) = AreOthers n.local ns × AreApart ns

-- what the verifier's part of the proof calls so
pub sole_of : (ks : List Kind) (ns : List NamedLocal) → AreTaken ks ns → AreApart ns → Sole ks ns
sole_of ks [] taken apart = tt
sole_of ks (n ∷ ns) taken apart = (taken.0, others_apart n.local ns apart.0, sole_of ks ns taken.1 apart.1)
  where
    others_apart : (local : ℕ) (ns : List NamedLocal) → AreOthers local ns → Apart local ns
    others_apart local [] others = tt
    others_apart local (n ∷ ns) others = (others.0, others_apart local ns others.1)

pub known_set : (ks : List Kind) (i j : ℕ) (k : Kind) → is_free k ≡ false → is_free (kind_at ks j) ≡ false → is_free (kind_at (set ks i k) j) ≡ false
known_set [] i j k known was = was
known_set (l ∷ ls) zero zero k known was = known
known_set (l ∷ ls) zero (suc j) k known was = was
known_set (l ∷ ls) (suc i) zero k known was = was
known_set (l ∷ ls) (suc i) (suc j) k known was = known_set ls i j k known was

pub known_new : (ks : List Kind) (i : ℕ) (k : Kind) → is_free k ≡ false → i < length ks → is_free (kind_at (set ks i k) i) ≡ false
known_new ks i k known lt = ap (λ o. is_free (unwrap_or o kinds.Any)) (slice_get-set ks i k lt) ∙ known

pub all_known : (ns : List NamedLocal) (ks : List Kind) (i : ℕ) (k : Kind) → is_free k ≡ false → AreTaken ks ns → AreTaken (set ks i k) ns
all_known [] ks i k known taken = tt
all_known (n ∷ ns) ks i k known taken = (known_set ks i n.local k known taken.0, all_known ns ks i k known taken.1)

pub taken_more : (ns : List NamedLocal) (ks : List Kind) (n : NamedLocal) → AreTaken ks ns → is_free (kind_at ks n.local) ≡ false → AreTaken ks (ns ++ n ∷ [])
taken_more [] ks n taken known = (known, tt)
taken_more (m ∷ ms) ks n taken known = (taken.0, taken_more ms ks n taken.1 known)

-- a free local is that of no name
pub free_other : (ns : List NamedLocal) (ks : List Kind) (i : ℕ) → AreTaken ks ns → is_free (kind_at ks i) ≡ true → AreOthers i ns
free_other [] ks i taken free = tt
free_other (n ∷ ns) ks i taken free = ((λ e. let was : is_free (kind_at ks i) ≡ false = ap (λ l. is_free (kind_at ks l)) (sym e) ∙ taken.0 in absurd (let no : true ≡ false = sym free ∙ was in cc)), free_other ns ks i taken.1 free)

others_more : (ns : List NamedLocal) (i : ℕ) (n : NamedLocal) → AreOthers i ns → (n.local ≡ i → ⊥) → AreOthers i (ns ++ n ∷ [])
others_more [] i n others apart = (apart, tt)
others_more (m ∷ ms) i n others apart = (others.0, others_more ms i n others.1 apart)

pub apart_more : (ns : List NamedLocal) (n : NamedLocal) → AreApart ns → AreOthers n.local ns → AreApart (ns ++ n ∷ [])
apart_more [] n apart others = (tt, tt)
apart_more (m ∷ ms) n apart others = (others_more ms m.local n apart.0 (λ e. others.0 (sym e)), apart_more ms n apart.1 others.1)

-- once units may be deleted
struck_known : (s : Schema) (class : ℕ) (k : Kind) → is_free k ≡ false → is_free (struck s class k) ≡ false
unfolding struck
struck_known s class (kinds.Ref c) known = by_strike (strikes s class c)
  where
    by_strike : (b : Bool) → is_free (cond b (kinds.Old c) (kinds.Ref c)) ≡ false
    by_strike true = refl
    by_strike false = refl
struck_known s class kinds.Any known = known
struck_known s class kinds.Int known = known
struck_known s class kinds.Text known = known
struck_known s class kinds.Bool known = known
struck_known s class (kinds.Label set) known = known
struck_known s class kinds.Interval known = known
struck_known s class (kinds.Old c) known = known
struck_known s class (kinds.Seq c) known = known

pub struck_at : (s : Schema) (class : ℕ) (ks : List Kind) (i : ℕ) → is_free (kind_at ks i) ≡ false → is_free (kind_at (map (struck s class) ks) i) ≡ false
struck_at s class [] i known = known
struck_at s class (k ∷ ks) zero known = struck_known s class k known
struck_at s class (k ∷ ks) (suc i) known = struck_at s class ks i known

pub all_struck : (s : Schema) (class : ℕ) (ns : List NamedLocal) (ks : List Kind) → AreTaken ks ns → AreTaken (map (struck s class) ks) ns
all_struck s class [] ks taken = tt
all_struck s class (n ∷ ns) ks taken = (struck_at s class ks n.local taken.0, all_struck s class ns ks taken.1)

-- ---- what the locals hold

-- a local that is set leaves the names that have others
pub held_apart : (locals : List (Option Value)) (i : ℕ) (x : Option Value) (ns : List NamedLocal) (ms : List Name) → AreOthers i ns → AreHeld locals ns ms → AreHeld (set locals i x) ns ms
held_apart locals i x [] [] others held = tt
held_apart locals i x [] (m ∷ ms) others held = held
held_apart locals i x (n ∷ ns) [] others held = held
held_apart locals i x (n ∷ ns) (m ∷ ms) others held = (held.0, set_apart locals i n.local x (λ e. others.0 (sym e)) ∙ held.1, held_apart locals i x ns ms others.1 held.2)

held_more : (locals : List (Option Value)) (ns : List NamedLocal) (ms : List Name) (n : NamedLocal) (m : Name) → AreHeld locals ns ms → n.name ≡ m.name → slice_get locals n.local ≡ Some (Some m.value) → AreHeld locals (ns ++ n ∷ []) (ms ++ m ∷ [])
held_more locals [] [] n m held name value = (name, value, tt)
held_more locals [] (k ∷ ks) n m held name value = absurd held
held_more locals (k ∷ ks) [] n m held name value = absurd held
held_more locals (k ∷ ks) (j ∷ js) n m held name value = (held.0, held.1, held_more locals ks js n m held.2 name value)

-- a name is declared
pub held_declared : (locals : List (Option Value)) (ns : List NamedLocal) (ms : List Name) (name : List ℕ) (local : ℕ) (v : Value) → AreOthers local ns → AreHeld locals ns ms → local < length locals
    → AreHeld (set locals local (Some v)) (ns ++ record { name = name; local = local } ∷ []) (with_name name v ms)
held_declared locals ns ms name local v others held lt =
    held_more (set locals local (Some v)) ns ms (record { name = name; local = local }) (record { name = name; value = v }) (held_apart locals local (Some v) ns ms others held) refl (slice_get-set locals local (Some v) lt)

-- the local of a name is another than those of other names
found_other : (i : ℕ) (name : List ℕ) (local : ℕ) (ns : List NamedLocal) → AreOthers i ns → local_among name ns ≡ Some local → local ≡ i → ⊥
found_other i name local [] others h e = absurd (let no = h in cc)
found_other i name local (n ∷ ns) others h e = by_name (λ is. found_other i name local ns others.1 is e) (bytes_eq n.name name) h
  where
    by_name : (local_among name ns ≡ Some local → ⊥) → (b : Bool) → option_map (λ n. n.local) (cond b (Some n) (find (λ n. bytes_eq n.name name) ns)) ≡ Some local → ⊥
    by_name more true h = let same : n.local ≡ local = cc in others.0 (same ∙ e)
    by_name more false h = more h

-- a name gets another value
pub held_assigned : (locals : List (Option Value)) (ns : List NamedLocal) (ms : List Name) (name : List ℕ) (local : ℕ) (v : Value) → AreApart ns → AreHeld locals ns ms → local_among name ns ≡ Some local → local < length locals
    → AreHeld (set locals local (Some v)) ns (assigned name v ms)
held_assigned locals [] ms name local v apart held h lt = absurd cc
held_assigned locals (n ∷ ns) [] name local v apart held h lt = absurd held
held_assigned locals (n ∷ ns) (m ∷ ms) name local v apart held h lt =
    subst (λ b. AreHeld (set locals local (Some v)) (n ∷ ns) (cond b (record { name = m.name; value = v } ∷ ms) (m ∷ assigned name v ms))) (ap (λ t. bytes_eq t name) held.0)
    (by_name (λ is. held_assigned locals ns ms name local v apart.1 held.2 is lt) (bytes_eq n.name name) h)
  where
    by_name : (local_among name ns ≡ Some local → AreHeld (set locals local (Some v)) ns (assigned name v ms)) → (b : Bool) → option_map (λ n. n.local) (cond b (Some n) (find (λ n. bytes_eq n.name name) ns)) ≡ Some local → AreHeld (set locals local (Some v)) (n ∷ ns) (cond b (record { name = m.name; value = v } ∷ ms) (m ∷ assigned name v ms))
    by_name more true h =
        let same : n.local ≡ local = cc in
        (held.0, ap (slice_get (set locals local (Some v))) same ∙ slice_get-set locals local (Some v) lt, subst (λ l. AreHeld (set locals l (Some v)) ns ms) same (held_apart locals n.local (Some v) ns ms apart.0 held.2))
    by_name more false h =
        (held.0, set_apart locals local n.local (Some v) (λ e. found_other n.local name local ns apart.0 h e) ∙ held.1, more h)
