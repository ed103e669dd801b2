-- Going up from a class, where parents have lower numbers.
use Rattle.std.proofs.Common.{◌≡◌, ℕ, zero, suc, ◌<◌, ◌≤◌, ◌||◌, Bool, true, false, Option, Some, None, refl, sym, ap, subst, ◌∙◌, arith}
use Rattle.std.specs.Prelude.{◌==◌}
use Rattle.std.specs.Option.{option_map_or}
use Rattle.std.proofs.lemmas.Bool.{eqb-true}
use Rattle.std.proofs.lemmas.Bool.Decides.{Decides-eqb}
use Rattle.std.specs.Prelude.{IsTrue, ◌↔◌}
use Rattle.std.specs.Prelude.{List}
use Rattle.std.specs.List.{list_any, Any}
use Rattle.std.proofs.lemmas.List.Folds.{Any-from_list_any, list_any-from_Any}
use Rattle.bb_basis.proofs.BoolLemmas.{or_false}
use Rattle.bb_schema_classes.specs.declared.class.Class.{Class}
use Rattle.bb_schema_classes.specs.Inheritance.{ParentsAreEarlier, parent_of, Descends, itself, through_parent, climbs, descends_in}

-- one more step: at the class itself, or from its parent
above : (s : List Class) (d n m : ℕ) (parent : Option ℕ)
    → ((p : ℕ) → parent ≡ Some p → climbs n s p d ≡ climbs m s p d)
    → option_map_or (λ p. climbs n s p d) parent false ≡ option_map_or (λ p. climbs m s p d) parent false
above s d n m None same = refl
above s d n m (Some p) same = same p refl

none_above : (s : List Class) (d n : ℕ) (c : ℕ) → ParentsAreEarlier s → c ≡ 0 → (parent : Option ℕ)
    → parent_of s c ≡ parent → option_map_or (λ p. climbs n s p d) parent false ≡ false
none_above s d n c earlier is None h = refl
none_above s d n c earlier is (Some p) h = absurd (omega (arith, earlier c p h))

-- more steps than the number of the class change nothing
pub climbs_enough : (s : List Class) (d : ℕ) → ParentsAreEarlier s → (n m c : ℕ) → c ≤ n → c ≤ m
    → climbs n s c d ≡ climbs m s c d
unfolding climbs
climbs_enough s d earlier zero zero c a b = refl
climbs_enough s d earlier zero (suc m) c a b = sym (ap (λ r. (c == d) || r) (none_above s d m c earlier (omega arith) (parent_of s c) refl) ∙ or_false (c == d))
climbs_enough s d earlier (suc n) zero c a b = ap (λ r. (c == d) || r) (none_above s d n c earlier (omega arith) (parent_of s c) refl) ∙ or_false (c == d)
climbs_enough s d earlier (suc n) (suc m) c a b =
    ap (λ r. (c == d) || r) (above s d n m (parent_of s c) (λ p h. climbs_enough s d earlier n m p (omega (arith, earlier c p h)) (omega (arith, earlier c p h))))

-- a class that is not the one sought: what its parent says
pub descends_parent : (s : List Class) (c p d : ℕ) → ParentsAreEarlier s → parent_of s c ≡ Some p → (c == d) ≡ false
    → descends_in s c d ≡ descends_in s p d
unfolding climbs
descends_parent s c p d earlier h other =
    let lower = earlier c p h in
    let one : descends_in s c d ≡ climbs (suc c) s c d = climbs_enough s d earlier c (suc c) c (omega arith) (omega arith) in
    let two : climbs (suc c) s c d ≡ climbs c s p d = rw (other, h) refl in
    one ∙ two ∙ climbs_enough s d earlier c p p (omega arith) (omega arith)

pub descends_top : (s : List Class) (c d : ℕ) → ParentsAreEarlier s → parent_of s c ≡ None → (c == d) ≡ false
    → descends_in s c d ≡ false
unfolding climbs
descends_top s c d earlier h other = climbs_enough s d earlier c (suc c) c (omega arith) (omega arith) ∙ rw (other, h) refl

pub descends_itself : (s : List Class) (c d : ℕ) → ParentsAreEarlier s → (c == d) ≡ true → descends_in s c d ≡ true
unfolding climbs
descends_itself s c d earlier same = climbs_enough s d earlier c (suc c) c (omega arith) (omega arith) ∙ rw same refl

-- what the steps find descends
sound_at : (s : List Class) (d n c : ℕ) (b : Bool) → (c == d) ≡ b → (parent : Option ℕ) → parent_of s c ≡ parent
    → ((p : ℕ) → climbs n s p d ≡ true → Descends s p d)
    → (b || option_map_or (λ p. climbs n s p d) parent false) ≡ true → Descends s c d
sound_at s d n c true same parent h further found = subst (Descends s c) (eqb-true c d same) (itself c)
sound_at s d n c false same None h further found = absurd cc
sound_at s d n c false same (Some p) h further found = through_parent c p d h (further p found)

pub climbs_sound : (s : List Class) (d n c : ℕ) → climbs n s c d ≡ true → Descends s c d
unfolding climbs
climbs_sound s d zero c found = subst (Descends s c) (eqb-true c d found) (itself c)
climbs_sound s d (suc n) c found = sound_at s d n c (c == d) refl (parent_of s c) refl (climbs_sound s d n) found

-- what descends is found
found_at : (s : List Class) (c p d : ℕ) → ParentsAreEarlier s → parent_of s c ≡ Some p → descends_in s p d ≡ true
    → (b : Bool) → (c == d) ≡ b → descends_in s c d ≡ true
found_at s c p d earlier h rest true same = descends_itself s c d earlier same
found_at s c p d earlier h rest false other = descends_parent s c p d earlier h other ∙ rest

pub descends_complete : (s : List Class) → ParentsAreEarlier s → (c d : ℕ) → Descends s c d → descends_in s c d ≡ true
descends_complete s earlier c _ (itself _) = descends_itself s c c earlier ((Decides-eqb c c).1 refl)
descends_complete s earlier c d (through_parent _ p _ h rest) = found_at s c p d earlier h (descends_complete s earlier p d rest) (c == d) refl

-- the test decides the relation
pub descends_decides : (s : List Class) → ParentsAreEarlier s → (c d : ℕ) (r : Bool) → r ≡ descends_in s c d
    → IsTrue r ↔ Descends s c d
descends_decides s earlier c d r is = (λ t. climbs_sound s d c c (sym is ∙ t), λ h. is ∙ descends_complete s earlier c d h)

-- one turn of the way up, from a class to the parent that stands with it
pub record GoesUp (s : List Class) (c p d : ℕ) : Type 0 where
  pub lower : p < c
  pub same : descends_in s p d ≡ descends_in s c d

pub found_itself : (s : List Class) (c d : ℕ) → ParentsAreEarlier s → c ≡ d → descends_in s c d ≡ true
found_itself s c d earlier e = descends_itself s c d earlier ((Decides-eqb c d).1 e)

-- the test of some others decides the relation
pub any_decides : (classes : List Class) (c : ℕ) (ds : List ℕ) (r : Bool) → ParentsAreEarlier classes
    → r ≡ list_any (λ d. descends_in classes c d) ds → IsTrue r ↔ Any (Descends classes c) ds
any_decides classes c ds r earlier is =
    let p : ℕ → Bool = λ d. descends_in classes c d in (
      λ t. let h = Any-from_list_any p ds (sym is ∙ t) in (h.0, h.1, h.2, h.3, (descends_decides classes earlier c h.1 (p h.1) refl).0 h.4),
      λ h. is ∙ list_any-from_Any p ds (h.0, h.1, h.2, h.3, (descends_decides classes earlier c h.1 (p h.1) refl).1 h.4),
    )
