-- Which class descends from which, and which classes are related.
use Rattle.std.proofs.Common.{◌≡◌, ◌⊎◌, inl, inr, ℕ, ◌<◌, ◌≤◌, ◌||◌, Bool, true, false, List, length, Option, Some, None, refl, sym, subst, ◌∙◌, arith}
use Rattle.std.specs.Prelude.{slice_get, option_and_then}
use Rattle.std.proofs.lemmas.Bool.{or_left, or_right}
use Rattle.std.proofs.lemmas.Option.{slice_get_within}
use Rattle.bb_schema_classes.specs.declared.class.Class.{Class}
use Rattle.bb_schema_classes.specs.Inheritance.{ParentsAreEarlier, Descends, itself, through_parent, descends_in}
use Rattle.bb_schema_classes.proofs.Laws.{climbs_sound, descends_complete}
use Rattle.bb_schema.specs.Heirs.{related_in}

-- ---- descent

pub goes_up : {classes : List Class} {a b c : ℕ} → Descends classes a b → Descends classes b c → Descends classes a c
goes_up (itself a) d = d
goes_up (through_parent a p b is up) d = through_parent a p _ is (goes_up up d)

-- of two classes from which a third descends, one descends from the other
pub one_line : {classes : List Class} {a c d : ℕ} → Descends classes a c → Descends classes a d → Descends classes c d ⊎ Descends classes d c
one_line (itself a) other = inl other
one_line (through_parent a p c is up) (itself b) = inr (through_parent a p c is up)
one_line {classes} {a} {c} {d} (through_parent x p y is up) (through_parent z q w is_q up_q) =
    one_line up (subst (λ (k : ℕ). Descends classes k d) (let e : Some q ≡ Some p = sym is_q ∙ is in let same : q ≡ p = cc in same) up_q)

not_later : (classes : List Class) → ParentsAreEarlier classes → (c d : ℕ) → Descends classes c d → d ≤ c
not_later classes earlier c _ (itself _) = omega arith
not_later classes earlier c d (through_parent _ p _ is up) = omega (arith, not_later classes earlier p d up, earlier c p is)

child_there : (classes : List Class) (c p : ℕ) (o : Option Class) → slice_get classes c ≡ o → option_and_then (λ k. k.parent) o ≡ Some p → c < length classes
child_there classes c p None at is = absurd cc
child_there classes c p (Some k) at is = slice_get_within classes c k at

-- what descends from a class is a class
heir_there : (classes : List Class) (c d : ℕ) → Descends classes c d → d < length classes → c < length classes
heir_there classes c _ (itself _) lt = lt
heir_there classes c d (through_parent _ p _ is up) lt = child_there classes c p (slice_get classes c) refl is

-- ---- related classes

either : (a b : Bool) → (a || b) ≡ true → (a ≡ true) ⊎ (b ≡ true)
either true b h = inl refl
either false b h = inr h

module _ (classes : List Class) (earlier : ParentsAreEarlier classes) where
  pub related_by : (c d : ℕ) → Descends classes c d ⊎ Descends classes d c → related_in classes c d ≡ true
  related_by c d (inl up) = or_left (descends_in classes c d) (descends_in classes d c) (descends_complete classes earlier c d up)
  related_by c d (inr up) = or_right (descends_in classes c d) (descends_in classes d c) (descends_complete classes earlier d c up)

  by_side : (c d : ℕ) → (descends_in classes c d ≡ true) ⊎ (descends_in classes d c ≡ true) → Descends classes c d ⊎ Descends classes d c
  by_side c d (inl h) = inl (climbs_sound classes d c c h)
  by_side c d (inr h) = inr (climbs_sound classes c d d h)

  pub related_as : (c d : ℕ) → related_in classes c d ≡ true → Descends classes c d ⊎ Descends classes d c
  related_as c d h = by_side c d (either (descends_in classes c d) (descends_in classes d c) h)

  swapped : (c d : ℕ) → Descends classes c d ⊎ Descends classes d c → related_in classes d c ≡ true
  swapped c d (inl up) = related_by d c (inr up)
  swapped c d (inr up) = related_by d c (inl up)

  pub related_back : (c d : ℕ) → related_in classes c d ≡ true → related_in classes d c ≡ true
  related_back c d h = swapped c d (related_as c d h)

  within_by : (c d : ℕ) → Descends classes c d ⊎ Descends classes d c → d < length classes → c < length classes
  within_by c d (inl up) lt = heir_there classes c d up lt
  within_by c d (inr up) lt = let le = not_later classes earlier d c up in omega (arith, le, lt)

  -- what is related to a class is a class
  pub related_within : (c d : ℕ) → related_in classes c d ≡ true → d < length classes → c < length classes
  related_within c d h lt = within_by c d (related_as c d h) lt

  up_by : (c d above : ℕ) → Descends classes c above → Descends classes c d ⊎ Descends classes d c → related_in classes above d ≡ true
  up_by c d above up (inl h) = related_by above d (one_line up h)
  up_by c d above up (inr h) = related_by above d (inr (goes_up h up))

  -- what is related to a class is related to those above that one
  pub related_up : (c d above : ℕ) → related_in classes c d ≡ true → Descends classes c above → related_in classes above d ≡ true
  related_up c d above h up = up_by c d above up (related_as c d h)

  -- classes of one unit are related
  pub both_related : (own c d : ℕ) → Descends classes own c → Descends classes own d → related_in classes c d ≡ true
  both_related own c d up other = related_by c d (one_line up other)
