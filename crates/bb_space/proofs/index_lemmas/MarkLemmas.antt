-- Marks leave all units that can pass.
use Rattle.std.proofs.Common.{◌≡◌, ℕ, zero, suc, ◌⊎◌, inl, inr, ◌==◌, Bool, true, false, cond, List, [], ◌∷◌, filter, Option, Some, None, refl, sym, ap, ◌∙◌, eqb-true, slice_get}
use Rattle.std.specs.List.{list_any}
use Rattle.std.specs.Option.{option_map_or}
use Rattle.std.specs.BTreeSet.{BTreeSet}
use Rattle.std.proofs.lemmas.Bool.{and_parts, or_cases}
use Rattle.bb_pattern.specs.declared.value.DimValue.{DimValue}
use Rattle.bb_space.specs.declared.index.leaf.Leaf.{Leaf}
use Rattle.bb_space.specs.declared.index.place.Place.{Place}
use Rattle.bb_space.specs.index.Candidates.{may_pass}
use Rattle.bb_space.specs.index.Leaf.{fits_leaf, fit_each}
use Rattle.bb_space.specs.index.proving.Stretches.{is_near}
use Rattle.bb_space.specs.index.proving.Marks.{LeavesNear}
use Rattle.bb_space.proofs.index_lemmas.CandidateLemmas.{passing}
use Rattle.bb_space.proofs.index_lemmas.NearLemmas.{AreOf}
use Rattle.bb_space.proofs.index_lemmas.StretchLemmas.{by_value, near_is}

-- ---- what a walk has still to mark

-- each unit of whom a place stands somewhere is left, but for those of the rest
abbrev pub LeftBut : (ℕ → Bool) → (ℕ → Bool) → List Place → Type 0
LeftBut stands left rest = (n : ℕ) → stands n ≡ true → (left n ≡ true) ⊎ (list_any (λ p. p.unit == n) rest ≡ true)

pub left_but_less : (stands old new : ℕ → Bool) (p : Place) (rest : List Place) → ((n : ℕ) → old n ≡ true → new n ≡ true) → new p.unit ≡ true → LeftBut stands old (p ∷ rest) → LeftBut stands new rest
left_but_less stands old new p rest keeps marked was = λ n h. on n (was n h)
  where
    here : (n : ℕ) → ((p.unit == n) ≡ true) ⊎ (list_any (λ q. q.unit == n) rest ≡ true) → (new n ≡ true) ⊎ (list_any (λ q. q.unit == n) rest ≡ true)
    here n (inl one) = inl (ap new (sym (eqb-true p.unit n one)) ∙ marked)
    here n (inr later) = inr later

    on : (n : ℕ) → (old n ≡ true) ⊎ (list_any (λ q. q.unit == n) (p ∷ rest) ≡ true) → (new n ≡ true) ⊎ (list_any (λ q. q.unit == n) rest ≡ true)
    on n (inl left) = inl (keeps n left)
    on n (inr stands) = here n (or_cases (p.unit == n) (list_any (λ q. q.unit == n) rest) stands)

one_filtered : (left pass : ℕ → Bool) (n : ℕ) (ns : List ℕ) → (pass n ≡ true → left n ≡ true) → filter pass (filter left ns) ≡ filter pass ns → filter pass (filter left (n ∷ ns)) ≡ filter pass (n ∷ ns)
one_filtered left pass n ns tells once = at (left n) (pass n) refl refl
  where
    never : left n ≡ true → left n ≡ false → ⊥
    never one none = absurd cc

    at : (l q : Bool) → left n ≡ l → pass n ≡ q → filter pass (cond l (n ∷ filter left ns) (filter left ns)) ≡ cond q (n ∷ filter pass ns) (filter pass ns)
    at true true on is = ap (λ b. cond b (n ∷ filter pass (filter left ns)) (filter pass (filter left ns))) is ∙ ap (λ ms. n ∷ ms) once
    at true false on is = ap (λ b. cond b (n ∷ filter pass (filter left ns)) (filter pass (filter left ns))) is ∙ once
    at false true on is = absurd (never (tells is) on)
    at false false on is = once

filter_twice : (left pass : ℕ → Bool) (list : List ℕ) → ((n : ℕ) → pass n ≡ true → left n ≡ true) → filter pass (filter left list) ≡ filter pass list
filter_twice left pass [] tells = refl
filter_twice left pass (n ∷ ns) tells = one_filtered left pass n ns (tells n) (filter_twice left pass ns tells)

pub leaves_near : (near left : ℕ → Bool) (among list : List ℕ) → list ≡ filter left among → ((n : ℕ) → near n ≡ true → left n ≡ true) → LeavesNear near among list
leaves_near near left among list is tells = λ pass asks. ap (filter pass) is ∙ filter_twice left pass among (λ n h. tells n (asks n h))

pub each_fits : (tests : List Leaf) (values : List DimValue) (k : ℕ) (test : Leaf) → slice_get tests k ≡ Some test → fit_each tests values ≡ true → fits_leaf test values ≡ true
each_fits [] values k test there h = absurd cc
each_fits (t ∷ ts) values zero test there h = ap (λ o. option_map_or (λ leaf. fits_leaf leaf values) o true) (sym there) ∙ (and_parts (fits_leaf t values) (fit_each ts values) h).0
each_fits (t ∷ ts) values (suc k) test there h = each_fits ts values k test there (and_parts (fits_leaf t values) (fit_each ts values) h).1

-- of units with such values
pub passes_near : (had : ℕ → Option (List DimValue)) (places : BTreeSet Place) → AreOf had places → (tests : List Leaf) (k : ℕ) (test : Leaf) → slice_get tests k ≡ Some test → (n : ℕ)
    → option_map_or (fit_each tests) (had n) false ≡ true → is_near test places n ≡ true
passes_near had places are tests k test there n h = near_is had places are test n ∙ at (had n) refl h
  where
    at : (o : Option (List DimValue)) → had n ≡ o → option_map_or (fit_each tests) o false ≡ true → by_value test (may_pass test) (had n) ≡ true
    at None none g = absurd cc
    at (Some values) some g = ap (by_value test (may_pass test)) some ∙ passing test values (each_fits tests values k test there g)
