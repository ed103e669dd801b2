-- Which units are in a list, whatever puts them in order.
use Rattle.std.proofs.Common.{◌≡◌, ℕ, Bool, true, false, ◌||◌, ◌==◌, List, [], ◌∷◌, ◌++◌, refl, sym, ap, ap₂, subst, ◌∙◌, eqb-true, eq-eqb}
use Rattle.std.specs.List.{list_any, dedup, Contains}
use Rattle.std.specs.Ordering.{nat_cmp, is_eq, eq_by_cmp}
use Rattle.std.specs.FinMap.{nat_cmp-IsAntisymmetric}
use Rattle.std.specs.Cmp.{nat_cmp_total, Equal-is, eq_by_cmp_equiv}
use Rattle.std.specs.BTreeMap.{is_at as meets}
use Rattle.std.proofs.Math.Dec.{eqb}
use Rattle.std.proofs.lemmas.Cmp.{nat_eq_equiv}
use Rattle.std.proofs.lemmas.Map.Views.{list_any-from_Contains, Contains-from_any}
use Rattle.std.proofs.lemmas.List.Folds.{list_any-append}
use Rattle.std.proofs.lemmas.List.Kept.{Contains-dedup_nat, Contains-from_dedup}
use Rattle.bb_basis.proofs.BoolLemmas.{same_truth}
use Rattle.bb_space.specs.index.Among.{is_among}

-- two tests of numbers are the same
pub same_number : (n m : ℕ) → is_eq (nat_cmp n m) ≡ (m == n)
same_number n m = same_truth (is_eq (nat_cmp n m)) (m == n)
    (λ h. eq-eqb m n (sym (nat_cmp-IsAntisymmetric n m ((Equal-is (nat_cmp n m)).0 h))))
    (λ h. subst (λ k. is_eq (nat_cmp n k) ≡ true) (sym (eqb-true m n h)) ((eq_by_cmp_equiv nat_cmp_total).refl n))

pub meets_among : (n : ℕ) (list : List ℕ) → list_any (meets (nat_cmp n)) list ≡ is_among n list
meets_among n [] = refl
meets_among n (m ∷ ms) = ap₂ (λ a b. a || b) (same_number n m) (meets_among n ms)

any_is_among : (n : ℕ) (list : List ℕ) → list_any (eqb n) list ≡ is_among n list
any_is_among n [] = refl
any_is_among n (m ∷ ms) = ap₂ (λ a b. a || b) (nat_eq_equiv.symm n m) (any_is_among n ms)

contained : (n : ℕ) (list : List ℕ) → is_among n list ≡ true → Contains list n
contained n list h = Contains-from_any eqb-true n list (any_is_among n list ∙ h)

among_from : (n : ℕ) (list : List ℕ) → Contains list n → is_among n list ≡ true
among_from n list h = sym (any_is_among n list) ∙ list_any-from_Contains nat_eq_equiv n list h

-- each once, all are there
pub among_dedup : (n : ℕ) (list : List ℕ) → is_among n (dedup eqb list) ≡ is_among n list
among_dedup n list = same_truth (is_among n (dedup eqb list)) (is_among n list)
    (λ h. among_from n list (Contains-from_dedup eqb list n (contained n (dedup eqb list) h)))
    (λ h. among_from n (dedup eqb list) (Contains-dedup_nat list n (contained n list h)))

-- the order of numbers tells which are the same
pub same_order : (x y : ℕ) → eqb x y ≡ eq_by_cmp nat_cmp x y
same_order x y = nat_eq_equiv.symm x y ∙ sym (same_number x y)

or_assoc : (a b rest : Bool) → ((a || (b || false)) || rest) ≡ (a || (b || rest))
or_assoc true b rest = refl
or_assoc false true rest = refl
or_assoc false false rest = refl

-- a unit is put behind the others
pub among_more : (n unit : ℕ) (old new : List ℕ) (rest : Bool) → new ≡ old ++ unit ∷ [] → (is_among n new || rest) ≡ (is_among n old || ((unit == n) || rest))
among_more n unit old new rest more =
    ap (λ list. is_among n list || rest) more ∙ (ap (λ b. b || rest) (list_any-append (λ m. m == n) old (unit ∷ [])) ∙ or_assoc (is_among n old) (unit == n) rest)
