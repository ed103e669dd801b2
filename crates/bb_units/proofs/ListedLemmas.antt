-- The numbers of the live units, in the order of their entries, are the keys of what the numbers have.
use Rattle.std.proofs.Common.{◌≡◌, ℕ, Bool, true, false, cond, ◌<◌, List, [], ◌∷◌, Option, Some, None, Less, refl, sym, ap, subst, ◌∙◌, arith, eq-eqb}
use Rattle.std.specs.Prelude.{◌==◌, is_some}
use Rattle.std.specs.List.{AllByRecursion, filter_map}
use Rattle.std.specs.List.Sorted.{IsStrictlySortedBy}
use Rattle.std.specs.Map.{keys_of, lookup}
use Rattle.std.specs.Ordering.{nat_cmp}
use Rattle.std.specs.FinMap.{keys}
use Rattle.std.proofs.lemmas.Bool.{eqb-true}
use Rattle.std.proofs.lemmas.Cmp.{ranked}
use Rattle.slab.specs.Slab.{get as under, ContainsKey}
use Rattle.bb_basis.proofs.EntryLemmas.{entries_are}
use Rattle.bb_units.specs.declared.unit.Unit.{Unit}
use Rattle.bb_units.specs.proving.Numbered.{UnitSlab, held, stored, units_in, number_if_used, Rise, key_in, AreNumbered}
use Rattle.bb_units.proofs.EntryLemmas.{Entries, content}

no_key : (n : ℕ) (es : Entries) → AllByRecursion (λ k. nat_cmp n k ≡ Less) (keys_of es) → key_in n es ≡ None
no_key n [] above = refl
no_key n (e ∷ es) above = by (n == e.0) refl (no_key n es above.1)
  where
    by : (b : Bool) → (n == e.0) ≡ b → key_in n es ≡ None → content (cond b (Some e.1) (lookup (λ k. n == k) es)) ≡ None
    by false other rest = rest
    by true same rest = absurd (let lt : n < e.0 = ranked n e.0 Less (sym above.0) in let eq : n ≡ e.0 = eqb-true n e.0 same in omega (arith, lt, eq))

key_of_later : (m n key : ℕ) (c : Option ℕ) (es : Entries) → AllByRecursion (λ k. nat_cmp n k ≡ Less) (keys_of es) → key_in m es ≡ Some key → key_in m ((n, c) ∷ es) ≡ Some key
key_of_later m n key c es above is = by (m == n) refl
  where
    by : (b : Bool) → (m == n) ≡ b → content (cond b (Some c) (lookup (λ k. m == k) es)) ≡ Some key
    by false other = is
    by true same = absurd (let none = no_key n es above in let e = ap (λ k. key_in k es) (eqb-true m n same) in cc)

abbrev AreThere : UnitSlab → Entries → Type 0
AreThere s es = (n key : ℕ) → key_in n es ≡ Some key → ContainsKey s key

held_by : (n : ℕ) (o : Option Unit) (es : List (ℕ × Option Unit)) → is_some o ≡ true → keys_of (held ((n, o) ∷ es)) ≡ n ∷ keys_of (held es)
held_by n None es there = absurd cc
held_by n (Some x) es there = refl

key_of_first : (n key : ℕ) (es : Entries) → key_in n ((n, Some key) ∷ es) ≡ Some key
key_of_first n key es = by (n == n) (eq-eqb n n refl)
  where
    by : (b : Bool) → b ≡ true → content (cond b (Some (Some key)) (lookup (λ k. n == k) es)) ≡ Some key
    by true same = refl
    by false same = absurd cc

numbers_held : (s : UnitSlab) (es : Entries) → Rise es → AreThere s es → keys_of (held (stored s es)) ≡ filter_map number_if_used es
unfolding IsStrictlySortedBy
numbers_held s [] rise there = refl
numbers_held s ((n, None) ∷ es) rise there = numbers_held s es rise.1 (λ m key is. there m key (key_of_later m n key None es rise.0 is))
numbers_held s ((n, Some k) ∷ es) rise there =
    held_by n (under s k) (stored s es) (there n k (key_of_first n k es))
    ∙ ap (λ ns. n ∷ ns) (numbers_held s es rise.1 (λ m key is. there m key (key_of_later m n key (Some k) es rise.0 is)))

each_used : (P : ℕ → Type 0) (es : Entries) → AllByRecursion P (keys_of es) → AllByRecursion P (filter_map number_if_used es)
each_used P [] all = tt
each_used P ((n, None) ∷ es) all = each_used P es all.1
each_used P ((n, Some k) ∷ es) all = (all.0, each_used P es all.1)

used_rise : (es : Entries) → Rise es → IsStrictlySortedBy nat_cmp (filter_map number_if_used es)
unfolding IsStrictlySortedBy
used_rise [] rise = tt
used_rise ((n, None) ∷ es) rise = used_rise es rise.1
used_rise ((n, Some k) ∷ es) rise = (each_used (λ m. nat_cmp n m ≡ Less) es rise.0, used_rise es rise.1)

pub numbers_listed : (next : ℕ) (es : Entries) (s : UnitSlab) → AreNumbered next es s → filter_map number_if_used es ≡ keys (units_in s es)
numbers_listed next es s is =
    let same = numbers_held s es is.rise is.kept.there in
    sym (ap keys_of (entries_are (held (stored s es)) (subst (IsStrictlySortedBy nat_cmp) (sym same) (used_rise es is.rise))) ∙ same)
