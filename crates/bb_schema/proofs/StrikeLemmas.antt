-- What a delete strikes: laws by which callers compare what they know of units.
use Rattle.std.proofs.Common.{◌≡◌, ℕ, zero, suc, ◌<◌, ◌≤◌, ◌||◌, Bool, true, false, List, [], ◌∷◌, length, Option, Some, refl, sym, ap, subst, ◌∙◌, arith}
use Rattle.std.specs.Prelude.{◌==◌, slice_get}
use Rattle.std.specs.List.{list_any}
use Rattle.std.specs.Option.{option_map_or}
use Rattle.std.proofs.lemmas.Bool.{or_left, or_right, or_parts, eq-eqb, eqb-true}
use Rattle.bb_basis.proofs.BoolLemmas.{same_truth}
use Rattle.bb_basis.proofs.ClosureLemmas.{has}
use Rattle.bb_schema_classes.specs.declared.class.Class.{Class}
use Rattle.bb_schema_classes.specs.declared.kind.Link.{Link}
use Rattle.bb_schema_classes.specs.Inheritance.{Descends, itself}
use Rattle.bb_schema.specs.declared.slot.Slot.{Slot}
use Rattle.bb_schema.specs.Heirs.{is_owning, related_in, heirs_in, strikes_in}
use Rattle.bb_schema.proofs.LineageLemmas.{related_within, related_back, related_up}
use Rattle.bb_schema.proofs.HeirLemmas.{led, leads_by, AreSound, leads, leads_from, heirs_first, heirs_closed, heirs_least, heirs_within, alone}

-- ---- tests of lists

-- one of a list passes
pub record IsFound (p : ℕ → Bool) (xs : List ℕ) : Type 0 where
  pub one : ℕ
  pub there : has xs one ≡ true
  pub passes : p one ≡ true

found_by : (p : ℕ → Bool) (x : ℕ) (xs : List ℕ) (b : Bool) → p x ≡ b → (list_any p xs ≡ true → IsFound p xs) → (b || list_any p xs) ≡ true → IsFound p (x ∷ xs)
found_by p x xs true is more h = record { one = x; there = or_left (x == x) (has xs x) (eq-eqb x x refl); passes = is }
found_by p x xs false is more h = let f = more h in record { one = f.one; there = or_right (x == f.one) (has xs f.one) f.there; passes = f.passes }

pub any_is_found : (p : ℕ → Bool) (xs : List ℕ) → list_any p xs ≡ true → IsFound p xs
any_is_found p [] h = absurd cc
any_is_found p (x ∷ xs) h = found_by p x xs (p x) refl (any_is_found p xs) h

passes_by : (p : ℕ → Bool) (x n : ℕ) (xs : List ℕ) (b : Bool) → (x == n) ≡ b → p n ≡ true → (has xs n ≡ true → list_any p xs ≡ true) → (b || has xs n) ≡ true → (p x || list_any p xs) ≡ true
passes_by p x n xs true same passes more h = or_left (p x) (list_any p xs) (ap p (eqb-true x n same) ∙ passes)
passes_by p x n xs false other passes more h = or_right (p x) (list_any p xs) (more h)

pub passes : (p : ℕ → Bool) (xs : List ℕ) (n : ℕ) → has xs n ≡ true → p n ≡ true → list_any p xs ≡ true
passes p [] n there h = absurd cc
passes p (x ∷ xs) n there h = passes_by p x n xs (x == n) refl h (λ more. passes p xs n more h) there

-- ---- classes that lead nowhere

no_owner : (slots : List Slot) (n : ℕ) (t : Slot) → list_any is_owning slots ≡ false → slice_get slots n ≡ Some t → is_owning t ≡ true → ⊥
no_owner [] n t none at owns = absurd cc
no_owner (u ∷ ts) zero t none at owns =
    let same : u ≡ t = cc in
    let e : true ≡ false = sym (or_left (is_owning u) (list_any is_owning ts) (ap is_owning same ∙ owns)) ∙ none in cc
no_owner (u ∷ ts) (suc n) t none at owns = no_owner ts n t (or_parts (is_owning u) (list_any is_owning ts) none).1 at owns

not_true : (b : Bool) → (b ≡ true → ⊥) → b ≡ false
not_true true never = absurd (never refl)
not_true false never = refl

module _ (classes : List Class) (slots : List Slot) (sound : AreSound classes slots) where
  leads_nowhere : list_any is_owning slots ≡ false → (c e : ℕ) → leads classes slots sound c e ≡ false
  leads_nowhere none c e =
      not_true (leads classes slots sound c e) (λ h. let l = led classes slots c e h in
      no_owner slots l.number l.slot none l.at (ap (λ (o : Option Link). option_map_or (λ k. k.owns) o false) l.is ∙ l.owns))

  -- ---- what is struck

  -- what is related to an heir is struck
  pub struck_by : (d h c : ℕ) → has (heirs_in classes slots d) h ≡ true → related_in classes c h ≡ true → strikes_in classes slots d c ≡ true
  unfolding strikes_in
  struck_by d h c there related = passes (related_in classes c) (heirs_in classes slots d) h there related

  -- what is struck is related to an heir
  pub struck_as : (d c : ℕ) → strikes_in classes slots d c ≡ true → IsFound (related_in classes c) (heirs_in classes slots d)
  unfolding strikes_in
  struck_as d c h = any_is_found (related_in classes c) (heirs_in classes slots d) h

  pub related_struck : (d c : ℕ) → related_in classes d c ≡ true → strikes_in classes slots d c ≡ true
  related_struck d c h = struck_by d d c (heirs_first classes slots sound d) (related_back classes sound.parents d c h)

  -- a class that leads nowhere strikes what is related to it
  pub strikes_alone : (d c : ℕ) → ((e : ℕ) → leads classes slots sound d e ≡ false) → strikes_in classes slots d c ≡ related_in classes d c
  strikes_alone d c nowhere =
      same_truth (strikes_in classes slots d c) (related_in classes d c)
      (λ h. let f = struck_as d c h in
      related_back classes sound.parents c d (ap (related_in classes c) (alone classes slots sound d nowhere f.one f.there) ∙ f.passes))
      (related_struck d c)

  pub strikes_related : list_any is_owning slots ≡ false → (d c : ℕ) → strikes_in classes slots d c ≡ related_in classes d c
  strikes_related none d c = strikes_alone d c (leads_nowhere none d)

  -- of two numbers of which one is no class neither strikes the other unless they are related
  pub strikes_outside : (d c : ℕ) → length classes ≤ d → strikes_in classes slots d c ≡ related_in classes d c
  strikes_outside d c le =
      strikes_alone d c (λ e. not_true (leads classes slots sound d e) (λ h. let lt = leads_from classes slots sound d e h in absurd (omega (arith, lt, le))))

  pub strikes_no_class : (d c : ℕ) → d < length classes → length classes ≤ c → strikes_in classes slots d c ≡ related_in classes d c
  strikes_no_class d c lt le =
      same_truth (strikes_in classes slots d c) (related_in classes d c)
      (λ h. let f = struck_as d c h in let low = related_within classes sound.parents c f.one f.passes (heirs_within classes slots sound d f.one lt f.there) in absurd (omega (arith, low, le)))
      (related_struck d c)

  -- an heir of a class descends from an heir of each class above that one
  record IsUnderHeir (c h : ℕ) : Type 0 where
    pub heir : ℕ
    pub there : has (heirs_in classes slots c) heir ≡ true
    pub up : Descends classes h heir

  heir_above : (b c : ℕ) → Descends classes b c → (h : ℕ) → has (heirs_in classes slots b) h ≡ true → IsUnderHeir c h
  heir_above b c up h there =
      heirs_least classes slots sound b (IsUnderHeir c) (record { heir = c; there = heirs_first classes slots sound c; up = up }) (λ m n under led_there.
      let l = led classes slots m n led_there in
      let to = leads_by classes slots under.heir l.number l.slot l.link l.at l.is l.owns (related_up classes sound.parents m l.slot.owner under.heir l.related under.up) in
      record {
        heir = n;
        there = heirs_closed classes slots sound c under.heir n under.there (subst (λ k. leads classes slots sound under.heir k ≡ true) l.to to);
        up = itself n;
      }) h there

  -- what a class strikes, a class above it strikes too, and all above what is struck
  pub strikes_above : (b c d e : ℕ) → Descends classes b c → Descends classes e d → strikes_in classes slots b e ≡ true → strikes_in classes slots c d ≡ true
  strikes_above b c d e up up_other h =
      let f = struck_as b e h in
      let above = heir_above b c up f.one f.there in
      let related = related_up classes sound.parents f.one d above.heir (related_back classes sound.parents d f.one (related_up classes sound.parents e f.one d f.passes up_other)) above.up in
      struck_by c above.heir d above.there (related_back classes sound.parents above.heir d related)
