-- What one statement, or what stands after another, does to the names and classes in scope, and which names it spares.
use Rattle.std.proofs.Common.{◌≡◌, ◌⊎◌, inl, inr, ℕ, Bool, true, false, cond, ◌&&◌, not, List, [], ◌∷◌, ◌++◌, map, Some, refl, sym, ap, ◌∙◌}
use Rattle.std.specs.Prelude.{set, position, slice_get}
use Rattle.bb_basis.proofs.BoolLemmas.{and_first, and_second}
use Rattle.bb_basis.proofs.PositionLemmas.{position_within}
use Rattle.bb_schema.specs.Schema.{Schema}
use Rattle.bb_schema.specs.Ownership.{strikes}
use Rattle.bb_code.specs.declared.frame.Kind.{Kind}
use Rattle.bb_code.specs.declared.frame.Kind.TheVariants as kinds
use Rattle.bb_verify_effect.specs.Kinds.{struck}
use Rattle.bb_compile_scope.specs.Kinds.{class_of, is_live}
use Rattle.bb_compile_scope.specs.LocalKinds.{is_free, kind_at, met_kind}
use Rattle.bb_compile_scope.specs.Scope.{mark_of, back_to, local_of}
use Rattle.bb_compile_scope.specs.declared.scope.NamedLocal.{NamedLocal}
use Rattle.bb_compile_scope.specs.declared.scope.Scope.{Scope}
use Rattle.bb_compile_scope.proofs.Laws.{at_same, at_other, free_first, struck_at, taken_within}
use Rattle.bb_theorem_accepted.proofs.buffers.BufferLemmas.{front}
use Rattle.bb_theorem_accepted.proofs.kinds.KnowLemmas.{aged, Agree, taken_on, left_here}
use Rattle.bb_theorem_accepted.proofs.kinds.MoveLemmas.{Sole}
use Rattle.bb_theorem_accepted.proofs.sparing.FreeLemmas.{met_is}
use Rattle.bb_theorem_accepted.proofs.sparing.ScopeLemmas.{Onto, Levels, Mixed}
use Rattle.bb_theorem_accepted.proofs.sparing.SpareLemmas.{Shape, shape, class_at, is_first, is_struck, shape_agree, shape_more, class_at_is, sole_taken, first_is}

abbrev pub of : Scope → Shape
of a = shape a.kinds a.names

abbrev pub Shaped : (a b : Scope) → Shape → Type 0
Shaped a b added = of b ≡ of a ++ added

-- a name whose unit is live, and that is spared, has one that is live
abbrev pub Spares : (a b : Scope) → (ℕ → Bool) → Type 0
Spares a b spared = (j : ℕ) (n : NamedLocal) → slice_get a.names j ≡ Some n → is_live (kind_at a.kinds n.local) ≡ true → spared j ≡ true → is_live (kind_at b.kinds n.local) ≡ true

-- and it alone
abbrev pub Reveals : (a b : Scope) → (ℕ → Bool) → Type 0
Reveals a b spared = (j : ℕ) (n : NamedLocal) → slice_get a.names j ≡ Some n → is_live (kind_at b.kinds n.local) ≡ true → (is_live (kind_at a.kinds n.local) ≡ true) × (spared j ≡ true)

-- a local that may hold a deleted unit is never live again
abbrev pub Fades : (a b : Scope) → Type 0
Fades a b = (i : ℕ) → is_free (kind_at a.kinds i) ≡ false → is_live (kind_at b.kinds i) ≡ true → is_live (kind_at a.kinds i) ≡ true

-- ---- one after another

still_named : (a b : Scope) (j : ℕ) (n : NamedLocal) → Onto a b → slice_get a.names j ≡ Some n → slice_get b.names j ≡ Some n
still_named a b j n o at = ap (λ l. slice_get l j) o.names ∙ front a.names o.more j n at

pub spares_on : (a b c : Scope) (p q : ℕ → Bool) → Onto a b → Spares a b p → Spares b c q → Spares a c (λ j. p j && q j)
spares_on a b c p q o one two j n at live spared = two j n (still_named a b j n o at) (one j n at live (and_first (p j) (q j) spared)) (and_second (p j) (q j) spared)

both_true : (a b : Bool) → a ≡ true → b ≡ true → (a && b) ≡ true
both_true a b one two = rw (one, two) refl

pub reveals_on : (a b c : Scope) (p q : ℕ → Bool) → Onto a b → Reveals a b p → Reveals b c q → Reveals a c (λ j. p j && q j)
reveals_on a b c p q o one two j n at live =
    let then = two j n (still_named a b j n o at) live in
    let first = one j n at then.0 in
    (first.0, both_true (p j) (q j) first.1 then.1)

pub fades_on : (a b c : Scope) → Onto a b → Fades a b → Fades b c → Fades a c
fades_on a b c o one two i taken live = one i taken (two i (taken_on (kind_at a.kinds i) (kind_at b.kinds i) (o.agree i taken) taken) live)

-- ---- after a block

pub spares_left : (a b : Scope) (p : ℕ → Bool) → Sole a.kinds a.names → Spares a b p → Spares a (back_to (mark_of a) b) p
spares_left a b p sole one j n at live spared = ap is_live (left_here a.kinds b.kinds n.local (sole_taken a.kinds a.names j n sole at)) ∙ one j n at live spared

pub reveals_left : (a b : Scope) (p : ℕ → Bool) → Sole a.kinds a.names → Reveals a b p → Reveals a (back_to (mark_of a) b) p
reveals_left a b p sole one j n at live = one j n at (sym (ap is_live (left_here a.kinds b.kinds n.local (sole_taken a.kinds a.names j n sole at))) ∙ live)

pub fades_left : (a b : Scope) → Fades a b → Fades a (back_to (mark_of a) b)
fades_left a b one i taken live = one i taken (sym (ap is_live (left_here a.kinds b.kinds i taken)) ∙ live)

pub shaped_level : (a b : Scope) → Levels a b → Sole a.kinds a.names → of b ≡ of a
shaped_level a b l sole = ap (shape b.kinds) l.names ∙ shape_agree a.kinds b.kinds a.names l.agree sole

-- names that are spared by what does nothing to them
abbrev pub All : ℕ → Bool
All j = true

-- after a block with a name of its own, whose names are forgotten
pub spares_twice : (a b c : Scope) (p : ℕ → Bool) → Onto a b → Sole a.kinds a.names → Spares a b All → Spares b c p → Spares a (back_to (mark_of a) (back_to (mark_of b) c)) p
spares_twice a b c p o sole one two =
    let inner = back_to (mark_of b) c in
    spares_left a inner p sole (λ j n at live spared. (spares_on a b inner All p o one (spares_left b c p (o.sole sole) two)) j n at live spared)

pub reveals_twice : (a b c : Scope) (p : ℕ → Bool) → Onto a b → Sole a.kinds a.names → Reveals a b All → Reveals b c p → Reveals a (back_to (mark_of a) (back_to (mark_of b) c)) p
reveals_twice a b c p o sole one two =
    let inner = back_to (mark_of b) c in
    reveals_left a inner p sole (λ j n at live. (reveals_on a b inner All p o one (reveals_left b c p (o.sole sole) two)) j n at live)

-- ---- after branches

met_live : (k l : Kind) → is_live k ≡ true → is_live l ≡ true → is_live (met_kind k l) ≡ true
met_live k l one other = rw other one

pub spares_mixed : (a b c t : Scope) (p q : ℕ → Bool) → Levels a b → Levels a c → Mixed b.kinds c.kinds t.kinds → Spares a b p → Spares a c q → Spares a t (λ j. p j && q j)
spares_mixed a b c t p q lb lc (inl e) one other j n at live spared = ap (λ ks. is_live (kind_at ks n.local)) e ∙ one j n at live (and_first (p j) (q j) spared)
spares_mixed a b c t p q lb lc (inr (inl e)) one other j n at live spared = ap (λ ks. is_live (kind_at ks n.local)) e ∙ other j n at live (and_second (p j) (q j) spared)
spares_mixed a b c t p q lb lc (inr (inr e)) one other j n at live spared =
    ap (λ ks. is_live (kind_at ks n.local)) e
    ∙ (ap is_live (met_is b.kinds c.kinds n.local (lb.count ∙ sym lc.count)) ∙ met_live (kind_at b.kinds n.local) (kind_at c.kinds n.local) (one j n at live (and_first (p j) (q j) spared)) (other j n at live (and_second (p j) (q j) spared)))

-- ---- the same scope, and one where a name is declared

pub spares_same : (a b : Scope) → b ≡ a → Spares a b All
spares_same a b same j n at live spared = ap (λ (c : Scope). is_live (kind_at c.kinds n.local)) same ∙ live

-- what was taken stays as it was
pub set_kept : (ks : List Kind) (local : ℕ) (k : Kind) (i : ℕ) → position is_free ks ≡ Some local → is_free (kind_at ks i) ≡ false → kind_at (set ks local k) i ≡ kind_at ks i
set_kept ks local k i free taken = at_other ks local i k (λ e. absurd (let no : true ≡ false = sym (free_first ks local free) ∙ (ap (λ j. is_free (kind_at ks j)) (sym e) ∙ taken) in cc))

module _ (a b : Scope) (local : ℕ) (kind : Kind) (free : position is_free a.kinds ≡ Some local) (kinds_are : b.kinds ≡ set a.kinds local kind) where
  kept_at : (i : ℕ) → is_free (kind_at a.kinds i) ≡ false → kind_at b.kinds i ≡ kind_at a.kinds i
  kept_at i taken = ap (λ ks. kind_at ks i) kinds_are ∙ set_kept a.kinds local kind i free taken

  pub spares_set : Sole a.kinds a.names → Spares a b All
  spares_set sole j n at live spared = ap is_live (kept_at n.local (sole_taken a.kinds a.names j n sole at)) ∙ live

  pub reveals_set : Sole a.kinds a.names → Reveals a b All
  reveals_set sole j n at live = (sym (ap is_live (kept_at n.local (sole_taken a.kinds a.names j n sole at))) ∙ live, refl)

  pub fades_set : Fades a b
  fades_set i taken live = sym (ap is_live (kept_at i taken)) ∙ live

  agree_set : Agree a.kinds b.kinds
  agree_set i taken = ap aged (sym (kept_at i taken))

  pub shaped_set : (name : List ℕ) → Sole a.kinds a.names → b.names ≡ a.names ++ record { name = name; local = local } ∷ [] → Shaped a b ((name, class_of kind) ∷ [])
  shaped_set name sole names =
      let n : NamedLocal = record { name = name; local = local } in
      let here : kind_at b.kinds local ≡ kind = ap (λ ks. kind_at ks local) kinds_are ∙ at_same a.kinds local kind (position_within is_free a.kinds local free) in
      ap (shape b.kinds) names ∙ (shape_more b.kinds a.names n ∙ (ap (λ k. shape b.kinds a.names ++ (name, class_of k) ∷ []) here ∙ ap (λ l. l ++ (name, class_of kind) ∷ []) (shape_agree a.kinds b.kinds a.names agree_set sole)))

-- ---- a name that gets another value

not_it : (b : Bool) → b ≡ true → not b ≡ true → ⊥
not_it true h other = absurd cc
not_it false h other = absurd cc

is_not : (b : Bool) → b ≡ false → not b ≡ true
is_not b h = rw h refl

module _ (a b : Scope) (name : List ℕ) (local : ℕ) (now : Kind) (sole : Sole a.kinds a.names) (named : local_of a name ≡ Some local) (kinds_are : b.kinds ≡ set a.kinds local now) where
  pub spares_assigned : Spares a b (λ j. not (is_first (of a) name j))
  spares_assigned j n at live spared = by_name (first_is a.kinds a.names name local j n sole named at)
    where
      by_name : ((is_first (of a) name j ≡ true) × (n.local ≡ local)) ⊎ ((is_first (of a) name j ≡ false) × (n.local ≡ local → ⊥)) → is_live (kind_at b.kinds n.local) ≡ true
      by_name (inl own) = absurd (not_it (is_first (of a) name j) own.0 spared)
      by_name (inr other) = ap (λ ks. is_live (kind_at ks n.local)) kinds_are ∙ (ap is_live (at_other a.kinds local n.local now other.1) ∙ live)

  -- where it is no live unit
  pub reveals_assigned : is_live now ≡ false → Reveals a b (λ j. not (is_first (of a) name j))
  reveals_assigned dead j n at live = by_name (first_is a.kinds a.names name local j n sole named at)
    where
      by_name : ((is_first (of a) name j ≡ true) × (n.local ≡ local)) ⊎ ((is_first (of a) name j ≡ false) × (n.local ≡ local → ⊥)) → (is_live (kind_at a.kinds n.local) ≡ true) × (not (is_first (of a) name j) ≡ true)
      by_name (inl own) =
          let within = sole_taken a.kinds a.names j n sole at in
          let here : kind_at b.kinds n.local ≡ now = ap (λ ks. kind_at ks n.local) kinds_are ∙ (ap (λ i. kind_at (set a.kinds i now) n.local) (sym own.1) ∙ at_same a.kinds n.local now (taken_within a.kinds n.local within)) in
          absurd (let no : true ≡ false = sym live ∙ (ap is_live here ∙ dead) in cc)
      by_name (inr other) = (sym (ap (λ ks. is_live (kind_at ks n.local)) kinds_are ∙ ap is_live (at_other a.kinds local n.local now other.1)) ∙ live, is_not (is_first (of a) name j) other.0)

-- ---- units that may be deleted

struck_live : (s : Schema) (c : ℕ) (k : Kind) → is_live (struck s c k) ≡ is_live k && not (is_struck s (Some c) (class_of k))
unfolding struck
struck_live s c (kinds.Ref d) = by_strike (strikes s c d)
  where
    by_strike : (b : Bool) → is_live (cond b (kinds.Old d) (kinds.Ref d)) ≡ not b
    by_strike true = refl
    by_strike false = refl
struck_live s c kinds.Any = refl
struck_live s c kinds.Int = refl
struck_live s c kinds.Text = refl
struck_live s c kinds.Bool = refl
struck_live s c (kinds.Label set) = refl
struck_live s c kinds.Interval = refl
struck_live s c (kinds.Old d) = refl
struck_live s c (kinds.Seq d) = refl

module _ (s : Schema) (a b : Scope) (c : ℕ) (kinds_are : b.kinds ≡ map (struck s c) a.kinds) where
  live_is : (i : ℕ) → is_live (kind_at b.kinds i) ≡ is_live (kind_at a.kinds i) && not (is_struck s (Some c) (class_of (kind_at a.kinds i)))
  live_is i = ap (λ ks. is_live (kind_at ks i)) kinds_are ∙ (ap is_live (struck_at s c a.kinds i) ∙ struck_live s c (kind_at a.kinds i))

  name_is : (j : ℕ) (n : NamedLocal) → slice_get a.names j ≡ Some n → is_live (kind_at b.kinds n.local) ≡ is_live (kind_at a.kinds n.local) && not (is_struck s (Some c) (class_at (of a) j))
  name_is j n at = live_is n.local ∙ ap (λ o. is_live (kind_at a.kinds n.local) && not (is_struck s (Some c) o)) (sym (class_at_is a.kinds a.names j n at))

  pub spares_struck : Spares a b (λ j. not (is_struck s (Some c) (class_at (of a) j)))
  spares_struck j n at live spared = name_is j n at ∙ both_true (is_live (kind_at a.kinds n.local)) (not (is_struck s (Some c) (class_at (of a) j))) live spared

  pub reveals_struck : Reveals a b (λ j. not (is_struck s (Some c) (class_at (of a) j)))
  reveals_struck j n at live =
      let both = sym (name_is j n at) ∙ live in
      (and_first (is_live (kind_at a.kinds n.local)) (not (is_struck s (Some c) (class_at (of a) j))) both, and_second (is_live (kind_at a.kinds n.local)) (not (is_struck s (Some c) (class_at (of a) j))) both)

  pub fades_struck : Fades a b
  fades_struck i taken live = and_first (is_live (kind_at a.kinds i)) (not (is_struck s (Some c) (class_of (kind_at a.kinds i)))) (sym (live_is i) ∙ live)
