-- What the verifier knows of a value, where the compiler takes it for a value of a kind: a unit may be of a class
-- below.
use Rattle.std.proofs.Common.{◌≡◌, ◌≢◌, ◌⊎◌, inl, inr, ℕ, ◌<◌, Bool, true, false, cond, List, [], ◌∷◌, ◌++◌, length, map, Option, Some, None, Ok, refl, subst, sym, ap, ◌∙◌}
use Rattle.std.specs.Prelude.{◌==◌, option_and_then, option_map, set, find, get_or}
use Rattle.std.specs.Str.{bytes_eq}
use Rattle.std.proofs.lemmas.Bool.{eqb-true, eq-eqb}
use Rattle.std.proofs.lemmas.List.{get_or-set_same, get_or-set_other, length-set, length-map}
use Rattle.std.proofs.lemmas.Option.{unwrap_or-slice_get}
use Rattle.bb_schema_classes.specs.Inheritance.{itself}
use Rattle.bb_schema_classes.proofs.Laws.{climbs_sound, descends_complete}
use Rattle.bb_schema.specs.Schema.{Schema, descends}
use Rattle.bb_schema.specs.Ownership.{strikes}
use Rattle.bb_schema.specs.Fits as schemas
use Rattle.bb_schema.proofs.Laws.{goes_up, strikes_up}
use Rattle.bb_code.specs.declared.frame.Kind.{Kind}
use Rattle.bb_code.specs.declared.frame.Kind.TheVariants.{Any, Int, Text, Bool as Truth, Label, Interval, Ref, Old, Seq}
use Rattle.bb_verify_effect.specs.Kinds.{is_same_plain, struck}
use Rattle.bb_verify_effect.specs.Due as due
use Rattle.bb_compile_scope.specs.Kinds.{class_of, is_live, unit_of, assigned_unit, assigned}
use Rattle.bb_compile_scope.specs.LocalKinds.{is_free, kind_at}
use Rattle.bb_compile_scope.specs.declared.scope.NamedLocal.{NamedLocal}
use Rattle.bb_compile_scope.proofs.Laws.{struck_at}

-- ---- plain kinds that are tested to be the same are the same

pub same_plain : (k l : Kind) → is_same_plain k l ≡ true → k ≡ l
same_plain Int Int h = refl
same_plain Text Text h = refl
same_plain Truth Truth h = refl
same_plain Interval Interval h = refl
same_plain (Label set) (Label t) h = ap Label (eqb-true set t h)
same_plain _ _ h = absurd cc

pub same_self : (k l : Kind) → is_same_plain k l ≡ true → is_same_plain l l ≡ true
same_self k l h = by_kind l (same_plain k l h)
  where
    by_kind : (m : Kind) → k ≡ m → is_same_plain m m ≡ true
    by_kind Int e = refl
    by_kind Text e = refl
    by_kind Truth e = refl
    by_kind Interval e = refl
    by_kind (Label set) e = eq-eqb set set refl
    by_kind Any e = absurd (let no : is_same_plain Any l ≡ true = ap (λ x. is_same_plain x l) (sym e) ∙ h in cc)
    by_kind (Ref c) e = absurd (let no : is_same_plain (Ref c) l ≡ true = ap (λ x. is_same_plain x l) (sym e) ∙ h in cc)
    by_kind (Old c) e = absurd (let no : is_same_plain (Old c) l ≡ true = ap (λ x. is_same_plain x l) (sym e) ∙ h in cc)
    by_kind (Seq c) e = absurd (let no : is_same_plain (Seq c) l ≡ true = ap (λ x. is_same_plain x l) (sym e) ∙ h in cc)

-- ---- classes

module _ (s : Schema) (sf : schemas.Fits s) where
  pub descends_on : (a b c : ℕ) → descends s a b ≡ true → descends s b c ≡ true → descends s a c ≡ true
  descends_on a b c ab bc =
      descends_complete s.classes sf.parents a c (goes_up (climbs_sound s.classes b a a ab) (climbs_sound s.classes c b b bc))

  pub descends_same : (a : ℕ) → descends s a a ≡ true
  descends_same a = descends_complete s.classes sf.parents a a (itself a)

  -- ---- one value

  -- what the verifier knows of a value that the compiler takes for one of the second kind
  abbrev pub IsUnder : (known thought : Kind) → Type 0
  IsUnder k (Ref d) = (c : ℕ) × (k ≡ Ref c) × (descends s c d ≡ true)
  IsUnder k (Old d) = (c : ℕ) × ((k ≡ Ref c) ⊎ (k ≡ Old c)) × (descends s c d ≡ true)
  IsUnder k Any = ⊥
  IsUnder k (Seq d) = ⊥
  IsUnder k other = k ≡ other

  pub under_known : (k t : Kind) → IsUnder k t → is_free t ≡ false
  under_known k Any u = absurd u
  under_known k (Seq d) u = absurd u
  under_known k _ u = refl

  -- a value of a plain kind is of just that kind
  pub under_plain : (k t wanted : Kind) → IsUnder k t → is_same_plain t wanted ≡ true → k ≡ wanted
  under_plain k Int wanted u h = u ∙ same_plain Int wanted h
  under_plain k Text wanted u h = u ∙ same_plain Text wanted h
  under_plain k Truth wanted u h = u ∙ same_plain Truth wanted h
  under_plain k (Label set) wanted u h = u ∙ same_plain (Label set) wanted h
  under_plain k Interval wanted u h = u ∙ same_plain Interval wanted h
  under_plain k Any wanted u h = absurd u
  under_plain k (Seq d) wanted u h = absurd u
  under_plain k (Ref d) wanted u h = absurd cc
  under_plain k (Old d) wanted u h = absurd cc

  pub is_due : (k t wanted : Kind) → IsUnder k t → is_same_plain t wanted ≡ true → due.due wanted k ≡ Ok tt
  is_due k t wanted u h =
      let same : is_same_plain wanted k ≡ true = ap (is_same_plain wanted) (under_plain k t wanted u h) ∙ same_self t wanted h in
      rw same refl

  pub under_copied : (k t : Kind) → IsUnder k t → (due.copy_of k ≡ Ok k) × (due.sayable k ≡ Ok tt)
  under_copied k Int u = rw u (refl, refl)
  under_copied k Text u = rw u (refl, refl)
  under_copied k Truth u = rw u (refl, refl)
  under_copied k (Label set) u = rw u (refl, refl)
  under_copied k Interval u = rw u (refl, refl)
  under_copied k (Ref d) u = rw u.1 (refl, refl)
  under_copied k (Old d) (c, inl e, up) = rw e (refl, refl)
  under_copied k (Old d) (c, inr e, up) = rw e (refl, refl)
  under_copied k Any u = absurd u
  under_copied k (Seq d) u = absurd u

  -- a unit is of a class below
  abbrev pub IsOfClass : Kind → (class : ℕ) → (live : Bool) → Type 0
  IsOfClass k class live = (c : ℕ) × (due.class_of k ≡ Ok c) × (descends s c class ≡ true) × (live ≡ true → due.live k ≡ Ok tt)

  pub under_class : (k t : Kind) (class : ℕ) → IsUnder k t → class_of t ≡ Some class → IsOfClass k class (is_live t)
  under_class k (Ref d) class u h =
      let same : d ≡ class = cc in
      (u.0, ap due.class_of u.1, ap (descends s u.0) (sym same) ∙ u.2, λ live. ap due.live u.1)
  under_class k (Old d) class (c, inl e, up) h =
      let same : d ≡ class = cc in
      (c, ap due.class_of e, ap (descends s c) (sym same) ∙ up, λ live. ap due.live e)
  under_class k (Old d) class (c, inr e, up) h =
      let same : d ≡ class = cc in
      (c, ap due.class_of e, ap (descends s c) (sym same) ∙ up, λ live. absurd cc)
  under_class k Any class u h = absurd u
  under_class k (Seq d) class u h = absurd u
  under_class k Int class u h = absurd cc
  under_class k Text class u h = absurd cc
  under_class k Truth class u h = absurd cc
  under_class k (Label set) class u h = absurd cc
  under_class k Interval class u h = absurd cc

  -- ---- a unit was deleted

  module _ (b c : ℕ) (below : descends s b c ≡ true) where
    struck_ref : (e d : ℕ) (own thought : Bool) → strikes s b e ≡ own → strikes s c d ≡ thought → descends s e d ≡ true → IsUnder (cond own (Old e) (Ref e)) (cond thought (Old d) (Ref d))
    struck_ref e d true true r t up = (e, inr refl, up)
    struck_ref e d false true r t up = (e, inl refl, up)
    struck_ref e d false false r t up = (e, refl, up)
    struck_ref e d true false r t up = absurd (let both : true ≡ false = sym (strikes_up s sf b c d e below up r) ∙ t in cc)

    struck_old : (e d : ℕ) (own : Bool) → descends s e d ≡ true → IsUnder (cond own (Old e) (Ref e)) (Old d)
    struck_old e d true up = (e, inr refl, up)
    struck_old e d false up = (e, inl refl, up)

    pub under_struck : (k t : Kind) → IsUnder k t → IsUnder (struck s b k) (struck s c t)
    unfolding struck
    under_struck k (Ref d) u = rw u.1 (struck_ref u.0 d (strikes s b u.0) (strikes s c d) refl refl u.2)
    under_struck k (Old d) (e, inl is_e, up) = rw is_e (struck_old e d (strikes s b e) up)
    under_struck k (Old d) (e, inr is_e, up) = rw is_e (e, inr refl, up)
    under_struck k Int u = rw u refl
    under_struck k Text u = rw u refl
    under_struck k Truth u = rw u refl
    under_struck k (Label set) u = rw u refl
    under_struck k Interval u = rw u refl
    under_struck k Any u = absurd u
    under_struck k (Seq d) u = absurd u

  -- ---- a name gets another value

  above : (k value : Kind) (class other : ℕ) → IsUnder k value → class_of value ≡ Some other → descends s other class ≡ true → IsUnder k (unit_of (is_live value) class)
  above k (Ref d) class other u h up = let same : d ≡ other = cc in (u.0, u.1, descends_on u.0 d class u.2 (ap (λ x. descends s x class) same ∙ up))
  above k (Old d) class other u h up = let same : d ≡ other = cc in (u.0, u.1, descends_on u.0 d class u.2 (ap (λ x. descends s x class) same ∙ up))
  above k Any class other u h up = absurd u
  above k (Seq d) class other u h up = absurd u
  above k Int class other u h up = absurd cc
  above k Text class other u h up = absurd cc
  above k Truth class other u h up = absurd cc
  above k (Label set) class other u h up = absurd cc
  above k Interval class other u h up = absurd cc

  pub under_assigned : (k held value now : Kind) → IsUnder k value → assigned s held value ≡ Some now → IsUnder k now
  unfolding assigned assigned_unit
  under_assigned k held value now u h = by_plain (is_same_plain held value) refl h
    where
      by_descent : (class other : ℕ) (d : Bool) → descends s other class ≡ d → class_of value ≡ Some other → cond d (Some (unit_of (is_live value) class)) None ≡ Some now → IsUnder k now
      by_descent class other true up at h = subst (IsUnder k) (let e : unit_of (is_live value) class ≡ now = cc in e) (above k value class other u at up)
      by_descent class other false up at h = absurd cc

      by_other : (class : ℕ) (o : Option ℕ) → class_of value ≡ o → option_and_then (λ other. cond (descends s other class) (Some (unit_of (is_live value) class)) None) o ≡ Some now → IsUnder k now
      by_other class None at h = absurd cc
      by_other class (Some other) at h = by_descent class other (descends s other class) refl at h

      by_class : (o : Option ℕ) → option_and_then (λ class. option_and_then (λ other. cond (descends s other class) (Some (unit_of (is_live value) class)) None) (class_of value)) o ≡ Some now → IsUnder k now
      by_class None h = absurd cc
      by_class (Some class) h = by_other class (class_of value) refl h

      by_plain : (b : Bool) → is_same_plain held value ≡ b → cond b (Some held) (option_and_then (λ class. option_and_then (λ other. cond (descends s other class) (Some (unit_of (is_live value) class)) None) (class_of value)) (class_of held)) ≡ Some now → IsUnder k now
      by_plain true same h = let e : held ≡ now = cc in subst (IsUnder k) (sym (same_plain held value same) ∙ e) u
      by_plain false same h = by_class (class_of held) h

  -- ---- the locals of names

  at_is : (ks : List Kind) (l : ℕ) → kind_at ks l ≡ get_or ks l Any
  at_is ks l = unwrap_or-slice_get ks l Any

  -- of the local of each name it is known what it holds
  abbrev pub AreKnown : (locals thought : List Kind) → List NamedLocal → Type 0
  AreKnown locals thought [] = Unit {0}
  AreKnown locals thought (n ∷ ns) = (n.local < length locals) × IsUnder (kind_at locals n.local) (kind_at thought n.local) × AreKnown locals thought ns

  set_one : (locals thought : List Kind) (i j : ℕ) (k t : Kind) → i < length locals → i < length thought → IsUnder k t → IsUnder (kind_at locals j) (kind_at thought j)
      → (b : Bool) → (j == i) ≡ b → IsUnder (kind_at (set locals i k) j) (kind_at (set thought i t) j)
  set_one locals thought i j k t lt lt_t u was true same =
      let e : j ≡ i = eqb-true j i same in
      let here : (ks : List Kind) (x : Kind) → i < length ks → kind_at (set ks i x) j ≡ x = λ ks x low. at_is (set ks i x) j ∙ (ap (λ n. get_or (set ks i x) n Any) e ∙ get_or-set_same ks i x Any low) in
      subst (λ x. IsUnder x (kind_at (set thought i t) j)) (sym (here locals k lt)) (subst (IsUnder k) (sym (here thought t lt_t)) u)
  set_one locals thought i j k t lt lt_t u was false other =
      let apart : j ≢ i = λ e. absurd (let no : true ≡ false = sym (eq-eqb j i e) ∙ other in cc) in
      let there : (ks : List Kind) (x : Kind) → kind_at (set ks i x) j ≡ kind_at ks j = λ ks x. at_is (set ks i x) j ∙ (get_or-set_other ks i j x Any apart ∙ sym (at_is ks j)) in
      subst (λ x. IsUnder x (kind_at (set thought i t) j)) (sym (there locals k)) (subst (IsUnder (kind_at locals j)) (sym (there thought t)) was)

  pub known_set : (locals thought : List Kind) (ns : List NamedLocal) (i : ℕ) (k t : Kind) → i < length locals → i < length thought → IsUnder k t → AreKnown locals thought ns → AreKnown (set locals i k) (set thought i t) ns
  known_set locals thought [] i k t lt lt_t u known = tt
  known_set locals thought (n ∷ ns) i k t lt lt_t u known = (
    subst (λ m. n.local < m) (sym (length-set locals i k)) known.0,
    set_one locals thought i n.local k t lt lt_t u known.1 (n.local == i) refl,
    known_set locals thought ns i k t lt lt_t u known.2,
  )

  pub known_more : (locals thought : List Kind) (ns : List NamedLocal) (n : NamedLocal) → AreKnown locals thought ns → n.local < length locals → IsUnder (kind_at locals n.local) (kind_at thought n.local) → AreKnown locals thought (ns ++ n ∷ [])
  known_more locals thought [] n known lt u = (lt, u, tt)
  known_more locals thought (m ∷ ms) n known lt u = (known.0, known.1, known_more locals thought ms n known.2 lt u)

  -- a name's local
  abbrev local_among : List ℕ → List NamedLocal → Option ℕ
  local_among name ns = option_map (λ n. n.local) (find (λ n. bytes_eq n.name name) ns)

  pub known_named : (locals thought : List Kind) (name : List ℕ) (local : ℕ) (ns : List NamedLocal) → AreKnown locals thought ns → local_among name ns ≡ Some local → (local < length locals) × IsUnder (kind_at locals local) (kind_at thought local)
  known_named locals thought name local [] known h = absurd cc
  known_named locals thought name local (n ∷ ns) known h = by_name (known_named locals thought name local ns known.2) (bytes_eq n.name name) h
    where
      by_name : (local_among name ns ≡ Some local → (local < length locals) × IsUnder (kind_at locals local) (kind_at thought local)) → (b : Bool) → option_map (λ n. n.local) (cond b (Some n) (find (λ n. bytes_eq n.name name) ns)) ≡ Some local → (local < length locals) × IsUnder (kind_at locals local) (kind_at thought local)
      by_name more true h = subst (λ l. (l < length locals) × IsUnder (kind_at locals l) (kind_at thought l)) (let e : n.local ≡ local = cc in e) (known.0, known.1)
      by_name more false h = more h

  -- a local that was set
  pub set_here : (locals thought : List Kind) (i : ℕ) (k t : Kind) → i < length locals → i < length thought → IsUnder k t → IsUnder (kind_at (set locals i k) i) (kind_at (set thought i t) i)
  set_here locals thought i k t lt lt_t u =
      let here : (ks : List Kind) (x : Kind) → i < length ks → kind_at (set ks i x) i ≡ x = λ ks x low. at_is (set ks i x) i ∙ get_or-set_same ks i x Any low in
      subst (λ x. IsUnder x (kind_at (set thought i t) i)) (sym (here locals k lt)) (subst (IsUnder k) (sym (here thought t lt_t)) u)

  -- a unit was deleted
  pub known_struck : (locals thought : List Kind) (ns : List NamedLocal) (b c : ℕ) → descends s b c ≡ true → AreKnown locals thought ns → AreKnown (map (struck s b) locals) (map (struck s c) thought) ns
  known_struck locals thought [] b c below known = tt
  known_struck locals thought (n ∷ ns) b c below known = (
    subst (λ m. n.local < m) (sym (length-map locals (struck s b))) known.0,
    subst (λ x. IsUnder x (kind_at (map (struck s c) thought) n.local)) (sym (struck_at s b locals n.local))
        (subst (IsUnder (struck s b (kind_at locals n.local))) (sym (struck_at s c thought n.local)) (under_struck b c below (kind_at locals n.local) (kind_at thought n.local) known.1)),
    known_struck locals thought ns b c below known.2,
  )
