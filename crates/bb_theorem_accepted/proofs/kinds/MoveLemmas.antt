-- What statements without blocks do to a scope: it stays tidy, and each local that is taken stays of its kind.
use Rattle.std.proofs.Common.{◌≡◌, ◌⊎◌, inl, inr, ℕ, ◌+◌, ◌<◌, ◌≤◌, Bool, true, false, cond, List, [], ◌∷◌, ◌++◌, length, map, Option, Some, None, Ok, refl, subst, sym, ap, ◌∙◌, arith, append_assoc}
use Rattle.std.specs.Prelude.{set, max, position, option_and_then, ◌==◌}
use Rattle.std.proofs.Math.Nat.{le-max_left, le-max_right}
use Rattle.std.proofs.lemmas.Bool.{eqb-true, eq-eqb}
use Rattle.std.proofs.lemmas.List.{append-nil, length-set}
use Rattle.bb_basis.proofs.PositionLemmas.{position_within}
use Rattle.bb_schema.specs.Schema.{Schema, descends}
use Rattle.bb_schema.specs.Ownership.{strikes}
use Rattle.bb_schema.specs.Fits as schemas
use Rattle.bb_code.specs.declared.frame.Kind.{Kind}
use Rattle.bb_code.specs.declared.frame.Kind.TheVariants as kinds
use Rattle.bb_verify_effect.specs.Kinds.{is_same_plain, struck}
use Rattle.bb_compile_scope.specs.LocalKinds.{is_free, kind_at}
use Rattle.bb_compile_scope.specs.declared.scope.NamedLocal.{NamedLocal}
use Rattle.bb_compile_scope.specs.declared.scope.Scope.{Scope}
use Rattle.bb_compile_buffer.specs.declared.buffer.Buffer.{Buffer}
use Rattle.bb_compile_scope.specs.Kinds.{class_of, is_live, unit_of, assigned_unit, assigned}
use Rattle.bb_compile_scope.proofs.Laws.{taken_within, at_same, at_other, free_first, struck_at}
use Rattle.bb_verify.specs.Tables.{known_kind}
use Rattle.bb_theorem_accepted.proofs.kinds.UnderLemmas.{descends_same}
use Rattle.bb_theorem_accepted.proofs.kinds.KnowLemmas.{HasLocal, AllTaken, Agree, aged, is_sequence, sequence_aged, under_value, taken_on, agree_on}
use Rattle.bb_theorem_accepted.proofs.kinds.ValueLemmas.{IsGood, IsFit, good_fits}

pub one_or_other : (j i : ℕ) → (j ≡ i) ⊎ (j ≡ i → ⊥)
one_or_other j i = by_test (j == i) refl
  where
    by_test : (b : Bool) → (j == i) ≡ b → (j ≡ i) ⊎ (j ≡ i → ⊥)
    by_test true h = inl (eqb-true j i h)
    by_test false h = inr (λ e. absurd (let no : true ≡ false = sym (eq-eqb j i e) ∙ h in cc))

pub last_some : {A : Type 0} (xs : List A) (x : A) → 1 ≤ length (xs ++ x ∷ [])
last_some [] x = omega arith
last_some (y ∷ ys) x = omega arith

-- ---- kinds

pub struck_aged : (s : Schema) (c : ℕ) (k : Kind) → aged (struck s c k) ≡ aged k
unfolding struck
struck_aged s c (kinds.Ref d) = by_strike (strikes s c d)
  where
    by_strike : (b : Bool) → aged (cond b (kinds.Old d) (kinds.Ref d)) ≡ kinds.Old d
    by_strike true = refl
    by_strike false = refl
struck_aged s c kinds.Any = refl
struck_aged s c kinds.Int = refl
struck_aged s c kinds.Text = refl
struck_aged s c kinds.Bool = refl
struck_aged s c (kinds.Label set) = refl
struck_aged s c kinds.Interval = refl
struck_aged s c (kinds.Old d) = refl
struck_aged s c (kinds.Seq d) = refl

-- what a name holds once a value is assigned to it: what it held, or a unit of its class
abbrev pub IsAssigned : (held now : Kind) → Type 0
IsAssigned held now = (held ≡ now) ⊎ ((class : ℕ) × (class_of held ≡ Some class) × ((now ≡ kinds.Ref class) ⊎ (now ≡ kinds.Old class)))

pub assigned_as : (s : Schema) (held value now : Kind) → assigned s held value ≡ Some now → IsAssigned held now
unfolding assigned assigned_unit
assigned_as s held value now h = by_plain (is_same_plain held value) h
  where
    by_live : (class : ℕ) (live : Bool) → unit_of live class ≡ now → (now ≡ kinds.Ref class) ⊎ (now ≡ kinds.Old class)
    by_live class true e = inl (sym e)
    by_live class false e = inr (sym e)

    by_descent : (class : ℕ) (d : Bool) → class_of held ≡ Some class → cond d (Some (unit_of (is_live value) class)) None ≡ Some now → IsAssigned held now
    by_descent class true of h = inr (class, of, by_live class (is_live value) (let e : unit_of (is_live value) class ≡ now = cc in e))
    by_descent class false of h = absurd cc

    by_other : (class : ℕ) (o : Option ℕ) → class_of held ≡ Some class → option_and_then (λ other. cond (descends s other class) (Some (unit_of (is_live value) class)) None) o ≡ Some now → IsAssigned held now
    by_other class None of h = absurd cc
    by_other class (Some other) of h = by_descent class (descends s other class) of h

    by_class : (o : Option ℕ) → class_of held ≡ o → option_and_then (λ class. option_and_then (λ other. cond (descends s other class) (Some (unit_of (is_live value) class)) None) (class_of value)) o ≡ Some now → IsAssigned held now
    by_class None of h = absurd cc
    by_class (Some class) of h = by_other class (class_of value) of h

    by_plain : (b : Bool) → cond b (Some held) (option_and_then (λ class. option_and_then (λ other. cond (descends s other class) (Some (unit_of (is_live value) class)) None) (class_of value)) (class_of held)) ≡ Some now → IsAssigned held now
    by_plain true h = inl cc
    by_plain false h = by_class (class_of held) refl h

pub unit_aged : (k : Kind) (class : ℕ) → class_of k ≡ Some class → aged k ≡ kinds.Old class
unit_aged (kinds.Ref d) class h = ap kinds.Old (let e : d ≡ class = cc in e)
unit_aged (kinds.Old d) class h = ap kinds.Old (let e : d ≡ class = cc in e)
unit_aged kinds.Any class h = absurd cc
unit_aged kinds.Int class h = absurd cc
unit_aged kinds.Text class h = absurd cc
unit_aged kinds.Bool class h = absurd cc
unit_aged (kinds.Label set) class h = absurd cc
unit_aged kinds.Interval class h = absurd cc
unit_aged (kinds.Seq d) class h = absurd cc

pub assigned_aged : (held now : Kind) → IsAssigned held now → aged held ≡ aged now
assigned_aged held now (inl e) = ap aged e
assigned_aged held now (inr (class, of, inl e)) = unit_aged held class of ∙ sym (ap aged e)
assigned_aged held now (inr (class, of, inr e)) = unit_aged held class of ∙ sym (ap aged e)

-- and holds a value as it did
value_on : (k l : Kind) → aged k ≡ aged l → is_sequence k ≡ false → is_sequence l ≡ false
value_on k l same value = sym (sequence_aged l) ∙ (ap is_sequence (sym same) ∙ (sequence_aged k ∙ value))

-- ---- names of locals that are taken, no two of one local

abbrev pub Apart : ℕ → List NamedLocal → Type 0
Apart local [] = Unit {0}
Apart local (n ∷ ns) = (n.local ≡ local → ⊥) × Apart local ns

abbrev pub Sole : List Kind → List NamedLocal → Type 0
Sole ks [] = Unit {0}
Sole ks (n ∷ ns) = (is_free (kind_at ks n.local) ≡ false) × Apart n.local ns × Sole ks ns

pub sole_agree : (ks ls : List Kind) (ns : List NamedLocal) → Agree ks ls → Sole ks ns → Sole ls ns
sole_agree ks ls [] agree sole = tt
sole_agree ks ls (n ∷ ns) agree sole = (taken_on (kind_at ks n.local) (kind_at ls n.local) (agree n.local sole.0) sole.0, sole.1, sole_agree ks ls ns agree sole.2)

apart_more : (local : ℕ) (ns : List NamedLocal) (n : NamedLocal) → Apart local ns → (n.local ≡ local → ⊥) → Apart local (ns ++ n ∷ [])
apart_more local [] n apart other = (other, tt)
apart_more local (m ∷ ms) n apart other = (apart.0, apart_more local ms n apart.1 other)

-- one more name, for a local that was free
pub sole_more : (ks ls : List Kind) (ns : List NamedLocal) (n : NamedLocal) → Agree ks ls → is_free (kind_at ks n.local) ≡ true → is_free (kind_at ls n.local) ≡ false → Sole ks ns → Sole ls (ns ++ n ∷ [])
sole_more ks ls [] n agree free held sole = (held, tt, tt)
sole_more ks ls (m ∷ ms) n agree free held sole = (
  taken_on (kind_at ks m.local) (kind_at ls m.local) (agree m.local sole.0) sole.0,
  apart_more m.local ms n sole.1 (λ e. absurd (let no : true ≡ false = sym free ∙ (ap (λ i. is_free (kind_at ks i)) e ∙ sole.0) in cc)),
  sole_more ks ls ms n agree free held sole.2,
)

module _ (s : Schema) (sf : schemas.Fits s) where
  -- the locals that are taken are those of names, or hold sequences, and are known
  pub record Tidy (t : Buffer) : Type 0 where
    pub good : (i : ℕ) → is_free (kind_at t.scope.kinds i) ≡ false → IsFit s sf (kind_at t.scope.kinds i)
    pub named : (i : ℕ) → is_free (kind_at t.scope.kinds i) ≡ false → is_sequence (kind_at t.scope.kinds i) ≡ false → HasLocal s sf i t.scope.names
    pub taken : AllTaken s sf t.scope.kinds t.scope.names
    pub low : (i : ℕ) → is_free (kind_at t.scope.kinds i) ≡ false → i < t.locals
    pub sole : Sole t.scope.kinds t.scope.names

  pub record Moves (t u : Buffer) : Type 0 where
    pub more : List NamedLocal
    pub names : u.scope.names ≡ t.scope.names ++ more
    pub agree : Tidy t → Agree t.scope.kinds u.scope.kinds
    pub tidy : Tidy t → Tidy u

  pub moves_same : (t u : Buffer) → u.scope ≡ t.scope → u.locals ≡ t.locals → Moves t u
  moves_same t u scope locals = record {
    more = [];
    names = ap (λ (c : Scope). c.names) scope ∙ sym (append-nil t.scope.names);
    agree = λ tidy i taken. ap (λ (c : Scope). aged (kind_at c.kinds i)) (sym scope);
    tidy = λ tidy. tidy_as t u scope locals tidy;
  }
    where
      tidy_as : (t u : Buffer) → u.scope ≡ t.scope → u.locals ≡ t.locals → Tidy t → Tidy u
      tidy_as t u scope locals tidy = record {
        good = λ i taken. subst (λ (c : Scope). IsFit s sf (kind_at c.kinds i)) (sym scope) (tidy.good i (ap (λ (c : Scope). is_free (kind_at c.kinds i)) (sym scope) ∙ taken));
        named = λ i taken value. subst (λ (c : Scope). HasLocal s sf i c.names) (sym scope) (tidy.named i (ap (λ (c : Scope). is_free (kind_at c.kinds i)) (sym scope) ∙ taken) (ap (λ (c : Scope). is_sequence (kind_at c.kinds i)) (sym scope) ∙ value));
        taken = subst (λ (c : Scope). AllTaken s sf c.kinds c.names) (sym scope) tidy.taken;
        low = λ i taken. subst (λ n. i < n) (sym locals) (tidy.low i (ap (λ (c : Scope). is_free (kind_at c.kinds i)) (sym scope) ∙ taken));
        sole = subst (λ (c : Scope). Sole c.kinds c.names) (sym scope) tidy.sole;
      }

  pub moves_on : (t u w : Buffer) → Moves t u → Moves u w → Moves t w
  moves_on t u w first then = record {
    more = first.more ++ then.more;
    names = then.names ∙ (ap (λ l. l ++ then.more) first.names ∙ append_assoc t.scope.names first.more then.more);
    agree = λ tidy. agree_on t.scope.kinds u.scope.kinds w.scope.kinds (first.agree tidy) (then.agree (first.tidy tidy));
    tidy = λ tidy. then.tidy (first.tidy tidy);
  }

  -- ---- names

  has_before : (i : ℕ) (ns more : List NamedLocal) → HasLocal s sf i ns → HasLocal s sf i (ns ++ more)
  has_before i [] more has = absurd has
  has_before i (n ∷ ns) more (inl e) = inl e
  has_before i (n ∷ ns) more (inr has) = inr (has_before i ns more has)

  has_last : (ns : List NamedLocal) (n : NamedLocal) → HasLocal s sf n.local (ns ++ n ∷ [])
  has_last [] n = inl refl
  has_last (m ∷ ms) n = inr (has_last ms n)

  taken_more : (ks : List Kind) (ns : List NamedLocal) (n : NamedLocal) → AllTaken s sf ks ns → is_free (kind_at ks n.local) ≡ false → is_sequence (kind_at ks n.local) ≡ false → AllTaken s sf ks (ns ++ n ∷ [])
  taken_more ks [] n taken own value = (own, value, tt)
  taken_more ks (m ∷ ms) n taken own value = (taken.0, taken.1, taken_more ks ms n taken.2 own value)

  pub taken_agree : (ks ls : List Kind) (ns : List NamedLocal) → Agree ks ls → AllTaken s sf ks ns → AllTaken s sf ls ns
  taken_agree ks ls [] agree taken = tt
  taken_agree ks ls (n ∷ ns) agree taken = (taken_on (kind_at ks n.local) (kind_at ls n.local) (agree n.local taken.0) taken.0, value_on (kind_at ks n.local) (kind_at ls n.local) (agree n.local taken.0) taken.1, taken_agree ks ls ns agree taken.2)

  -- a kind that is good is no free one
  good_taken : (k : Kind) → IsGood s sf k → is_free k ≡ false
  good_taken kinds.Any good = absurd good.1
  good_taken (kinds.Seq c) good = refl
  good_taken _ good = refl

  -- ---- a name is declared

  module _ (t u : Buffer) (name : List ℕ) (local : ℕ) (kind : Kind) (free : position is_free t.scope.kinds ≡ Some local) (own : Tidy t → IsGood s sf kind)
      (names : u.scope.names ≡ t.scope.names ++ record { name = name; local = local } ∷ []) (kinds_are : u.scope.kinds ≡ set (set t.scope.kinds local kind) local kind) (locals : u.locals ≡ max t.locals (local + 1)) where
    local_within : local < length t.scope.kinds
    local_within = position_within is_free t.scope.kinds local free

    kind_of_local : kind_at u.scope.kinds local ≡ kind
    kind_of_local = ap (λ ks. kind_at ks local) kinds_are ∙ at_same (set t.scope.kinds local kind) local kind (let lt = local_within in let count : length (set t.scope.kinds local kind) ≡ length t.scope.kinds = length-set t.scope.kinds local kind in omega (arith, lt, count))

    kind_of_other : (i : ℕ) → (i ≡ local → ⊥) → kind_at u.scope.kinds i ≡ kind_at t.scope.kinds i
    kind_of_other i apart = ap (λ ks. kind_at ks i) kinds_are ∙ (at_other (set t.scope.kinds local kind) local i kind apart ∙ at_other t.scope.kinds local i kind apart)

    agrees : Agree t.scope.kinds u.scope.kinds
    agrees i taken = ap aged (sym (kind_of_other i (λ e. absurd (let no : true ≡ false = sym (free_first t.scope.kinds local free) ∙ (ap (λ j. is_free (kind_at t.scope.kinds j)) (sym e) ∙ taken) in cc))))

    pub declared_moves : Moves t u
    declared_moves = record {
      more = record { name = name; local = local } ∷ [];
      names = names;
      agree = λ tidy. agrees;
      tidy = λ tidy. record {
        good = λ i taken. by_local i (one_or_other i local) (λ e. subst (IsFit s sf) (sym (ap (kind_at u.scope.kinds) e ∙ kind_of_local)) (good_fits s sf kind (own tidy))) (λ apart. subst (IsFit s sf) (sym (kind_of_other i apart)) (tidy.good i (ap is_free (sym (kind_of_other i apart)) ∙ taken)));
        named = λ i taken value.
            subst (HasLocal s sf i) (sym names)
            (by_local i (one_or_other i local) (λ e. subst (λ j. HasLocal s sf j (t.scope.names ++ record { name = name; local = local } ∷ [])) (sym e) (has_last t.scope.names (record { name = name; local = local })))
            (λ apart. has_before i t.scope.names (record { name = name; local = local } ∷ []) (tidy.named i (ap is_free (sym (kind_of_other i apart)) ∙ taken) (ap is_sequence (sym (kind_of_other i apart)) ∙ value))));
        taken =
            subst (AllTaken s sf u.scope.kinds) (sym names)
            (taken_more u.scope.kinds t.scope.names (record { name = name; local = local }) (taken_agree t.scope.kinds u.scope.kinds t.scope.names agrees tidy.taken) (ap is_free kind_of_local ∙ good_taken kind (own tidy)) (ap is_sequence kind_of_local ∙ under_value s sf kind kind (own tidy).1));
        sole =
            subst (Sole u.scope.kinds) (sym names)
            (sole_more t.scope.kinds u.scope.kinds t.scope.names (record { name = name; local = local }) agrees (free_first t.scope.kinds local free) (ap is_free kind_of_local ∙ good_taken kind (own tidy)) tidy.sole);
        low = λ i taken.
            subst (λ n. i < n) (sym locals)
            (by_local i (one_or_other i local) (λ e. let high = le-max_right t.locals (local + 1) in omega (arith, e, high))
            (λ apart. let was = tidy.low i (ap is_free (sym (kind_of_other i apart)) ∙ taken) in let high = le-max_left t.locals (local + 1) in omega (arith, was, high)));
      };
    }
      where
        by_local : {P : Type 0} (i : ℕ) → ((i ≡ local) ⊎ (i ≡ local → ⊥)) → (i ≡ local → P) → ((i ≡ local → ⊥) → P) → P
        by_local i (inl e) there_is other = there_is e
        by_local i (inr apart) there_is other = other apart

  -- ---- a name gets another value, or units may be deleted

  -- the same names, and kinds that agree and are good
  pub kept_moves : (t u : Buffer) → u.scope.names ≡ t.scope.names → t.locals ≤ u.locals → (Tidy t → Agree t.scope.kinds u.scope.kinds) → (Tidy t → (i : ℕ) → is_free (kind_at u.scope.kinds i) ≡ false → (is_free (kind_at t.scope.kinds i) ≡ false) × IsFit s sf (kind_at u.scope.kinds i)) → Moves t u
  kept_moves t u names locals agree back = record {
    more = [];
    names = names ∙ sym (append-nil t.scope.names);
    agree = agree;
    tidy = λ tidy. record {
      good = λ i taken. (back tidy i taken).1;
      named = λ i taken value. subst (HasLocal s sf i) (sym names) (tidy.named i (back tidy i taken).0 (value_on (kind_at u.scope.kinds i) (kind_at t.scope.kinds i) (sym (agree tidy i (back tidy i taken).0)) value));
      taken = subst (AllTaken s sf u.scope.kinds) (sym names) (taken_agree t.scope.kinds u.scope.kinds t.scope.names (agree tidy) tidy.taken);
      low = λ i taken. let was = tidy.low i (back tidy i taken).0 in omega (arith, was, locals);
      sole = subst (Sole u.scope.kinds) (sym names) (sole_agree t.scope.kinds u.scope.kinds t.scope.names (agree tidy) tidy.sole);
    };
  }

  -- a unit of the class of a good one is good
  pub good_unit : (k : Kind) (class : ℕ) → class_of k ≡ Some class → IsFit s sf k → IsFit s sf (kinds.Ref class) × IsFit s sf (kinds.Old class)
  good_unit k class of good = by_known (known_unit k class of good.0)
    where
      known_unit : (k : Kind) (class : ℕ) → class_of k ≡ Some class → known_kind s k ≡ Ok tt → known_kind s (kinds.Ref class) ≡ Ok tt
      known_unit (kinds.Ref d) class of h = subst (λ c. known_kind s (kinds.Ref c) ≡ Ok tt) (let e : d ≡ class = cc in e) h
      known_unit (kinds.Old d) class of h = subst (λ c. known_kind s (kinds.Ref c) ≡ Ok tt) (let e : d ≡ class = cc in e) h
      known_unit kinds.Any class of h = absurd cc
      known_unit kinds.Int class of h = absurd cc
      known_unit kinds.Text class of h = absurd cc
      known_unit kinds.Bool class of h = absurd cc
      known_unit (kinds.Label set) class of h = absurd cc
      known_unit kinds.Interval class of h = absurd cc
      known_unit (kinds.Seq d) class of h = absurd cc

      by_known : known_kind s (kinds.Ref class) ≡ Ok tt → IsFit s sf (kinds.Ref class) × IsFit s sf (kinds.Old class)
      by_known known = ((known, (class, refl, descends_same s sf class)), (known, (class, inr refl, descends_same s sf class)))

  assigned_good : (held now : Kind) → IsAssigned held now → IsFit s sf held → IsFit s sf now
  assigned_good held now (inl e) good = subst (IsFit s sf) e good
  assigned_good held now (inr (class, of, inl e)) good = subst (IsFit s sf) (sym e) (good_unit held class of good).0
  assigned_good held now (inr (class, of, inr e)) good = subst (IsFit s sf) (sym e) (good_unit held class of good).1

  pub assigned_moves : (t u : Buffer) (local : ℕ) (value now : Kind) → u.scope.names ≡ t.scope.names → u.scope.kinds ≡ set t.scope.kinds local now → u.locals ≡ t.locals → (Tidy t → is_free (kind_at t.scope.kinds local) ≡ false) → assigned s (kind_at t.scope.kinds local) value ≡ Some now → Moves t u
  assigned_moves t u local value now names kinds_are locals taken becomes =
      kept_moves t u names (omega (arith, locals))
      (λ tidy i was. by_local i (one_or_other i local) (λ e. ap (λ j. aged (kind_at t.scope.kinds j)) e ∙ (assigned_aged (kind_at t.scope.kinds local) now becomes_so ∙ ap aged (sym (ap (kind_at u.scope.kinds) e ∙ here tidy)))) (λ apart. ap aged (sym (there i apart))))
      (λ tidy i was. by_local i (one_or_other i local)
      (λ e. (ap (λ j. is_free (kind_at t.scope.kinds j)) e ∙ taken tidy, subst (IsFit s sf) (sym (ap (kind_at u.scope.kinds) e ∙ here tidy)) (assigned_good (kind_at t.scope.kinds local) now becomes_so (tidy.good local (taken tidy)))))
      (λ apart. let free = ap is_free (sym (there i apart)) ∙ was in (free, subst (IsFit s sf) (sym (there i apart)) (tidy.good i free))))
    where
      becomes_so : IsAssigned (kind_at t.scope.kinds local) now
      becomes_so = assigned_as s (kind_at t.scope.kinds local) value now becomes

      here : Tidy t → kind_at u.scope.kinds local ≡ now
      here tidy = ap (λ ks. kind_at ks local) kinds_are ∙ at_same t.scope.kinds local now (taken_within t.scope.kinds local (taken tidy))

      there : (i : ℕ) → (i ≡ local → ⊥) → kind_at u.scope.kinds i ≡ kind_at t.scope.kinds i
      there i apart = ap (λ ks. kind_at ks i) kinds_are ∙ at_other t.scope.kinds local i now apart

      by_local : {P : Type 0} (i : ℕ) → ((i ≡ local) ⊎ (i ≡ local → ⊥)) → (i ≡ local → P) → ((i ≡ local → ⊥) → P) → P
      by_local i (inl e) there_is other = there_is e
      by_local i (inr apart) there_is other = other apart

  struck_good : (c : ℕ) (k : Kind) → IsFit s sf k → IsFit s sf (struck s c k)
  unfolding struck
  struck_good c (kinds.Ref d) good = by_strike (strikes s c d)
    where
      by_strike : (b : Bool) → IsFit s sf (cond b (kinds.Old d) (kinds.Ref d))
      by_strike true = (good.0, (d, inr refl, descends_same s sf d))
      by_strike false = good
  struck_good c kinds.Any good = good
  struck_good c kinds.Int good = good
  struck_good c kinds.Text good = good
  struck_good c kinds.Bool good = good
  struck_good c (kinds.Label set) good = good
  struck_good c kinds.Interval good = good
  struck_good c (kinds.Old d) good = good
  struck_good c (kinds.Seq d) good = good

  pub struck_moves : (t u : Buffer) (c : ℕ) → u.scope.names ≡ t.scope.names → u.scope.kinds ≡ map (struck s c) t.scope.kinds → u.locals ≡ t.locals → Moves t u
  struck_moves t u c names kinds_are locals =
      kept_moves t u names (omega (arith, locals)) (λ tidy i was. sym (ap aged (here i) ∙ struck_aged s c (kind_at t.scope.kinds i)))
      (λ tidy i was.
      let free = taken_on (kind_at u.scope.kinds i) (kind_at t.scope.kinds i) (ap aged (here i) ∙ struck_aged s c (kind_at t.scope.kinds i)) was in
      (free, subst (IsFit s sf) (sym (here i)) (struck_good c (kind_at t.scope.kinds i) (tidy.good i free))))
    where
      here : (i : ℕ) → kind_at u.scope.kinds i ≡ struck s c (kind_at t.scope.kinds i)
      here i = ap (λ ks. kind_at ks i) kinds_are ∙ struck_at s c t.scope.kinds i
