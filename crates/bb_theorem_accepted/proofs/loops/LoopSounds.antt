-- What is sound before a `for` is so at its head, and where its body begins.
use Rattle.std.proofs.Common.{◌≡◌, ◌⊎◌, inl, inr, ℕ, suc, ◌+◌, ◌<◌, ◌≤◌, Bool, true, false, List, [], ◌∷◌, length, Option, Some, None, refl, subst, sym, ap, ◌∙◌, arith}
use Rattle.std.specs.Prelude.{set, max, position, slice_get}
use Rattle.std.proofs.Math.Nat.{le-max_left, le-max_right}
use Rattle.std.proofs.lemmas.Bool.{lt-ltb}
use Rattle.bb_basis.proofs.PositionLemmas.{position_within}
use Rattle.bb_schema.specs.Schema.{Schema}
use Rattle.bb_schema.specs.Fits as schemas
use Rattle.bb_code.specs.declared.frame.Kind.{Kind}
use Rattle.bb_code.specs.declared.frame.Kind.TheVariants as kinds
use Rattle.bb_compile_scope.specs.Kinds.{class_of, is_live}
use Rattle.bb_compile_scope.specs.LocalKinds.{is_free, kind_at}
use Rattle.bb_compile_scope.specs.declared.scope.NamedLocal.{NamedLocal}
use Rattle.bb_compile_scope.proofs.Laws.{at_same, at_other}
use Rattle.bb_compile_buffer.specs.declared.buffer.Buffer.{Buffer}
use Rattle.bb_theorem_accepted.proofs.kinds.KnowLemmas.{aged, Agree, is_sequence, sequence_aged, taken_on, HasLocal, AllTaken, IsKept, Knows, kept_aged}
use Rattle.bb_theorem_accepted.proofs.kinds.ValueLemmas.{IsFit}
use Rattle.bb_theorem_accepted.proofs.kinds.MoveLemmas.{Tidy, Sole, sole_agree, one_or_other, good_unit, taken_agree}
use Rattle.bb_theorem_accepted.proofs.sparing.ScopeLemmas.{Levels}
use Rattle.bb_theorem_accepted.proofs.sparing.SpareLemmas.{aged_class}
use Rattle.bb_theorem_accepted.proofs.sparing.ForActs.{AreNamed}

-- ---- kinds that are the same but for units that may be deleted

aged_plain : (k : Kind) → class_of k ≡ None → aged k ≡ k
aged_plain (kinds.Ref c) none = absurd cc
aged_plain (kinds.Old c) none = refl
aged_plain kinds.Any none = refl
aged_plain kinds.Int none = refl
aged_plain kinds.Text none = refl
aged_plain kinds.Bool none = refl
aged_plain (kinds.Label set) none = refl
aged_plain kinds.Interval none = refl
aged_plain (kinds.Seq c) none = refl

unit_is : (k : Kind) (class : ℕ) → class_of k ≡ Some class → (k ≡ kinds.Ref class) ⊎ (k ≡ kinds.Old class)
unit_is (kinds.Ref c) class of = inl (ap kinds.Ref (let e : c ≡ class = cc in e))
unit_is (kinds.Old c) class of = inr (ap kinds.Old (let e : c ≡ class = cc in e))
unit_is kinds.Any class of = absurd cc
unit_is kinds.Int class of = absurd cc
unit_is kinds.Text class of = absurd cc
unit_is kinds.Bool class of = absurd cc
unit_is (kinds.Label set) class of = absurd cc
unit_is kinds.Interval class of = absurd cc
unit_is (kinds.Seq c) class of = absurd cc

class_same : (k l : Kind) → aged k ≡ aged l → class_of k ≡ class_of l
class_same k l same = sym (aged_class k) ∙ (ap class_of same ∙ aged_class l)

-- two live units of one class
pub live_same : (k l : Kind) → is_live k ≡ true → is_live l ≡ true → aged k ≡ aged l → k ≡ l
live_same (kinds.Ref c) (kinds.Ref d) one other same = ap kinds.Ref (let e : c ≡ d = (let o : kinds.Old c ≡ kinds.Old d = same in cc) in e)
live_same (kinds.Ref c) _ one other same = absurd cc
live_same _ l one other same = absurd cc

module _ (s : Schema) (sf : schemas.Fits s) where
  pub fit_aged : (k l : Kind) → aged k ≡ aged l → IsFit s sf k → IsFit s sf l
  fit_aged k l same fit = by_class (class_of l) refl
    where
      by_unit : (c : ℕ) → class_of k ≡ Some c → (l ≡ kinds.Ref c) ⊎ (l ≡ kinds.Old c) → IsFit s sf l
      by_unit c of (inl e) = subst (IsFit s sf) (sym e) (good_unit s sf k c of fit).0
      by_unit c of (inr e) = subst (IsFit s sf) (sym e) (good_unit s sf k c of fit).1

      by_class : (o : Option ℕ) → class_of l ≡ o → IsFit s sf l
      by_class None none = subst (IsFit s sf) (sym (aged_plain k (class_same k l same ∙ none)) ∙ (same ∙ aged_plain l none)) fit
      by_class (Some c) of = by_unit c (class_same k l same ∙ of) (unit_is l c of)

  -- the names and free locals of another buffer
  pub level_tidy : (a b : Buffer) → Levels a.scope b.scope → a.locals ≤ b.locals → Tidy s sf a → Tidy s sf b
  level_tidy a b l le tidy = record {
    good = λ i taken. let was = sym (l.free i) ∙ taken in fit_aged (kind_at a.scope.kinds i) (kind_at b.scope.kinds i) (l.agree i was) (tidy.good i was);
    named = λ i taken value.
        let was = sym (l.free i) ∙ taken in
        subst (HasLocal s sf i) (sym l.names) (tidy.named i was (sym (sequence_aged (kind_at a.scope.kinds i)) ∙ (ap is_sequence (l.agree i was) ∙ (sequence_aged (kind_at b.scope.kinds i) ∙ value))));
    taken = subst (AllTaken s sf b.scope.kinds) (sym l.names) (taken_agree s sf a.scope.kinds b.scope.kinds a.scope.names l.agree tidy.taken);
    low = λ i taken. let was = tidy.low i (sym (l.free i) ∙ taken) in omega (arith, was, le);
    sole = subst (Sole b.scope.kinds) (sym l.names) (sole_agree a.scope.kinds b.scope.kinds a.scope.names l.agree tidy.sole);
  }

  -- what is known where all is known that is live
  pub knows_weaker : (locals ks ls : List Kind) → ((i : ℕ) → is_free (kind_at ls i) ≡ false → aged (kind_at ks i) ≡ aged (kind_at ls i)) → ((i : ℕ) → is_live (kind_at ls i) ≡ true → is_live (kind_at ks i) ≡ true) → Knows s sf locals ks → Knows s sf locals ls
  knows_weaker locals ks ls same live knows i taken = by_live (is_live (kind_at ls i)) refl
    where
      own : IsKept s sf (kind_at locals i) (kind_at ks i)
      own = knows i (taken_on (kind_at ls i) (kind_at ks i) (sym (same i taken)) taken)

      by_live : (b : Bool) → is_live (kind_at ls i) ≡ b → IsKept s sf (kind_at locals i) (kind_at ls i)
      by_live true is = subst (IsKept s sf (kind_at locals i)) (live_same (kind_at ks i) (kind_at ls i) (live i is) is (same i taken)) own
      by_live false is = kept_aged s sf (kind_at locals i) (kind_at ks i) (kind_at ls i) is own (same i taken)

  -- units that are live are those of names
  local_name : (i : ℕ) (ns : List NamedLocal) → HasLocal s sf i ns → (j : ℕ) × (n : NamedLocal) × (slice_get ns j ≡ Some n) × (n.local ≡ i)
  local_name i [] has = absurd has
  local_name i (n ∷ ns) (inl e) = (0, n, refl, e)
  local_name i (n ∷ ns) (inr has) = let x = local_name i ns has in (suc x.0, x.1, x.2, x.3)

  live_value : (k : Kind) → is_live k ≡ true → (is_free k ≡ false) × (is_sequence k ≡ false)
  live_value (kinds.Ref c) live = (refl, refl)
  live_value _ live = absurd cc

  pub are_named : (t : Buffer) → Tidy s sf t → AreNamed t.scope
  are_named t tidy i live = let v = live_value (kind_at t.scope.kinds i) live in local_name i t.scope.names (tidy.named i v.0 v.1)

  -- a local holds a sequence
  pub held_tidy : (a b : Buffer) (local class : ℕ) → position is_free a.scope.kinds ≡ Some local → class < length s.classes → b.scope.names ≡ a.scope.names → b.scope.kinds ≡ set a.scope.kinds local (kinds.Seq class) → b.locals ≡ max a.locals (local + 1) → Agree a.scope.kinds b.scope.kinds → Tidy s sf a → Tidy s sf b
  held_tidy a b local class free lt names kinds_are locals agree tidy = record {
    good = λ i taken. by_local i (one_or_other i local) (λ e. subst (IsFit s sf) (sym (here i e)) seq_fit) (λ apart. subst (IsFit s sf) (sym (there i apart)) (tidy.good i (ap is_free (sym (there i apart)) ∙ taken)));
    named = λ i taken value.
        subst (HasLocal s sf i) (sym names)
        (by_local i (one_or_other i local) (λ e. absurd (let no : true ≡ false = sym (ap is_sequence (here i e)) ∙ value in cc)) (λ apart. tidy.named i (ap is_free (sym (there i apart)) ∙ taken) (ap is_sequence (sym (there i apart)) ∙ value)));
    taken = subst (AllTaken s sf b.scope.kinds) (sym names) (taken_agree s sf a.scope.kinds b.scope.kinds a.scope.names agree tidy.taken);
    sole = subst (Sole b.scope.kinds) (sym names) (sole_agree a.scope.kinds b.scope.kinds a.scope.names agree tidy.sole);
    low = λ i taken.
        subst (λ n. i < n) (sym locals)
        (by_local i (one_or_other i local) (λ e. let high = le-max_right a.locals (local + 1) in omega (arith, e, high)) (λ apart. let was = tidy.low i (ap is_free (sym (there i apart)) ∙ taken) in let high = le-max_left a.locals (local + 1) in omega (arith, was, high)));
  }
    where
      seq_fit : IsFit s sf (kinds.Seq class)
      seq_fit = (rw (lt-ltb class (length s.classes) lt) refl, refl)

      here : (i : ℕ) → i ≡ local → kind_at b.scope.kinds i ≡ kinds.Seq class
      here i e = ap (λ ks. kind_at ks i) kinds_are ∙ (ap (kind_at (set a.scope.kinds local (kinds.Seq class))) e ∙ at_same a.scope.kinds local (kinds.Seq class) (position_within is_free a.scope.kinds local free))

      there : (i : ℕ) → (i ≡ local → ⊥) → kind_at b.scope.kinds i ≡ kind_at a.scope.kinds i
      there i apart = ap (λ ks. kind_at ks i) kinds_are ∙ at_other a.scope.kinds local i (kinds.Seq class) apart

      by_local : {P : Type 0} (i : ℕ) → ((i ≡ local) ⊎ (i ≡ local → ⊥)) → (i ≡ local → P) → ((i ≡ local → ⊥) → P) → P
      by_local i (inl e) there_is other = there_is e
      by_local i (inr apart) there_is other = other apart
