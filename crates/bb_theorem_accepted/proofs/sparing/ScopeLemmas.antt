-- What any statement does to a scope: it may add names, for locals that were free, and each local that was taken stays
-- of its kind, but for units that may be deleted. It needs neither frames nor that a code has what was laid out.
use Rattle.std.proofs.Common.{◌≡◌, ◌⊎◌, inl, inr, ℕ, Bool, true, false, cond, List, [], ◌∷◌, ◌++◌, length, Some, subst, sym, ap, ◌∙◌, append_assoc}
use Rattle.std.specs.Prelude.{set, take, position}
use Rattle.std.proofs.Math.Seq.{take-append_seam}
use Rattle.std.proofs.lemmas.List.{append-nil, length-set}
use Rattle.bb_basis.proofs.PositionLemmas.{position_within}
use Rattle.bb_code.specs.declared.frame.Kind.{Kind}
use Rattle.bb_compile_scope.specs.Kinds.{is_live}
use Rattle.bb_compile_scope.specs.LocalKinds.{is_free, kind_at, left_kind, met_kind, kinds_met}
use Rattle.bb_compile_scope.specs.Scope.{mark_of, back_to}
use Rattle.bb_compile_scope.specs.declared.scope.NamedLocal.{NamedLocal}
use Rattle.bb_compile_scope.specs.declared.scope.Scope.{Scope}
use Rattle.bb_compile_scope.proofs.Laws.{at_same, at_other, free_first, frees, frees_same, length_paired, met_free}
use Rattle.bb_theorem_accepted.proofs.kinds.KnowLemmas.{aged, Agree, taken_on, agree_on, agree_left}
use Rattle.bb_theorem_accepted.proofs.kinds.MoveLemmas.{Sole, sole_agree, sole_more}
use Rattle.bb_theorem_accepted.proofs.sparing.FreeLemmas.{left_free, met_is}

-- ---- one scope comes of another

pub record Onto (a b : Scope) : Type 0 where
  pub more : List NamedLocal
  pub names : b.names ≡ a.names ++ more
  pub agree : Agree a.kinds b.kinds
  pub count : length b.kinds ≡ length a.kinds
  pub sole : Sole a.kinds a.names → Sole b.kinds b.names

-- with the same names
pub onto_kept : (a b : Scope) → b.names ≡ a.names → length b.kinds ≡ length a.kinds → Agree a.kinds b.kinds → Onto a b
onto_kept a b names count agree = record {
  more = [];
  names = names ∙ sym (append-nil a.names);
  agree = agree;
  count = count;
  sole = λ sole. subst (Sole b.kinds) (sym names) (sole_agree a.kinds b.kinds a.names agree sole);
}

pub onto_same : (a b : Scope) → b ≡ a → Onto a b
onto_same a b same = onto_kept a b (ap (λ (c : Scope). c.names) same) (ap (λ (c : Scope). length c.kinds) same) (λ i taken. ap (λ (c : Scope). aged (kind_at c.kinds i)) (sym same))

pub onto_on : (a b c : Scope) → Onto a b → Onto b c → Onto a c
onto_on a b c first then = record {
  more = first.more ++ then.more;
  names = then.names ∙ (ap (λ l. l ++ then.more) first.names ∙ append_assoc a.names first.more then.more);
  agree = agree_on a.kinds b.kinds c.kinds first.agree then.agree;
  count = then.count ∙ first.count;
  sole = λ sole. then.sole (first.sole sole);
}

-- a local that was free is taken
pub set_agree : (ks : List Kind) (local : ℕ) (k : Kind) → position is_free ks ≡ Some local → Agree ks (set ks local k)
set_agree ks local k free i taken =
    ap aged (sym (at_other ks local i k (λ e. absurd (let no : true ≡ false = sym (free_first ks local free) ∙ (ap (λ j. is_free (kind_at ks j)) (sym e) ∙ taken) in cc))))

pub onto_declared : (a b : Scope) (name : List ℕ) (local : ℕ) (kind : Kind) → position is_free a.kinds ≡ Some local → is_free kind ≡ false → b.names ≡ a.names ++ record { name = name; local = local } ∷ [] → b.kinds ≡ set a.kinds local kind → Onto a b
onto_declared a b name local kind free held names kinds_are = record {
  more = record { name = name; local = local } ∷ [];
  names = names;
  agree = agree;
  count = ap length kinds_are ∙ length-set a.kinds local kind;
  sole = λ sole.
      subst (Sole b.kinds) (sym names)
      (sole_more a.kinds b.kinds a.names (record { name = name; local = local }) agree (free_first a.kinds local free)
      (ap (λ ks. is_free (kind_at ks local)) kinds_are ∙ (ap is_free (at_same a.kinds local kind (position_within is_free a.kinds local free)) ∙ held)) sole);
}
  where
    agree : Agree a.kinds b.kinds
    agree i taken = set_agree a.kinds local kind free i taken ∙ ap (λ ks. aged (kind_at ks i)) (sym kinds_are)

-- ---- the names and free locals of another scope

pub record Levels (a b : Scope) : Type 0 where
  pub names : b.names ≡ a.names
  pub agree : Agree a.kinds b.kinds
  pub count : length b.kinds ≡ length a.kinds
  pub free : (i : ℕ) → is_free (kind_at b.kinds i) ≡ is_free (kind_at a.kinds i)

pub onto_level : (a b : Scope) → Levels a b → Onto a b
onto_level a b l = onto_kept a b l.names l.count l.agree

pub level_frees : (a b : Scope) → Levels a b → frees b.kinds ≡ frees a.kinds
level_frees a b l = frees_same b.kinds a.kinds l.count l.free

pub level_same : (a b : Scope) → b.names ≡ a.names → b.kinds ≡ a.kinds → Levels a b
level_same a b names kinds_are = record {
  names = names;
  agree = λ i taken. ap (λ ks. aged (kind_at ks i)) (sym kinds_are);
  count = ap length kinds_are;
  free = λ i. ap (λ ks. is_free (kind_at ks i)) kinds_are;
}

pub level_on : (a b c : Scope) → Levels a b → Levels b c → Levels a c
level_on a b c first then = record {
  names = then.names ∙ first.names;
  agree = agree_on a.kinds b.kinds c.kinds first.agree then.agree;
  count = then.count ∙ first.count;
  free = λ i. then.free i ∙ first.free i;
}

-- after a block
pub level_left : (a b : Scope) → Onto a b → Levels a (back_to (mark_of a) b)
level_left a b o = record {
  names = ap (take (length a.names)) o.names ∙ take-append_seam a.names o.more;
  agree = agree_left a.kinds b.kinds o.agree;
  count = length_paired left_kind a.kinds b.kinds (sym o.count);
  free = λ i. left_free a.kinds b.kinds i (λ taken. taken_on (kind_at a.kinds i) (kind_at b.kinds i) (o.agree i taken) taken);
}

-- after a block whose names are forgotten, and then those before it
pub level_twice : (a b c : Scope) → Onto a b → Onto b c → Levels a (back_to (mark_of a) (back_to (mark_of b) c))
level_twice a b c first then =
    let inner = back_to (mark_of b) c in
    level_left a inner (onto_on a b inner first (onto_level b inner (level_left b c then)))

-- ---- after branches

-- what locals hold after one of two branches, or where both meet
abbrev pub Mixed : (one other now : List Kind) → Type 0
Mixed one other now = (now ≡ one) ⊎ ((now ≡ other) ⊎ (now ≡ kinds_met one other))

met_aged : (k l m : Kind) → aged m ≡ aged k → aged m ≡ aged l → aged m ≡ aged (met_kind k l)
met_aged k l m one other = by_live (is_live l)
  where
    by_live : (live : Bool) → aged m ≡ aged (cond live k l)
    by_live true = one
    by_live false = other

pub level_mixed : (a b c t : Scope) → Levels a b → Levels a c → t.names ≡ a.names → Mixed b.kinds c.kinds t.kinds → Levels a t
level_mixed a b c t one other names (inl e) = level_on a b t one (level_same b t (names ∙ sym one.names) e)
level_mixed a b c t one other names (inr (inl e)) = level_on a c t other (level_same c t (names ∙ sym other.names) e)
level_mixed a b c t one other names (inr (inr e)) =
    let same : length b.kinds ≡ length c.kinds = one.count ∙ sym other.count in
    record {
      names = names;
      agree = λ i taken. met_aged (kind_at b.kinds i) (kind_at c.kinds i) (kind_at a.kinds i) (one.agree i taken) (other.agree i taken) ∙ ap aged (sym (ap (λ ks. kind_at ks i) e ∙ met_is b.kinds c.kinds i same));
      count = ap length e ∙ (length_paired met_kind b.kinds c.kinds same ∙ one.count);
      free = λ i. ap (λ ks. is_free (kind_at ks i)) e ∙ (ap is_free (met_is b.kinds c.kinds i same) ∙ met_free (kind_at b.kinds i) (kind_at c.kinds i) (is_free (kind_at a.kinds i)) (one.free i) (other.free i));
    }
