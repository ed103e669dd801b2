-- What is known of all locals of a code, those of names and others: between statements, after a block, and where two
-- branches meet.
use Rattle.std.proofs.Common.{◌≡◌, ◌⊎◌, inl, inr, ℕ, zero, suc, ◌+◌, ◌<◌, Bool, true, false, cond, List, [], ◌∷◌, length, map, Some, refl, subst, sym, ap, ◌∙◌, arith}
use Rattle.std.specs.Prelude.{slice_get}
use Rattle.std.specs.Cmp.Lexicographic.{pointwise}
use Rattle.std.specs.List.{range_with_len}
use Rattle.std.proofs.lemmas.Bool.{eq-eqb}
use Rattle.bb_schema.specs.Schema.{Schema, descends}
use Rattle.bb_schema.specs.Fits as schemas
use Rattle.bb_code.specs.declared.frame.Kind.{Kind}
use Rattle.bb_code.specs.declared.frame.Kind.TheVariants.{Any, Int, Text, Bool as Truth, Label, Interval, Ref, Old, Seq}
use Rattle.bb_verify_effect.specs.Kinds.{weakens, weakens_local, frame_weakens}
use Rattle.bb_compile_scope.specs.Kinds.{class_of, is_live}
use Rattle.bb_compile_scope.specs.LocalKinds.{is_free, kind_at, paired, left_kind, kinds_left, met_kind, kinds_met}
use Rattle.bb_compile_scope.specs.declared.scope.NamedLocal.{NamedLocal}
use Rattle.bb_verify_effect.specs.declared.frame.Frame.{Frame}
use Rattle.bb_theorem_accepted.proofs.kinds.UnderLemmas.{IsUnder, AreKnown, descends_same}
use Rattle.bb_theorem_accepted.proofs.kinds.LabelLemmas.{frame_by}

-- a kind, where a unit may be deleted
abbrev pub aged : Kind → Kind
aged (Ref class) = Old class
aged k = k

pub free_aged : (k : Kind) → is_free (aged k) ≡ is_free k
free_aged (Ref c) = refl
free_aged Any = refl
free_aged Int = refl
free_aged Text = refl
free_aged Truth = refl
free_aged (Label set) = refl
free_aged Interval = refl
free_aged (Old c) = refl
free_aged (Seq c) = refl

-- a sequence of units, which no name has
abbrev pub is_sequence : Kind → Bool
is_sequence (Seq class) = true
is_sequence k = false

pub sequence_aged : (k : Kind) → is_sequence (aged k) ≡ is_sequence k
sequence_aged (Ref c) = refl
sequence_aged Any = refl
sequence_aged Int = refl
sequence_aged Text = refl
sequence_aged Truth = refl
sequence_aged (Label set) = refl
sequence_aged Interval = refl
sequence_aged (Old c) = refl
sequence_aged (Seq c) = refl

-- each local that is taken stays one of the same kind, but for units that may be deleted
abbrev pub Agree : (before after : List Kind) → Type 0
Agree ks ls = (i : ℕ) → is_free (kind_at ks i) ≡ false → aged (kind_at ks i) ≡ aged (kind_at ls i)

pub taken_on : (k l : Kind) → aged k ≡ aged l → is_free k ≡ false → is_free l ≡ false
taken_on k l same taken = sym (free_aged l) ∙ (ap is_free (sym same) ∙ (free_aged k ∙ taken))

pub agree_on : (ks ls ms : List Kind) → Agree ks ls → Agree ls ms → Agree ks ms
agree_on ks ls ms first then i taken = first i taken ∙ then i (taken_on (kind_at ks i) (kind_at ls i) (first i taken) taken)

-- ---- local by local

pub left_at : (ks ls : List Kind) (i : ℕ) → kind_at (kinds_left ks ls) i ≡ left_kind (kind_at ks i) (kind_at ls i)
unfolding paired
left_at [] ls i = refl
left_at (k ∷ ks) [] i = by_free (is_free (kind_at (k ∷ ks) i))
  where
    by_free : (b : Bool) → Any ≡ cond b Any Any
    by_free true = refl
    by_free false = refl
left_at (k ∷ ks) (l ∷ ls) zero = refl
left_at (k ∷ ks) (l ∷ ls) (suc i) = left_at ks ls i

pub met_at : (ks ls : List Kind) (i : ℕ) → (kind_at (kinds_met ks ls) i ≡ met_kind (kind_at ks i) (kind_at ls i)) ⊎ (kind_at (kinds_met ks ls) i ≡ Any)
unfolding paired
met_at [] ls i = inr refl
met_at (k ∷ ks) [] i = inr refl
met_at (k ∷ ks) (l ∷ ls) zero = inl refl
met_at (k ∷ ks) (l ∷ ls) (suc i) = met_at ks ls i

-- after a block a local that is taken was so before it, and holds what it holds at the end of the block
pub left_taken : (ks ls : List Kind) (i : ℕ) → is_free (kind_at (kinds_left ks ls) i) ≡ false → (is_free (kind_at ks i) ≡ false) × (kind_at (kinds_left ks ls) i ≡ kind_at ls i)
left_taken ks ls i taken = by_free (is_free (kind_at ks i)) refl (sym (ap is_free (left_at ks ls i)) ∙ taken)
  where
    by_free : (b : Bool) → is_free (kind_at ks i) ≡ b → is_free (cond b Any (kind_at ls i)) ≡ false → (is_free (kind_at ks i) ≡ false) × (kind_at (kinds_left ks ls) i ≡ kind_at ls i)
    by_free true is taken = absurd cc
    by_free false is taken = (is, left_at ks ls i ∙ ap (λ b. cond b Any (kind_at ls i)) is)

-- where a local was taken before a block, it holds after it what it holds at its end
pub left_here : (ks ls : List Kind) (i : ℕ) → is_free (kind_at ks i) ≡ false → kind_at (kinds_left ks ls) i ≡ kind_at ls i
left_here ks ls i taken = left_at ks ls i ∙ ap (λ b. cond b Any (kind_at ls i)) taken

pub agree_left : (ks ls : List Kind) → Agree ks ls → Agree ks (kinds_left ks ls)
agree_left ks ls agree i taken = agree i taken ∙ ap aged (sym (left_here ks ls i taken))

-- two branches that may meet: what the second takes, the first has of the same kind
abbrev pub Meet : (other one : List Kind) → Type 0
Meet other one = (i : ℕ) → is_free (kind_at one i) ≡ false → aged (kind_at other i) ≡ aged (kind_at one i)

pub meet_left : (ks ls : List Kind) → Agree ks ls → Meet ks (kinds_left ks ls)
meet_left ks ls agree i taken = let was = left_taken ks ls i taken in agree i was.0 ∙ ap aged (sym was.1)

module _ (s : Schema) (sf : schemas.Fits s) where
  -- what a local is known to hold: a sequence of just this class, or a value
  abbrev pub IsKept : (known thought : Kind) → Type 0
  IsKept k (Seq class) = k ≡ Seq class
  IsKept k t = IsUnder s sf k t

  pub under_kept : (k t : Kind) → IsUnder s sf k t → IsKept k t
  under_kept k (Seq c) u = absurd u
  under_kept k (Ref c) u = u
  under_kept k (Old c) u = u
  under_kept k Any u = u
  under_kept k Int u = u
  under_kept k Text u = u
  under_kept k Truth u = u
  under_kept k (Label set) u = u
  under_kept k Interval u = u

  pub kept_under : (k t : Kind) → is_sequence t ≡ false → IsKept k t → IsUnder s sf k t
  kept_under k (Seq c) other u = absurd cc
  kept_under k (Ref c) other u = u
  kept_under k (Old c) other u = u
  kept_under k Any other u = u
  kept_under k Int other u = u
  kept_under k Text other u = u
  kept_under k Truth other u = u
  kept_under k (Label set) other u = u
  kept_under k Interval other u = u

  -- what is known of a unit
  pub kept_unit : (k t : Kind) (class : ℕ) → class_of t ≡ Some class → IsKept k t → IsUnder s sf k t
  kept_unit k (Seq c) class of u = absurd cc
  kept_unit k (Ref c) class of u = u
  kept_unit k (Old c) class of u = u
  kept_unit k Any class of u = absurd cc
  kept_unit k Int class of u = absurd cc
  kept_unit k Text class of u = absurd cc
  kept_unit k Truth class of u = absurd cc
  kept_unit k (Label set) class of u = absurd cc
  kept_unit k Interval class of u = absurd cc

  -- a value is no sequence
  pub under_value : (k t : Kind) → IsUnder s sf k t → is_sequence t ≡ false
  under_value k (Seq c) u = absurd u
  under_value k (Ref c) u = refl
  under_value k (Old c) u = refl
  under_value k Any u = refl
  under_value k Int u = refl
  under_value k Text u = refl
  under_value k Truth u = refl
  under_value k (Label set) u = refl
  under_value k Interval u = refl

  -- a local of this kind is known, unless nothing is said of it
  abbrev pub IsHeld : (known thought : Kind) → Type 0
  IsHeld k t = is_free t ≡ false → IsKept k t

  abbrev pub Knows : List Kind → (thought : List Kind) → Type 0
  Knows locals thought = (i : ℕ) → IsHeld (kind_at locals i) (kind_at thought i)

  -- the frame that is found at a place is known so
  abbrev pub Finds : List Frame → (place : ℕ) → (thought : List Kind) → Type 0
  Finds frames place thought = (f : Frame) → slice_get frames place ≡ Some f → Knows f.locals thought

  -- ---- from the locals of names to all, and back

  -- a name has the local
  abbrev pub HasLocal : ℕ → List NamedLocal → Type 0
  HasLocal i [] = ⊥
  HasLocal i (n ∷ ns) = (n.local ≡ i) ⊎ HasLocal i ns

  abbrev pub AllTaken : List Kind → List NamedLocal → Type 0
  AllTaken kinds [] = Unit {0}
  AllTaken kinds (n ∷ ns) = (is_free (kind_at kinds n.local) ≡ false) × (is_sequence (kind_at kinds n.local) ≡ false) × AllTaken kinds ns

  -- the locals that hold sequences hold just these
  abbrev pub HasSequences : (locals thought : List Kind) → Type 0
  HasSequences locals thought = (i class : ℕ) → kind_at thought i ≡ Seq class → kind_at locals i ≡ Seq class

  pub knows_sequences : (locals thought : List Kind) → Knows locals thought → HasSequences locals thought
  knows_sequences locals thought knows i class is = subst (IsKept (kind_at locals i)) is (knows i (ap is_free is))

  known_local : (locals thought : List Kind) (ns : List NamedLocal) (i : ℕ) → AreKnown s sf locals thought ns → HasLocal i ns → IsUnder s sf (kind_at locals i) (kind_at thought i)
  known_local locals thought [] i known has = absurd has
  known_local locals thought (n ∷ ns) i known (inl e) = subst (λ j. IsUnder s sf (kind_at locals j) (kind_at thought j)) e known.1
  known_local locals thought (n ∷ ns) i known (inr has) = known_local locals thought ns i known.2 has

  pub knows_from : (locals thought : List Kind) (ns : List NamedLocal) → ((i : ℕ) → is_free (kind_at thought i) ≡ false → is_sequence (kind_at thought i) ≡ false → HasLocal i ns) → HasSequences locals thought → AreKnown s sf locals thought ns → Knows locals thought
  knows_from locals thought ns named sequences known i taken = by_kind (kind_at thought i) refl
    where
      value : is_sequence (kind_at thought i) ≡ false → IsKept (kind_at locals i) (kind_at thought i)
      value other = under_kept (kind_at locals i) (kind_at thought i) (known_local locals thought ns i known (named i taken other))

      by_kind : (t : Kind) → kind_at thought i ≡ t → IsKept (kind_at locals i) (kind_at thought i)
      by_kind (Seq c) is = subst (IsKept (kind_at locals i)) (sym is) (sequences i c is)
      by_kind (Ref c) is = value (ap is_sequence is)
      by_kind (Old c) is = value (ap is_sequence is)
      by_kind Any is = value (ap is_sequence is)
      by_kind Int is = value (ap is_sequence is)
      by_kind Text is = value (ap is_sequence is)
      by_kind Truth is = value (ap is_sequence is)
      by_kind (Label set) is = value (ap is_sequence is)
      by_kind Interval is = value (ap is_sequence is)

  pub known_from : (locals thought : List Kind) (ns : List NamedLocal) → AllTaken thought ns → ((i : ℕ) → is_free (kind_at thought i) ≡ false → i < length locals) → Knows locals thought → AreKnown s sf locals thought ns
  known_from locals thought [] taken low knows = tt
  known_from locals thought (n ∷ ns) taken low knows = (low n.local taken.0, kept_under (kind_at locals n.local) (kind_at thought n.local) taken.1 (knows n.local taken.0), known_from locals thought ns taken.2 low knows)

  -- ---- after a block, and where branches meet

  pub knows_left : (locals ks ls : List Kind) → Knows locals ls → Knows locals (kinds_left ks ls)
  knows_left locals ks ls knows i taken = let was = left_taken ks ls i taken in subst (IsKept (kind_at locals i)) (sym was.1) (knows i (ap is_free (sym was.1) ∙ taken))

  -- a unit that is known to be live is one that may be deleted
  under_live : (k t r : Kind) → is_live t ≡ true → IsUnder s sf k t → aged r ≡ aged t → IsUnder s sf k r
  under_live k (Ref d) (Ref e) live u same = let e : e ≡ d = cc in (u.0, u.1, ap (descends s u.0) e ∙ u.2)
  under_live k (Ref d) (Old e) live u same = let e : e ≡ d = cc in (u.0, inl u.1, ap (descends s u.0) e ∙ u.2)
  under_live k (Ref d) _ live u same = absurd cc
  under_live k Any r live u same = absurd cc
  under_live k Int r live u same = absurd cc
  under_live k Text r live u same = absurd cc
  under_live k Truth r live u same = absurd cc
  under_live k (Label set) r live u same = absurd cc
  under_live k Interval r live u same = absurd cc
  under_live k (Old d) r live u same = absurd cc
  under_live k (Seq d) r live u same = absurd cc

  -- what is known of a unit is known of one that may be deleted, and of another value all is
  under_aged : (k t r : Kind) → is_live r ≡ false → IsUnder s sf k t → aged t ≡ aged r → IsUnder s sf k r
  under_aged k (Ref d) (Old e) dead u same = let e : e ≡ d = cc in (u.0, inl u.1, ap (descends s u.0) e ∙ u.2)
  under_aged k (Old d) (Old e) dead u same = let e : e ≡ d = cc in (u.0, u.1, ap (descends s u.0) e ∙ u.2)
  under_aged k t Int dead u same = plain t u same
    where
      plain : (t : Kind) → IsUnder s sf k t → aged t ≡ Int → k ≡ Int
      plain Int u same = u
      plain Any u same = absurd u
      plain (Seq d) u same = absurd u
      plain _ u same = absurd cc
  under_aged k t Text dead u same = plain t u same
    where
      plain : (t : Kind) → IsUnder s sf k t → aged t ≡ Text → k ≡ Text
      plain Text u same = u
      plain Any u same = absurd u
      plain (Seq d) u same = absurd u
      plain _ u same = absurd cc
  under_aged k t Truth dead u same = plain t u same
    where
      plain : (t : Kind) → IsUnder s sf k t → aged t ≡ Truth → k ≡ Truth
      plain Truth u same = u
      plain Any u same = absurd u
      plain (Seq d) u same = absurd u
      plain _ u same = absurd cc
  under_aged k t Interval dead u same = plain t u same
    where
      plain : (t : Kind) → IsUnder s sf k t → aged t ≡ Interval → k ≡ Interval
      plain Interval u same = u
      plain Any u same = absurd u
      plain (Seq d) u same = absurd u
      plain _ u same = absurd cc
  under_aged k t (Label set) dead u same = plain t u same
    where
      plain : (t : Kind) → IsUnder s sf k t → aged t ≡ Label set → k ≡ Label set
      plain (Label of) u same = u ∙ same
      plain Any u same = absurd u
      plain (Seq d) u same = absurd u
      plain _ u same = absurd cc
  under_aged k t Any dead u same = plain t u same
    where
      plain : (t : Kind) → IsUnder s sf k t → aged t ≡ Any → ⊥
      plain Any u same = u
      plain (Seq d) u same = u
      plain _ u same = absurd cc
  under_aged k t (Seq c) dead u same = plain t u same
    where
      plain : (t : Kind) → IsUnder s sf k t → aged t ≡ Seq c → ⊥
      plain Any u same = u
      plain (Seq d) u same = u
      plain _ u same = absurd cc
  under_aged k t (Ref c) dead u same = absurd cc
  under_aged k Any (Old e) dead u same = absurd u
  under_aged k (Seq d) (Old e) dead u same = absurd u
  under_aged k Int (Old e) dead u same = absurd cc
  under_aged k Text (Old e) dead u same = absurd cc
  under_aged k Truth (Old e) dead u same = absurd cc
  under_aged k (Label set) (Old e) dead u same = absurd cc
  under_aged k Interval (Old e) dead u same = absurd cc

  -- and so of any local
  kept_live : (k t r : Kind) → is_live t ≡ true → IsKept k t → aged r ≡ aged t → IsKept k r
  kept_live k t r live u same = under_kept k r (under_live k t r live (kept_under k t (live_value t live) u) same)
    where
      live_value : (t : Kind) → is_live t ≡ true → is_sequence t ≡ false
      live_value (Ref c) h = refl
      live_value _ h = absurd cc

  pub kept_aged : (k t r : Kind) → is_live r ≡ false → IsKept k t → aged t ≡ aged r → IsKept k r
  kept_aged k t r dead u same = by_sequence (is_sequence r) refl
    where
      both : (t r : Kind) → IsKept k t → aged t ≡ aged r → is_sequence r ≡ true → IsKept k r
      both (Seq d) (Seq c) u same is = u ∙ (let e : Seq d ≡ Seq c = same in e)
      both (Ref d) (Seq c) u same is = absurd cc
      both (Old d) (Seq c) u same is = absurd cc
      both Any (Seq c) u same is = absurd cc
      both Int (Seq c) u same is = absurd cc
      both Text (Seq c) u same is = absurd cc
      both Truth (Seq c) u same is = absurd cc
      both (Label set) (Seq c) u same is = absurd cc
      both Interval (Seq c) u same is = absurd cc
      both t (Ref c) u same is = absurd cc
      both t (Old c) u same is = absurd cc
      both t Any u same is = absurd cc
      both t Int u same is = absurd cc
      both t Text u same is = absurd cc
      both t Truth u same is = absurd cc
      both t (Label set) u same is = absurd cc
      both t Interval u same is = absurd cc

      by_sequence : (b : Bool) → is_sequence r ≡ b → IsKept k r
      by_sequence true is = both t r u same is
      by_sequence false is = under_kept k r (under_aged k t r dead (kept_under k t (sym (sequence_aged t) ∙ (ap is_sequence same ∙ (sequence_aged r ∙ is))) u) same)

  -- after the branch that comes last
  pub knows_met_one : (locals other one : List Kind) → Meet other one → Knows locals one → Knows locals (kinds_met other one)
  knows_met_one locals other one meet knows i taken = by_met (met_at other one i)
    where
      by_live : (b : Bool) → is_live (kind_at one i) ≡ b → is_free (cond b (kind_at other i) (kind_at one i)) ≡ false → IsKept (kind_at locals i) (cond b (kind_at other i) (kind_at one i))
      by_live true live free =
          let here : is_free (kind_at one i) ≡ false = live_taken (kind_at one i) live in
          kept_live (kind_at locals i) (kind_at one i) (kind_at other i) live (knows i here) (meet i here)
        where
          live_taken : (k : Kind) → is_live k ≡ true → is_free k ≡ false
          live_taken (Ref c) h = refl
          live_taken _ h = absurd cc
      by_live false live free = knows i free

      by_met : (kind_at (kinds_met other one) i ≡ met_kind (kind_at other i) (kind_at one i)) ⊎ (kind_at (kinds_met other one) i ≡ Any) → IsKept (kind_at locals i) (kind_at (kinds_met other one) i)
      by_met (inl e) = subst (IsKept (kind_at locals i)) (sym e) (by_live (is_live (kind_at one i)) refl (sym (ap is_free e) ∙ taken))
      by_met (inr e) = absurd (let no : true ≡ false = sym (ap is_free e) ∙ taken in cc)

  -- after the other branch
  pub knows_met_other : (locals other one : List Kind) → Meet other one → Knows locals other → Knows locals (kinds_met other one)
  knows_met_other locals other one meet knows i taken = by_met (met_at other one i)
    where
      by_live : (b : Bool) → is_live (kind_at one i) ≡ b → is_free (cond b (kind_at other i) (kind_at one i)) ≡ false → IsKept (kind_at locals i) (cond b (kind_at other i) (kind_at one i))
      by_live true live free = knows i free
      by_live false live free =
          kept_aged (kind_at locals i) (kind_at other i) (kind_at one i) live (knows i (taken_on (kind_at one i) (kind_at other i) (sym (meet i free)) free)) (meet i free)

      by_met : (kind_at (kinds_met other one) i ≡ met_kind (kind_at other i) (kind_at one i)) ⊎ (kind_at (kinds_met other one) i ≡ Any) → IsKept (kind_at locals i) (kind_at (kinds_met other one) i)
      by_met (inl e) = subst (IsKept (kind_at locals i)) (sym e) (by_live (is_live (kind_at one i)) refl (sym (ap is_free e) ∙ taken))
      by_met (inr e) = absurd (let no : true ≡ false = sym (ap is_free e) ∙ taken in cc)

  -- ---- a frame may stand where one of these kinds is declared

  held_weakens : (k t : Kind) → IsHeld k t → IsHeld t t → weakens_local s k t ≡ true
  unfolding weakens_local weakens
  held_weakens k Any h own = refl
  held_weakens k Int h own = rw (h refl) refl
  held_weakens k Text h own = rw (h refl) refl
  held_weakens k Truth h own = rw (h refl) refl
  held_weakens k (Label set) h own = rw (h refl) (eq-eqb set set refl)
  held_weakens k Interval h own = rw (h refl) refl
  held_weakens k (Ref d) h own = let u = h refl in rw u.1 u.2
  held_weakens k (Old d) h own = by_old (h refl)
    where
      by_old : IsUnder s sf k (Old d) → weakens s k (Old d) ≡ true
      by_old (c, inl e, up) = rw e up
      by_old (c, inr e, up) = rw e up
  held_weakens k (Seq d) h own = rw (h refl) (descends_same s sf d)

  all_weaken : (locals : List Kind) (n : ℕ) (thought : List Kind) → ((i : ℕ) → IsHeld (kind_at locals i) (kind_at thought (n + i))) → ((i : ℕ) → IsHeld (kind_at thought i) (kind_at thought i)) → pointwise (weakens_local s) locals (map (kind_at thought) (range_with_len n (length locals))) ≡ true
  all_weaken [] n thought held own = refl
  all_weaken (k ∷ ks) n thought held own =
      let here : weakens_local s k (kind_at thought n) ≡ true = held_weakens k (kind_at thought n) (subst (λ j. IsHeld k (kind_at thought j)) (let e : n + 0 ≡ n = omega arith in e) (held 0)) (own n) in
      rw here (all_weaken ks (n + 1) thought (λ i. subst (λ j. IsHeld (kind_at ks i) (kind_at thought j)) (let e : n + suc i ≡ n + 1 + i = omega arith in e) (held (suc i))) own)

  pub knows_weakens : (f : Frame) (count : ℕ) (thought : List Kind) → length f.locals ≡ count → f.stack ≡ [] → ((i : ℕ) → IsHeld (kind_at thought i) (kind_at thought i)) → Knows f.locals thought → frame_weakens s f (frame_by count thought) ≡ true
  unfolding frame_weakens
  knows_weakens f count thought size none own knows =
      let locals : pointwise (weakens_local s) f.locals (map (kind_at thought) (range_with_len 0 count)) ≡ true =
      ap (λ n. pointwise (weakens_local s) f.locals (map (kind_at thought) (range_with_len 0 n))) (sym size) ∙ all_weaken f.locals 0 thought (λ i. subst (λ j. IsHeld (kind_at f.locals i) (kind_at thought j)) (let e : i ≡ 0 + i = omega arith in e) (knows i)) own in
      rw (locals, none) refl
