-- What statements keep of the names and the locals of a scope: the names that it has stay, and their locals stay taken.
use Rattle.std.proofs.Common.{◌≡◌, ℕ, zero, suc, Bool, true, false, cond, List, [], ◌∷◌, ◌++◌, length, Option, refl, subst, sym, ap, ◌∙◌}
use Rattle.std.specs.Prelude.{take}
use Rattle.std.proofs.lemmas.List.{append-nil}
use Rattle.std.proofs.Math.Seq.{take-append_seam}
use Rattle.bb_code.specs.declared.frame.Kind.{Kind}
use Rattle.bb_code.specs.declared.frame.Kind.TheVariants as kinds
use Rattle.bb_compile_scope.specs.Kinds.{is_live}
use Rattle.bb_compile_scope.specs.LocalKinds.{is_free, kind_at, paired, left_kind, kinds_left, met_kind, kinds_met}
use Rattle.bb_compile_scope.specs.Scope.{mark_of, back_to}
use Rattle.bb_compile_scope.specs.declared.scope.NamedLocal.{NamedLocal}
use Rattle.bb_compile_scope.specs.declared.scope.Scope.{Scope}
use Rattle.bb_machine.specs.declared.value.Value.{Value}
use Rattle.bb_theorem_meaning.specs.Meaning.{Name}
use Rattle.bb_theorem_meaning.proofs.NameLemmas.{AreHeld, AreTaken}

-- each local that is taken stays taken
abbrev pub Keeps : (before after : List Kind) → Type 0
Keeps ks ls = (i : ℕ) → is_free (kind_at ks i) ≡ false → is_free (kind_at ls i) ≡ false

-- there are names more
pub record Moves (s t : Scope) : Type 0 where
  pub more : List NamedLocal
  pub names : t.names ≡ s.names ++ more
  pub keeps : Keeps s.kinds t.kinds

pub moves_same : (s t : Scope) → t ≡ s → Moves s t
moves_same s t same = record {
  more = [];
  names = ap (λ (c : Scope). c.names) same ∙ sym (append-nil s.names);
  keeps = λ i taken. subst (λ (c : Scope). is_free (kind_at c.kinds i) ≡ false) (sym same) taken;
}

pub moves_kept : (s t : Scope) → t.names ≡ s.names → Keeps s.kinds t.kinds → Moves s t
moves_kept s t names keeps = record { more = []; names = names ∙ sym (append-nil s.names); keeps = keeps }

pub moves_on : (s t u : Scope) → Moves s t → Moves t u → Moves s u
moves_on s t u first then = record {
  more = first.more ++ then.more;
  names = then.names ∙ (ap (λ l. l ++ then.more) first.names ∙ assoc s.names first.more then.more);
  keeps = λ i taken. then.keeps i (first.keeps i taken);
}
  where
    assoc : (a b c : List NamedLocal) → (a ++ b) ++ c ≡ a ++ (b ++ c)
    assoc [] b c = refl
    assoc (x ∷ xs) b c = ap (λ l. x ∷ l) (assoc xs b c)

-- ---- two lists of kinds, local by local

keeps_both : (f : Kind → Kind → Kind) → ((k l : Kind) → is_free k ≡ false → is_free l ≡ false → is_free (f k l) ≡ false)
    → (ks ls : List Kind) (i : ℕ) → is_free (kind_at ks i) ≡ false → is_free (kind_at ls i) ≡ false → is_free (kind_at (paired f ks ls) i) ≡ false
unfolding paired
keeps_both f each [] ls i one other = one
keeps_both f each (k ∷ ks) [] i one other = other
keeps_both f each (k ∷ ks) (l ∷ ls) zero one other = each k l one other
keeps_both f each (k ∷ ks) (l ∷ ls) (suc i) one other = keeps_both f each ks ls i one other

left_taken : (k l : Kind) → is_free k ≡ false → is_free l ≡ false → is_free (left_kind k l) ≡ false
left_taken k l one other = by_free (is_free k) one
  where
    by_free : (b : Bool) → b ≡ false → is_free (cond b kinds.Any l) ≡ false
    by_free true h = absurd cc
    by_free false h = other

met_taken : (k l : Kind) → is_free k ≡ false → is_free l ≡ false → is_free (met_kind k l) ≡ false
met_taken k l one other = by_live (is_live l)
  where
    by_live : (b : Bool) → is_free (cond b k l) ≡ false
    by_live true = one
    by_live false = other

pub keeps_left : (ks ls : List Kind) → Keeps ks ls → Keeps ks (kinds_left ks ls)
keeps_left ks ls keeps i taken = keeps_both left_kind left_taken ks ls i taken (keeps i taken)

pub keeps_met : (ks other one : List Kind) → Keeps ks other → Keeps ks one → Keeps ks (kinds_met other one)
keeps_met ks other one left right i taken = keeps_both met_kind met_taken other one i (left i taken) (right i taken)

-- ---- the end of a block

-- the names are again those before it
pub names_left : (s t : Scope) → Moves s t → (back_to (mark_of s) t).names ≡ s.names
names_left s t moves = ap (take (length s.names)) moves.names ∙ take-append_seam s.names moves.more

pub moves_left : (s t : Scope) → Moves s t → Moves s (back_to (mark_of s) t)
moves_left s t moves = moves_kept s (back_to (mark_of s) t) (names_left s t moves) (keeps_left s.kinds t.kinds moves.keeps)

-- what the locals of the names hold is known again
pub taken_kept : (ns : List NamedLocal) (ks ls : List Kind) → Keeps ks ls → AreTaken ks ns → AreTaken ls ns
taken_kept [] ks ls keeps taken = tt
taken_kept (n ∷ ns) ks ls keeps taken = (keeps n.local taken.0, taken_kept ns ks ls keeps taken.1)

-- there is a name with a value for each that is in scope
pub held_count : (locals : List (Option Value)) (ns : List NamedLocal) (ms : List Name) → AreHeld locals ns ms → length ms ≡ length ns
held_count locals [] [] held = refl
held_count locals [] (m ∷ ms) held = absurd held
held_count locals (n ∷ ns) [] held = absurd held
held_count locals (n ∷ ns) (m ∷ ms) held = ap suc (held_count locals ns ms held.2)

-- the first names are held where all are
pub held_front : (locals : List (Option Value)) (ns more : List NamedLocal) (ms : List Name) → AreHeld locals (ns ++ more) ms → AreHeld locals ns (take (length ns) ms)
held_front locals [] more ms held = tt
held_front locals (n ∷ ns) more [] held = held
held_front locals (n ∷ ns) more (m ∷ ms) held = (held.0, held.1, held_front locals ns more ms held.2)
