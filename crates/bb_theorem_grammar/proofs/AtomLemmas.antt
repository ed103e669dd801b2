-- Expressions without parts, and opening brackets.
use Rattle.std.proofs.Common.{◌≡◌, ◌<◌, ℕ, suc, Bool, true, false, cond, List, Option, Some, Ok, Err, refl, subst, codes}
use Rattle.std.specs.Prelude.{◌||◌}
use Rattle.bb_basis.specs.Results.{◌>>=◌, ok_or}
use Rattle.bb_basis.proofs.ResultLemmas.{ok_or_ok, same_ok, bind_ok}
use Rattle.bb_lang_tree.specs.declared.fault.LangFault.{LangFault}
use Rattle.bb_lang_tree.specs.declared.fault.LangFault.TheVariants.{Token, Nesting}
use Rattle.bb_lang_tree.specs.State.{State, at}
use Rattle.bb_lang_tree.specs.Tokens.{is_int, is_text}
use Rattle.bb_lang_tree.specs.Words.{name_at}
use Rattle.bb_lang_tree.specs.declared.atom.Atom.{Atom}
use Rattle.bb_lang_tree.specs.declared.atom.Variable.{Variable}
use Rattle.bb_lang_tree.specs.declared.atom.Variable.TheVariants.{It, Ev, Named}
use Rattle.bb_lang_tree.specs.Trees.{atom}
use Rattle.bb_lang.specs.Expressions.{Inner, opened, variable_at, variable, label_or_variable, named, atom_of}
use Rattle.bb_lang.specs.declared.sources.TheConstants.{NESTING_LIMIT}
use Rattle.bb_theorem_grammar.specs.Tokens.{Next}
use Rattle.bb_theorem_grammar.specs.Words.{IsName}
use Rattle.bb_theorem_grammar.specs.Expressions.{IsVariable, Opens, IsExpr, IsPat, IsFact}
use Rattle.bb_theorem_grammar.proofs.SoundLemmas.{Stands, Sound, by_move, by_value, by_if, by_read, done, next_moves, takes}
use Rattle.bb_theorem_grammar.proofs.NameLemmas.{name_of, name_read, member_read, int_read, text_read}

-- ---- variables

variable_by : (s : State) (v : Variable) (it ev : Bool) → at (codes "it") s ≡ it → at (codes "ev") s ≡ ev → cond it (Ok It) (cond ev (Ok Ev) (name_at s >>= λ word. Ok (Named word))) ≡ Ok v → (t : State) → Next s t → IsVariable v s t
variable_by s v true ev is_it is_ev h t n = subst (λ x. IsVariable x s t) (same_ok {E = LangFault} It v h) (IsVariable.it (takes (codes "it") s t is_it n))
variable_by s v false true is_it is_ev h t n = subst (λ x. IsVariable x s t) (same_ok {E = LangFault} Ev v h) (IsVariable.ev (takes (codes "ev") s t is_ev n))
variable_by s v false false is_it is_ev h t n =
    let one = bind_ok (name_at s) (λ word. Ok (Named word)) v h in
    subst (λ x. IsVariable x s t) (same_ok {E = LangFault} (Named one.0) v one.2) (IsVariable.named (name_of s t one.0 one.1 n))

variable_of : (s t : State) (v : Variable) → variable_at s ≡ Ok v → Next s t → IsVariable v s t
unfolding variable_at
variable_of s t v h n = variable_by s v (at (codes "it") s) (at (codes "ev") s) refl refl h t n

pub variable_read : (s : State) → Sound s (λ v t. IsVariable v s t) (variable s)
unfolding variable
variable_read s = by_value (variable_at s) _ (λ v is. by_move _ (next_moves s) (λ t n. done (variable_of s t v is n)))

-- ---- expressions without parts

-- from s to t stands an expression without parts
abbrev IsAtom : ℕ → State → Atom → State → Type 0
IsAtom n s a t = IsFact n (atom a) s t

-- the name that a variable is, if it is one
name_in : (x : List ℕ) (s t : State) → IsVariable (Named x) s t → IsName x s t
name_in x s t (IsVariable.named is) = is

module _ (n : ℕ) where
  label_read : (s t : State) (v : Variable) → IsVariable v s t → Sound t (IsAtom n s) (label_or_variable v t)
  unfolding label_or_variable
  label_read s t (Named set) d =
      by_if (at (codes ":") t) _ _
      (λ is. by_move _ (next_moves t) (λ u m. by_read _ (name_read u) (λ x v e. done (IsFact.label (name_in set s t d) (takes (codes ":") t u is m) e))))
      (λ _. done (IsFact.variable d))
  label_read s t It d = done (IsFact.variable d)
  label_read s t Ev d = done (IsFact.variable d)

  named_read : (s : State) → Sound s (IsAtom n s) (named s)
  unfolding named
  named_read s = by_read _ (variable_read s) (λ v t d.
      by_if (at (codes ".") t) _ _
      (λ is. by_move _ (next_moves t) (λ u m. by_read _ (member_read u) (λ x w e. done (IsFact.slot d (takes (codes ".") t u is m) e))))
      (λ _. label_read s t v d))

  pub atom_read : (s : State) → Stands s → Sound s (IsAtom n s) (atom_of s)
  unfolding atom_of
  atom_read s stands =
      by_if (is_int s.kind || at (codes "-") s) _ _ (λ _. by_read _ (int_read s) (λ i t d. done (IsFact.int d)))
      (λ _. by_if (is_text s.kind) _ _ (λ _. by_read _ (text_read s stands) (λ x t d. done (IsFact.text d)))
      (λ _. by_if (at (codes "true") s) _ _ (λ is. by_move _ (next_moves s) (λ t m. done (IsFact.yes (takes (codes "true") s t is m))))
      (λ _. by_if (at (codes "false") s) _ _ (λ is. by_move _ (next_moves s) (λ t m. done (IsFact.no (takes (codes "false") s t is m))))
      (λ _. named_read s))))

-- ---- brackets

-- what is read in brackets stands there
pub record InnerRead (n : ℕ) (inner : Inner) : Type 0 where
  pub expr : (s : State) → Stands s → Sound s (λ e t. IsExpr n e s t) (inner.expr s)
  pub pattern : (s : State) → Sound s (λ p t. IsPat n p s t) (inner.pattern s)

-- where n brackets are open one more may be, if anything is read in it, and what is read stands there
pub record Ready (n : ℕ) (inside : Option Inner) : Type 0 where
  pub holds : (inner : Inner) → inside ≡ Some inner → (n < NESTING_LIMIT) × InnerRead (suc n) inner

opened_by : (b : Bool) (inside : Option Inner) (e f : LangFault) (inner : Inner) → cond b (ok_or inside e) (Err f) ≡ Ok inner → (b ≡ true) × (inside ≡ Some inner)
opened_by true inside e f inner h = (refl, ok_or_ok e inside inner h)
opened_by false inside e f inner h = absurd cc

pub opened_read : (n : ℕ) (inside : Option Inner) (ready : Ready n inside) (bracket : List ℕ) (s : State) → Sound s (λ inner t. Opens n bracket s t × InnerRead (suc n) inner) (opened bracket inside s)
unfolding opened
opened_read n inside ready bracket s = by_value (cond (at bracket s) (ok_or inside (Nesting s.place)) (Err (Token s.place))) _ (λ inner is.
    let parts = opened_by (at bracket s) inside (Nesting s.place) (Token s.place) inner is in
    let may = ready.holds inner parts.1 in
    by_move _ (next_moves s) (λ t m. done (record { takes = takes bracket s t parts.0 m; within = may.0 }, may.1)))
