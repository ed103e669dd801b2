-- Parts of expressions that stand in a text are read: operators, chains, brackets, and expressions without parts.
use Rattle.std.proofs.Common.{◌≡◌, ℕ, zero, suc, ◌+◌, Bool, true, false, cond, List, [], ◌∷◌, Option, Some, None, Result, Ok, refl, ap, codes, arith}
use Rattle.std.specs.Prelude.{ℤ, ◌||◌, ◌==◌}
use Rattle.std.specs.Str.{bytes_eq}
use Rattle.bb_basis.specs.Results.{◌>>=◌}
use Rattle.bb_lang_tree.specs.declared.fault.LangFault.{LangFault}
use Rattle.bb_lang_tree.specs.State.{State, Reader, next, at}
use Rattle.bb_lang_tree.specs.Tokens.{is_int, is_text}
use Rattle.bb_lang_tree.specs.Words.{is_reserved}
use Rattle.bb_lang_tree.specs.Literals.{int, text}
use Rattle.bb_basis.specs.Names.{is_digit, is_name}
use Rattle.bb_lang_tree.specs.declared.atom.Atom.{Atom}
use Rattle.bb_lang_tree.specs.declared.atom.Atom.TheVariants as atoms
use Rattle.bb_lang_tree.specs.declared.atom.Variable.{Variable}
use Rattle.bb_lang_tree.specs.declared.atom.Variable.TheVariants.{It, Ev, Named}
use Rattle.bb_lang_tree.specs.declared.atom.Unary.{Unary}
use Rattle.bb_lang_tree.specs.declared.atom.Binary.{Binary}
use Rattle.bb_lang_tree.specs.declared.atom.Operator.{Operator}
use Rattle.bb_lang_tree.specs.declared.atom.Operator.TheVariants as operators
use Rattle.bb_lang_tree.specs.declared.atom.Division.{Division}
use Rattle.bb_lang_tree.specs.declared.atom.Division.TheVariants.{Quotient, Remainder}
use Rattle.bb_lang_tree.specs.declared.atom.Relation.{Relation}
use Rattle.bb_lang_tree.specs.declared.tree.Step.{Step}
use Rattle.bb_lang_tree.specs.declared.tree.Step.TheVariants.{Apply, Divide}
use Rattle.bb_lang_tree.specs.Trees.{ExprTree}
use Rattle.bb_lang.specs.Repeats.{more_after, repeated}
use Rattle.bb_lang.specs.Expressions.{opened, variable_at, variable, label_or_variable, named, atom_of, unary_at, binary_at, comparison_at, relation_at, step_by, inside, inner_of}
use Rattle.bb_lang.specs.declared.sources.TheConstants.{NESTING_LIMIT}
use Rattle.bb_theorem_grammar.specs.Tokens.{first_passes, Next, Takes}
use Rattle.bb_theorem_grammar.specs.Words.{IsMember, IsName, IsInt, IsDivisor, IsText}
use Rattle.bb_theorem_grammar.specs.Expressions.{IsUnary, IsBinary, IsComparison, IsRelation, IsVariable, Opens}
use Rattle.bb_theorem_grammar.proofs.FoundTokens.{next_found, yes_is, no_is, ok_then, at_its_token, NotAt, none_pass, missed}
use Rattle.bb_theorem_grammar.proofs.FoundNames.{Stands, name_at_found, member_found, name_found, is_free, name_others, no_int, no_text, digit_others, quote_others, int_found, divisor_found, text_found}

-- ---- what comes after

-- what goes on with an expression without parts, and with each operand
abbrev pub fact_ends : List (List ℕ)
fact_ends = codes "." ∷ codes ":" ∷ []

abbrev pub term_ends : List (List ℕ)
term_ends = codes "/" ∷ codes "%" ∷ codes "*" ∷ fact_ends

abbrev pub sum_ends : List (List ℕ)
sum_ends = codes "+" ∷ codes "-" ∷ term_ends

abbrev pub cmp_ends : List (List ℕ)
cmp_ends = codes "<" ∷ codes "<=" ∷ codes "=" ∷ sum_ends

abbrev pub conj_ends : List (List ℕ)
conj_ends = codes "and" ∷ cmp_ends

abbrev pub expr_ends : List (List ℕ)
expr_ends = codes "or" ∷ conj_ends

abbrev pub seq_ends : List (List ℕ)
seq_ends = codes "where" ∷ expr_ends

-- ---- as many as come

module _ {X : Type 0} (read : Reader (Option X)) where
  pub none_found : (s : State) → read s ≡ Ok (None, s) → (k : ℕ) → repeated k read s ≡ Ok ([], s)
  unfolding repeated more_after
  none_found s h zero = refl
  none_found s h (suc k) = ok_then _ h refl

  pub more_found : (s t u : State) (x : X) (xs : List X) (k : ℕ) → read s ≡ Ok (Some x, t) → repeated k read t ≡ Ok (xs, u) → repeated (suc k) read s ≡ Ok (x ∷ xs, u)
  unfolding repeated more_after
  more_found s t u x xs k h g = ok_then _ h (ok_then _ g refl)

-- ---- steps of a chain

module _ (operand : Reader ExprTree) where
  pub apply_found : (d : Option Division) (o : Option Operator) (operator : Operator) (s t u : State) (e : ExprTree) → d ≡ None → o ≡ Some operator → Next s t → operand t ≡ Ok (e, u) → step_by d o operand s ≡ Ok (Some (Apply operator e), u)
  unfolding step_by
  apply_found d o operator s t u e none some n h = rw (none, some) (ok_then _ (next_found s t n) (ok_then _ h refl))

  pub divide_found : (d : Option Division) (o : Option Operator) (division : Division) (s t u : State) (i : ℤ) → d ≡ Some division → Next s t → IsDivisor i t u → step_by d o operand s ≡ Ok (Some (Divide division i), u)
  unfolding step_by
  divide_found d o division s t u i some n h = rw some (ok_then _ (next_found s t n) (ok_then _ (divisor_found i t u h) refl))

  pub no_step_found : (d : Option Division) (o : Option Operator) (s : State) → d ≡ None → o ≡ None → step_by d o operand s ≡ Ok (None, s)
  unfolding step_by
  no_step_found d o s one two = rw (one, two) refl

  -- the steps of each level, at a state
  abbrev pub or_reader : Reader (Option Step)
  or_reader s = step_by None (cond (at (codes "or") s) (Some operators.Or) None) operand s

  abbrev pub and_reader : Reader (Option Step)
  and_reader s = step_by None (cond (at (codes "and") s) (Some operators.And) None) operand s

  abbrev pub term_reader : Reader (Option Step)
  term_reader s = step_by None (cond (at (codes "+") s) (Some operators.Plus) (cond (at (codes "-") s) (Some operators.Minus) None)) operand s

  abbrev pub fact_reader : Reader (Option Step)
  fact_reader s = step_by (cond (at (codes "/") s) (Some Quotient) (cond (at (codes "%") s) (Some Remainder) None)) (cond (at (codes "*") s) (Some operators.Times) None) operand s

  module _ (s : State) where
    pub no_or_found : NotAt expr_ends s → or_reader s ≡ Ok (None, s)
    no_or_found h = no_step_found None (cond (at (codes "or") s) (Some operators.Or) None) s refl (no_is (at (codes "or") s) _ _ h.0 refl)

    pub no_and_found : NotAt conj_ends s → and_reader s ≡ Ok (None, s)
    no_and_found h = no_step_found None (cond (at (codes "and") s) (Some operators.And) None) s refl (no_is (at (codes "and") s) _ _ h.0 refl)

    pub no_term_found : NotAt sum_ends s → term_reader s ≡ Ok (None, s)
    no_term_found h = no_step_found None (cond (at (codes "+") s) (Some operators.Plus) (cond (at (codes "-") s) (Some operators.Minus) None)) s refl (no_is (at (codes "+") s) _ _ h.0 (no_is (at (codes "-") s) _ _ h.1.0 refl))

    pub no_fact_found : NotAt term_ends s → fact_reader s ≡ Ok (None, s)
    no_fact_found h = no_step_found (cond (at (codes "/") s) (Some Quotient) (cond (at (codes "%") s) (Some Remainder) None)) (cond (at (codes "*") s) (Some operators.Times) None) s
        (no_is (at (codes "/") s) _ _ h.0 (no_is (at (codes "%") s) _ _ h.1.0 refl)) (no_is (at (codes "*") s) _ _ h.1.1.0 refl)

    module _ (t u : State) (e : ExprTree) (h : operand t ≡ Ok (e, u)) where
      pub or_found : Takes (codes "or") s t → or_reader s ≡ Ok (Some (Apply operators.Or e), u)
      or_found k = apply_found None (cond (at (codes "or") s) (Some operators.Or) None) operators.Or s t u e refl (yes_is (at (codes "or") s) _ _ (at_its_token (codes "or") s k.is) refl) k.next h

      pub and_found : Takes (codes "and") s t → and_reader s ≡ Ok (Some (Apply operators.And e), u)
      and_found k = apply_found None (cond (at (codes "and") s) (Some operators.And) None) operators.And s t u e refl (yes_is (at (codes "and") s) _ _ (at_its_token (codes "and") s k.is) refl) k.next h

      pub plus_found : Takes (codes "+") s t → term_reader s ≡ Ok (Some (Apply operators.Plus e), u)
      plus_found k = apply_found None (cond (at (codes "+") s) (Some operators.Plus) (cond (at (codes "-") s) (Some operators.Minus) None)) operators.Plus s t u e refl (yes_is (at (codes "+") s) _ _ (at_its_token (codes "+") s k.is) refl) k.next h

      pub minus_found : Takes (codes "-") s t → term_reader s ≡ Ok (Some (Apply operators.Minus e), u)
      minus_found k = apply_found None (cond (at (codes "+") s) (Some operators.Plus) (cond (at (codes "-") s) (Some operators.Minus) None)) operators.Minus s t u e refl
          (no_is (at (codes "+") s) _ _ (missed (codes "-") s k.is (codes "+" ∷ []) refl).0 (yes_is (at (codes "-") s) _ _ (at_its_token (codes "-") s k.is) refl)) k.next h

      pub times_found : Takes (codes "*") s t → fact_reader s ≡ Ok (Some (Apply operators.Times e), u)
      times_found k =
          let not_here = missed (codes "*") s k.is (codes "/" ∷ codes "%" ∷ []) refl in
          apply_found (cond (at (codes "/") s) (Some Quotient) (cond (at (codes "%") s) (Some Remainder) None)) (cond (at (codes "*") s) (Some operators.Times) None) operators.Times s t u e
          (no_is (at (codes "/") s) _ _ not_here.0 (no_is (at (codes "%") s) _ _ not_here.1.0 refl)) (yes_is (at (codes "*") s) _ _ (at_its_token (codes "*") s k.is) refl) k.next h

    module _ (t u : State) (i : ℤ) (h : IsDivisor i t u) where
      pub quotient_found : Takes (codes "/") s t → fact_reader s ≡ Ok (Some (Divide Quotient i), u)
      quotient_found k = divide_found (cond (at (codes "/") s) (Some Quotient) (cond (at (codes "%") s) (Some Remainder) None)) (cond (at (codes "*") s) (Some operators.Times) None) Quotient s t u i
          (yes_is (at (codes "/") s) _ _ (at_its_token (codes "/") s k.is) refl) k.next h

      pub remainder_found : Takes (codes "%") s t → fact_reader s ≡ Ok (Some (Divide Remainder i), u)
      remainder_found k = divide_found (cond (at (codes "/") s) (Some Quotient) (cond (at (codes "%") s) (Some Remainder) None)) (cond (at (codes "*") s) (Some operators.Times) None) Remainder s t u i
          (no_is (at (codes "/") s) _ _ (missed (codes "%") s k.is (codes "/" ∷ []) refl).0 (yes_is (at (codes "%") s) _ _ (at_its_token (codes "%") s k.is) refl)) k.next h

-- ---- brackets

pub opened_found : (n m : ℕ) (bracket : List ℕ) (s t : State) → n + m ≡ NESTING_LIMIT → Opens n bracket s t → (j : ℕ) × (suc n + j ≡ NESTING_LIMIT) × (opened bracket (inside m) s ≡ Ok (inner_of j, t))
unfolding opened inside
opened_found n zero bracket s t limit o = absurd (let within = o.within in omega (arith, limit, within))
opened_found n (suc j) bracket s t limit o =
    (j, omega (arith, limit), ok_then _ (yes_is (at bracket s) _ _ (at_its_token bracket s o.takes.is) refl) (ok_then _ (next_found s t o.takes.next) refl))

-- ---- words of operations

-- what begins an expression with parts
abbrev pub part_words : List (List ℕ)
part_words = codes "(" ∷ codes "[" ∷ codes "size" ∷ codes "not" ∷ codes "low" ∷ codes "high" ∷ codes "min" ∷ codes "max" ∷ []

pub no_unary : (s : State) → NotAt part_words s → unary_at s ≡ None
unfolding unary_at
no_unary s h = no_is (at (codes "not") s) _ _ h.1.1.1.0 (no_is (at (codes "low") s) _ _ h.1.1.1.1.0 (no_is (at (codes "high") s) _ _ h.1.1.1.1.1.0 refl))

pub no_binary : (s : State) → NotAt part_words s → binary_at s ≡ None
unfolding binary_at
no_binary s h = no_is (at (codes "min") s) _ _ h.1.1.1.1.1.1.0 (no_is (at (codes "max") s) _ _ h.1.1.1.1.1.1.1.0 refl)

abbrev pub bracket_words : List (List ℕ)
bracket_words = codes "(" ∷ codes "[" ∷ codes "size" ∷ []

pub unary_found : (operation : Unary) (word : List ℕ) (s : State) → IsUnary operation word → s.token ≡ word → (unary_at s ≡ Some operation) × NotAt bracket_words s
unfolding unary_at
unary_found operation word s IsUnary.not is = (yes_is (at (codes "not") s) _ _ (at_its_token (codes "not") s is) refl, missed (codes "not") s is bracket_words refl)
unary_found operation word s IsUnary.low is =
    let no = missed (codes "low") s is (codes "not" ∷ []) refl in
    (no_is (at (codes "not") s) _ _ no.0 (yes_is (at (codes "low") s) _ _ (at_its_token (codes "low") s is) refl), missed (codes "low") s is bracket_words refl)
unary_found operation word s IsUnary.high is =
    let no = missed (codes "high") s is (codes "not" ∷ codes "low" ∷ []) refl in
    (no_is (at (codes "not") s) _ _ no.0 (no_is (at (codes "low") s) _ _ no.1.0 (yes_is (at (codes "high") s) _ _ (at_its_token (codes "high") s is) refl)), missed (codes "high") s is bracket_words refl)

abbrev unary_words : List (List ℕ)
unary_words = codes "not" ∷ codes "low" ∷ codes "high" ∷ []

pub binary_found : (operation : Binary) (word : List ℕ) (s : State) → IsBinary operation word → s.token ≡ word → (unary_at s ≡ None) × (binary_at s ≡ Some operation) × NotAt bracket_words s
unfolding unary_at binary_at
binary_found operation word s IsBinary.min is =
    let no = missed (codes "min") s is unary_words refl in (
      no_is (at (codes "not") s) _ _ no.0 (no_is (at (codes "low") s) _ _ no.1.0 (no_is (at (codes "high") s) _ _ no.1.1.0 refl)),
      yes_is (at (codes "min") s) _ _ (at_its_token (codes "min") s is) refl,
      missed (codes "min") s is bracket_words refl,
    )
binary_found operation word s IsBinary.max is =
    let no = missed (codes "max") s is unary_words refl in (
      no_is (at (codes "not") s) _ _ no.0 (no_is (at (codes "low") s) _ _ no.1.0 (no_is (at (codes "high") s) _ _ no.1.1.0 refl)),
      no_is (at (codes "min") s) _ _ (missed (codes "max") s is (codes "min" ∷ []) refl).0 (yes_is (at (codes "max") s) _ _ (at_its_token (codes "max") s is) refl),
      missed (codes "max") s is bracket_words refl,
    )

pub no_comparison : (s : State) → NotAt cmp_ends s → comparison_at s ≡ None
unfolding comparison_at
no_comparison s h = no_is (at (codes "<") s) _ _ h.0 (no_is (at (codes "<=") s) _ _ h.1.0 (no_is (at (codes "=") s) _ _ h.1.1.0 refl))

-- the operator of a comparison is none that goes on with a sum
pub comparison_found : (operation : Binary) (word : List ℕ) (s : State) → IsComparison operation word → s.token ≡ word → (comparison_at s ≡ Some operation) × NotAt sum_ends s
unfolding comparison_at
comparison_found operation word s IsComparison.less is = (yes_is (at (codes "<") s) _ _ (at_its_token (codes "<") s is) refl, missed (codes "<") s is sum_ends refl)
comparison_found operation word s IsComparison.at_most is =
    (no_is (at (codes "<") s) _ _ (missed (codes "<=") s is (codes "<" ∷ []) refl).0 (yes_is (at (codes "<=") s) _ _ (at_its_token (codes "<=") s is) refl), missed (codes "<=") s is sum_ends refl)
comparison_found operation word s IsComparison.equal is =
    let no = missed (codes "=") s is (codes "<" ∷ codes "<=" ∷ []) refl in
    (no_is (at (codes "<") s) _ _ no.0 (no_is (at (codes "<=") s) _ _ no.1.0 (yes_is (at (codes "=") s) _ _ (at_its_token (codes "=") s is) refl)), missed (codes "=") s is sum_ends refl)

pub relation_found : (relation : Relation) (word : List ℕ) (s : State) → IsRelation relation word → s.token ≡ word → relation_at s ≡ Some relation
unfolding relation_at
relation_found relation word s IsRelation.within is = yes_is (at (codes "within") s) _ _ (at_its_token (codes "within") s is) refl
relation_found relation word s IsRelation.covers is =
    let no = missed (codes "covers") s is (codes "within" ∷ []) refl in
    no_is (at (codes "within") s) _ _ no.0 (yes_is (at (codes "covers") s) _ _ (at_its_token (codes "covers") s is) refl)
relation_found relation word s IsRelation.overlaps is =
    let no = missed (codes "overlaps") s is (codes "within" ∷ codes "covers" ∷ []) refl in
    no_is (at (codes "within") s) _ _ no.0 (no_is (at (codes "covers") s) _ _ no.1.0 (yes_is (at (codes "overlaps") s) _ _ (at_its_token (codes "overlaps") s is) refl))
relation_found relation word s IsRelation.is_less is =
    let no = missed (codes "less") s is (codes "within" ∷ codes "covers" ∷ codes "overlaps" ∷ []) refl in
    no_is (at (codes "within") s) _ _ no.0 (no_is (at (codes "covers") s) _ _ no.1.0 (no_is (at (codes "overlaps") s) _ _ no.1.1.0 (yes_is (at (codes "less") s) _ _ (at_its_token (codes "less") s is) refl)))
relation_found relation word s IsRelation.is_more is =
    let no = missed (codes "more") s is (codes "within" ∷ codes "covers" ∷ codes "overlaps" ∷ codes "less" ∷ []) refl in
    no_is (at (codes "within") s) _ _ no.0 (no_is (at (codes "covers") s) _ _ no.1.0 (no_is (at (codes "overlaps") s) _ _ no.1.1.0 (no_is (at (codes "less") s) _ _ no.1.1.1.0 (yes_is (at (codes "more") s) _ _ (at_its_token (codes "more") s is) refl))))
relation_found relation word s IsRelation.equals is =
    let no = missed (codes "is") s is (codes "within" ∷ codes "covers" ∷ codes "overlaps" ∷ codes "less" ∷ codes "more" ∷ []) refl in
    no_is (at (codes "within") s) _ _ no.0 (no_is (at (codes "covers") s) _ _ no.1.0 (no_is (at (codes "overlaps") s) _ _ no.1.1.0 (no_is (at (codes "less") s) _ _ no.1.1.1.0 (no_is (at (codes "more") s) _ _ no.1.1.1.1.0 (yes_is (at (codes "is") s) _ _ (at_its_token (codes "is") s is) refl)))))

-- ---- variables

its_reserved : none_pass is_free (codes "it" ∷ codes "ev" ∷ []) ≡ true
unfolding is_name is_reserved
its_reserved = refl

variable_at_found : (v : Variable) (s t : State) → IsVariable v s t → (variable_at s ≡ Ok v) × Next s t
unfolding variable_at
variable_at_found v s t (IsVariable.named {x = x} h) =
    let no = name_others s t x h (codes "it" ∷ codes "ev" ∷ []) its_reserved in
    (no_is (at (codes "it") s) _ _ no.0 (no_is (at (codes "ev") s) _ _ no.1.0 (ok_then _ (name_at_found s t x h) refl)), h.member.takes.next)
variable_at_found v s t (IsVariable.it k) = (yes_is (at (codes "it") s) _ _ (at_its_token (codes "it") s k.is) refl, k.next)
variable_at_found v s t (IsVariable.ev k) = (no_is (at (codes "it") s) _ _ (missed (codes "ev") s k.is (codes "it" ∷ []) refl).0 (yes_is (at (codes "ev") s) _ _ (at_its_token (codes "ev") s k.is) refl), k.next)

pub variable_found : (v : Variable) (s t : State) → IsVariable v s t → variable s ≡ Ok (v, t)
unfolding variable
variable_found v s t h = let r = variable_at_found v s t h in ok_then _ r.0 (ok_then _ (next_found s t r.1) refl)

pub variable_others : (v : Variable) (s t : State) → IsVariable v s t → (ws : List (List ℕ)) → none_pass is_free ws ≡ true → none_pass (λ x. bytes_eq x (codes "it")) ws ≡ true → none_pass (λ x. bytes_eq x (codes "ev")) ws ≡ true → NotAt ws s
variable_others v s t (IsVariable.named {x = x} h) ws free not_it not_ev = name_others s t x h ws free
variable_others v s t (IsVariable.it k) ws free not_it not_ev = missed (codes "it") s k.is ws not_it
variable_others v s t (IsVariable.ev k) ws free not_it not_ev = missed (codes "ev") s k.is ws not_ev

-- ---- expressions without parts

or_yes : (a b : Bool) → b ≡ true → (a || b) ≡ true
or_yes true b h = refl
or_yes false b h = h

abbrev pub atom_words : List (List ℕ)
atom_words = codes "-" ∷ codes "true" ∷ codes "false" ∷ []

is_number : (i : ℤ) (s t : State) → IsInt i s t → (is_int s.kind || at (codes "-") s) ≡ true
is_number i s t (IsInt.plain d) = rw (ap is_int d.kind) refl
is_number i s t (IsInt.minus a d) = or_yes (is_int s.kind) (at (codes "-") s) (at_its_token (codes "-") s a.is)

module _ (s t : State) where
  pub int_atom : (i : ℤ) → IsInt i s t → Stands s → atom_of s ≡ Ok (atoms.Int i, t)
  unfolding atom_of
  int_atom i h stands = yes_is (is_int s.kind || at (codes "-") s) _ _ (is_number i s t h) (ok_then _ (int_found i s t h stands) refl)

  -- no number and no text
  other_atom : (r : Result (Atom × State) LangFault) → is_int s.kind ≡ false → is_text s.kind ≡ false → at (codes "-") s ≡ false
      → cond (at (codes "true") s) (next s >>= λ u. Ok (atoms.Bool true, u)) (cond (at (codes "false") s) (next s >>= λ u. Ok (atoms.Bool false, u)) (named s)) ≡ r → atom_of s ≡ r
  unfolding atom_of
  other_atom r int text minus h = no_is (is_int s.kind || at (codes "-") s) _ _ (rw (int, minus) refl) (no_is (is_text s.kind) _ _ text h)

  pub text_atom : (x : List ℕ) → IsText x s t → Stands s → atom_of s ≡ Ok (atoms.Text x, t)
  unfolding atom_of
  text_atom x h stands =
      let no = quote_others s stands h.kind atom_words refl in
      no_is (is_int s.kind || at (codes "-") s) _ _ (rw (ap is_int h.kind, no.0) refl) (yes_is (is_text s.kind) _ _ (ap is_text h.kind) (ok_then _ (text_found x s t h) refl))

  pub true_atom : Takes (codes "true") s t → Stands s → atom_of s ≡ Ok (atoms.Bool true, t)
  true_atom k stands =
      other_atom (Ok (atoms.Bool true, t)) (no_int s stands (ap (first_passes is_digit) k.is)) (no_text s stands (ap (first_passes (λ b. b == 34)) k.is)) (missed (codes "true") s k.is (codes "-" ∷ []) refl).0
      (yes_is (at (codes "true") s) _ _ (at_its_token (codes "true") s k.is) (ok_then _ (next_found s t k.next) refl))

  pub false_atom : Takes (codes "false") s t → Stands s → atom_of s ≡ Ok (atoms.Bool false, t)
  false_atom k stands =
      other_atom (Ok (atoms.Bool false, t)) (no_int s stands (ap (first_passes is_digit) k.is)) (no_text s stands (ap (first_passes (λ b. b == 34)) k.is)) (missed (codes "false") s k.is (codes "-" ∷ []) refl).0
      (no_is (at (codes "true") s) _ _ (missed (codes "false") s k.is (codes "true" ∷ []) refl).0 (yes_is (at (codes "false") s) _ _ (at_its_token (codes "false") s k.is) (ok_then _ (next_found s t k.next) refl)))

-- what begins with a variable
atom_words_free : none_pass is_free atom_words ≡ true
unfolding is_name is_reserved
atom_words_free = refl

variable_kind : (v : Variable) (s t : State) → IsVariable v s t → Stands s → (is_int s.kind ≡ false) × (is_text s.kind ≡ false)
variable_kind v s t (IsVariable.named h) stands = (ap is_int h.member.kind, ap is_text h.member.kind)
variable_kind v s t (IsVariable.it k) stands = (no_int s stands (ap (first_passes is_digit) k.is), no_text s stands (ap (first_passes (λ b. b == 34)) k.is))
variable_kind v s t (IsVariable.ev k) stands = (no_int s stands (ap (first_passes is_digit) k.is), no_text s stands (ap (first_passes (λ b. b == 34)) k.is))

named_atom : (v : Variable) (s t : State) (r : Result (Atom × State) LangFault) → IsVariable v s t → Stands s → named s ≡ r → atom_of s ≡ r
named_atom v s t r h stands is =
    let no = variable_others v s t h atom_words atom_words_free refl refl in
    let kind = variable_kind v s t h stands in
    other_atom s t r kind.0 kind.1 no.0 (no_is (at (codes "true") s) _ _ no.1.0 (no_is (at (codes "false") s) _ _ no.1.1.0 is))

pub slot_atom : (unit : Variable) (x : List ℕ) (s t u v : State) → IsVariable unit s t → Takes (codes ".") t u → IsMember x u v → Stands s → atom_of s ≡ Ok (atoms.Slot unit x, v)
unfolding named
slot_atom unit x s t u v a b c stands =
    named_atom unit s t (Ok (atoms.Slot unit x, v)) a stands
    (ok_then _ (variable_found unit s t a) (yes_is (at (codes ".") t) _ _ (at_its_token (codes ".") t b.is) (ok_then _ (next_found t u b.next) (ok_then _ (member_found u v x c) refl))))

pub label_atom : (set x : List ℕ) (s t u v : State) → IsName set s t → Takes (codes ":") t u → IsName x u v → Stands s → atom_of s ≡ Ok (atoms.Label set x, v)
unfolding named label_or_variable
label_atom set x s t u v a b c stands =
    named_atom (Named set) s t (Ok (atoms.Label set x, v)) (IsVariable.named a) stands
    (ok_then _ (variable_found (Named set) s t (IsVariable.named a)) (no_is (at (codes ".") t) _ _ (missed (codes ":") t b.is (codes "." ∷ []) refl).0
    (yes_is (at (codes ":") t) _ _ (at_its_token (codes ":") t b.is) (ok_then _ (next_found t u b.next) (ok_then _ (name_found u v x c) refl)))))

alone : (v : Variable) (t : State) → at (codes ":") t ≡ false → label_or_variable v t ≡ Ok (atoms.Variable v, t)
unfolding label_or_variable
alone (Named x) t other = no_is (at (codes ":") t) _ _ other refl
alone It t other = refl
alone Ev t other = refl

pub variable_atom : (v : Variable) (s t : State) → IsVariable v s t → Stands s → NotAt fact_ends t → atom_of s ≡ Ok (atoms.Variable v, t)
unfolding named
variable_atom v s t h stands ends =
    named_atom v s t (Ok (atoms.Variable v, t)) h stands (ok_then _ (variable_found v s t h) (no_is (at (codes ".") t) _ _ ends.0 (alone v t ends.1.0)))

-- ---- what an expression without parts is not

part_words_free : none_pass is_free part_words ≡ true
unfolding is_name is_reserved
part_words_free = refl

pub variable_first : (v : Variable) (s t : State) → IsVariable v s t → NotAt part_words s
variable_first v s t h = variable_others v s t h part_words part_words_free refl refl

pub name_first : (x : List ℕ) (s t : State) → IsName x s t → NotAt part_words s
name_first x s t h = name_others s t x h part_words part_words_free

pub int_first : (i : ℤ) (s t : State) → IsInt i s t → Stands s → NotAt part_words s
int_first i s t (IsInt.plain d) stands = digit_others s stands d.kind part_words refl
int_first i s t (IsInt.minus a d) stands = missed (codes "-") s a.is part_words refl

pub int_first_than : (i : ℤ) (s t : State) → IsInt i s t → Stands s → (ws : List (List ℕ)) → none_pass (first_passes is_digit) ws ≡ true → none_pass (λ x. bytes_eq x (codes "-")) ws ≡ true → NotAt ws s
int_first_than i s t (IsInt.plain d) stands ws digit minus = digit_others s stands d.kind ws digit
int_first_than i s t (IsInt.minus a d) stands ws digit minus = missed (codes "-") s a.is ws minus
