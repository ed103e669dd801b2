-- The grammar of expressions, sequences and patterns: a family for each production, a constructor for each of its
-- alternatives. `IsExpr n e s t`: the expression e reaches from s to t, with n brackets open.
use Rattle.std.specs.Prelude.{◌<◌, ℕ, suc, ℤ, true, false, List, [], ◌∷◌, codes}
use Rattle.bb_lang_tree.specs.declared.atom.Atom.TheVariants as atoms
use Rattle.bb_lang_tree.specs.declared.atom.Variable.{Variable}
use Rattle.bb_lang_tree.specs.declared.atom.Variable.TheVariants.{It, Ev, Named}
use Rattle.bb_lang_tree.specs.declared.atom.Unary.{Unary}
use Rattle.bb_lang_tree.specs.declared.atom.Unary.TheVariants as unaries
use Rattle.bb_lang_tree.specs.declared.atom.Binary.{Binary}
use Rattle.bb_lang_tree.specs.declared.atom.Binary.TheVariants as binaries
use Rattle.bb_lang_tree.specs.declared.atom.Operator.TheVariants as operators
use Rattle.bb_lang_tree.specs.declared.atom.Division.TheVariants.{Quotient, Remainder}
use Rattle.bb_lang_tree.specs.declared.atom.Relation.{Relation}
use Rattle.bb_lang_tree.specs.declared.atom.Relation.TheVariants as relations
use Rattle.bb_lang_tree.specs.declared.tree.Step.{Step}
use Rattle.bb_lang_tree.specs.declared.tree.Step.TheVariants.{Apply, Divide}
use Rattle.bb_lang_tree.specs.declared.tree.Sequence.{Sequence}
use Rattle.bb_lang_tree.specs.declared.tree.Sequence.TheVariants.{Find, Links}
use Rattle.bb_lang_tree.specs.Trees.{ExprTree, PatternTree, atom, unary, binary, size_of, all, and_of, or_of, not_of, test}
use Rattle.bb_lang_tree.specs.View.{sequence_of, patterns_of}
use Rattle.bb_lang.specs.Expressions.{chained}
use Rattle.bb_lang.specs.declared.sources.TheConstants.{NESTING_LIMIT}
use Rattle.bb_lang_tree.specs.State.{State}
use Rattle.bb_theorem_grammar.specs.Tokens.{Takes}
use Rattle.bb_theorem_grammar.specs.Words.{IsName, IsMember, IsInt, IsDivisor, IsText}

-- ---- words of operations

-- "not" | "low" | "high"
pub data IsUnary : Unary → List ℕ → Type 0 where
  not : IsUnary unaries.Not (codes "not")
  low : IsUnary unaries.Low (codes "low")
  high : IsUnary unaries.High (codes "high")

-- "min" | "max"
pub data IsBinary : Binary → List ℕ → Type 0 where
  min : IsBinary binaries.Min (codes "min")
  max : IsBinary binaries.Max (codes "max")

-- "<" | "<=" | "="
pub data IsComparison : Binary → List ℕ → Type 0 where
  less : IsComparison binaries.Less (codes "<")
  at_most : IsComparison binaries.AtMost (codes "<=")
  equal : IsComparison binaries.Equal (codes "=")

-- op = "within" | "covers" | "overlaps" | "less" | "more" | "is"
pub data IsRelation : Relation → List ℕ → Type 0 where
  within : IsRelation relations.Within (codes "within")
  covers : IsRelation relations.Covers (codes "covers")
  overlaps : IsRelation relations.Overlaps (codes "overlaps")
  is_less : IsRelation relations.Less (codes "less")
  is_more : IsRelation relations.More (codes "more")
  equals : IsRelation relations.Is (codes "is")

-- ---- without brackets

-- var = NAME | "it" | "ev"
pub data IsVariable : Variable → State → State → Type 0 where
  named : {x : List ℕ} {s t : State} → IsName x s t → IsVariable (Named x) s t
  it : {s t : State} → Takes (codes "it") s t → IsVariable It s t
  ev : {s t : State} → Takes (codes "ev") s t → IsVariable Ev s t

-- an opening bracket from s to t, with n brackets open already
pub record Opens (n : ℕ) (bracket : List ℕ) (s t : State) : Type 0 where
  pub takes : Takes bracket s t
  pub within : n < NESTING_LIMIT

-- ---- expressions, sequences and patterns

mutual
  -- expr = conj { "or" conj }
  pub data IsExpr : ℕ → ExprTree → State → State → Type 0 where
    by_or : {n : ℕ} {e : ExprTree} {es : List Step} {s t u : State}
        → IsConj n e s t → AreOrs n es t u → IsExpr n (chained e es) s u

  pub data AreOrs : ℕ → List Step → State → State → Type 0 where
    no_or : {n : ℕ} {s : State} → AreOrs n [] s s
    or : {n : ℕ} {e : ExprTree} {es : List Step} {s t u v : State}
        → Takes (codes "or") s t → IsConj n e t u → AreOrs n es u v → AreOrs n (Apply operators.Or e ∷ es) s v

  -- conj = cmp { "and" cmp }
  pub data IsConj : ℕ → ExprTree → State → State → Type 0 where
    by_and : {n : ℕ} {e : ExprTree} {es : List Step} {s t u : State}
        → IsCmp n e s t → AreAnds n es t u → IsConj n (chained e es) s u

  pub data AreAnds : ℕ → List Step → State → State → Type 0 where
    no_and : {n : ℕ} {s : State} → AreAnds n [] s s
    and : {n : ℕ} {e : ExprTree} {es : List Step} {s t u v : State}
        → Takes (codes "and") s t → IsCmp n e t u → AreAnds n es u v → AreAnds n (Apply operators.And e ∷ es) s v

  -- cmp = sum [ ( "<" | "<=" | "=" ) sum ]
  pub data IsCmp : ℕ → ExprTree → State → State → Type 0 where
    alone : {n : ℕ} {e : ExprTree} {s t : State} → IsSum n e s t → IsCmp n e s t
    compared : {n : ℕ} {operation : Binary} {word : List ℕ} {l r : ExprTree} {s t u v : State}
        → IsSum n l s t → IsComparison operation word → Takes word t u → IsSum n r u v
        → IsCmp n (binary operation l r) s v

  -- sum = term { ( "+" | "-" ) term }
  pub data IsSum : ℕ → ExprTree → State → State → Type 0 where
    by_terms : {n : ℕ} {e : ExprTree} {es : List Step} {s t u : State}
        → IsTerm n e s t → AreTerms n es t u → IsSum n (chained e es) s u

  pub data AreTerms : ℕ → List Step → State → State → Type 0 where
    no_term : {n : ℕ} {s : State} → AreTerms n [] s s
    plus : {n : ℕ} {e : ExprTree} {es : List Step} {s t u v : State}
        → Takes (codes "+") s t → IsTerm n e t u → AreTerms n es u v → AreTerms n (Apply operators.Plus e ∷ es) s v
    minus : {n : ℕ} {e : ExprTree} {es : List Step} {s t u v : State}
        → Takes (codes "-") s t → IsTerm n e t u → AreTerms n es u v → AreTerms n (Apply operators.Minus e ∷ es) s v

  -- term = fact { "*" fact | ( "/" | "%" ) INT }
  pub data IsTerm : ℕ → ExprTree → State → State → Type 0 where
    by_facts : {n : ℕ} {e : ExprTree} {es : List Step} {s t u : State}
        → IsFact n e s t → AreFacts n es t u → IsTerm n (chained e es) s u

  pub data AreFacts : ℕ → List Step → State → State → Type 0 where
    no_fact : {n : ℕ} {s : State} → AreFacts n [] s s
    times : {n : ℕ} {e : ExprTree} {es : List Step} {s t u v : State}
        → Takes (codes "*") s t → IsFact n e t u → AreFacts n es u v → AreFacts n (Apply operators.Times e ∷ es) s v
    quotient : {n : ℕ} {d : ℤ} {es : List Step} {s t u v : State}
        → Takes (codes "/") s t → IsDivisor d t u → AreFacts n es u v → AreFacts n (Divide Quotient d ∷ es) s v
    remainder : {n : ℕ} {d : ℤ} {es : List Step} {s t u v : State}
        → Takes (codes "%") s t → IsDivisor d t u → AreFacts n es u v → AreFacts n (Divide Remainder d ∷ es) s v

  -- fact
  pub data IsFact : ℕ → ExprTree → State → State → Type 0 where
    -- int | TEXT | "true" | "false"
    int : {n : ℕ} {i : ℤ} {s t : State} → IsInt i s t → IsFact n (atom (atoms.Int i)) s t
    text : {n : ℕ} {x : List ℕ} {s t : State} → IsText x s t → IsFact n (atom (atoms.Text x)) s t
    yes : {n : ℕ} {s t : State} → Takes (codes "true") s t → IsFact n (atom (atoms.Bool true)) s t
    no : {n : ℕ} {s t : State} → Takes (codes "false") s t → IsFact n (atom (atoms.Bool false)) s t
    -- ( "not" | "low" | "high" ) "(" expr ")"
    one : {n : ℕ} {operation : Unary} {word : List ℕ} {e : ExprTree} {s t u v w : State}
        → IsUnary operation word → Takes word s t → Opens n (codes "(") t u → IsExpr (suc n) e u v
        → Takes (codes ")") v w → IsFact n (unary operation e) s w
    -- ( "min" | "max" ) "(" expr "," expr ")"
    two : {n : ℕ} {operation : Binary} {word : List ℕ} {l r : ExprTree} {s t u v w x y : State}
        → IsBinary operation word → Takes word s t → Opens n (codes "(") t u → IsExpr (suc n) l u v
        → Takes (codes ",") v w → IsExpr (suc n) r w x → Takes (codes ")") x y → IsFact n (binary operation l r) s y
    -- "[" expr "," expr "]"
    interval : {n : ℕ} {l r : ExprTree} {s t u v w x : State}
        → Opens n (codes "[") s t → IsExpr (suc n) l t u → Takes (codes ",") u v → IsExpr (suc n) r v w
        → Takes (codes "]") w x → IsFact n (binary binaries.Interval l r) s x
    -- "size" "(" seq ")"
    size : {n : ℕ} {q : Sequence} {s t u v w : State}
        → Takes (codes "size") s t → Opens n (codes "(") t u → IsSeq (suc n) q u v → Takes (codes ")") v w
        → IsFact n (size_of (sequence_of q)) s w
    -- NAME ":" NAME | var "." NAME | var
    label : {n : ℕ} {set x : List ℕ} {s t u v : State}
        → IsName set s t → Takes (codes ":") t u → IsName x u v → IsFact n (atom (atoms.Label set x)) s v
    slot : {n : ℕ} {unit : Variable} {x : List ℕ} {s t u v : State}
        → IsVariable unit s t → Takes (codes ".") t u → IsMember x u v → IsFact n (atom (atoms.Slot unit x)) s v
    variable : {n : ℕ} {x : Variable} {s t : State} → IsVariable x s t → IsFact n (atom (atoms.Variable x)) s t
    -- "(" expr ")"
    grouped : {n : ℕ} {e : ExprTree} {s t u v : State}
        → Opens n (codes "(") s t → IsExpr (suc n) e t u → Takes (codes ")") u v → IsFact n e s v

  -- seq = "find" NAME "in" NAME [ "where" pat ] | var "." NAME
  pub data IsSeq : ℕ → Sequence → State → State → Type 0 where
    find : {n : ℕ} {class space : List ℕ} {p : PatternTree} {s t u v w x : State}
        → Takes (codes "find") s t → IsName class t u → Takes (codes "in") u v → IsName space v w
        → IsCondition n p w x → IsSeq n (Find class space p) s x
    links : {n : ℕ} {unit : Variable} {x : List ℕ} {s t u v : State}
        → IsVariable unit s t → Takes (codes ".") t u → IsMember x u v → IsSeq n (Links unit x) s v

  -- [ "where" pat ]; if it is missing, the pattern is `all`
  pub data IsCondition : ℕ → PatternTree → State → State → Type 0 where
    anywhere : {n : ℕ} {s : State} → IsCondition n all s s
    filtered : {n : ℕ} {p : PatternTree} {s t u : State}
        → Takes (codes "where") s t → IsPat n p t u → IsCondition n p s u

  -- pat
  pub data IsPat : ℕ → PatternTree → State → State → Type 0 where
    -- "all"
    each : {n : ℕ} {s t : State} → Takes (codes "all") s t → IsPat n all s t
    -- ( "and" | "or" ) "(" [ pat { "," pat } ] ")"
    both : {n : ℕ} {ps : List PatternTree} {s t u v w : State}
        → Takes (codes "and") s t → Opens n (codes "(") t u → ArePats (suc n) ps u v → Takes (codes ")") v w
        → IsPat n (and_of (patterns_of ps)) s w
    either : {n : ℕ} {ps : List PatternTree} {s t u v w : State}
        → Takes (codes "or") s t → Opens n (codes "(") t u → ArePats (suc n) ps u v → Takes (codes ")") v w
        → IsPat n (or_of (patterns_of ps)) s w
    -- "not" "(" pat ")"
    neither : {n : ℕ} {p : PatternTree} {s t u v w : State}
        → Takes (codes "not") s t → Opens n (codes "(") t u → IsPat (suc n) p u v → Takes (codes ")") v w
        → IsPat n (not_of p) s w
    -- NAME op expr
    tested : {n : ℕ} {x : List ℕ} {relation : Relation} {word : List ℕ} {e : ExprTree} {s t u v : State}
        → IsName x s t → IsRelation relation word → Takes word t u → IsExpr n e u v
        → IsPat n (test x relation e) s v

  -- [ pat { "," pat } ]
  pub data ArePats : ℕ → List PatternTree → State → State → Type 0 where
    no_pat : {n : ℕ} {s : State} → ArePats n [] s s
    pats : {n : ℕ} {p : PatternTree} {ps : List PatternTree} {s t u : State}
        → IsPat n p s t → AreMorePats n ps t u → ArePats n (p ∷ ps) s u

  pub data AreMorePats : ℕ → List PatternTree → State → State → Type 0 where
    no_more_pat : {n : ℕ} {s : State} → AreMorePats n [] s s
    more_pats : {n : ℕ} {p : PatternTree} {ps : List PatternTree} {s t u v : State}
        → Takes (codes ",") s t → IsPat n p t u → AreMorePats n ps u v → AreMorePats n (p ∷ ps) s v
