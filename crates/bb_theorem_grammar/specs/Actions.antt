-- The grammar of statements without blocks, up to their ";".
use Rattle.std.specs.Prelude.{ℕ, List, codes}
use Rattle.bb_lang_tree.specs.declared.atom.Variable.{Variable}
use Rattle.bb_lang_tree.specs.declared.block.Action.{Action}
use Rattle.bb_lang_tree.specs.declared.block.Action.TheVariants as actions
use Rattle.bb_lang_tree.specs.Trees.{ExprTree}
use Rattle.bb_lang_tree.specs.State.{State}
use Rattle.bb_theorem_grammar.specs.Tokens.{Takes}
use Rattle.bb_theorem_grammar.specs.Words.{IsName, IsMember, Declares}
use Rattle.bb_theorem_grammar.specs.Expressions.{IsVariable, IsExpr}
use Rattle.bb_theorem_grammar.specs.Repeats.{AreListed}

-- var "." NAME
pub data IsSlot (unit : Variable) (x : List ℕ) (s v : State) : Type 0 where
  slot : {t u : State} → IsVariable unit s t → Takes (codes ".") t u → IsMember x u v → IsSlot unit x s v

-- the statement a, without its ";", reaches from s to t, with n brackets open
pub data IsAction (n : ℕ) : Action → State → State → Type 0 where
  -- "let" NAME "=" expr
  let_is : {x : List ℕ} {e : ExprTree} {s t u v w : State}
      → Takes (codes "let") s t → Declares x t u → Takes (codes "=") u v → IsExpr n e v w
      → IsAction n (actions.Let x e) s w
  -- NAME "=" expr
  assign : {x : List ℕ} {e : ExprTree} {s t u v : State}
      → IsName x s t → Takes (codes "=") t u → IsExpr n e u v → IsAction n (actions.Assign x e) s v
  -- "new" NAME ":" NAME
  new : {x class : List ℕ} {s t u v w : State}
      → Takes (codes "new") s t → Declares x t u → Takes (codes ":") u v → IsName class v w
      → IsAction n (actions.New x class) s w
  -- "set" var "." NAME "=" expr
  set : {unit : Variable} {x : List ℕ} {e : ExprTree} {s t u v w : State}
      → Takes (codes "set") s t → IsSlot unit x t u → Takes (codes "=") u v → IsExpr n e v w
      → IsAction n (actions.Set unit x e) s w
  -- ( "link" | "unlink" ) var "." NAME var
  link : {unit other : Variable} {x : List ℕ} {s t u v : State}
      → Takes (codes "link") s t → IsSlot unit x t u → IsVariable other u v
      → IsAction n (actions.Link unit x other) s v
  unlink : {unit other : Variable} {x : List ℕ} {s t u v : State}
      → Takes (codes "unlink") s t → IsSlot unit x t u → IsVariable other u v
      → IsAction n (actions.Unlink unit x other) s v
  -- ( "enter" | "leave" ) var NAME
  enter : {unit : Variable} {space : List ℕ} {s t u v : State}
      → Takes (codes "enter") s t → IsVariable unit t u → IsName space u v
      → IsAction n (actions.Enter unit space) s v
  leave : {unit : Variable} {space : List ℕ} {s t u v : State}
      → Takes (codes "leave") s t → IsVariable unit t u → IsName space u v
      → IsAction n (actions.Leave unit space) s v
  -- "delete" var
  delete : {unit : Variable} {s t u : State}
      → Takes (codes "delete") s t → IsVariable unit t u → IsAction n (actions.Delete unit) s u
  -- "say" [ expr { "," expr } ]
  say : {es : List ExprTree} {s t u : State}
      → Takes (codes "say") s t → AreListed (IsExpr n) es t u → IsAction n (actions.Say es) s u
  -- "rate" expr | "decline" | "answer" expr
  rate : {e : ExprTree} {s t u : State}
      → Takes (codes "rate") s t → IsExpr n e t u → IsAction n (actions.Rate e) s u
  decline : {s t : State} → Takes (codes "decline") s t → IsAction n actions.Decline s t
  answer : {e : ExprTree} {s t u : State}
      → Takes (codes "answer") s t → IsExpr n e t u → IsAction n (actions.Answer e) s u
