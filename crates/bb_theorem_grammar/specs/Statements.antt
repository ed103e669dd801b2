-- The grammar of statements and blocks.
use Rattle.std.specs.Prelude.{ℕ, suc, List, codes}
use Rattle.bb_lang_tree.specs.declared.atom.Variable.{Variable}
use Rattle.bb_lang_tree.specs.declared.block.Action.{Action}
use Rattle.bb_lang_tree.specs.declared.block.Binding.{Binding}
use Rattle.bb_lang_tree.specs.declared.block.Binding.TheVariants.{As, Linked}
use Rattle.bb_lang_tree.specs.declared.tree.Sequence.{Sequence}
use Rattle.bb_lang_tree.specs.Trees.{ExprTree}
use Rattle.bb_lang_tree.specs.Blocks.{BlockTree, StatementTree, OtherwiseTree, no_statement, before_others, action, if_of, with_of, for_of, absent, otherwise}
use Rattle.bb_lang.specs.Statements.{leave_scope}
use Rattle.bb_lang_tree.specs.State.{State}
use Rattle.bb_theorem_grammar.specs.Tokens.{Takes}
use Rattle.bb_theorem_grammar.specs.Words.{IsName, IsMember, Declares}
use Rattle.bb_theorem_grammar.specs.Expressions.{IsVariable, Opens, IsExpr, IsSeq}
use Rattle.bb_theorem_grammar.specs.Actions.{IsAction}

-- NAME "=" var ( "as" NAME | "." NAME )
pub data IsBinding : Binding → State → State → Type 0 where
  as_class : {x class : List ℕ} {unit : Variable} {s t u v w y : State}
      → Declares x s t → Takes (codes "=") t u → IsVariable unit u v → Takes (codes "as") v w → IsName class w y
      → IsBinding (As x unit class) s y
  linked_by : {x by : List ℕ} {unit : Variable} {s t u v w y : State}
      → Declares x s t → Takes (codes "=") t u → IsVariable unit u v → Takes (codes ".") v w → IsMember by w y
      → IsBinding (Linked x unit by) s y

mutual
  -- a statement reaches from s to t, with n brackets open
  pub data IsStatement : ℕ → StatementTree → State → State → Type 0 where
    -- a statement without blocks, and ";"
    plain : {n : ℕ} {a : Action} {s t u : State}
        → IsAction n a s t → Takes (codes ";") t u → IsStatement n (action a) s u
    -- "if" expr block [ "else" block ]
    if_then : {n : ℕ} {e : ExprTree} {b : BlockTree} {o : OtherwiseTree} {s t u v w : State}
        → Takes (codes "if") s t → IsExpr n e t u → IsBlock n b u v → IsElse n o v w
        → IsStatement n (if_of e b o) s w
    -- "with" NAME "=" var ( "as" NAME | "." NAME ) block [ "else" block ]: the name is in scope in the first block only
    with_name : {n : ℕ} {found : Binding} {b : BlockTree} {o : OtherwiseTree} {s t u v w : State}
        → Takes (codes "with") s t → IsBinding found t u → IsBlock n b u v → IsElse n o (leave_scope s v) w
        → IsStatement n (with_of found b o) s w
    -- "for" NAME "in" seq block: the name is in scope up to the end of the block
    for_each : {n : ℕ} {x : List ℕ} {q : Sequence} {b : BlockTree} {s t u v w y : State}
        → Takes (codes "for") s t → Declares x t u → Takes (codes "in") u v → IsSeq n q v w → IsBlock n b w y
        → IsStatement n (for_of x q b) s (leave_scope s y)

  -- [ "else" block ]
  pub data IsElse : ℕ → OtherwiseTree → State → State → Type 0 where
    no_else : {n : ℕ} {s : State} → IsElse n absent s s
    else_block : {n : ℕ} {b : BlockTree} {s t u : State}
        → Takes (codes "else") s t → IsBlock n b t u → IsElse n (otherwise b) s u

  -- block = "{" { stmt } "}": names declared in it are in scope up to its end
  pub data IsBlock : ℕ → BlockTree → State → State → Type 0 where
    block : {n : ℕ} {b : BlockTree} {s t u v : State}
        → Opens n (codes "{") s t → AreStatements (suc n) b t u → Takes (codes "}") u v
        → IsBlock n b s (leave_scope s v)

  -- { stmt }, each with the place of its first token
  pub data AreStatements : ℕ → BlockTree → State → State → Type 0 where
    none : {n : ℕ} {s : State} → AreStatements n no_statement s s
    one_more : {n : ℕ} {one : StatementTree} {others : BlockTree} {s t u : State}
        → IsStatement n one s t → AreStatements n others t u
        → AreStatements n (before_others s.place one others) s u
