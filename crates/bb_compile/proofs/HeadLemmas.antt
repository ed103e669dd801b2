-- What comes of the head of a statement that has a flaw.
use Rattle.std.proofs.Common.{◌≡◌, sym, ap, ◌∙◌, length, Result, Ok, Err}
use Rattle.bb_basis.specs.Results.{◌>>=◌}
use Rattle.bb_code.specs.declared.parts.TheConstants.{STACK_LIMIT}
use Rattle.bb_code.specs.declared.frame.Kind.TheVariants.{Bool as Truth}
use Rattle.bb_code.specs.declared.op.Op.TheVariants.{Unless}
use Rattle.bb_schema.specs.Schema.{Schema}
use Rattle.bb_lang.specs.Trees.{ExprTree}
use Rattle.bb_compile_scope.specs.Place.{Place}
use Rattle.bb_compile_scope.specs.declared.fault.CompileFault.{CompileFault}
use Rattle.bb_compile_buffer.specs.declared.buffer.Buffer.{Buffer}
use Rattle.bb_compile_buffer.specs.Operations.{Made}
use Rattle.bb_compile_buffer.specs.Buffers.{due, settled, put}
use Rattle.bb_compile.specs.declared.exits.Exits.{Exits}
use Rattle.bb_compile.specs.Bindings.{one_exit}
use Rattle.bb_compile.specs.Expressions.{expr_code}
use Rattle.bb_compile.specs.Statements.{if_code}

module _ (place : Place) (t : Buffer) where
  abbrev ending : Buffer → Result (Exits × Buffer) CompileFault
  ending u = settled place u >>= λ right. Ok (one_exit (length t.ops), u)

  abbrev testing : Buffer → Result (Exits × Buffer) CompileFault
  testing d = put (Unless 0) d >>= ending

abbrev after_test : Place → Made × Buffer → Result (Exits × Buffer) CompileFault
after_test place r = testing place r.1 (due r.0 Truth r.1)

-- an `if` whose test is laid out, and has a flaw
pub if_refused : (schema : Schema) (test : ExprTree) (place : Place) (s t d u : Buffer) (kind : Made) (e : CompileFault)
    → expr_code schema STACK_LIMIT test s ≡ Ok (kind, t) → d ≡ due kind Truth t → put (Unless 0) d ≡ Ok u → settled place u ≡ Err e → if_code schema test place s ≡ Err e
unfolding if_code
if_refused schema test place s t d u kind e laid is_due is_put refused =
    ap (λ r. r >>= after_test place) laid
    ∙ (ap (testing place t) (sym is_due)
    ∙ (ap (λ r. r >>= ending place t) is_put ∙ ap (λ r. r >>= λ right. Ok (one_exit (length t.ops), u)) refused))
