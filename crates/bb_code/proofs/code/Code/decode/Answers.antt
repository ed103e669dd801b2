use Rattle.std.proofs.Common.{ap, subst, ◌∙◌, arith}
use Rattle.bb_basis.specs.Results.{Gives}
use Rattle.bb_code.specs.declared.fault.CodeFault.TheVariants.{Memory}
use Rattle.bb_code.specs.Reading.{code_of}
use Rattle.bb_code.proofs.Codes.{is_found, all_again}
use Rattle.bb_code.proofs.code.Code.decode.Goals as goal

pub returns-clause-found : goal.returns-clause-found
returns-clause-found c = is_found c.args.bytes.now c.read_code.result (λ i. omega (arith, c.type_inv.bytes i)) c.read_code.ensures

pub returns-clause-only : goal.returns-clause-only
returns-clause-only c = λ code fits e. subst (λ r. Gives Memory (λ d. d) c.read_code.result r) (ap code_of e ∙ all_again code fits) c.read_code.ensures
