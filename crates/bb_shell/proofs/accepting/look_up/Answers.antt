use Rattle.std.proofs.Common.{inr, sym, ap, ◌∙◌, Err}
use Rattle.bb_basis.specs.Results.{map_err}
use Rattle.bb_refusal.specs.declared.input_fault.InputFault.TheVariants.{Rule}
use Rattle.bb_shell.proofs.accepting.look_up.Goals as goal

pub returns-in-Err-clause-classes : goal.returns-in-Err-clause-classes
returns-in-Err-clause-classes c =
    inr (ap (map_err (Rule c.args.draft.now.header.name)) (sym c.in-Err.ensures) ∙ ap (λ n. Err (Rule n c.in-Err.fault)) (sym (c.in_ok-name.ensures ∙ c.as_str.ensures)))
