use Rattle.std.proofs.Common.{rules, sym, inl, inr, ap, ◌∙◌, Err}
use Rattle.bb_basis.specs.Results.{map_err}
use Rattle.bb_refusal.specs.declared.input_fault.InputFault.TheVariants.{Rule}
use Rattle.bb_shell.proofs.sources.resolve.Goals as goal

pub returns-in-Err : goal.returns-in-Err
returns-in-Err c =
    elim c.in-Err.ensures.made [
      | inl memory ↦ search rules
      | inr failed ↦ ap (λ n. Err (Rule n c.in-Err.fault)) (c.in_ok-name.ensures ∙ c.as_str.ensures) ∙ sym (ap (map_err (Rule c.args.draft.header.name)) failed)
    ]

pub returns-in-Ok : goal.returns-in-Ok
returns-in-Ok c = sym (ap (map_err (Rule c.args.draft.header.name)) c.in-Ok.ensures.made)
