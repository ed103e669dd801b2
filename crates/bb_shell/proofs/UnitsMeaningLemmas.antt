-- What holds of a shell holds of what its texts mean.
use Rattle.std.proofs.Common.{◌≡◌, List, subst, sym}
use Rattle.std.specs.Prelude.{IsOkAnd, Ok, Result}
use Rattle.bb_refusal.specs.declared.input_fault.InputFault.{InputFault}
use Rattle.bb_shell.specs.Meaning.{Meaning}
use Rattle.bb_run.specs.Native.{Native}

-- what holds of a shell's meaning and natives holds of those of the texts that it was made of
pub at_meaning : (given : Result Meaning InputFault) (m : Meaning) (held natives : List Native) (P : List Native → Meaning → Type 0) → given ≡ Ok m → held ≡ natives → P held m → IsOkAnd given (P natives)
at_meaning given m held natives P means same holds = subst (λ (r : Result Meaning InputFault). IsOkAnd r (P natives)) (sym means) (subst (λ ns. P ns m) same holds)
