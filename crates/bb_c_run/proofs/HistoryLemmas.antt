-- What is told of a move, and what is taken up again, from what the parts of a call do.
use Rattle.std.proofs.Common.{◌≡◌, ◌⊎◌, inl, inr, ℕ, List, Option, Some, None, Result, Ok, Err, ap, refl, subst, sym}
use Rattle.std.specs.Prelude.{IfErr, IfOk, String, option_map, string_bytes}
use Rattle.std.specs.Option.{ok_or}
use Rattle.std.specs.declared.alloc.Global.{Global}
use Rattle.bb_basis.specs.Results.{Gives}
use Rattle.bb_moves.specs.MovesText.{moves_of}
use Rattle.bb_moves.specs.declared.fault.MovesFault.{MovesFault}
use Rattle.bb_moves.specs.declared.fault.MovesFault.TheVariants as faults
use Rattle.bb_run_held.specs.Moves.{Move}
use Rattle.bb_shell.specs.Meaning.{Meaning}
use Rattle.bb_c_run.specs.History.{Past, Resumes, TakesUp, past_in, refusal_by, unopened, with_moves}
use Rattle.bb_c_run.specs.declared.held.Held.{Held}
use Rattle.bb_c_run.specs.declared.held.OpenFault.{OpenFault}
use Rattle.bb_c_run.specs.declared.held.OpenFault.TheVariants as opening
use Rattle.bb_c_run.specs.declared.resuming.ResumeFault.{ResumeFault}
use Rattle.bb_c_run.specs.declared.resuming.ResumeFault.TheVariants as refusals
use Rattle.bb_c_run.specs.declared.telling.TellFault.{TellFault}
use Rattle.bb_c_run.specs.declared.telling.TellFault.TheVariants as untold

-- ---- the text of a move

pub told_by : {E : Type 0} (told : Result (Option (String Global)) E) (text : Option (List ℕ)) (given : Result (String Global) TellFault)
    → IfOk told (λ t. option_map string_bytes t ≡ text)
    → IfOk told (λ t. Gives untold.Memory string_bytes given (ok_or (option_map string_bytes t) untold.Untold))
    → IfErr told (λ _. given ≡ Err untold.Memory)
    → Gives untold.Memory string_bytes given (ok_or text untold.Untold)
told_by (Ok t) text given is gives err =
    subst (λ (o : Option (List ℕ)). Gives untold.Memory string_bytes given (ok_or o untold.Untold)) is gives
told_by (Err e) text given is gives err =
    subst (λ (g : Result (String Global) TellFault). Gives untold.Memory string_bytes g (ok_or text untold.Untold)) (sym err) (inl refl)

-- ---- a run that is taken up again

-- its moves were read
pub moves_taken : (m : Meaning) (history : List ℕ) (moves : List Move) (result : Result Held ResumeFault)
    → moves_of m.plan.schema history ≡ Ok moves
    → IfOk result (λ h. Resumes (record { means = m; moves = moves }) h)
    → IfErr result (λ e. e ≡ refusals.Memory)
    → TakesUp (past_in (Some m) history) result
moves_taken m history moves (Ok h) is resumed err = (record { means = m; moves = moves }, ap (with_moves m) is, resumed)
moves_taken m history moves (Err fault) is resumed err = inl err

-- its history has a fault
pub moves_refused : (m : Meaning) (history : List ℕ) (fault : MovesFault)
    → (fault ≡ faults.Memory) ⊎ (moves_of m.plan.schema history ≡ Err fault)
    → TakesUp (past_in (Some m) history) (Err (refusal_by fault))
moves_refused m history fault (inl is) = inl (ap refusal_by is)
moves_refused m history fault (inr is) = inr (ap (with_moves m) is)

-- its input has a meaning
pub past_taken : (o : Option Meaning) (m : Meaning) (history : List ℕ) (result : Result Held ResumeFault)
    → o ≡ Some m → TakesUp (past_in (Some m) history) result → TakesUp (past_in o history) result
past_taken o m history result is taken = subst (λ (x : Option Meaning). TakesUp (past_in x history) result) (sym is) taken

-- its input can't be opened
pub past_refused : (o : Option Meaning) (history : List ℕ) (fault : OpenFault)
    → (fault ≡ opening.Refused → o ≡ None) → TakesUp (past_in o history) (Err (unopened fault))
past_refused o history opening.Refused none = inr (ap (λ (x : Option Meaning). past_in x history) (none refl))
past_refused o history opening.Memory none = inl refl
