-- What a run that is taken up again leaves in its handle.
use Rattle.std.proofs.Common.{◌≡◌, ℕ, Option, Some, None, Result, Ok, Err, subst, sym}
use Rattle.bb_c_run.specs.History.{Past, TakesUp}
use Rattle.bb_c_run.specs.Sitting.{stands_now}
use Rattle.bb_c_run.specs.declared.held.Held.{Held}
use Rattle.bb_c_run.specs.declared.resuming.ResumeFault.{ResumeFault}
use Rattle.bb_c.specs.Called.{status_of}
use Rattle.bb_c.specs.Past.{Resumed, ResumesIn, line_of, unresumed_by}

-- a run was taken up again, and the handle has it
pub resumes : (past : Result Past ResumeFault) (old new : Option Held) (made boxed : Held) (line status : ℕ)
    → TakesUp past (Ok made) → boxed ≡ made → old ≡ None → new ≡ Some boxed → line ≡ 0 → status ≡ status_of (stands_now boxed.running)
    → ResumesIn old new past line status
resumes past old new made boxed line status takes same none holds at stands =
    let here : TakesUp past (Ok boxed) = subst (λ (h : Held). TakesUp past (Ok h)) (sym same) takes in
    let told : Resumed past (Some boxed) line status = (here, at, stands) in
    subst (λ (o : Option Held). ResumesIn o new past line status) (sym none) (subst (λ (n : Option Held). Resumed past n line status) (sym holds) told)

-- it was not, and the handle has none
pub resumes_none : (past : Result Past ResumeFault) (old new : Option Held) (fault : ResumeFault) (line status : ℕ)
    → TakesUp past (Err fault) → old ≡ None → new ≡ None → line ≡ line_of fault → status ≡ unresumed_by fault
    → ResumesIn old new past line status
resumes_none past old new fault line status takes none left at told =
    let why : Resumed past None line status = (fault, takes, at, told) in
    subst (λ (o : Option Held). ResumesIn o new past line status) (sym none) (subst (λ (n : Option Held). Resumed past n line status) (sym left) why)
