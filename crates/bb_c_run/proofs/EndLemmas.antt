-- A finish for want of memory leaves a front of the end of a run.
use Rattle.std.proofs.Common.{inl, inr, ℕ, List, Some, refl}
use Rattle.bb_shell.specs.Emission.{Stretch}
use Rattle.bb_shell.specs.Finish.{WritesFront}
use Rattle.bb_shell.specs.Finishes.TheVariants as finishes
use Rattle.bb_shell.specs.Plan.{Plan}
use Rattle.bb_c_run.specs.Moving.{Concludes}
use Rattle.bb_c_run.specs.declared.stands.Stands.TheVariants as stand

pub memory_concludes : (plan : Plan) (p : Stretch) (was now : List ℕ) → WritesFront plan p finishes.Memory (Some was) (Some now) → Concludes plan p was now stand.Memory
memory_concludes plan p was now front = inr (refl, inr (front.0, inl front.1))

pub write_concludes : (plan : Plan) (p : Stretch) (was now : List ℕ) → WritesFront plan p finishes.Write (Some was) (Some now) → Concludes plan p was now stand.Memory
write_concludes plan p was now front = inr (refl, inr (front.0, inr front.1))
