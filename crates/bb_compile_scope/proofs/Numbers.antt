-- The number of each fault of a text that cannot be compiled, as refusals have them.
use Rattle.std.proofs.Common.{◌≡◌, refl}
use Rattle.bb_compile_scope.specs.declared.fault.TextFlaw.TheVariants.{Unknown, Kind, DeadName, LinkClass, Space}
use Rattle.bb_compile_scope.specs.declared.fault.TextFlaw.TheVariants.{Effect, NoEnd, Limit}
use Rattle.bb_compile_scope.specs.Faults.{flaw_number}
use Rattle.bb_compile_scope.specs.declared.fault.CompileFault.TheVariants.{Memory}
use Rattle.bb_compile_scope.specs.Faults.{fault_number}

unknown : flaw_number Unknown ≡ 1
unknown = refl

kind : flaw_number Kind ≡ 2
kind = refl

dead_name : flaw_number DeadName ≡ 3
dead_name = refl

link_class : flaw_number LinkClass ≡ 4
link_class = refl

space : flaw_number Space ≡ 5
space = refl

effect : flaw_number Effect ≡ 6
effect = refl

no_end : flaw_number NoEnd ≡ 7
no_end = refl

limit : flaw_number Limit ≡ 8
limit = refl

memory : fault_number Memory ≡ 9
memory = refl
