-- The number of each fault of a schema, as refusals have them.
use Rattle.std.proofs.Common.{◌≡◌, refl}
use Rattle.bb_schema_classes.specs.declared.fault.SchemaFlaw.TheVariants.{Json, Shape, Name, Twice, Unknown, Inverse}
use Rattle.bb_schema_classes.specs.declared.fault.SchemaFlaw.TheVariants.{Dimension, Limit}
use Rattle.bb_schema_classes.specs.Faults.{flaw_number}
use Rattle.bb_schema_classes.specs.declared.fault.SchemaFault.TheVariants.{Memory}
use Rattle.bb_schema_classes.specs.Faults.{fault_number}

json : flaw_number Json ≡ 1
json = refl

shape : flaw_number Shape ≡ 2
shape = refl

name : flaw_number Name ≡ 3
name = refl

twice : flaw_number Twice ≡ 4
twice = refl

unknown : flaw_number Unknown ≡ 5
unknown = refl

inverse : flaw_number Inverse ≡ 6
inverse = refl

dimension : flaw_number Dimension ≡ 7
dimension = refl

limit : flaw_number Limit ≡ 8
limit = refl

memory : fault_number Memory ≡ 9
memory = refl
