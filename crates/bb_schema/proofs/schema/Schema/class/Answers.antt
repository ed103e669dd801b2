use Rattle.std.proofs.Common.{map, sym}
use Rattle.bb_schema_classes.specs.declared.class.Class.{Class}
use Rattle.bb_schema_classes.specs.declared.read.classes.TheConstants.{CLASS_LIMIT}
use Rattle.bb_schema.proofs.NameLemmas.{no_long_name}
use Rattle.bb_schema.proofs.schema.Schema.class.Goals as goal

pub returns-then-name-gt-NAME_LIMIT : goal.returns-then-name-gt-NAME_LIMIT
returns-then-name-gt-NAME_LIMIT c =
    rw (← c.self.view_is) (sym (no_long_name CLASS_LIMIT (map (λ (k : Class). k.name) c.self.inside.classes) c.args.name.now c.self.invariant.fits.class_names c.if-name-gt-NAME_LIMIT.true))
