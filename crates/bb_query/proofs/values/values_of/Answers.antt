use Rattle.std.proofs.Common.{◌≡◌, [], sym, ap, ◌∙◌}
use Rattle.std.specs.Prelude.{map}
use Rattle.std.specs.Option.{option_map_or}
use Rattle.std.proofs.lemmas.Result.{IfOk-weaker}
use Rattle.bb_schema.specs.Schema.{dims_of}
use Rattle.bb_pattern.specs.Values.{kind_of_operand}
use Rattle.bb_query.specs.PresentValues.{values_on, present_values}
use Rattle.bb_query.proofs.WholeLemmas.{present_kinds}
use Rattle.bb_query.proofs.values.values_of.Goals as goal

pub returns-clause-whole : goal.returns-clause-whole
returns-clause-whole c =
    let s = c.args.schema.now in
    let u = c.args.units.now in
    let n = c.args.unit in
    let w = c.args.space in
    let present : values_on s u n c.class_of-class.result (dims_of s w) ≡ present_values s u n w = sym (ap (λ o. option_map_or (λ class. values_on s u n class (dims_of s w)) o []) c.class_of-class.ensures) in
    IfOk-weaker c.values_on.result _ _ (λ values is admits. ap (map kind_of_operand) (is ∙ present) ∙ present_kinds s c.fits.ensures u n w c.fits-2.ensures c.requires.live admits) c.values_on.ensures
