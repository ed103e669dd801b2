use Rattle.std.proofs.Common.{ℕ, List, [], ◌∙◌, ap}
use Rattle.std.specs.Prelude.{slice_get}
use Rattle.std.specs.Option.{option_map_or}
use Rattle.std.proofs.lemmas.Result.{IfOk-weaker}
use Rattle.bb_schema_classes.specs.declared.value.Value.{Value}
use Rattle.bb_units.specs.Layout.{Layout, blank}
use Rattle.bb_units.proofs.BlockLemmas.{block_is_blank}
use Rattle.bb_units.proofs.layout.Layout.blank.Goals as goal

pub returns : goal.returns
returns c =
    let l = c.self.inside in
    IfOk-weaker c.new_values.result _ _
    (λ values is. is ∙ (ap (λ (bs : List (List (ℕ × Value))). option_map_or (λ b. b) (slice_get bs c.args.class) []) c.deref.ensures.value
    ∙ (block_is_blank l.slots.items l.defaults.items l.blocks.items c.args.class c.self.invariant
    ∙ ap (λ (k : Layout). blank k c.args.class) c.self.view_is)))
    c.new_values.ensures
