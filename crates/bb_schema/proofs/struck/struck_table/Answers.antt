use Rattle.std.proofs.Common.{◌∙◌, ap, sym, Some, Bool, List}
use Rattle.bb_schema.specs.proving.Struck.{struck_rows}
use Rattle.bb_schema.proofs.StruckLemmas.{no_table, one_table}
use Rattle.bb_schema.proofs.struck.struck_table.Goals as goal

pub returns-then-not-is_any_owning : goal.returns-then-not-is_any_owning
returns-then-not-is_any_owning c = no_table c.args.lineage.now c.args.slots.now (sym c.is_any_owning.ensures ∙ c.if-not-is_any_owning.true)

pub returns : goal.returns
returns c =
    let rows = c.from.ensures ∙ (c.in_ok-rows.ensures ∙ ap (λ (closed : List (List Bool)). struck_rows c.args.lineage.now closed) (c.deref.ensures.value ∙ c.in_ok-closed.ensures)) in
    ap (λ (rows : List (List Bool)). Some rows) rows
    ∙ one_table c.args.lineage.now c.args.slots.now c.in_ok-first.first.items (sym c.is_any_owning.ensures ∙ c.if-not-is_any_owning.false) c.in_ok-first.ensures
