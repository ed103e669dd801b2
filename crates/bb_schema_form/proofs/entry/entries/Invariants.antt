use Rattle.std.proofs.Common.{◌≡◌, drop, map}
use Rattle.serde_json.specs.View.{view}
use Rattle.bb_basis.specs.Results.{try_map_at}
use Rattle.bb_basis.proofs.MapAtLemmas.{joined}
use Rattle.bb_schema_form.specs.Faults.{inside}
use Rattle.bb_schema_form.proofs.entry.entries.Given as goal

abbrev pub invariant-loop-index : goal.invariant-loop-index
invariant-loop-index g l =
    joined (map g.E.Entry.declared l.entries.items) (try_map_at (inside l.list) g.E.Entry.form l.index (drop l.index (map view l.values)))
    ≡ try_map_at (inside l.list) g.E.Entry.form 0 (map view l.values)
