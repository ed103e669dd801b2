use Rattle.std.proofs.Common.{◌≡◌, Ok, take, map}
use Rattle.bb_schema_form.specs.Quick.{entry_of}
use Rattle.bb_schema_form.proofs.quick.each_entry.Given as goal

abbrev pub invariant-loop-value : goal.invariant-loop-value
invariant-loop-value g l = map (λ e. Ok (g.E.Entry.declared e)) l.entries.items ≡ map (entry_of g.E.Entry.form) (take l.value-index l.values)
