use Rattle.std.proofs.Common.{ap, ◌∙◌}
use Rattle.bb_basis.specs.Results.{◌>>=◌}
use Rattle.bb_code.specs.Each.{each}
use Rattle.bb_verify.specs.Tables.{known_kind, known_entry, known_frame}
use Rattle.bb_verify.proofs.tables.known_frame.Goals as goal

pub returns : goal.returns
unfolding known_frame
returns c =
    c.known_entries.ensures ∙ (ap (each (known_entry c.args.schema.now)) c.as_slice-2.ensures
    ∙ ap (λ r. r >>= λ _. each (known_entry c.args.schema.now) c.args.entry.now.frame.stack) (c.in_ok-known_kinds.ensures ∙ ap (each (known_kind c.args.schema.now)) c.as_slice.ensures))
