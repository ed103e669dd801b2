use Rattle.std.proofs.Common.{◌∙◌, ap}
use Rattle.std.specs.Map.{remove_entry}
use Rattle.std.specs.Ordering.{nat_cmp}
use Rattle.std.specs.BTreeMap.{is_at}
use Rattle.bb_agenda.proofs.KeyedLemmas.{insert_last, remove_last}
use Rattle.bb_agenda.proofs.waiting.filing.store.Goals as goal

pub returns-in-Err-clause-unkept : goal.returns-in-Err-clause-unkept
returns-in-Err-clause-unkept c =
    let a = c.args.activation.now in
    let es = c.args.activations.now.entries in
    c.remove.ensures.entries ∙ ap (remove_entry (is_at (nat_cmp a.number))) (c.in_ok-insert.ensures.entries ∙ insert_last a.number a es c.requires) ∙ remove_last a.number a es c.requires
