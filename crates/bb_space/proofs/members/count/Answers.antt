use Rattle.std.proofs.Common.{◌∙◌, sym, ap, length, ℕ, List}
use Rattle.std.specs.FinMap.{len-entries}
use Rattle.bb_pattern.specs.declared.value.DimValue.{DimValue}
use Rattle.bb_basis.proofs.EntryLemmas.{entries_are}
use Rattle.bb_space.specs.proving.Entries.{members_of_entries}
use Rattle.bb_space.proofs.members.count.Goals as goal

pub returns : goal.returns
returns c =
    let es = c.args.values.now.entries in
    c.len.ensures.len ∙ (ap (λ (all : List (ℕ × List DimValue)). length all) (sym (entries_are es c.len.ensures.ordered)) ∙ sym (len-entries (members_of_entries es)))
