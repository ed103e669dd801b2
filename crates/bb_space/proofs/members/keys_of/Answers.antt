use Rattle.std.proofs.Common.{◌≡◌, ◌∙◌, sym, ap, List, ℕ, rules}
use Rattle.std.specs.Map.{keys_of}
use Rattle.std.specs.BTreeMap.{keys}
use Rattle.bb_pattern.specs.declared.value.DimValue.{DimValue}
use Rattle.bb_basis.proofs.EntryLemmas.{entries_are}
use Rattle.bb_space.proofs.members.keys_of.Goals as goal

pub returns : goal.returns
returns c =
    let all : c.loop-unit.list.items ≡ keys c.args.values.now = search rules in
    all ∙ ap (λ (es : List (ℕ × List DimValue)). keys_of es) (sym (entries_are c.args.values.now.entries c.keys-unit-items.ensures.ordered))
