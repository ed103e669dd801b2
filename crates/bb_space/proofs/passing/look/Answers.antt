use Rattle.std.proofs.Common.{◌≡◌, ◌∷◌, ◌∙◌, sym, ap, subst, rules}
use Rattle.std.specs.declared.ops.Bound.TheVariants.{Included, Excluded}
use Rattle.bb_space.specs.index.Leaf.{fit_each}
use Rattle.bb_space.specs.Passing.{passes}
use Rattle.bb_space.specs.proving.Entries.{members_of_entries}
use Rattle.bb_space.proofs.KnownLemmas.{AreEntries, known_more, passes_told, first_entry, other_entries, range_entries}
use Rattle.bb_space.proofs.passing.look.Goals as goal

pub loop-unit-init : goal.loop-unit-init
loop-unit-init c =
    let same : c.range-unit-items.result ≡ c.into_iter-unit-iterator.result = search rules in
    (c.requires, subst (AreEntries c.args.values.now) same (range_entries c.args.values.now (Included c.args.first) (Excluded c.args.end) c.range-unit-items.result (c.range-unit-items.ensures.in_range tt)))

pub loop-unit-preserved : goal.loop-unit-preserved
loop-unit-preserved c =
    let values = c.args.values.now in
    let tests = c.args.tests.now in
    let unit = c.in-Some.unit.now in
    let told = c.in-Some.found.now in
    let next : c.loop-unit.unit-iterator ≡ (unit, told) ∷ c.next.new.self = search rules in
    let all = subst (AreEntries values) next c.loop-unit.invariant.1 in
    let passing : passes (members_of_entries values.entries) tests unit ≡ c.fit_each.result =
    passes_told values.entries tests unit told (first_entry values (unit, told) c.next.new.self all) ∙ (sym (ap (fit_each tests) c.as_slice.ensures) ∙ sym c.fit_each.ensures) in
    (known_more (members_of_entries values.entries) tests c.args.first unit c.fit_each.result c.loop-unit.table.items c.note.new.table.items c.loop-unit.invariant.0 passing c.note.ensures, other_entries values (unit, told) c.next.new.self all)
